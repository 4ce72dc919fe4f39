-- The test of an index: it passes exactly if the index leads to where the scan finds each block.
use mathlib.Core.Path.{◌≡◌, refl, sym, ap, ap₂, ◌∙◌}
use mathlib.Core.Bool.{true, false, ◌&&◌, false≢true}
use mathlib.Core.List.Memᴰ
use mathlib.Core.List.{List, [], ◌∷◌, Memᴰ}
use mathlib.Core.Logic.{◌⊎◌, inl, inr}
use mathlib.Core.Option.{Option, none, some}
use Prim.Native.Nat.{◌≤◌}
use native.Mathlib.Nat.{le_antisymm}
use native.Mathlib.Omega.{arith}
use lib.Dec.{leb}
use borrow.Author.Tests.{leb-true, le-leb}
use Rattle.bedrock.specs.Choice.{on}
use Rattle.bedrock.proofs.Choices.{and-true, some-not-none}
use Rattle.buffer.specs.Bytes.{Bytes}
use Rattle.block.specs.Block.{Row}
use Rattle.block.specs.Log.{sound}
use Rattle.sector_log.specs.LookUp.{blocks, first_of}
use Rattle.sector_log.proofs.Blocks.{blocks_in, blocks_out}
use Rattle.sector_log.proofs.First.{first-sound, least}
use Rattle.hint.specs.Hint.{hint}
use Rattle.hint.specs.Promises.{Exact}
use Rattle.hint.proofs.Leads.{hint-sound, hint_finds, first_finds}
use Rattle.known.specs.Known.{leads, all_lead, exactly}
use Rattle.known.specs.Promises.{ExactlyExact}

-- ---- every row leads

pub all_in : (log index : Bytes) (rows : List Row) (r : Row) → all_lead log index rows ≡ true → Memᴰ r rows → leads log index r ≡ true
unfolding all_lead
all_in log index [] r e m = absurd (Memᴰ.not-nil m)
all_in log index (x ∷ rows) r e m = go (Memᴰ.cases_cons m) (all_in log index rows r)
  where
    w : (leads log index x ≡ true) × (all_lead log index rows ≡ true)
    w = and-true (leads log index x) (all_lead log index rows) e

    go : (r ≡ x) ⊎ Memᴰ r rows → (all_lead log index rows ≡ true → Memᴰ r rows → leads log index r ≡ true) → leads log index r ≡ true
    go (inl z) f = ap (leads log index) z ∙ w.0
    go (inr n) f = f w.1 n

pub in_all : (log index : Bytes) (rows : List Row) → ((r : Row) → Memᴰ r rows → leads log index r ≡ true) → all_lead log index rows ≡ true
unfolding all_lead
in_all log index [] f = refl
in_all log index (x ∷ rows) f = ap₂ ◌&&◌ (f x (Memᴰ.head refl)) (in_all log index rows (λ r m. f r (Memᴰ.tail m)))

leads-reads : (log index : Bytes) (r : Row) → leads log index r ≡ true → (h : Row) × (hint log index r.kind r.score ≡ some h) × (h.first ≤ r.first)
leads-reads log index r e = go (hint log index r.kind r.score) refl e
  where
    go : (o : Option Row) → hint log index r.kind r.score ≡ o → on o false (λ (h : Row). leb h.first r.first) ≡ true
        → (h : Row) × (hint log index r.kind r.score ≡ some h) × (h.first ≤ r.first)
    go none p q = absurd (false≢true q)
    go (some h) p q = (h, p, leb-true h.first r.first q)

-- two blocks at one sector are one
same_place : (log : Bytes) (a b : Row) → sound log a.first ≡ some a → sound log b.first ≡ some b → a.first ≡ b.first → a ≡ b
same_place log a b p q e = let z : some a ≡ some b = sym p ∙ ap (sound log) e ∙ q in cc

exact-of : (log index : Bytes) → exactly log index ≡ true → Exact log index
exact-of log index e t s = go (hint log index t s) (first_of t s (blocks log)) refl refl
  where
    go : (h o : Option Row) → hint log index t s ≡ h → first_of t s (blocks log) ≡ o → hint log index t s ≡ first_of t s (blocks log)
    go none none p q = p ∙ sym q
    go (some h) none p q = absurd (hint_finds log index t s h p q)
    go none (some r) p q =
        let f = first-sound log t s r q in
        let l = leads-reads log index r (all_in log index (blocks log) r e (blocks_in log r f.0)) in
        absurd (some-not-none l.0 (sym l.1 ∙ ap₂ (hint log index) f.1 f.2 ∙ p))
    go (some h) (some r) p q =
        let f = first-sound log t s r q in
        let g = hint-sound log index t s h p in
        let l = leads-reads log index r (all_in log index (blocks log) r e (blocks_in log r f.0)) in
        let y : some l.0 ≡ some h = sym l.1 ∙ ap₂ (hint log index) f.1 f.2 ∙ p in
        let z : l.0 ≡ h = cc in
        let u : h.first ≤ r.first = let w : l.0.first ≡ h.first = ap (λ (x : Row). x.first) z in omega (arith, w, l.2) in
        let v : r.first ≤ h.first = least log t s r h q g.0 g.1 g.2 in
        p ∙ ap (λ (x : Row). some x) (same_place log h r g.0 f.0 (le_antisymm u v)) ∙ sym q

of-exact : (log index : Bytes) → Exact log index → exactly log index ≡ true
of-exact log index x = in_all log index (blocks log) each
  where
    each : (r : Row) → Memᴰ r (blocks log) → leads log index r ≡ true
    each r m = go (hint log index r.kind r.score) refl
      where
        q : sound log r.first ≡ some r
        q = blocks_out log r m

        go : (o : Option Row) → hint log index r.kind r.score ≡ o → on o false (λ (h : Row). leb h.first r.first) ≡ true
        go none p = absurd (first_finds log r q (sym (x r.kind r.score) ∙ p))
        go (some h) p = le-leb h.first r.first (least log r.kind r.score h r (sym (x r.kind r.score) ∙ p) q refl refl)

pub exactly-exact : ExactlyExact
exactly-exact log index = (exact-of log index, of-exact log index)
