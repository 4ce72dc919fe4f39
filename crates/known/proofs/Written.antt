-- A block appended and entered: whether the index has every block, and what is doubtful.
use mathlib.Core.Path.{◌≡◌, refl, sym, ap, ap₂, ◌∙◌}
use mathlib.Core.Bool.{Bool, true, false, cond, ◌&&◌, ◌||◌, true≢false}
use mathlib.Core.List.{List, [], ◌∷◌, ◌++◌, Memᴰ}
use mathlib.Core.Logic.{◌⊎◌, inl, inr}
use mathlib.Core.Option.{Option, none, some}
use Prim.Native.Nat.{ℕ, zero, suc, ◌-◌}
use native.Mathlib.Omega.{arith}
use lib.Dec.{eqb, leb}
use borrow.Author.Tests.{eq-eqb, eqb-true, le-leb}
use lib.ListN.{take}
use Rattle.bedrock.specs.Choice.{on}
use Rattle.bedrock.proofs.Choices.{and-true, and_one, false_unless}
use Rattle.buffer.specs.Bytes.{Bytes, same}
use Rattle.buffer.proofs.Bytes.{same_true}
use Rattle.block.specs.Block.{Row, written}
use Rattle.block.specs.Log.{sound}
use Rattle.block.proofs.Sound.{sound-reads}
use Rattle.sector_log.specs.LookUp.{blocks, first_of}
use Rattle.sector_log.proofs.Blocks.{blocks_out}
use Rattle.sector_log.proofs.Written.{new-sound}
use Rattle.sector_log.proofs.Appended.{blocks-added}
use Rattle.index.specs.Index.{place_at, named, sector_at, bucket_of}
use Rattle.hint.specs.Hint.{sound_with, true_at, first_found, hint}
use Rattle.hint.specs.Rebuilt.{entered_row}
use Rattle.hint.specs.Promises.{Appends}
use Rattle.hint.proofs.Sound.{with_reads, with_finds}
use Rattle.hint.proofs.Leads.{first_finds}
use Rattle.hint.proofs.Appended.{old_or_new, hint-others}
use Rattle.known.specs.Known.{leads, all_lead, exactly, listed_from, listed}
use Rattle.known.specs.Promises.{ExactlyWritten}

all_append : (log index : Bytes) (xs ys : List Row) → all_lead log index (xs ++ ys) ≡ (all_lead log index xs && all_lead log index ys)
unfolding all_lead
all_append log index [] ys = refl
all_append log index (x ∷ xs) ys = go (leads log index x) (all_append log index xs ys)
  where
    go : (b : Bool) → all_lead log index (xs ++ ys) ≡ (all_lead log index xs && all_lead log index ys)
        → (b && all_lead log index (xs ++ ys)) ≡ ((b && all_lead log index xs) && all_lead log index ys)
    go true e = e
    go false e = refl

-- the same of every row
pub all_same : (a b i j : Bytes) (rows : List Row) → ((r : Row) → Memᴰ r rows → leads a i r ≡ leads b j r) → all_lead a i rows ≡ all_lead b j rows
unfolding all_lead
all_same a b i j [] f = refl
all_same a b i j (r ∷ rows) f = ap₂ ◌&&◌ (f r (Memᴰ.head refl)) (all_same a b i j rows (λ x m. f x (Memᴰ.tail m)))

module _ (log index : Bytes) (r : Row) (a : Appends log r) (alone : first_of r.kind r.score (blocks log) ≡ none) where
  abbrev W : Bytes
  W = written log r

  -- no block of the log had the row's type and score
  others : (x : Row) → sound log x.first ≡ some x → (eqb r.kind x.kind && same r.score x.score) ≡ false
  others x q = false_unless (eqb r.kind x.kind && same r.score x.score) (λ e.
      let w = and-true (eqb r.kind x.kind) (same r.score x.score) e in
      first_finds log x q
      (ap₂ (λ (k : ℕ) (v : Bytes). first_of k v (blocks log)) (sym (eqb-true r.kind x.kind w.0)) (sym (same_true r.score x.score w.1)) ∙ alone))

  old_lead : (x : Row) → Memᴰ x (blocks log) → leads W (entered_row index r) x ≡ leads log index x
  old_lead x m =
      ap (λ (o : Option Row). on o false (λ (h : Row). leb h.first x.first)) (hint-others log index r a x.kind x.score (others x (blocks_out log x m)))

  -- the one block of its type and score
  only : (x : Row) → sound W x.first ≡ some x → x.kind ≡ r.kind → x.score ≡ r.score → x ≡ r
  only x q k v = go (old_or_new log index r a x q)
    where
      go : (sound log x.first ≡ some x) ⊎ (x ≡ r) → x ≡ r
      go (inr z) = z
      go (inl o) = absurd (first_finds log x o (ap₂ (λ (t : ℕ) (s : Bytes). first_of t s (blocks log)) k v ∙ alone))

  -- an index of any bytes: an entry is true of the row exactly if it names it
  module _ (after : Bytes) where
    abbrev says : ℕ → Bool
    says p = same (take 21 (place_at after p)) (named r.score r.kind) && eqb (sector_at after p) r.first

    says-true : (p : ℕ) → says p ≡ true → true_at W after r.kind r.score p ≡ some r
    unfolding true_at
    says-true p e =
        let w = and-true (same (take 21 (place_at after p)) (named r.score r.kind)) (eqb (sector_at after p) r.first) e in
        rw w.0 (ap (λ (n : ℕ). sound_with W n r.kind r.score) (eqb-true (sector_at after p) r.first w.1)
        ∙ with_finds W r.first r (new-sound log r a.0 a.1 a.2))

    says-false : (p : ℕ) → says p ≡ false → true_at W after r.kind r.score p ≡ none
    unfolding true_at
    says-false p e = go (same (take 21 (place_at after p)) (named r.score r.kind)) (sound_with W (sector_at after p) r.kind r.score) refl refl
      where
        go : (b : Bool) (o : Option Row) → same (take 21 (place_at after p)) (named r.score r.kind) ≡ b
            → sound_with W (sector_at after p) r.kind r.score ≡ o
            → cond b (sound_with W (sector_at after p) r.kind r.score) none ≡ none
        go false o q f = refl
        go true none q f = f
        go true (some x) q f =
            let w = with_reads W (sector_at after p) r.kind r.score x f in
            let here : x.first ≡ sector_at after p = (sound-reads W (sector_at after p) x w.0).1 in
            let z : x ≡ r = only x (ap (sound W) here ∙ w.0) w.1 w.2 in
            let n : sector_at after p ≡ r.first = sym here ∙ ap (λ (y : Row). y.first) z in
            let s : says p ≡ true = rw (q, eq-eqb (sector_at after p) r.first n) in
            absurd (true≢false (sym s ∙ e))

    found-listed : (k p : ℕ) → on (first_found (true_at W after r.kind r.score) k p) false (λ (h : Row). leb h.first r.first)
        ≡ listed_from after r.score r.kind r.first k p
    unfolding first_found listed_from
    found-listed zero p = refl
    found-listed (suc k) p = go (says p) refl (found-listed k (suc p))
      where
        go : (b : Bool) → says p ≡ b
            → on (first_found (true_at W after r.kind r.score) k (suc p)) false (λ (h : Row). leb h.first r.first) ≡ listed_from after r.score r.kind r.first k (suc p)
            → on (on (true_at W after r.kind r.score p) (first_found (true_at W after r.kind r.score) k (suc p)) some) false (λ (h : Row). leb h.first r.first)
            ≡ (says p || listed_from after r.score r.kind r.first k (suc p))
        go true e f = rw (says-true p e, e, le-leb r.first r.first (omega arith))
        go false e f = rw (says-false p e, e) f

    new_lead : leads W after r ≡ listed after r.score r.kind r.first
    unfolding hint listed
    new_lead = let b = bucket_of after r.score in found-listed (b.to - b.from) b.from

  exactly-added : exactly W (entered_row index r) ≡ (exactly log index && listed (entered_row index r) r.score r.kind r.first)
  unfolding all_lead
  exactly-added =
      ap (all_lead W (entered_row index r)) (blocks-added log r a.0 a.1 a.2)
      ∙ all_append W (entered_row index r) (blocks log) (r ∷ [])
      ∙ ap₂ ◌&&◌ (all_same W log (entered_row index r) index (blocks log) old_lead) (and_one (leads W (entered_row index r) r) ∙ new_lead (entered_row index r))

pub exactly-written : ExactlyWritten
exactly-written log index r a alone = exactly-added log index r a alone
