-- A log with other bytes in some of its sectors, alone and before a waiting part in which nothing waits.
use mathlib.Core.Path.{◌≡◌, refl, sym, ap, ◌∙◌}
use mathlib.Core.Bool.{Bool, true, false, cond}
use mathlib.Core.List.{List, [], ◌∷◌, ◌++◌}
use mathlib.Core.Logic.{◌⊎◌, inl, inr}
use mathlib.Core.Option.{Option, none, some}
use Prim.Native.Nat.{ℕ, ◌+◌, ◌-◌, ◌*◌, ◌≤◌, ◌<◌}
use native.Mathlib.Omega.{arith}
use lib.Dec.{eqb, ltb}
use lib.ListN.{length, take, drop, length-append, length-take, length-drop, take-append-drop}
use borrow.Author.Tests.{eqb-true, eqb-false, eq-eqb, ltb-true, ltb-false}
use Rattle.bedrock.proofs.Choices.{or_right}
use Rattle.buffer.specs.Bytes.{Bytes}
use Rattle.block.specs.Log.{sectors, at, Alike}
use Rattle.block.proofs.At.{piece, at_middle, at_aside}
use Rattle.block.proofs.Joined.{used-joined}
use Rattle.block.proofs.Alike.{used-alike}
use Rattle.sector_log.specs.Parts.{Lent, one_log}
use Rattle.sector_log.proofs.Parts.{tape-alone}
use Rattle.ledger.specs.Ledger.{has}
use Rattle.demands.specs.Instance.{extent_of, length_of}
use Rattle.promises.specs.Histories.{NothingWaits}

-- with the bytes s in sector n
pub splice : ℕ → Bytes → Bytes → Bytes
splice n s log = take (512 * n) log ++ (s ++ drop 512 (drop (512 * n) log))

module _ (n : ℕ) (s log : Bytes) (h : n < sectors (length log)) (l : length s ≡ 512) where
  front : length (take (512 * n) log) ≡ 512 * n
  front = length-take (512 * n) log ∙ omega arith

  there : length (take 512 (drop (512 * n) log)) ≡ 512
  there = simp (length-take, length-drop) (omega arith)

  parts_are_log : take (512 * n) log ++ (take 512 (drop (512 * n) log) ++ drop 512 (drop (512 * n) log)) ≡ log
  parts_are_log = ap (λ (x : Bytes). take (512 * n) log ++ x) (take-append-drop 512 (drop (512 * n) log)) ∙ take-append-drop (512 * n) log

  pub length_splice : length (splice n s log) ≡ length log
  unfolding splice
  length_splice = simp (length-append, length-take, length-drop) (omega (arith, l))

  pub at_splice : (k : ℕ) → at (splice n s log) k ≡ cond (eqb k n) s (at log k)
  unfolding splice
  at_splice k = go (eqb k n) refl
    where
      a : Bytes
      a = take (512 * n) log

      c : Bytes
      c = drop 512 (drop (512 * n) log)

      alone : (m : ℕ) → m ≡ n → piece s (m - n) ≡ s
      alone m e =
          let z : m - n ≡ 0 = omega arith in
          ap (piece s) z ∙ ap (λ (i : ℕ). take i s) (sym l) ∙ all s
        where
          all : (x : Bytes) → take (length x) x ≡ x
          all [] = refl
          all (b ∷ x) = ap (λ (y : Bytes). b ∷ y) (all x)

      aside : (k < n) ⊎ (n + 1 ≤ k) → at (a ++ (s ++ c)) k ≡ at log k
      aside o = at_aside a s (take 512 (drop (512 * n) log)) c n 1 k front (omega (arith, l)) (omega (arith, there)) o ∙ ap (λ (x : Bytes). at x k) parts_are_log

      go : (b : Bool) → eqb k n ≡ b → at (a ++ (s ++ c)) k ≡ cond b s (at log k)
      go true q =
          let e = eqb-true k n q in
          at_middle a s c n 1 k front (omega (arith, l)) (omega (arith, e)) (omega (arith, e)) ∙ alone k e
      go false q = off (ltb k n) refl
        where
          off : (b : Bool) → ltb k n ≡ b → at (a ++ (s ++ c)) k ≡ at log k
          off true p = aside (inl (ltb-true k n p))
          off false p = aside (inr (omega (arith, ltb-false k n p, eqb-false k n q)))

-- with the bytes f c in each sector c of a list
pub spread : (ℕ → Bytes) → List ℕ → Bytes → Bytes
spread f [] log = log
spread f (c ∷ cs) log = splice c (f c) (spread f cs log)

module _ (f : ℕ → Bytes) (l : (k : ℕ) → length (f k) ≡ 512) (log : Bytes) where
  pub length_spread : (cs : List ℕ) → ((k : ℕ) → has k cs ≡ true → k < sectors (length log)) → length (spread f cs log) ≡ length log
  unfolding spread
  length_spread [] h = refl
  length_spread (c ∷ cs) h =
      let e : length (spread f cs log) ≡ length log = length_spread cs (λ k q. h k (or_right (eqb k c) (has k cs) q)) in
      length_splice c (f c) (spread f cs log) (omega (arith, e, h c (rw (eq-eqb c c refl)))) (l c) ∙ e

  pub at_spread : (cs : List ℕ) → ((k : ℕ) → has k cs ≡ true → k < sectors (length log)) → (k : ℕ) → at (spread f cs log) k ≡ cond (has k cs) (f k) (at log k)
  unfolding spread
  at_spread [] h k = refl
  at_spread (c ∷ cs) h k =
      let before : (i : ℕ) → has i cs ≡ true → i < sectors (length log) = λ i q. h i (or_right (eqb i c) (has i cs) q) in
      let e : length (spread f cs log) ≡ length log = length_spread cs before in
      at_splice c (f c) (spread f cs log) (omega (arith, e, h c (rw (eq-eqb c c refl)))) (l c) k ∙ go (eqb k c) refl (at_spread cs before k)
    where
      go : (b : Bool) → eqb k c ≡ b → at (spread f cs log) k ≡ cond (has k cs) (f k) (at log k) → cond (eqb k c) (f c) (at (spread f cs log) k) ≡ cond (has k (c ∷ cs)) (f k) (at log k)
      go true q g = rw q (ap f (sym (eqb-true k c q)))
      go false q g = rw q g

-- ---- before a waiting part

-- another log in the place of the log that is lent, the waiting part as it is
abbrev pub with_log : Bytes → Lent → Lent
with_log log L = record { log = log; waiting = L.waiting }

-- nothing waits: behind any log whatever the part adds nothing
blank-after : (log : Bytes) (o : Option Bytes) → NothingWaits (record { log = log; waiting = o }) → (other : Bytes) → Alike (one_log (record { log = other; waiting = o })) other
blank-after log none e other n = refl
blank-after log (some w) e other n = tape-alone other w (omega (arith, e, used-joined log w)) n

module _ (L : Lent) (rests : NothingWaits L) where
  pub at_with : (log : Bytes) → Alike (one_log (with_log log L)) log
  at_with log = blank-after L.log L.waiting rests log

  pub rests_with : (log : Bytes) → NothingWaits (with_log log L)
  rests_with log = sym (used-alike (one_log (with_log log L)) log (at_with log))

  pub extent_with : (log : Bytes) → length log ≡ length L.log → extent_of (with_log log L) ≡ extent_of L
  extent_with log e = λ i. record { size = e i; waiting = length_of L.waiting }

  pub at_spliced : (n : ℕ) (s : Bytes) → n < sectors (length L.log) → length s ≡ 512 → (k : ℕ)
      → at (one_log (with_log (splice n s L.log) L)) k ≡ cond (eqb k n) s (at (one_log L) k)
  at_spliced n s h l k =
      at_with (splice n s L.log) k
      ∙ at_splice n s L.log h l k
      ∙ ap (λ (b : Bytes). cond (eqb k n) s b) (sym (at_with L.log k))

  pub at_spread_with : (f : ℕ → Bytes) (l : (k : ℕ) → length (f k) ≡ 512) (cs : List ℕ) → ((k : ℕ) → has k cs ≡ true → k < sectors (length L.log)) → (k : ℕ)
      → at (one_log (with_log (spread f cs L.log) L)) k ≡ cond (has k cs) (f k) (at (one_log L) k)
  at_spread_with f l cs h k =
      at_with (spread f cs L.log) k
      ∙ at_spread f l L.log cs h k
      ∙ ap (λ (b : Bytes). cond (has k cs) (f k) b) (sym (at_with L.log k))
