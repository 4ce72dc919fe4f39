-- The pieces of a source stored one after the other: what is left to store, and the scores at the front of the buffer.
use mathlib.Core.Path.{◌≡◌, sym, ap, ap₂, ◌∙◌}
use mathlib.Core.List.{List, [], ◌∷◌, ◌++◌, append_assoc, append-nil}
use Prim.Native.Nat.{ℕ, suc, ◌+◌, ◌-◌, ◌*◌, ◌≤◌, ◌<◌}
use native.Mathlib.Omega.{arith}
use lib.ListN.{length, take, drop}
use Rattle.buffer.specs.Bytes.{Bytes, put}
use Rattle.buffer.proofs.Put.{take_put, drop-put}
use Rattle.sha1_digest.specs.Sha1.{sha1_of}
use Rattle.sha1_digest.proofs.Digest.{digest_length}
use Rattle.refusal.specs.declared.Refusal.{Refusal}
use Rattle.tree.specs.Tree.{piece}
use Rattle.sector_log.specs.Parts.{Lent}
use Rattle.sector_log.specs.Store.{AfterStore, after_store, receipt, store}
use Rattle.sector_log.specs.declared.Receipt.{Receipt}
use Rattle.sector_log.proofs.Receipts.{store-score}
use Rattle.writer.specs.Blocks.{Typed, cut_block, blocks_from, scores_of}
use Rattle.writer.specs.WriteFile.{end_of, after_all, onward, store_all}
use Rattle.std.specs.Prelude.{Ok, Err, Result, ⊤}

pub refused-not-done : {e : Result ⊤ Refusal} (why : Refusal) → e ≡ Err why → {A : Type 0} → e ≡ Ok tt → A
refused-not-done why p d = let z : ◌≡◌ {A = ℕ} 0 1 = cc in absurd (omega arith)

module _ (kind w : ℕ) (src date : Bytes) (L₀ : Lent) (n : ℕ) where
  -- the blocks from i on
  abbrev rest : ℕ → List Typed
  rest i = blocks_from kind w src (n - i) i

  pub record Going (L : Lent) (scores : Bytes) (i : ℕ) : Type 0 where
    pub within : i ≤ n
    pub blocks : store_all L₀ date (blocks_from kind w src n 0) ≡ store_all L date (rest i)
    pub score : scores_of (blocks_from kind w src n 0) ≡ take (20 * i) scores ++ scores_of (rest i)

  pub going_start : (scores : Bytes) → Going L₀ scores 0
  going_start scores =
      let z : n ≡ n - 0 = omega arith in
      let o : 0 ≡ 20 * 0 = omega arith in
      record {
        within = omega arith;
        blocks = ap (λ (k : ℕ). store_all L₀ date (blocks_from kind w src k 0)) z;
        score = ap₂ (λ (m k : ℕ). take m scores ++ scores_of (blocks_from kind w src k 0)) o z;
      }

  pub going_end : (L : Lent) (scores : Bytes) (i : ℕ) → n ≤ i → Going L scores i
      → (after_all (Ok tt) L ≡ store_all L₀ date (blocks_from kind w src n 0)) × (take (20 * n) scores ≡ scores_of (blocks_from kind w src n 0))
  unfolding blocks_from scores_of store_all
  going_end L scores i h g =
      let e : i ≡ n = omega (arith, g.within) in
      let z : n - i ≡ 0 = omega arith in
      let none_left : rest i ≡ [] = ap (λ (k : ℕ). blocks_from kind w src k i) z in (
        sym (g.blocks ∙ ap (store_all L date) none_left),
        sym (g.score ∙ ap₂ (λ (k : ℕ) (xs : List Typed). take (20 * k) scores ++ scores_of xs) e none_left ∙ append-nil (take (20 * n) scores)),
      )

-- block i of them is stored
pub record Turn (kind w : ℕ) (src date : Bytes) (L₀ : Lent) (n : ℕ) (L : Lent) (scores : Bytes) (i : ℕ) (r : Receipt) (L' : Lent) : Type 0 where
  pub one_left : i < n
  pub going : Going kind w src date L₀ n L scores i
  pub stored : after_store r L' ≡ store L date kind (cut_block kind (piece w i src))

module _ {kind w : ℕ} {src date : Bytes} {L₀ : Lent} {n : ℕ} {L : Lent} {scores : Bytes} {i : ℕ} {r : Receipt} {L' : Lent} (T : Turn kind w src date L₀ n L scores i r L') where
  abbrev here : Typed
  here = record { kind = kind; bytes = cut_block kind (piece w i src) }

  -- the blocks behind it
  abbrev behind : List Typed
  behind = blocks_from kind w src (n - (i + 1)) (i + 1)

  next-block : blocks_from kind w src (n - i) i ≡ here ∷ behind
  unfolding blocks_from
  next-block =
      let m : n - i ≡ suc (n - (i + 1)) = omega (arith, T.one_left) in
      let o : suc i ≡ i + 1 = omega arith in
      ap (λ (k : ℕ). blocks_from kind w src k i) m ∙ ap (λ (k : ℕ). here ∷ blocks_from kind w src (n - (i + 1)) k) o

  score-here : r.score ≡ sha1_of here.bytes
  score-here = ap (λ (a : AfterStore). a.receipt.score) T.stored ∙ store-score L date kind here.bytes

  pub score-length : length r.score ≡ 20
  score-length = ap length score-here ∙ digest_length here.bytes

  module _ {e : Result ⊤ Refusal} (q : e ≡ end_of r.stored) where
    by_end : store_all L₀ date (blocks_from kind w src n 0) ≡ onward e L' (store_all L' date behind)
    unfolding store_all
    by_end =
        T.going.blocks ∙ ap (store_all L date) next-block
        ∙ ap (λ (a : AfterStore). onward (end_of a.receipt.stored) a.lent (store_all a.lent date behind)) (sym T.stored)
        ∙ ap (λ (x : Result ⊤ Refusal). onward x L' (store_all L' date behind)) (sym q)

    pub going-stopped : (why : Refusal) → e ≡ Err why → after_all e L' ≡ store_all L₀ date (blocks_from kind w src n 0)
    going-stopped why p = sym (by_end ∙ ap (λ (x : Result ⊤ Refusal). onward x L' (store_all L' date behind)) p ∙ ap (λ (x : Result ⊤ Refusal). after_all x L') (sym p))

    pub going_next : e ≡ Ok tt → {scores' : Bytes} → scores' ≡ put scores (20 * i) r.score → 20 * i + 20 ≤ length scores
        → Going kind w src date L₀ n L' scores' (i + 1) × (drop (20 * (i + 1)) scores' ≡ drop (20 * (i + 1)) scores)
    unfolding scores_of
    going_next p {scores'} f h =
        let l = score-length in
        let room : 20 * i + length r.score ≤ length scores = omega arith in
        let to : 20 * i + length r.score ≡ 20 * (i + 1) = omega arith in
        let front : take (20 * (i + 1)) scores' ≡ take (20 * i) scores ++ sha1_of here.bytes =
        ap₂ take (sym to) f ∙ take_put scores (20 * i) r.score room ∙ ap (λ (x : Bytes). take (20 * i) scores ++ x) score-here in (
          record {
            within = omega (arith, T.one_left);
            blocks = by_end ∙ ap (λ (x : Result ⊤ Refusal). onward x L' (store_all L' date behind)) p;
            score =
                T.going.score ∙ ap (λ (xs : List Typed). take (20 * i) scores ++ scores_of xs) next-block
                ∙ sym (append_assoc (take (20 * i) scores) (sha1_of here.bytes) (scores_of behind))
                ∙ ap (λ (x : Bytes). x ++ scores_of behind) (sym front);
          },
          ap₂ drop (sym to) f ∙ drop-put scores (20 * i) r.score room ∙ ap (λ (k : ℕ). drop k scores) to,
        )
