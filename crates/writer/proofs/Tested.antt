-- A file whose tests passed: the lent buffers afterwards. And each test that refuses.
use mathlib.Core.Path.{◌≡◌, sym, ap, ap₂, ◌∙◌}
use mathlib.Core.Bool.{Bool, true, false}
use mathlib.Core.List.{◌++◌}
use mathlib.Core.Option.{none, some}
use Prim.Native.Nat.{ℕ, ◌*◌, ◌≤◌, ◌<◌}
use lib.ListN.{length, take, drop, replicate}
use lib.Seq.{length-take-le, take_at, drop_at}
use borrow.Author.Tests.{le-leb, lt-leb, lt-ltb, le-ltb, eq-eqb, ne_eqb}
use Rattle.buffer.specs.Bytes.{Bytes, put}
use Rattle.buffer.proofs.Put.{put_whole}
use Rattle.refusal.specs.declared.Refusal.{Refusal}
use Rattle.refusal.specs.declared.Refusal.TheVariants as why
use Rattle.kind.specs.Kind.{longest}
use Rattle.sector.specs.Sector.{is_date}
use Rattle.block.specs.Block.{parts_of}
use Rattle.sector_log.specs.Parts.{Lent, beside}
use Rattle.sector_log.specs.LookUp.{lent_allowed}
use Rattle.entry.specs.Made.{made_entry}
use Rattle.writer.specs.Blocks.{file_blocks, top_of, top_score}
use Rattle.writer.specs.Depth.{depth_of}
use Rattle.writer.specs.WriteFile.{AfterAll, after_all, store_all, WriteOutcome, outcome, entry_after, cleared_to, entry_over, wrote, buffers_allowed, write_file}
use Rattle.std.specs.Prelude.{Ok, Err, Result, ⊤}

-- the front of a buffer written, read, and cleared
module _ (n : ℕ) (scores part : Bytes) (le : n ≤ length scores) (l : length part ≡ length (take n scores)) where
  part_long : length part ≡ n
  part_long = l ∙ length-take-le n scores le

  front_part : take n (part ++ drop n scores) ≡ part
  front_part = take_at part (drop n scores) n part_long

  front-cleared : (m : ℕ) → n ≡ m → (z : Bytes) → z ≡ replicate (length (take n (part ++ drop n scores))) 0
      → z ++ drop n (part ++ drop n scores) ≡ cleared_to m scores
  front-cleared m e z f =
      let a : z ≡ replicate n 0 = f ∙ ap (λ (x : Bytes). replicate (length x) 0) front_part ∙ ap (λ (k : ℕ). replicate k 0) part_long in
      ap₂ ◌++◌ a (drop_at part (drop n scores) n part_long) ∙ ap (λ (k : ℕ). cleared_to k scores) e

-- `part` is the front of the buffer of scores after the blocks, z the zeros in its place
module _ (log w date slice : Bytes) (dsize psize : ℕ) (entry scores : Bytes) (depth : ℕ) (r : Result ⊤ Refusal) (L' : Lent)
    (b : after_all r L' ≡ store_all (beside log w) date (file_blocks slice dsize psize depth)) (part : Bytes)
    (t : r ≡ Ok tt → top_of part ≡ top_score slice dsize psize depth) (n : ℕ) (en : n ≡ 20 * parts_of dsize (length slice)) (le : n ≤ length scores) (z : Bytes)
    (s : z ≡ replicate (length (take n (part ++ drop n scores))) 0) where
  abbrev all : AfterAll → Bytes → WriteOutcome
  all a x = outcome a.end a.lent (entry_after a.end entry (entry_over slice dsize psize depth)) x

  pub tested-refused : (y : Refusal) → r ≡ Err y → length part ≡ length (take n scores)
      → outcome r L' entry (z ++ drop n (part ++ drop n scores)) ≡ wrote log w date slice dsize psize entry scores depth
  tested-refused y p l =
      ap (λ (x : Bytes). outcome r L' x (z ++ drop n (part ++ drop n scores))) (sym (ap (λ (x : Result ⊤ Refusal). entry_after x entry (entry_over slice dsize psize depth)) p))
      ∙ ap₂ all b (front-cleared n scores part le l (20 * parts_of dsize (length slice)) en z s)

  pub tested-done : r ≡ Ok tt → (e : Bytes) → e ≡ made_entry psize dsize depth (length slice) (top_of (take n (part ++ drop n scores)))
      → (entry' : Bytes) → entry' ≡ put entry 0 e → length e ≡ length entry → length part ≡ length (take n scores)
      → outcome (Ok tt) L' entry' (z ++ drop n (part ++ drop n scores)) ≡ wrote log w date slice dsize psize entry scores depth
  tested-done p e made entry' q k l =
      let over : entry' ≡ entry_over slice dsize psize depth =
      q ∙ put_whole entry e k ∙ made ∙ ap (λ (x : Bytes). made_entry psize dsize depth (length slice) (top_of x)) (front_part n scores part le l)
      ∙ ap (made_entry psize dsize depth (length slice)) (t p) in
      ap₂ (λ (x : Result ⊤ Refusal) (y : Bytes). outcome x L' y (z ++ drop n (part ++ drop n scores))) (sym p)
      (over ∙ sym (ap (λ (x : Result ⊤ Refusal). entry_after x entry (entry_over slice dsize psize depth)) p))
      ∙ ap₂ all b (front-cleared n scores part le l (20 * parts_of dsize (length slice)) en z s)

-- ---- the tests, in their order

module _ (log w date slice : Bytes) (dsize psize : ℕ) (entry scores : Bytes) where
  abbrev refusal : Refusal → WriteOutcome
  refusal y = outcome (Err y) (beside log w) entry scores

  abbrev whole : WriteOutcome
  whole = write_file log w date slice dsize psize entry scores

  pub entry-short : (length entry ≡ 40 → ⊥) → refusal why.Buffer ≡ whole
  unfolding write_file buffers_allowed
  entry-short h = rw (ne_eqb (length entry) 40 h)

  module _ (e : length entry ≡ 40) where
    pub scores-short : length scores < 20 * longest → refusal why.Buffer ≡ whole
    unfolding write_file buffers_allowed
    scores-short h = rw (eq-eqb (length entry) 40 e, lt-leb (20 * longest) (length scores) h)

    module _ (s : 20 * longest ≤ length scores) (a : Bool) (ea : a ≡ lent_allowed (length log) (length w)) where
      pub log-refused : a ≡ false → refusal why.LogLength ≡ whole
      unfolding write_file buffers_allowed
      log-refused q = rw (eq-eqb (length entry) 40 e, le-leb (20 * longest) (length scores) s, sym ea ∙ q)

      module _ (ta : a ≡ true) (d : Bool) (ed : d ≡ is_date date) where
        pub date-refused : d ≡ false → refusal why.Date ≡ whole
        unfolding write_file buffers_allowed
        date-refused q = rw (eq-eqb (length entry) 40 e, le-leb (20 * longest) (length scores) s, sym ea ∙ ta, sym ed ∙ q)

        module _ (td : d ≡ true) where
          pub slice-long : longest < length slice → refusal why.DataLength ≡ whole
          unfolding write_file buffers_allowed
          slice-long h = rw (eq-eqb (length entry) 40 e, le-leb (20 * longest) (length scores) s, sym ea ∙ ta, sym ed ∙ td, lt-ltb longest (length slice) h)

          module _ (h : length slice ≤ longest) where
            pub sizes-refused : depth_of (length slice) dsize psize ≡ none → refusal why.Entry ≡ whole
            unfolding write_file buffers_allowed
            sizes-refused q =
                rw (eq-eqb (length entry) 40 e, le-leb (20 * longest) (length scores) s, sym ea ∙ ta, sym ed ∙ td, le-ltb longest (length slice) h, q)

            pub tests_passed : (depth : ℕ) → depth_of (length slice) dsize psize ≡ some depth → wrote log w date slice dsize psize entry scores depth ≡ whole
            unfolding write_file buffers_allowed
            tests_passed depth q =
                rw (eq-eqb (length entry) 40 e, le-leb (20 * longest) (length scores) s, sym ea ∙ ta, sym ed ∙ td, le-ltb longest (length slice) h, q)
