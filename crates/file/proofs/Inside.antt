-- The run lies within its slice: in one sector of the used part, and so in one part of the log.
use mathlib.Core.Path.{◌≡◌, sym, ◌∙◌}
use mathlib.Core.Bool.{Bool}
use Prim.Native.Nat.{ℕ, ◌+◌, ◌-◌, ◌*◌, ◌/◌, ◌%◌, ◌≤◌, ◌<◌, min}
use native.Mathlib.Nat.{min-le_left}
use native.Mathlib.Omega.{arith}
use lib.Dec.{ltb}
use borrow.Author.Tests.{ltb-true, ltb-false}
use lib.ListN.{length}
use Rattle.bedrock.proofs.Choices.{cond_ind}
use Rattle.buffer.specs.Bytes.{Bytes}
use Rattle.block.specs.declared.Block.{Block}
use Rattle.block.specs.Block.{Row, place_of}
use Rattle.block.specs.Block.{Inside as Among}
use Rattle.block.specs.Log.{used}
use Rattle.block.proofs.Used.{used_le_sectors}
use Rattle.block.proofs.Joined.{used-joined}
use Rattle.sector_log.specs.LookUp.{lent_allowed}
use Rattle.sector_log.specs.Parts.{tape}
use Rattle.entry.specs.declared.Entry.{Entry}
use Rattle.entry.specs.Entry.{entry_of, score_of}
use Rattle.leaf.specs.declared.Extent.{Extent}
use Rattle.leaf.specs.declared.Extent.TheVariants.{Stored, Zeros}
use Rattle.file.specs.declared.Located.{Located}
use Rattle.file.specs.declared.Located.TheVariants as part
use Rattle.leaf.specs.Leaf.{zero_run, payload_in, place_in, leaf_run, under}
use Rattle.file.specs.File.{extent_at, split, located}
use Rattle.lookup.proofs.Held.{Stands}
use Rattle.file.proofs.Tests.{extent_ind}
use Rattle.leaf.proofs.Places.{place_end, place_rest, place-before}
use Rattle.leaf.proofs.Under.{under_ind}
use Rattle.std.specs.Prelude.{Ok, Err, Result}
use Rattle.refusal.specs.declared.Refusal.{Refusal}

-- in one of the first u sectors of a log, and within a page of p bytes
abbrev pub Inside : ℕ → ℕ → Result Extent Refusal → Type 0
Inside u p (Ok (Stored at n)) = (at + n ≤ 512 * u) × (at % 512 + n ≤ 512) × (at < 512 * u)
Inside u p (Ok (Zeros n)) = n ≤ p
Inside u p (Err w) = Unit {0}

stored-inside : (u : ℕ) (b : Block) (k x y : ℕ) → Among u b → k < b.size → Inside u 0 (Ok (Stored (place_in b k) (min (payload_in b - k % payload_in b) (min x y))))
stored-inside u b k x y h g =
    let p = payload_in b in
    let m = min-le_left (p - k % p) (min x y) in
    (omega (arith, m, place_end u b h k g), omega (arith, m, place_rest u b h k g, h.1), place-before u b h k g)

module _ (log : Bytes) (page : ℕ) (e : Entry) (offset : ℕ) where
  zero_in : Inside (used log) page (zero_run page e offset)
  zero_in = min-le_left page _

  leaf_in : (r : Row) → Stands log r → Inside (used log) page (leaf_run page e offset (place_of r))
  unfolding leaf_run
  leaf_in r P =
      cond_ind (Inside (used log) page) (ltb (offset % e.dsize) (length r.bytes)) _ _
      (λ q. stored-inside (used log) (place_of r) (offset % e.dsize) _ _ (P.in_used, P.within.1) (ltb-true (offset % e.dsize) (length r.bytes) q))
      (λ q. zero_in)

  pub under_in : (level : ℕ) (s : Bytes) → Inside (used log) page (under log page e offset level s)
  under_in = under_ind log page e offset (Inside (used log) page) tt tt tt zero_in leaf_in

pub extent_in : (lent : Bool) (log page b : Bytes) (offset : ℕ) → Inside (used log) (length page) (extent_at lent log page b offset)
extent_in lent log page b offset =
    extent_ind lent log page b offset (Inside (used log) (length page)) (λ w. tt) (under_in log (length page) (entry_of b) offset (entry_of b).depth (score_of b))

-- the same of the parts: a log with u used sectors, w behind it
abbrev pub Shown : ℕ → ℕ → ℕ → Result Located Refusal → Type 0
Shown u w p (Ok (part.Stored at n)) = at + n ≤ 512 * u
Shown u w p (Ok (part.Waiting at n)) = at + n ≤ 512 * w
Shown u w p (Ok (part.Zeros n)) = n ≤ p
Shown u w p (Err v) = Unit {0}

-- a sector that starts before a border ends before it
pub one_part : (u at n : ℕ) → at < 512 * u → at % 512 + n ≤ 512 → at + n ≤ 512 * u
one_part u at n a b = let q : at / 512 < u = omega arith in omega arith

split_in : (u w p : ℕ) (x : Result Extent Refusal) → Inside (u + w) p x → Shown u w p (split (512 * u) x)
split_in u w p (Ok (Stored at n)) h =
    cond_ind (Shown u w p) (ltb at (512 * u)) _ _
    (λ q. one_part u at n (ltb-true at (512 * u) q) h.1)
    (λ q. let g = ltb-false at (512 * u) q in omega (arith, h.0, g))
split_in u w p (Ok (Zeros n)) h = h
split_in u w p (Err v) h = tt

pub located_in : (log waiting page b : Bytes) (offset : ℕ) → Shown (used log) (used waiting) (length page) (located log waiting page b offset)
unfolding located
located_in log waiting page b offset =
    let x = extent_at (lent_allowed (length log) (length waiting)) (tape log waiting) page b offset in
    let h : Inside (used log + used waiting) (length page) x = rw (← used-joined log waiting) (extent_in (lent_allowed (length log) (length waiting)) (tape log waiting) page b offset) in
    split_in (used log) (used waiting) (length page) x h

module _ (log waiting page b : Bytes) (offset : ℕ) (w : Result Located Refusal) (e : w ≡ located log waiting page b offset) where
  pub stored_in_lem : (at n : ℕ) → w ≡ Ok (part.Stored at n) → at + n ≤ length log
  stored_in_lem at n q =
      let h : Shown (used log) (used waiting) (length page) (Ok (part.Stored at n)) = rw (sym e ∙ q) at (located_in log waiting page b offset) in
      omega (arith, h, used_le_sectors log)

  pub waiting_in : (at n : ℕ) → w ≡ Ok (part.Waiting at n) → at + n ≤ length waiting
  waiting_in at n q =
      let h : Shown (used log) (used waiting) (length page) (Ok (part.Waiting at n)) = rw (sym e ∙ q) at (located_in log waiting page b offset) in
      omega (arith, h, used_le_sectors waiting)

  pub zeros_in : (n : ℕ) → w ≡ Ok (part.Zeros n) → n ≤ length page
  zeros_in n q = rw (sym e ∙ q) at (located_in log waiting page b offset)
