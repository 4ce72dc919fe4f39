-- A run in both parts read as one, and the same run in the part in which it lies: it answers or not, and has the same bytes.
use mathlib.Core.Path.{◌≡◌, refl, sym, ap, ◌∙◌}
use mathlib.Core.List.{[], ◌++◌}
use Prim.Native.Nat.{ℕ, ◌+◌, ◌-◌, ◌*◌, ◌≤◌, ◌<◌}
use native.Mathlib.Omega.{arith}
use lib.Dec.{ltb}
use borrow.Author.Tests.{ltb-true, ltb-false}
use lib.ListN.{length, take, drop, length-take, length-drop}
use lib.Seq.{ext_get_or, get_or-take, get_or-drop, length-take-le, drop-append-add, take-append-le, drop-append-le}
use Rattle.bedrock.proofs.Choices.{cond_ind}
use Rattle.buffer.specs.Bytes.{Bytes}
use Rattle.block.specs.Log.{joined, used}
use Rattle.block.proofs.Used.{used_le_sectors}
use Rattle.sector_log.specs.LookUp.{lent_allowed}
use Rattle.sector_log.specs.Parts.{tape}
use Rattle.leaf.specs.declared.Extent.{Extent}
use Rattle.leaf.specs.declared.Extent.TheVariants.{Stored, Zeros}
use Rattle.file.specs.declared.Located.{Located}
use Rattle.file.specs.File.{extent_at, split, located}
use Rattle.file.proofs.Inside.{Inside, extent_in, one_part}
use Rattle.file_laws.specs.Path.{Answers}
use Rattle.file_laws.specs.Bytes.{run_bytes}
use Rattle.std.specs.Prelude.{Ok, Err, Result}
use Rattle.refusal.specs.declared.Refusal.{Refusal}

-- stored bytes or zeros, no refusal
abbrev pub Reads : Result Extent Refusal → Type 0
Reads (Ok (Stored at n)) = Unit {0}
Reads (Ok (Zeros n)) = Unit {0}
Reads (Err w) = ⊥

pub answers-reads : (border : ℕ) (x : Result Extent Refusal) → Answers (split border x) → Reads x
answers-reads border (Ok (Stored at n)) a = tt
answers-reads border (Ok (Zeros n)) a = tt
answers-reads border (Err w) a = a

pub reads-answers : (border : ℕ) (x : Result Extent Refusal) → Reads x → Answers (split border x)
reads-answers border (Ok (Stored at n)) a = cond_ind Answers (ltb at border) _ _ (λ _. tt) (λ _. tt)
reads-answers border (Ok (Zeros n)) a = tt
reads-answers border (Err w) a = a

-- its bytes in one log
abbrev pub extent_bytes : Bytes → Bytes → Result Extent Refusal → Bytes
extent_bytes log page (Ok (Stored at n)) = take n (drop at log)
extent_bytes log page (Ok (Zeros n)) = take n page
extent_bytes log page (Err w) = []

-- ---- the bytes of a part

front_bytes : (log second : Bytes) (k at n : ℕ) → k ≤ length log → at + n ≤ k → take n (drop at log) ≡ take n (drop at (take k log ++ second))
front_bytes log second k at n h g =
    let f = take k log in
    let lf : length f ≡ k = length-take-le k log h in
    let left : length (take n (drop at log)) ≡ n = simp (length-take, length-drop) (omega arith) in
    let mid : length (take n (drop at f)) ≡ n = simp (length-take, length-drop) (omega (arith, lf)) in
    ext_get_or 0 (take n (drop at log)) (take n (drop at f)) (left ∙ sym mid)
    (λ i l. let p : i < n = omega arith in
    let q : at + i < k = omega arith in
    get_or-take n (drop at log) i 0 p ∙ get_or-drop at log i 0
    ∙ sym (get_or-take n (drop at f) i 0 p ∙ get_or-drop at f i 0 ∙ get_or-take k log (at + i) 0 q))
    ∙ sym (ap (take n) (drop-append-le at f second (omega (arith, lf))) ∙ take-append-le n (drop at f) second (simp length-drop (omega (arith, lf))))

back_bytes : (log second : Bytes) (k at : ℕ) → k ≤ length log → k ≤ at → drop (at - k) second ≡ drop at (take k log ++ second)
back_bytes log second k at h g =
    let f = take k log in
    let lf : length f ≡ k = length-take-le k log h in
    let e : at ≡ length f + (at - k) = omega (arith, lf) in
    sym (ap (λ (x : ℕ). drop x (f ++ second)) e ∙ drop-append-add f second (at - k))

module _ (log waiting : Bytes) where
  split-bytes : (page : Bytes) (u p : ℕ) (x : Result Extent Refusal) → Inside u p x → run_bytes log waiting page (split (512 * used log) x) ≡ extent_bytes (tape log waiting) page x
  unfolding joined
  split-bytes page u p (Ok (Stored at n)) i =
      let k = 512 * used log in
      let h : k ≤ length log = omega (arith, used_le_sectors log) in
      cond_ind (λ (y : Result Located Refusal). run_bytes log waiting page y ≡ extent_bytes (tape log waiting) page (Ok (Stored at n))) (ltb at k) _ _
      (λ q. front_bytes log waiting k at n h (one_part (used log) at n (ltb-true at k q) i.1))
      (λ q. ap (take n) (back_bytes log waiting k at h (ltb-false at k q)))
  split-bytes page u p (Ok (Zeros n)) i = refl
  split-bytes page u p (Err w) i = refl

  pub shown-bytes : (page entry : Bytes) (offset : ℕ)
      → run_bytes log waiting page (located log waiting page entry offset)
      ≡ extent_bytes (tape log waiting) page (extent_at (lent_allowed (length log) (length waiting)) (tape log waiting) page entry offset)
  unfolding located
  shown-bytes page entry offset =
      let lent = lent_allowed (length log) (length waiting) in
      split-bytes page (used (tape log waiting)) (length page) (extent_at lent (tape log waiting) page entry offset) (extent_in lent (tape log waiting) page entry offset)

  -- it answers in one form as in the other
  pub shown-reads : (page entry : Bytes) (offset : ℕ) → Answers (located log waiting page entry offset)
      → Reads (extent_at (lent_allowed (length log) (length waiting)) (tape log waiting) page entry offset)
  unfolding located
  shown-reads page entry offset = answers-reads (512 * used log) (extent_at (lent_allowed (length log) (length waiting)) (tape log waiting) page entry offset)

  pub shown-answers : (page entry : Bytes) (offset : ℕ) → Reads (extent_at (lent_allowed (length log) (length waiting)) (tape log waiting) page entry offset)
      → Answers (located log waiting page entry offset)
  unfolding located
  shown-answers page entry offset = reads-answers (512 * used log) (extent_at (lent_allowed (length log) (length waiting)) (tape log waiting) page entry offset)
