-- One turn of each loop, and its end: what is left to do still makes the whole.
use mathlib.Core.Path.{◌≡◌, refl, sym, ap, ap₂, ◌∙◌}
use mathlib.Core.Bool.{Bool, true, false, ◌&&◌}
use mathlib.Core.List.{[], ◌++◌, append_assoc, append-nil}
use Prim.Native.Nat.{ℕ, ◌+◌, ◌-◌, ◌≤◌}
use native.Mathlib.Omega.{arith}
use lib.ListN.{length, take, drop, length-append, length-take, length-drop, take-append-drop, drop_of_length-le}
use lib.Seq.{drop-drop}
use Rattle.buffer.specs.Bytes.{Bytes, same, put}
use Rattle.buffer.proofs.Put.{put-put}
use Rattle.buffer.proofs.Bytes.{same-append}
use Rattle.sha1_digest.specs.declared.Stream.{Stream}
use Rattle.sha1_digest.specs.Stream.{Holds}
use Rattle.block.specs.Log.{at}

-- ---- pieces compared

-- one piece p of bytes b more, against the bytes of x behind `done`
module _ (b p rest x : Bytes) (done : ℕ) (h : done + length p ≤ length x) (e : b ≡ p ++ rest) where
  same_first : same b (drop done x) ≡ (same p (take (done + length p - done) (drop done x)) && same rest (drop (done + length p) x))
  same_first =
      let w : done + length p - done ≡ length p = omega arith in
      let front : length p ≡ length (take (length p) (drop done x)) = simp (length-take, length-drop) (omega arith) in
      rw w (ap₂ same e (sym (take-append-drop (length p) (drop done x)))
      ∙ same-append p (take (length p) (drop done x)) rest (drop (length p) (drop done x)) front
      ∙ ap (λ (y : Bytes). same p (take (length p) (drop done x)) && same rest y) (drop-drop (length p) done x))

  pub same_turn : same p (take (done + length p - done) (drop done x)) ≡ true → same rest (drop (done + length p) x) ≡ same b (drop done x)
  same_turn t = sym (same_first ∙ ap (λ (r : Bool). r && same rest (drop (done + length p) x)) t)

  pub same_stop : same p (take (done + length p - done) (drop done x)) ≡ false → same b (drop done x) ≡ false
  same_stop t = same_first ∙ ap (λ (r : Bool). r && same rest (drop (done + length p) x)) t

pub same_none : (b x : Bytes) (done : ℕ) → length x ≤ done → b ≡ [] → same b (drop done x) ≡ true
same_none b x done h e = ap₂ same e (drop_of_length-le x h)

-- ---- pieces copied

-- one piece p more
pub put-piece : (d f : Bytes) (done : ℕ) (b p rest : Bytes) → done + length b ≤ length d → f ≡ put d done p → b ≡ p ++ rest
    → put f (done + length p) rest ≡ put d done b
put-piece d f done b p rest h e g =
    ap (λ (x : Bytes). put x (done + length p) rest) e
    ∙ put-put d done p rest (omega (arith, ap length g, length-append p rest))
    ∙ ap (put d done) (sym g)

-- ---- pieces taken in

-- the stream has taken in the whole but for the rest
pub record Taken (s : Stream) (rest whole : Bytes) : Type 0 where
  pub taken : Bytes
  pub holds : Holds s taken
  pub split : taken ++ rest ≡ whole

pub taken_none : (s : Stream) (whole : Bytes) → Holds s [] → Taken s whole whole
taken_none s whole h = record { taken = []; holds = h; split = refl }

pub taken_more : (s t : Stream) (p rest left whole : Bytes) → ((m : Bytes) → Holds s m → Holds t (m ++ p)) → rest ≡ p ++ left → Taken s rest whole → Taken t left whole
taken_more s t p rest left whole f e h = record {
  taken = h.taken ++ p;
  holds = f h.taken h.holds;
  split = append_assoc h.taken p left ∙ ap (λ (x : Bytes). h.taken ++ x) (sym e) ∙ h.split;
}

pub taken-all : (s : Stream) (rest whole : Bytes) → rest ≡ [] → Taken s rest whole → Holds s whole
taken-all s rest whole e h =
    let w : h.taken ≡ whole = sym (append-nil h.taken) ∙ ap (λ (x : Bytes). h.taken ++ x) (sym e) ∙ h.split in
    rw w at h.holds
