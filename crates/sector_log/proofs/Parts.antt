-- Laws of a log and its waiting part: a row written there is written behind the used part of both; moving changes no sector; where nothing
-- waits all is the log's.
use mathlib.Core.Path.{◌≡◌, refl, sym, ap, ap₂, ◌∙◌}
use mathlib.Core.Bool.{Bool, true, false, cond}
use mathlib.Core.List.{[], ◌++◌, append_assoc}
use mathlib.Core.Logic.{◌⊎◌, inl, inr}
use Prim.Native.Nat.{ℕ, ◌+◌, ◌-◌, ◌*◌, ◌≤◌, ◌<◌}
use native.Mathlib.Omega.{arith}
use lib.Dec.{ltb}
use borrow.Author.Tests.{ltb-true, ltb-false}
use lib.ListN.{length, take, drop, length-take, length-drop, take-append-drop}
use lib.Seq.{take-append-add, drop-append-add, length-take-le, drop-drop}
use Rattle.bedrock.proofs.Choices.{and_one}
use Rattle.buffer.specs.Bytes.{Bytes}
use Rattle.block.specs.Block.{Row, parts, images, written}
use Rattle.block.specs.Log.{sectors, at, Alike, joined, used_of, used}
use Rattle.block.proofs.At.{piece, piece-front, at_piece, at_middle, at_aside}
use Rattle.block.proofs.Used.{used_le_sectors, at-beyond}
use Rattle.block.proofs.Joined.{at-log, at-waiting, at-alone}
use Rattle.block.proofs.Alike.{used-alike}
use Rattle.kind.specs.Kind.{lawful}
use Rattle.refusal.specs.declared.Refusal.TheVariants.{LogLength, BlockType}
use Rattle.sector_log.specs.LookUp.{held, absence, look_up, first_doubtful, log_allowed, waiting_allowed, lent_allowed, look_up_asked}
use Rattle.sector_log.specs.Parts.{tape, written_from, moved}
use Rattle.sector_log.specs.Promises.{LookUpAlone, WrittenBehindBoth, MovedAlike}
use Rattle.sector_log.proofs.Alike.{held-alike, absence-alike, first-doubtful-alike, look_up_alike}
use Rattle.std.specs.Prelude.{Err}

module _ (log waiting : Bytes) where
  front : Bytes
  front = take (512 * used log) log

  length_front : length front ≡ 512 * used log
  unfolding front
  length_front = length-take-le (512 * used log) log (omega (arith, used_le_sectors log))

  -- a row written among the waiting sectors
  pub tape-written : (r : Row) → used log ≤ r.first → tape log (written_from (used log) waiting r) ≡ written (tape log waiting) r
  unfolding joined written_from written front
  tape-written r h =
      let w = waiting in
      let u = used log in
      let k = r.first - u in
      let a : 512 * r.first ≡ length front + 512 * k = omega (arith, length_front) in
      let b : 512 * (r.first + parts r) ≡ length front + 512 * (k + parts r) = omega (arith, length_front) in
      let x : take (512 * r.first) (front ++ w) ≡ front ++ take (512 * k) w = ap (λ (m : ℕ). take m (front ++ w)) a ∙ take-append-add front w (512 * k) in
      let y : drop (512 * (r.first + parts r)) (front ++ w) ≡ drop (512 * (k + parts r)) w =
      ap (λ (m : ℕ). drop m (front ++ w)) b ∙ drop-append-add front w (512 * (k + parts r)) in
      sym (ap₂ (λ (p q : Bytes). p ++ (images r (parts r) 0 ++ q)) x y
      ∙ append_assoc front (take (512 * k) w) (images r (parts r) 0 ++ drop (512 * (k + parts r)) w))

  -- the waiting sectors moved into the log
  module _ (room : used log + used waiting ≤ sectors (length log)) where
    move : Bytes
    move = take (512 * used waiting) waiting

    back : Bytes
    back = drop (512 * used log + length move) log

    old : Bytes
    old = take (512 * used waiting) (drop (512 * used log) log)

    length_move : length move ≡ 512 * used waiting
    unfolding move
    length_move = length-take-le (512 * used waiting) waiting (omega (arith, used_le_sectors waiting))

    length_old : length old ≡ 512 * used waiting
    unfolding old
    length_old = simp (length-take, length-drop) (omega arith)

    three : log ≡ front ++ (old ++ back)
    unfolding front old back
    three =
        let m : 512 * used log + 512 * used waiting ≡ 512 * used log + length move = omega (arith, length_move) in
        sym (take-append-drop (512 * used log) log)
        ∙ ap (λ (x : Bytes). front ++ x) (sym (take-append-drop (512 * used waiting) (drop (512 * used log) log))
        ∙ ap (λ (x : Bytes). old ++ x) (drop-drop (512 * used waiting) (512 * used log) log ∙ ap (λ (x : ℕ). drop x log) m))

    inside : (n : ℕ) → used log ≤ n → n < used log + used waiting → at (moved log waiting) n ≡ at waiting (n - used log)
    unfolding moved front move back
    inside n a b =
        at_middle front move back (used log) (used waiting) n length_front length_move a b
        ∙ sym (piece-front move (drop (512 * used waiting) waiting) (used waiting) (n - used log) length_move (omega arith))
        ∙ ap (λ (x : Bytes). piece x (n - used log)) (take-append-drop (512 * used waiting) waiting)
        ∙ sym (at_piece waiting (n - used log) (omega (arith, used_le_sectors waiting)))

    aside : (n : ℕ) → (n < used log) ⊎ (used log + used waiting ≤ n) → at (moved log waiting) n ≡ at log n
    unfolding moved front move back
    aside n h =
        at_aside front move old back (used log) (used waiting) n length_front length_move length_old h ∙ ap (λ (x : Bytes). at x n) (sym three)

    pub at_moved : Alike (moved log waiting) (tape log waiting)
    at_moved n = go (ltb n (used log)) (ltb n (used log + used waiting)) refl refl
      where
        go : (a b : Bool) → ltb n (used log) ≡ a → ltb n (used log + used waiting) ≡ b → at (moved log waiting) n ≡ at (tape log waiting) n
        go true b p q = let h = ltb-true n (used log) p in aside n (inl h) ∙ sym (at-log (used log) log waiting (used_le_sectors log) n h)
        go false true p q =
            let g = ltb-false n (used log) p in
            inside n g (ltb-true n (used log + used waiting) q) ∙ sym (at-waiting (used log) log waiting (used_le_sectors log) n g)
        go false false p q =
            let g = ltb-false n (used log) p in
            let h = ltb-false n (used log + used waiting) q in
            aside n (inr h) ∙ at-beyond log n g
            ∙ sym (at-waiting (used log) log waiting (used_le_sectors log) n g ∙ at-beyond waiting (n - used log) (omega arith))

-- so after a move the used part of the log is that of both before it
pub used-moved : (log waiting : Bytes) → used log + used waiting ≤ sectors (length log) → used (moved log waiting) ≡ used (tape log waiting)
used-moved log waiting room = used-alike (moved log waiting) (tape log waiting) (at_moved log waiting room)

-- the promises
pub written-behind-both : WrittenBehindBoth
written-behind-both log waiting r h = tape-written log waiting r h

pub moved-alike : MovedAlike
moved-alike log waiting room = (at_moved log waiting room, used-moved log waiting room)

-- nothing waits: the sectors are the log's
pub tape-alone : (log waiting : Bytes) → used waiting ≡ 0 → Alike (tape log waiting) log
tape-alone log waiting e n = at-alone (used log) log waiting (used_le_sectors log) (omega arith) e n

-- test 3 of a log with no waiting part is the log's
pub lent-alone : (m : ℕ) → lent_allowed m 0 ≡ log_allowed m
unfolding lent_allowed waiting_allowed
lent-alone m = and_one (log_allowed m)

-- and with them look-up and doubt
module _ (log : Bytes) where
  none : Alike (tape log []) log
  unfolding used used_of
  none = tape-alone log [] refl

  pub held-alone : (t : ℕ) (s : Bytes) → held (tape log []) t s ≡ held log t s
  held-alone = held-alike (tape log []) log none

  pub absence-alone : absence (tape log []) ≡ absence log
  absence-alone = absence-alike (tape log []) log none

  pub first-doubtful-alone : first_doubtful (tape log []) ≡ first_doubtful log
  first-doubtful-alone = first-doubtful-alike (tape log []) log none

  pub look_up_alone : (t : ℕ) (s : Bytes) → look_up (tape log []) t s ≡ look_up log t s
  look_up_alone = look_up_alike (tape log []) log none

  pub look_up_asked-alone : (t : ℕ) (s : Bytes)
      → look_up_asked log [] t s ≡ cond (log_allowed (length log)) (cond (lawful t) (look_up log t s) (Err BlockType)) (Err LogLength)
  unfolding look_up_asked
  look_up_asked-alone t s = rw (lent-alone (length log), look_up_alone t s)

pub look_up_only : LookUpAlone
look_up_only log t s = (look_up_alone log t s, look_up_asked-alone log t s)
