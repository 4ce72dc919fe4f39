-- "Pads must be zero": each byte of each pad, whatever stands beside it, and what stays free.
use Rattle.std.specs.Prelude.{◌≡◌, true, false, ℕ, ◌+◌, ◌≤◌, ◌<◌, length, get_or, drop, Ok, Err}
use Rattle.std.proofs.Math.Option.{Option}
use Rattle.buffer.specs.Bytes.{Bytes}
use Rattle.refusal.specs.declared.Refusal.TheVariants.{Body, Entry as IllFormed}
use Rattle.sector_log.specs.LookUp.{lent_allowed}
use Rattle.message.specs.Message.{framed, type_of, tag_of}
use Rattle.sector_log.specs.Parts.{Lent}
use Rattle.request.specs.Step.{reply_room, refused, step, allowed, date_allowed}
use Rattle.request.specs.declared.Session.{Session}
use Rattle.request.specs.declared.Session.TheVariants.{Closed}
use Rattle.entry.specs.Entry.{entry_of}
use Rattle.file.specs.File.{page_allowed, located, answer_of}
use Rattle.visit.specs.declared.Walked.{Walked}
use Rattle.visit.specs.Visit.{walked}
use Rattle.descent.specs.Descent.{judged}

-- a message that tests 1 to 4 and 24 pass is refused with 6
abbrev pub Six : Bytes → Type 0
Six m =
    (s : Session) (date : Option Bytes) (L : Lent) (buffer : Bytes) → (s ≡ Closed → ⊥) → framed m ≡ true → reply_room ≤ length buffer → allowed L ≡ true → date_allowed date ≡ true
    → step s m date L buffer ≡ refused Body (tag_of m) s L buffer

pub record Pads : Type 0 where
  -- "read: score[20] type[1] pad[1] count[2]", in any open session and of any block type
  pub read : (m : Bytes) → type_of m ≡ 12 → (get_or m 25 0 ≡ 0 → ⊥) → Six m
  -- "write: type[1] pad[3] data"
  pub write : (m : Bytes) (k : ℕ) → type_of m ≡ 14 → k < 3 → (get_or m (5 + k) 0 ≡ 0 → ⊥) → Six m
  -- "the five pad bytes of an active entry: 16", whatever else is right of it: reading a file, and in a walk
  pub file : (log waiting page entry : Bytes) (offset k : ℕ) → k < 5 → (get_or entry (9 + k) 0 ≡ 0 → ⊥) → lent_allowed (length log) (length waiting) ≡ true → page_allowed page ≡ true
      → answer_of (located log waiting page entry offset) ≡ 16
  pub walk : (x : Bytes) (w : Walked) (k : ℕ) → k < 5 → (get_or x (9 + k) 0 ≡ 0 → ⊥) → (entry_of x).active ≡ true → judged x w ≡ walked 0 (Err IllFormed)
  -- an inactive entry is skipped, whatever its other bytes are
  pub inactive : (x : Bytes) (w : Walked) → (entry_of x).active ≡ false → judged x w ≡ walked 0 (Ok tt)
  -- gen is anything
  pub gen : (x y : Bytes) → drop 4 x ≡ drop 4 y → entry_of x ≡ entry_of y
