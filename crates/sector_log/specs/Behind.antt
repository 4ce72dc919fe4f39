-- Store and sync where the first u sectors of the log and the first n that wait are taken, whatever they hold: with the used sectors of both, they are
-- those of `Store.antt` and `Parts.antt`.
use Rattle.std.specs.Prelude.{Bool, cond, ◌&&◌, ℕ, ◌+◌, ◌*◌, leb, length, take, replicate, Ok, Err}
use Rattle.buffer.specs.Bytes.{Bytes, put}
use Rattle.sha1_digest.specs.Sha1.{sha1_of}
use Rattle.refusal.specs.declared.Refusal.TheVariants.{NoRoom}
use Rattle.sector.specs.Sector.{sector_length}
use Rattle.block.specs.Log.{sectors}
use Rattle.sector_log.specs.Parts.{Lent, beside, written_from}
use Rattle.sector_log.specs.Store.{AfterStore, after_store, receipt, parts_for}
use Rattle.sector_log.specs.declared.Stored.TheVariants.{New}

-- room for k sectors more, in a log of m bytes and a waiting part of w
unfoldable pub room_behind : ℕ → ℕ → ℕ → ℕ → ℕ → Bool
room_behind u n m w k = leb (u + n + k) (sectors m) && leb (n + k) (sectors w)

-- a block that look-up did not find: appended, or 14
abbrev pub appended_behind : ℕ → ℕ → Bytes → Bytes → Bytes → ℕ → Bytes → AfterStore
appended_behind u n log waiting date t d =
    cond (room_behind u n (length log) (length waiting) (parts_for date d))
    (after_store (receipt (sha1_of d) (Ok (New (record { 0 = u + n }))))
    (beside log (written_from u waiting (record { kind = t; score = sha1_of d; bytes = d; first = u + n; date = date }))))
    (after_store (receipt (sha1_of d) (Err NoRoom)) (beside log waiting))

-- the n sectors moved behind the u; the waiting part is all blank then
abbrev pub moved_behind : ℕ → ℕ → Bytes → Bytes → Lent
moved_behind u n log waiting = beside (put log (sector_length * u) (take (sector_length * n) waiting)) (replicate (length waiting) 0)
