-- "The limit of 131,072 sectors becomes 1,048,576, with refusal 3 beyond it", at its borders; and of the waiting part "at most 256, or it is 3".
use Rattle.std.specs.Prelude.{◌≡◌, true, false, ◌+◌, ◌*◌, ◌≤◌, length}
use Rattle.std.proofs.Math.Option.{Option}
use Rattle.buffer.specs.Bytes.{Bytes}
use Rattle.refusal.specs.declared.Refusal.TheVariants.{LogLength}
use Rattle.sector_log.specs.LookUp.{most_sectors, log_allowed, waiting_allowed}
use Rattle.message.specs.Message.{framed}
use Rattle.sector_log.specs.Parts.{beside}
use Rattle.request.specs.Step.{reply_room, silent, step}
use Rattle.request.specs.declared.Session.{Session}

pub record Limits : Type 0 where
  pub none : log_allowed 0 ≡ true
  pub over_the_old : log_allowed (512 * 131073) ≡ true
  pub last : log_allowed (512 * 1048576) ≡ true
  pub beyond : log_allowed (512 * 1048577) ≡ false
  pub half : log_allowed (512 * 1048575 + 256) ≡ false
  pub none-waits : waiting_allowed 0 ≡ true
  pub last-waits : waiting_allowed (512 * 256) ≡ true
  pub beyond-waits : waiting_allowed (512 * 257) ≡ false
  pub half-waits : waiting_allowed (512 * 255 + 256) ≡ false
  -- a message to a log beyond it: no reply, and nothing changes, in any session
  pub three : (s : Session) (m : Bytes) (date : Option Bytes) (log waiting buffer : Bytes) → length log ≡ 512 * (most_sectors + 1) → framed m ≡ true → reply_room ≤ length buffer
      → step s m date (beside log waiting) buffer ≡ silent LogLength s (beside log waiting) buffer
