use mathlib.Core.Path.{◌≡◌, sym, ap, ◌∙◌}
use native.Mathlib.Omega.{arith}
use borrow.Author.Tests.{not-true, not-false}
use lib.ListN.{length, take, drop, length-take, length-drop}
use Rattle.buffer.specs.Bytes.{Bytes}
use Rattle.hexadecimal.specs.Hex.{is_hex, read_bytes}
use Rattle.sector.specs.Sector.{behind}
use Rattle.sector.proofs.Dates.{front-most}
use Rattle.block.specs.Log.{joined, at}
use Rattle.block.proofs.At.{length_at}
use Rattle.block_tested.proofs.Tests.{field_at}
use Rattle.reader.proofs.Digits.{number-value, number_lt, unread, bytes_read}
use Rattle.reader.proofs.Sound.{front-is, front_read, front-taken, no_kind, no_score, sound-read}
use Rattle.reader.proofs.sound_at.Goals as goal

pub front_length-k-requires : goal.front_length-k-requires
front_length-k-requires c =
    let a = c.args in
    let sector-at = c.sector_at-s in
    let log = joined a.runs.end.0 a.runs.log.now a.runs.waiting.now in
    omega (arith, ap length sector-at.ensures ∙ length_at log a.first.0)

pub field_number-kind-requires : goal.field_number-kind-requires
field_number-kind-requires c =
    let a = c.args in
    let q = c.requires in
    let sector-at = c.sector_at-s in
    let Front-length = c.front_length-k in
    let log = joined a.runs.end.0 a.runs.log.now a.runs.waiting.now in
    (q.0, q.1, front-is log a.first.0 _ _ sector-at.ensures Front-length.ensures, omega arith, omega arith)

pub returns-then-kind-lt1 : goal.returns-then-kind-lt1
returns-then-kind-lt1 c =
    let a = c.args in
    let number_at = c.field_number-kind in
    let log = joined a.runs.end.0 a.runs.log.now a.runs.waiting.now in
    let z : number_at.result ≡ 0 = omega arith in
    no_kind log a.first.0 (sym number_at.ensures ∙ z)

pub overflow_add-from : goal.overflow_add-from
overflow_add-from c =
    let sector-at = c.sector_at-s in
    let Front-length = c.front_length-k in
    omega (arith, Front-length.ensures, front-most sector-at.result.now)

pub overflow_add-to : goal.overflow_add-to
overflow_add-to c =
    let sector-at = c.sector_at-s in
    let Front-length = c.front_length-k in
    omega (arith, Front-length.ensures, front-most sector-at.result.now)

pub slice_bounds-read_hex_bytes-end-2 : goal.slice_bounds-read_hex_bytes-end-2
slice_bounds-read_hex_bytes-end-2 c =
    let a = c.args in
    let sector-at = c.sector_at-s in
    let Front-length = c.front_length-k in
    let log = joined a.runs.end.0 a.runs.log.now a.runs.waiting.now in
    omega (arith, Front-length.ensures, front-most sector-at.result.now, ap length sector-at.ensures ∙ length_at log a.first.0)

pub returns-then-not-read_hex_bytes : goal.returns-then-not-read_hex_bytes
returns-then-not-read_hex_bytes c =
    let a = c.args in
    let sector-at = c.sector_at-s in
    let Front-length = c.front_length-k in
    let read-hex-bytes = c.read_hex_bytes in
    let if2 = c.if-not-read_hex_bytes in
    let log = joined a.runs.end.0 a.runs.log.now a.runs.waiting.now in
    let there = field_at sector-at.result.now Front-length.result 55 40 Front-length.ensures ∙ ap (λ (x : Bytes). take 40 (drop 55 (behind x))) sector-at.ensures in
    no_score log a.first.0 (ap is_hex (sym there) ∙ unread _ _ _ _ read-hex-bytes.ensures if2.true)

pub slice_bounds-sound_behind-end : goal.slice_bounds-sound_behind-end
slice_bounds-sound_behind-end c =
    let a = c.args in
    let sector-at = c.sector_at-s in
    let Front-length = c.front_length-k in
    let log = joined a.runs.end.0 a.runs.log.now a.runs.waiting.now in
    front-taken log a.first.0 _ _ sector-at.ensures Front-length.ensures

pub overflow_cast-kind : goal.overflow_cast-kind
overflow_cast-kind c =
    let a = c.args in
    let number_at = c.field_number-kind in
    let log = joined a.runs.end.0 a.runs.log.now a.runs.waiting.now in
    let x = behind (at log a.first.0) in
    let w : length (take 2 (drop 36 x)) ≡ 2 = simp (length-take, length-drop) (omega (arith, length_at log a.first.0, front-most (at log a.first.0))) in
    omega (arith, number_at.ensures, rw w at (number_lt (take 2 (drop 36 x))))

pub sound_behind-requires : goal.sound_behind-requires
sound_behind-requires c =
    let a = c.args in
    let q = c.requires in
    let sector-at = c.sector_at-s in
    let Front-length = c.front_length-k in
    let read-hex-bytes = c.read_hex_bytes in
    let log = joined a.runs.end.0 a.runs.log.now a.runs.waiting.now in
    (q.0, q.1, front_read log a.first.0 sector-at.result.now Front-length.result sector-at.ensures Front-length.ensures, omega arith)

pub returns : goal.returns
returns c =
    let a = c.args in
    let sector-at = c.sector_at-s in
    let Front-length = c.front_length-k in
    let number_at = c.field_number-kind in
    let if1 = c.if-kind-lt1 in
    let read-hex-bytes = c.read_hex_bytes in
    let if2 = c.if-not-read_hex_bytes in
    let sound-behind = c.sound_behind in
    let log = joined a.runs.end.0 a.runs.log.now a.runs.waiting.now in
    let there = field_at sector-at.result.now Front-length.result 55 40 Front-length.ensures ∙ ap (λ (x : Bytes). take 40 (drop 55 (behind x))) sector-at.ensures in
    sound-behind.ensures
    ∙ sound-read log a.first.0 number_at.result _ (number-value _ number_at.result number_at.ensures if1.false)
    (bytes_read _ _ _ _ read-hex-bytes.ensures if2.false ∙ ap read_bytes there)
