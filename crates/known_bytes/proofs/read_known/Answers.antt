use Rattle.known_bytes.proofs.Numbers.{known_read}
use Rattle.known_bytes.proofs.read_known.Goals as goal

pub returns : goal.returns
returns c =
    let read_number = c.read_number-used in
    let read-number2 = c.read_number-waits in
    let read-number3 = c.read_number in
    let doubt-by = c.doubt_by-doubt in
    let a = c.args in
    known_read a.bytes.now _ _ _ _ read_number.ensures read-number2.ensures read-number3.ensures doubt-by.ensures
