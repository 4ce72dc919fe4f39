use Rattle.known_bytes.proofs.Numbers.{known_written, written-length}
use Rattle.known_bytes.proofs.write_known.Goals as goal

pub shape_of-bytes : goal.shape_of-bytes
shape_of-bytes c =
    let write-number = c.write_number in
    let write-number2 = c.write_number-2 in
    let doubt-number = c.doubt_number in
    let write-number3 = c.write_number-3 in
    let exact-byte = c.exact_byte in
    let a = c.args in
    written-length a.bytes.now _ _ _ a.known _ _ c.requires write-number.ensures write-number2.ensures write-number3.ensures doubt-number.ensures exact-byte.ensures

pub returns : goal.returns
returns c =
    let write-number = c.write_number in
    let write-number2 = c.write_number-2 in
    let doubt-number = c.doubt_number in
    let write-number3 = c.write_number-3 in
    let exact-byte = c.exact_byte in
    let a = c.args in
    known_written a.bytes.now _ _ _ a.known _ _ c.requires write-number.ensures write-number2.ensures write-number3.ensures doubt-number.ensures exact-byte.ensures
