use Rattle.known_bytes.proofs.Numbers.{number-written, number-length}
use Rattle.known_bytes.proofs.write_number.Goals as goal

pub shape_of-bytes : goal.shape_of-bytes
shape_of-bytes c =
    let put-be = c.put_be in
    let a = c.args in
    number-length a.bytes.now _ a.at a.n c.requires put-be.ensures

pub returns : goal.returns
returns c =
    let put-be = c.put_be in
    let a = c.args in
    number-written a.bytes.now _ a.at a.n c.requires put-be.ensures
