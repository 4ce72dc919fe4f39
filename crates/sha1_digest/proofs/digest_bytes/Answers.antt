use Rattle.digits.specs.Number.{digits}
use Rattle.sha1_digest.specs.Sha1.{digest_of}
use Rattle.sha1_digest.proofs.digest_bytes.Goals as goal

pub returns : goal.returns
unfolding digest_of digits
returns c = let put_word = c.put_word in
    let put-word2 = c.put_word-2 in
    let put-word3 = c.put_word-3 in
    rw (c.put_word-5.ensures, c.put_word-4.ensures, put-word3.ensures, put-word2.ensures, put_word.ensures)
