-- What reads back as a slice is answered as the slice says.
use mathlib.Core.Path.{◌≡◌, refl, sym}
use mathlib.Core.Bool.{Bool, true, false}
use Prim.Native.Nat.{◌<◌}
use native.Mathlib.Omega.{arith}
use lib.Dec.{leb}
use borrow.Author.Tests.{leb-true, leb-false}
use lib.ListN.{length}
use Rattle.buffer.specs.Bytes.{Bytes}
use Rattle.refusal.specs.declared.Refusal.TheVariants as why
use Rattle.entry.specs.Entry.{entry_of}
use Rattle.file.specs.File.{page_allowed}
use Rattle.writer_laws.specs.ReadBack.{Reads}
use Rattle.writer_laws.proofs.ReadBack.{reads_back, reads_back_later}
use Rattle.card_answer.specs.CardAnswer.{test, judged}
use Rattle.search.specs.Search.{longest_card, search_of}
use Rattle.search.proofs.Tests.{search_long}
use Rattle.search_laws.proofs.Elsewhere.{judged_by_its_bytes}
use Rattle.card_written.specs.Written.{answer_of, SearchOfWritten, SearchOfWrittenLater}

pub reads-answered : (log waiting page entry slice query : Bytes) → page_allowed page ≡ true → Reads log waiting page entry slice
    → search_of log waiting page entry query ≡ answer_of slice query
reads-answered log waiting page entry slice query p R = go (leb (length slice) longest_card) refl
  where
    go : (b : Bool) → leb (length slice) longest_card ≡ b → search_of log waiting page entry query ≡ test b why.Card (judged slice query)
    go true q =
        judged_by_its_bytes log waiting page entry slice query R.allowed p R.readable R.size (leb-true (length slice) longest_card q) R.answers R.bytes
    go false q =
        let l : longest_card < (entry_of entry).size = omega (arith, leb-false (length slice) longest_card q, R.size) in
        sym (search_long log waiting page entry query true (sym R.allowed) refl true (sym p) refl true (sym R.readable) refl (entry_of entry) refl l)

pub search_of-written : SearchOfWritten
search_of-written log waiting date slice dsize psize entry scores page query sm p done =
    reads-answered _ _ page _ slice query p (reads_back log waiting date slice dsize psize entry scores page sm p done)

pub search_of-written-later : SearchOfWrittenLater
search_of-written-later log waiting date slice dsize psize entry scores page query sm p done past qs b =
    reads-answered _ _ page _ slice query p (reads_back_later log waiting date slice dsize psize entry scores page sm p done past qs b)
