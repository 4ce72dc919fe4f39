-- The card search: a query asked of the card that an entry leads to.
use Rattle.std.specs.Prelude.{ℕ, leb, length, Result}
use Rattle.buffer.specs.Bytes.{Bytes}
use Rattle.kleene.specs.declared.Value.{Value}
use Rattle.refusal.specs.declared.Refusal.{Refusal}
use Rattle.refusal.specs.declared.Refusal.TheVariants as why
use Rattle.sector_log.specs.LookUp.{lent_allowed}
use Rattle.sector_log.specs.Parts.{tape}
use Rattle.entry.specs.Entry.{entry_of}
use Rattle.file.specs.File.{page_allowed, entry_readable}
use Rattle.fill.specs.Fill.{byte_at, Gathered, gathered}
use Rattle.card_answer.specs.CardAnswer.{test, once_read}

-- "A card is a file of at most 4,096 bytes"
abbrev pub longest_card : ℕ
longest_card = 4096

-- the bytes of the file from its first to its last, or to the first refused offset, and how that ended; none of a file of size 0. The file is read in
-- "the log's used part and then the waiting part as one log"
abbrev pub card_of : Bytes → Bytes → Bytes → Gathered
card_of log waiting entry = gathered (byte_at (lent_allowed (length log) (length waiting)) (tape log waiting) entry) (entry_of entry).size 0

-- "longer is 25, unread, after 3, 19 and 16"
unfoldable pub search_of : Bytes → Bytes → Bytes → Bytes → Bytes → Result Value Refusal
search_of log waiting page entry query =
    test (lent_allowed (length log) (length waiting)) why.LogLength
    (test (page_allowed page) why.Page
    (test (entry_readable entry) why.Entry
    (test (leb (entry_of entry).size longest_card) why.Card
    (once_read (card_of log waiting entry).stop (card_of log waiting entry).bytes query))))
