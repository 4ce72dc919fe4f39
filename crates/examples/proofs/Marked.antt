-- The table of marked examples, each row computed or by its tests.
use mathlib.Core.Path.{refl}
use native.Mathlib.Omega.{arith}
use lib.ListN.{length}
use borrow.Author.Tests.{lt-ltb, le-ltb}
use Rattle.hexadecimal.specs.Hex.{hex, digit_char}
use Rattle.digits.specs.Number.{digits, value_from}
use Rattle.kind.specs.Kind.{longest}
use Rattle.block.proofs.Counts.{counts}
use Rattle.utf8.specs.Grammar.{follows}
use Rattle.field.specs.Field.{text_end, counted_end, bytes_end}
use Rattle.message.specs.Message.{framed, exactly, request_of, data_of}
use Rattle.message.specs.Reply.{reply}
use Rattle.request.specs.Step.{reply_room, write, fresh, greeted, in_session, step}
use Rattle.cut.proofs.Examples as cut
use Rattle.entry.specs.Entry.{entry_of, well_formed}
use Rattle.file.specs.File.{entry_readable, extent_at, located}
use Rattle.examples.specs.Marked.{Marked}

pub marked : Marked
unfolding digits value_from follows hex digit_char framed text_end counted_end bytes_end exactly request_of reply step in_session fresh greeted write entry_of well_formed entry_readable extent_at located
marked = record {
  ping = λ date log buffer d a h. rw (le-ltb (length buffer) reply_room h, a, d) refl;
  greeting = λ date log buffer d a h. rw (le-ltb (length buffer) reply_room h, a, d) refl;
  not-held = refl;
  not_known = refl;
  counts = counts;
  ten = λ t m date log buffer f h a d q l n. rw (f, le-ltb (length buffer) reply_room h, a, d, q, l, lt-ltb longest (length (data_of m)) (omega arith)) refl;
  hello_world = cut.hello_world;
  all-zeros = cut.all-zeros;
  three = refl;
  passes = refl;
  sixteen = λ log waiting page offset l p. rw (l, p) refl;
  second = refl;
  then-second = refl;
}
