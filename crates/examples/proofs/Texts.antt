-- The hellos, computed.
use mathlib.Core.Path.{refl}
use Rattle.digits.specs.Number.{digits, value_from}
use Rattle.utf8.specs.Grammar.{follows}
use Rattle.field.specs.Field.{text_end, counted_end, bytes_end}
use Rattle.message.specs.Message.{exactly, request_of}
use Rattle.examples.specs.Texts.{Texts}

pub texts : Texts
unfolding digits value_from follows text_end counted_end bytes_end exactly request_of
texts = record {
  version = refl;
  uid = refl;
}
