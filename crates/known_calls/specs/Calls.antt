-- What the calls answer that are lent what is known as bytes. A buffer that has not 25 is refused with 2, and nothing changes.
use Rattle.std.specs.Prelude.{cond, ℕ, eqb, length}
use Rattle.buffer.specs.Bytes.{Bytes}
use Rattle.refusal.specs.Number.{number_of}
use Rattle.refusal.specs.declared.Refusal.TheVariants.{Buffer}
use Rattle.sector_log.specs.Parts.{beside}
use Rattle.known.specs.Known.{learned}
use Rattle.request.specs.Step.{silent}
use Rattle.indexed.specs.Indexed.{keeping}
use Rattle.known_request.specs.Quick.{Quick, step_known}
use Rattle.session_numbers.specs.Serve.{Served, session_of, served, served_of}
use Rattle.known_bytes.specs.KnownBytes.{known_bytes, known_of}

-- what learning gives: its number, 0 for none, and what the buffer then holds
pub record AfterLearn : Type 0 where
  pub result : ℕ
  pub known : Bytes

abbrev pub after_learn : ℕ → Bytes → AfterLearn
after_learn r known = record { result = r; known = known }

unfoldable pub learn_asked : Bytes → Bytes → Bytes → Bytes → AfterLearn
learn_asked log waiting index known = cond (eqb (length known) 25) (after_learn 0 (known_bytes (learned log waiting index))) (after_learn (number_of Buffer) known)

-- what a request gives: all that one without it gives, and what the buffer then holds
pub record ServedKnown : Type 0 where
  pub served : Served
  pub known : Bytes

abbrev pub served_known : ℕ → Bytes → Bytes → Bytes → Bytes → Bytes → ServedKnown
served_known r log waiting reply index known = record { served = served r log waiting reply index; known = known }

abbrev pub quick_served : Quick → ServedKnown
quick_served q = record { served = served_of q.indexed; known = known_bytes q.known }

unfoldable pub serve_asked : ℕ → Bytes → Bytes → Bytes → Bytes → Bytes → Bytes → Bytes → ServedKnown
serve_asked session m date index log waiting reply known =
    cond (eqb (length known) 25)
    (quick_served (step_known (known_of known) (session_of session) m date index log waiting reply))
    (record { served = served_of (keeping index (silent Buffer (session_of session) (beside log waiting) reply)); known = known })
