use mathlib.Core.Path.{ap, ◌∙◌}
use mathlib.Core.List.{◌∷◌, ◌++◌, append-nil}
use Rattle.buffer.specs.Bytes.{Bytes}
use Rattle.message.specs.Reply.{why}
use Rattle.reply.proofs.doubt_text.Goals as goal

pub returns : goal.returns
returns c = ap (λ (h : Bytes). 0 ∷ 18 ∷ (why c.args.n ++ (32 ∷ 97 ∷ 116 ∷ 61 ∷ h))) (append-nil _ ∙ c.put_hex.ensures)
