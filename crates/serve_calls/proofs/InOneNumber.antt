-- A request's outcome, by its answer in one number.
use mathlib.Core.Path.{◌≡◌, refl, ap, ◌∙◌}
use Prim.Native.Nat.{ℕ, ◌+◌, ◌*◌}
use Rattle.buffer.specs.Bytes.{Bytes}
use Rattle.request.specs.declared.Answer.{Answer}
use Rattle.indexed.specs.Indexed.{Indexed, indexed_of}
use Rattle.session_numbers.specs.Serve.{session_number, served, served_of}
use Rattle.session_numbers.proofs.ServeLaws.{served_so}

pub served-packed : (a : Answer) (log waiting reply index : Bytes) (x : Indexed) (r : ℕ) → r ≡ a.number + 256 * session_number a.session
    → indexed_of a log waiting reply index ≡ x → served r log waiting reply index ≡ served_of x
served-packed a log waiting reply index x r e f =
    ap (λ (n : ℕ). served n log waiting reply index) e ∙ served_so a log waiting reply index x (session_number a.session) f refl
