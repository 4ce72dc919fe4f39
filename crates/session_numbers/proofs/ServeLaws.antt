-- Sessions as numbers, and a request's outcome.
use mathlib.Core.Path.{◌≡◌, ap, ◌∙◌}
use Prim.Native.Nat.{ℕ, ◌+◌, ◌*◌, ◌≤◌}
use native.Mathlib.Omega.{arith}
use borrow.Author.Tests.{eq-eqb, ne_eqb}
use Rattle.buffer.specs.Bytes.{Bytes}
use Rattle.indexed.specs.Indexed.{Indexed, indexed_of}
use Rattle.request.specs.declared.Session.{Session}
use Rattle.request.specs.declared.Session.TheVariants.{Fresh, Greeted, Closed}
use Rattle.request.specs.declared.Answer.{Answer}
use Rattle.session_numbers.specs.Serve.{session_of, session_number, served, served_of}

pub is-fresh : (n : ℕ) → n ≡ 0 → Fresh ≡ session_of n
unfolding session_of
is-fresh n e = rw (eq-eqb n 0 e)

pub is-greeted : (n : ℕ) → (n ≡ 0 → ⊥) → n ≡ 1 → Greeted ≡ session_of n
unfolding session_of
is-greeted n z e = rw (ne_eqb n 0 z, eq-eqb n 1 e)

pub is_closed : (n : ℕ) → (n ≡ 0 → ⊥) → (n ≡ 1 → ⊥) → Closed ≡ session_of n
unfolding session_of
is_closed n z e = rw (ne_eqb n 0 z, ne_eqb n 1 e)

pub session-most : (s : Session) (k : ℕ) → k ≡ session_number s → k ≤ 2
session-most Fresh k e = omega arith
session-most Greeted k e = omega arith
session-most Closed k e = omega arith

pub served_so : (a : Answer) (log waiting reply index : Bytes) (x : Indexed) (k : ℕ) → indexed_of a log waiting reply index ≡ x → k ≡ session_number a.session
    → served (a.number + 256 * k) log waiting reply index ≡ served_of x
served_so a log waiting reply index x k e f = ap (λ (n : ℕ). served (a.number + 256 * n) log waiting reply index) f ∙ ap served_of e
