-- The calls that are lent what is known as bytes, one case for each return, and that a request is `serve`'s.
use mathlib.Core.Path.{◌≡◌, ap, ap₂, ◌∙◌}
use Prim.Native.Nat.{ℕ, ◌+◌, ◌*◌}
use lib.ListN.{length}
use borrow.Author.Tests.{eq-eqb, ne_eqb}
use Rattle.buffer.specs.Bytes.{Bytes}
use Rattle.known.specs.declared.Known.{Known}
use Rattle.known.specs.Known.{learned}
use Rattle.request.specs.declared.Answer.{Answer}
use Rattle.request.specs.declared.Session.{Session}
use Rattle.indexed.specs.Indexed.{Indexed, indexed_of}
use Rattle.known_request.specs.Promises.{learned_of}
use Rattle.known_request.specs.Quick.{step_known}
use Rattle.known_request.proofs.Requests.{quick_is-serve}
use Rattle.session_numbers.specs.Serve.{session_of, session_number, served_of}
use Rattle.known_bytes.specs.KnownBytes.{known_bytes, known_of}
use Rattle.known_calls.specs.Calls.{after_learn, learn_asked, served_known, quick_served, serve_asked}
use Rattle.known_calls.specs.Promises.{CallIsServe}
use Rattle.known_calls.proofs.RoundTrip.{has-length, reads_back, learned-fits}

module _ (log w index known : Bytes) where
  pub learn_refused : (length known ≡ 25 → ⊥) → after_learn 2 known ≡ learn_asked log w index known
  unfolding learn_asked
  learn_refused h = rw (ne_eqb (length known) 25 h)

  pub learn_done : length known ≡ 25 → (k : Known) (x : Bytes) → k ≡ learned log w index → x ≡ known_bytes k → after_learn 0 x ≡ learn_asked log w index known
  unfolding learn_asked
  learn_done h k x e f = rw (eq-eqb (length known) 25 h) (ap (after_learn 0) (f ∙ ap known_bytes e))

module _ (session : ℕ) (m date index log w reply known : Bytes) (s : Session) (e : s ≡ session_of session) (r : ℕ) where
  pub serve-refused : (length known ≡ 25 → ⊥) → r ≡ 2 + 256 * session_number s → served_known r log w reply index known ≡ serve_asked session m date index log w reply known
  unfolding serve_asked
  serve-refused h f =
      rw (ne_eqb (length known) 25 h) (ap (λ (n : ℕ). served_known n log w reply index known) (f ∙ ap (λ (t : Session). 2 + 256 * session_number t) e))

  pub serve-done : length known ≡ 25 → (v : Answer) (log' w' reply' index' known' : Bytes)
      → indexed_of v log' w' reply' index' ≡ (step_known (known_of known) s m date index log w reply).indexed
      → known' ≡ known_bytes (step_known (known_of known) s m date index log w reply).known → r ≡ v.number + 256 * session_number v.session
      → served_known r log' w' reply' index' known' ≡ serve_asked session m date index log w reply known
  unfolding serve_asked
  serve-done h v log' w' reply' index' known' q z n =
      rw (eq-eqb (length known) 25 h)
      (ap₂ (λ (y : ℕ) (b : Bytes). served_known y log' w' reply' index' b) n z
      ∙ ap (λ (x : Indexed). quick_served (record { indexed = x; known = (step_known (known_of known) s m date index log w reply).known })) q
      ∙ ap (λ (t : Session). quick_served (step_known (known_of known) t m date index log w reply)) e)

pub call-is-serve : CallIsServe
unfolding serve_asked
call-is-serve session m date index log w reply h g =
    let K = learned log w index in
    let e : known_of (known_bytes K) ≡ K = reads_back K (learned-fits log w index h g) in
    let q = quick_is-serve (known_of (known_bytes K)) (session_of session) m date index log w reply e in
    rw (eq-eqb (length (known_bytes K)) 25 (has-length K))
    (ap served_of q.0, λ sm. ap known_bytes (q.1 sm ∙ ap (λ (x : Indexed). learned_of x.outcome.lent x.index) q.0))
