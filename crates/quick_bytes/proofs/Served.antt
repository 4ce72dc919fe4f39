-- A request by what was read from the bytes, and what is then written to them.
use mathlib.Core.Path.{◌≡◌, ap, ◌∙◌}
use Rattle.buffer.specs.Bytes.{Bytes}
use Rattle.known.specs.declared.Known.{Known}
use Rattle.request.specs.declared.Answer.{Answer}
use Rattle.request.specs.declared.Session.{Session}
use Rattle.indexed.specs.Indexed.{indexed_of}
use Rattle.known_request.specs.declared.Served.{Served}
use Rattle.known_request.specs.Quick.{Quick, quick_of, step_known}
use Rattle.known_bytes.specs.KnownBytes.{known_bytes, known_of}

pub served_by : (known : Bytes) (s : Session) (m date index log w reply : Bytes) (k : Known) → k ≡ known_of known → (v : Served) (log' w' reply' index' : Bytes)
    → quick_of v log' w' reply' index' ≡ step_known k s m date index log w reply → (r : Answer) → r ≡ v.answer → (known' : Bytes) → known' ≡ known_bytes v.known
    → (indexed_of r log' w' reply' index' ≡ (step_known (known_of known) s m date index log w reply).indexed)
    × (known' ≡ known_bytes (step_known (known_of known) s m date index log w reply).known)
served_by known s m date index log w reply k p v log' w' reply' index' q r e known' z =
    let o : quick_of v log' w' reply' index' ≡ step_known (known_of known) s m date index log w reply =
    q ∙ ap (λ (x : Known). step_known x s m date index log w reply) p in
    (ap (λ (x : Answer). indexed_of x log' w' reply' index') e ∙ ap (λ (x : Quick). x.indexed) o, z ∙ ap (λ (x : Quick). known_bytes x.known) o)
