-- The returns of the code, by what a message asks and its fields, as they were taken from it.
use mathlib.Core.Path.{◌≡◌, sym, ap₂, ◌∙◌}
use Prim.Native.Nat.{ℕ}
use Rattle.buffer.specs.Bytes.{Bytes}
use Rattle.sector_log.specs.Parts.{Lent}
use Rattle.message.specs.Message.{tag_of, request_of}
use Rattle.message.specs.declared.Request.{Request}
use Rattle.indexed.specs.Indexed.{Indexed, greeted_by}

pub greeted_as : (m date index : Bytes) (L : Lent) (buffer : Bytes) (q p : Request) (tag : ℕ) (o : Indexed) → q ≡ request_of m → q ≡ p → tag ≡ tag_of m
    → o ≡ greeted_by date p tag m index L buffer → o ≡ greeted_by date (request_of m) (tag_of m) m index L buffer
greeted_as m date index L buffer q p tag o e d t h = h ∙ ap₂ (λ (x : Request) (y : ℕ). greeted_by date x y m index L buffer) (sym d ∙ e) t
