-- The cases of a reply, one for each return of the code.
use mathlib.Core.Path.{◌≡◌, refl, sym, ap, ap₂, ◌∙◌}
use mathlib.Core.Bool.{Bool, true, false}
use mathlib.Core.List.{[], ◌∷◌, ◌++◌}
use mathlib.Core.Logic.{inl, inr}
use Prim.Native.Nat.{ℕ, ◌-◌, ◌<◌}
use native.Mathlib.Omega.{arith}
use types.Run.{OneOf}
use denote.Enum.Declared.{tag_of as variant}
use lib.ListN.{length, take, drop}
use Rattle.buffer.specs.Bytes.{Bytes, same, put}
use Rattle.refusal.specs.declared.Refusal.TheVariants.{Hello as BadHello}
use Rattle.sector_log.specs.declared.Stored.{Stored}
use Rattle.sector_log.specs.declared.Stored.TheVariants.{New, Duplicate}
use Rattle.sector_log.specs.Parts.{Lent, beside}
use Rattle.block.specs.declared.Block.{Block}
use Rattle.block.specs.Log.{bytes_of}
use Rattle.sector_log.specs.contracts.Stored.{the_type}
use Rattle.reader.proofs.Pieces.{length-bytes}
use Rattle.message.specs.Message.{tag_of, version_of, request_of}
use Rattle.message.specs.Reply.{reply, answered, hello_reply, read_reply, write_reply}
use Rattle.message.specs.declared.Request.{Request}
use Rattle.message.specs.declared.Request.TheVariants.{Hello}
use Rattle.buffer.proofs.Put.{put-none, put-tail}
use Rattle.message.proofs.Replies.{head, head_body}
use Rattle.request.specs.declared.Session.{Session}
use Rattle.request.specs.declared.Session.TheVariants.{Fresh, Greeted}
use Rattle.request.specs.Step.{Outcome, outcome_of, refused, granted, version, written, fresh}
use Rattle.std.specs.Prelude.{Ok, Err, Result}
use Rattle.refusal.specs.declared.Refusal.{Refusal}

-- an outcome by its parts
pub outcome : (n k : ℕ) (s : Session) (log w x y : Bytes) → n ≡ k → x ≡ y
    → outcome_of (record { number = n; session = s }) log w x ≡ record { number = k; session = s; lent = beside log w; reply = y }
outcome n k s log w x y p q = λ i. record { number = p i; session = s; lent = beside log w; reply = q i }

-- a head and nothing after it
pub bodiless : (buffer x : Bytes) (kind tag : ℕ) → x ≡ put buffer 0 (head kind tag 0) → x ≡ answered buffer (reply kind tag [])
bodiless buffer x kind tag e = e ∙ sym (put-none (put buffer 0 (head kind tag 0)) 4) ∙ head_body buffer kind tag []

-- a head, and the bytes of a block after it
pub head-block : (buffer x y log : Bytes) (tag : ℕ) (b : Block) → b.label < 499 → x ≡ put buffer 0 (head 13 tag b.size)
    → y ≡ put (take (length x - 4) (drop 4 x)) 0 (bytes_of log b)
    → take 4 x ++ (y ++ drop (length x - 4) (drop 4 x)) ≡ answered buffer (read_reply tag (bytes_of log b))
head-block buffer x y log tag b short p q =
    let s = bytes_of log b in
    put-tail x y s 4 q
    ∙ ap (λ (z : Bytes). put z 4 s) p
    ∙ ap (λ (k : ℕ). put (put buffer 0 (head 13 tag k)) 4 s) (sym (length-bytes log b short))
    ∙ head_body buffer 13 tag s

-- ---- a hello in a fresh session

module _ (m : Bytes) (L : Lent) (buffer : Bytes) (tag : ℕ) (b : Bool) (e : b ≡ same (version_of m) version) where
  pub hello_other : b ≡ false → refused BadHello tag Fresh L buffer ≡ fresh Hello tag m L buffer
  unfolding fresh
  hello_other q = rw (sym e ∙ q)

  pub hello_right : b ≡ true → granted (hello_reply tag) Greeted L buffer ≡ fresh Hello tag m L buffer
  unfolding fresh
  hello_right q = rw (sym e ∙ q)

-- ---- a write

-- what the store did, if it did not refuse
pub kept : (r : Result Stored Refusal) (s : Stored) (tag : ℕ) (score : Bytes) (L : Lent) (buffer : Bytes) → r ≡ Ok s → granted (write_reply tag score) Greeted L buffer ≡ written r tag score L buffer
kept r s tag score L buffer e = rw e (of s)
  where
    of : (s : Stored) → granted (write_reply tag score) Greeted L buffer ≡ written (Ok s) tag score L buffer
    of (New at) = refl
    of (Duplicate at) = refl

-- ---- by what a message asks and its fields, as they were taken from it

pub fresh_as : (m : Bytes) (L : Lent) (buffer : Bytes) (q p : Request) (tag : ℕ) (o : Outcome) → q ≡ request_of m → q ≡ p → tag ≡ tag_of m → o ≡ fresh p tag m L buffer
    → o ≡ fresh (request_of m) (tag_of m) m L buffer
fresh_as m L buffer q p tag o e d t h = h ∙ ap₂ (λ (x : Request) (y : ℕ). fresh x y m L buffer) (sym d ∙ e) t

pub hello_as : (m : Bytes) (L : Lent) (buffer : Bytes) (tag : ℕ) (o : Outcome) → tag ≡ tag_of m → o ≡ fresh Hello tag m L buffer → o ≡ fresh Hello (tag_of m) m L buffer
hello_as m L buffer tag o t h = h ∙ ap (λ (x : ℕ). fresh Hello x m L buffer) t
