-- Replies: their parts and length, and how they come to stand at the front of the buffer.
use mathlib.Core.Path.{◌≡◌, refl, sym, ap, ap₂, ◌∙◌}
use mathlib.Core.List.{[], ◌∷◌, ◌++◌, append_assoc}
use Prim.Native.Nat.{ℕ, ◌+◌, ◌≤◌}
use native.Mathlib.Omega.{arith}
use lib.ListN.{length, get_or, take, drop, set, length-append}
use lib.Seq.{drop-cons, length-take-le}
use Rattle.buffer.specs.Bytes.{Bytes, put}
use Rattle.digits.specs.Number.{digits, be_bytes}
use Rattle.digits.proofs.NumberLaws.{length_digits}
use Rattle.hexadecimal.proofs.HexLaws.{hex-length}
use Rattle.sector_number.specs.declared.SectorNumber.{SectorNumber}
use Rattle.refusal.specs.declared.Refusal.{Refusal}
use Rattle.refusal.specs.Number.{number_of, doubt_of}
use Rattle.message.specs.Reply.{reply, answered, why, place, error_text, error_reply}
use Rattle.buffer.proofs.Put.{put-front-put}
use Rattle.std.specs.Prelude.{Some, None, Option as Optional}

-- size, type and tag of a reply whose body has n bytes
abbrev pub head : ℕ → ℕ → ℕ → Bytes
head type tag n = be_bytes 2 (2 + n) ++ (type ∷ tag ∷ [])

pub length-head : (type tag n : ℕ) → length (head type tag n) ≡ 4
length-head type tag n = omega (arith, length-append (be_bytes 2 (2 + n)) (type ∷ tag ∷ []), length_digits 256 2 (2 + n))

-- a reply is its head and its body
pub reply-parts : (type tag : ℕ) (body : Bytes) → reply type tag body ≡ head type tag (length body) ++ body
unfolding reply
reply-parts type tag body = sym (append_assoc (be_bytes 2 (2 + length body)) (type ∷ tag ∷ []) body)

-- the head at the front, and the body after it
pub head_body : (buffer : Bytes) (type tag : ℕ) (body : Bytes) → put (put buffer 0 (head type tag (length body))) 4 body ≡ answered buffer (reply type tag body)
head_body buffer type tag body =
    let h = head type tag (length body) in
    ap (λ (k : ℕ). put (put buffer 0 h) k body) (sym (length-head type tag (length body)))
    ∙ put-front-put buffer h body
    ∙ ap (answered buffer) (sym (reply-parts type tag body))

-- the size at the front, and two bytes after it
pub size_type_tag : (buffer x : Bytes) (n type tag : ℕ) → 4 ≤ length buffer → x ≡ be_bytes (length (take 2 buffer)) n
    → set (set (x ++ drop 2 buffer) 2 type) 3 tag ≡ put buffer 0 (be_bytes 2 n ++ (type ∷ tag ∷ []))
unfolding digits
size_type_tag buffer x n type tag h e =
    let rest : drop 2 buffer ≡ get_or buffer 2 0 ∷ get_or buffer 3 0 ∷ drop 4 buffer
    = drop-cons buffer 2 0 (omega arith) ∙ ap (λ (z : Bytes). get_or buffer 2 0 ∷ z) (drop-cons buffer 3 0 (omega arith)) in
    rw (e, length-take-le 2 buffer (omega arith), rest)

-- ---- the text of an error

module _ (buffer : Bytes) (tag n : ℕ) (w : Refusal) (d : Optional SectorNumber) (number : n ≡ number_of w) (doubt : d ≡ doubt_of w) where
  text-told : (x : Optional SectorNumber) → d ≡ x → why n ++ place x ≡ error_text w
  text-told x e = ap₂ (λ (k : ℕ) (y : Optional SectorNumber). why k ++ place y) number (sym e ∙ doubt)

  body_told : (k : ℕ) (x : Optional SectorNumber) → d ≡ x → k ≡ length (why n ++ place x)
      → answered buffer (reply 1 tag (0 ∷ k ∷ (why n ++ place x))) ≡ answered buffer (error_reply tag w)
  body_told k x e l =
      ap (λ (i : ℕ). answered buffer (reply 1 tag (0 ∷ i ∷ (why n ++ place x)))) l
      ∙ ap (λ (t : Bytes). answered buffer (reply 1 tag (0 ∷ length t ∷ t))) (text-told x e)

  -- with a sector
  pub error_doubt : (s : SectorNumber) (body : Bytes) → d ≡ Some s → body ≡ 0 ∷ 18 ∷ (why n ++ place (Some s))
      → answered buffer (reply 1 tag body) ≡ answered buffer (error_reply tag w)
  error_doubt s body e b =
      ap (λ (x : Bytes). answered buffer (reply 1 tag x)) b
      ∙ body_told 18 (Some s) e (omega (arith, hex-length 8 s.0))

  -- without one
  pub error_plain : d ≡ None → answered buffer (reply 1 tag (0 ∷ 6 ∷ why n)) ≡ answered buffer (error_reply tag w)
  error_plain e = body_told 6 None e refl
