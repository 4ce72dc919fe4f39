-- What is well-formed is what encoding makes, of one list of characters.
use mathlib.Core.Path.{◌≡◌, refl, sym, ap, ◌∙◌}
use mathlib.Core.Bool.{true, not, ◌&&◌}
use mathlib.Core.List.{List, [], ◌∷◌, ◌++◌}
use Prim.Native.Nat.{ℕ, zero, suc, ◌+◌, ◌<◌}
use native.Mathlib.Omega.{arith}
use lib.Dec.{eqb}
use lib.ListN.{length}
use Rattle.bedrock.proofs.Choices.{and-true}
use Rattle.buffer.specs.Bytes.{Bytes}
use Rattle.utf8.specs.Grammar.{follows, well_formed_text}
use Rattle.utf8.specs.Encoding.{scalar, scalars, character, encode, decode_from, decode}
use Rattle.utf8.specs.Pinned.{Pinned}
use Rattle.utf8.proofs.Characters.{accept_character, decode-character, front}

accepted : (cs : List ℕ) → scalars cs ≡ true → well_formed_text (encode cs) ≡ true
unfolding encode follows
accepted [] e = refl
accepted (c ∷ cs) e =
    let p = and-true (scalar c && not (eqb c 0)) (scalars cs) e in
    let q = and-true (scalar c) (not (eqb c 0)) p.0 in
    accept_character c (encode cs) q.0 q.1 ∙ accepted cs p.1

decoded : (cs : List ℕ) → decode (encode cs) ≡ cs
unfolding encode decode_from
decoded [] = refl
decoded (c ∷ cs) = decode-character c (encode cs) ∙ ap (λ (ds : List ℕ). c ∷ ds) (decoded cs)

abbrev Encoded : Bytes → Type 0
Encoded s = (scalars (decode s) ≡ true) × (encode (decode s) ≡ s)

-- the first character, and the rest, which is shorter
first : (s : Bytes) → ((r : Bytes) → length r < length s → well_formed_text r ≡ true → Encoded r) → well_formed_text s ≡ true → Encoded s
unfolding encode decode_from
first [] f e = (refl, refl)
first (b ∷ bs) f e =
    let t = front b bs e in
    let c = t.0 in
    let rest = t.1 in
    let i = f rest t.4 t.5 in
    let d : decode (b ∷ bs) ≡ c ∷ decode rest = ap decode t.3 ∙ decode-character c rest in
    (rw (d, t.2) i.0, ap encode d ∙ ap (λ (y : Bytes). character c ++ y) i.1 ∙ sym t.3)

-- of fewer than n bytes
encoded : (n : ℕ) (s : Bytes) → length s < n → well_formed_text s ≡ true → Encoded s
encoded zero s h e = absurd (omega arith)
encoded (suc n) s h e = first s (λ r k. encoded n r (omega arith)) e

pub pinned : Pinned
pinned = record {
  accepted = accepted;
  decoded = λ cs e. decoded cs;
  encoded = λ s e. encoded (length s + 1) s (omega arith) e;
  one = λ cs ds e f p. sym (decoded cs) ∙ ap decode p ∙ decoded ds;
}
