-- A name at a place: none, another word, or a name and what the card says of it.
use mathlib.Core.Path.{◌≡◌, sym, ap, ◌∙◌}
use mathlib.Core.Bool.{Bool, true, false}
use mathlib.Core.Option.{some}
use Prim.Native.Nat.{ℕ, ◌+◌, ◌-◌, ◌≤◌, ◌<◌}
use native.Mathlib.Omega.{arith}
use lib.ListN.{length, take, drop}
use Rattle.std.specs.Prelude.{Some, None}
use Rattle.buffer.specs.Bytes.{Bytes}
use Rattle.kleene.specs.declared.Value.{Value}
use Rattle.antigen.specs.Name.{is_name}
use Rattle.card.specs.Card.{value_in}
use Rattle.query.specs.Place.{first_word, words_from}
use Rattle.query.proofs.Places.{word_part, from-outside, from-inside}
use Rattle.query.proofs.Fused.{no_name, name-valued, name-refused}
use Rattle.evaluate.specs.Read.{OfName}

module _ (card s : Bytes) (at : ℕ) where
  pub no_word_left : length s < at → OfName card s at None
  no_word_left h = record { ahead = tt; exact = λ f _. rw (from-outside s at h) (sym (no_name (value_in card))) }

  -- a word that ends at e
  module _ (h : at ≤ length s) {e : ℕ} (q : e ≡ at + length (first_word (drop at s))) {t : Bool} (p : t ≡ is_name (take (e - at) (drop at s))) where
    judged : t ≡ is_name (first_word (drop at s))
    judged = p ∙ ap is_name (word_part s at e q)

    pub not-a-name : t ≡ false → OfName card s at None
    not-a-name z = record {
      ahead = tt;
      exact = λ f _. rw (from-inside s at h) (sym (name-refused (value_in card) (first_word (drop at s)) _ (sym judged ∙ z)));
    }

    pub is-a-name : t ≡ true → {v : Value} → v ≡ value_in card (take (e - at) (drop at s)) → OfName card s at (Some (record { value = v; next = e + 1 }))
    is-a-name z {v} w = record {
      ahead = omega arith;
      exact = λ f _. rw (from-inside s at h, ← q)
          (ap (λ (x : Value). some (x, words_from s (e + 1))) (w ∙ ap (value_in card) (word_part s at e q))
          ∙ sym (name-valued (value_in card) (first_word (drop at s)) _ (sym judged ∙ z)));
    }
