-- A list and a choice as parts that a word joins, a term by its first word.
use mathlib.Core.Path.{◌≡◌, sym, ap, ◌∙◌}
use mathlib.Core.Bool.{true, false}
use mathlib.Core.List.{List, ◌∷◌}
use Prim.Native.Nat.{ℕ, zero, suc, ◌+◌, ◌-◌, ◌*◌, ◌≤◌}
use native.Mathlib.Omega.{arith}
use lib.ListN.{length}
use Rattle.std.specs.Prelude.{Option, None}
use Rattle.buffer.specs.Bytes.{Bytes}
use Rattle.kleene.specs.Kleene.{and_of, or_of}
use Rattle.card.specs.Card.{value_in}
use Rattle.query.specs.Reading.{or_word, and_word, not_word, open_word}
use Rattle.query.specs.Grammar.{list_read_at, choice_at, term_at}
use Rattle.query.specs.Place.{words_from, next_is}
use Rattle.query.specs.Value.{value_of, choice_value, term_value, valued}
use Rattle.query.proofs.Places.{another_next, Next, next_known}
use Rattle.query.proofs.Fused.{not_step, close_step, list_step, choice-step, not_step_lem, no_room, open_step, name-step}
use Rattle.evaluate.specs.declared.Read.{Read}
use Rattle.evaluate.specs.Read.{behind, negated_of, closed_of, OfList, OfTerm, OfName}
use Rattle.evaluate.proofs.Steps.{ahead-negated, ahead_closed, negated-behind, closed_behind, Joining}

-- ---- a list of choices, a choice of terms

abbrev pub list_joins : Bytes → ℕ → Joining
list_joins card room = record {
  word = or_word;
  op = or_of;
  place = 2;
  inner = λ f ws. valued (choice_value (value_in card)) (choice_at f room ws);
  outer = λ f ws. valued (value_of (value_in card)) (list_read_at f room ws);
  step = λ f ws. list_step (value_in card) f room ws;
}

abbrev pub choice_joins : Bytes → ℕ → Joining
choice_joins card room = record {
  word = and_word;
  op = and_of;
  place = 1;
  inner = λ f ws. valued (term_value (value_in card)) (term_at f room ws);
  outer = λ f ws. valued (choice_value (value_in card)) (choice_at f room ws);
  step = λ f ws. choice-step (value_in card) f room ws;
}

-- ---- a term, by its first word

module _ (card s : Bytes) (at room : ℕ) where
  pub not-read : next_is not_word (words_from s at) ≡ true → {r x : Option Read} → OfTerm card s (at + 4) room r → x ≡ negated_of r → OfTerm card s at room x
  not-read q {r} R e = rw e (record { ahead = ahead-negated (at + 4) at (omega arith) r R.ahead; exact = go })
    where
      w : Next s at not_word
      w = next_known s at not_word q

      go : (f : ℕ) → 3 * (length s + 1 - at) + 1 ≤ f → behind s (negated_of r) ≡ valued (term_value (value_in card)) (term_at f room (words_from s at))
      go zero h = absurd (omega arith)
      go (suc f) h =
          sym (negated-behind s r) ∙ (ap not_step (R.exact f (omega (arith, w.inside)))
          ∙ sym (ap (λ (x : List Bytes). valued (term_value (value_in card)) (term_at (suc f) room x)) w.words ∙ not_step_lem (value_in card) f room (words_from s (at + 4))))

  pub none_may_open : next_is open_word (words_from s at) ≡ true → room ≡ 0 → OfTerm card s at room None
  none_may_open q z = record { ahead = tt; exact = go }
    where
      w : Next s at open_word
      w = next_known s at open_word q

      go : (f : ℕ) → 3 * (length s + 1 - at) + 1 ≤ f → behind s None ≡ valued (term_value (value_in card)) (term_at f room (words_from s at))
      go zero h = absurd (omega arith)
      go (suc f) h = rw (z, w.words, no_room (value_in card) f room (words_from s (at + (length open_word + 1))))

  pub brackets-read : next_is open_word (words_from s at) ≡ true → (room ≡ 0 → ⊥) → {r x : Option Read} → OfList card s (at + 2) (room - 1) r → x ≡ closed_of s r → OfTerm card s at room x
  brackets-read q z {r} R e = rw e (record { ahead = ahead_closed s (at + 2) at (omega arith) r R.ahead; exact = go })
    where
      w : Next s at open_word
      w = next_known s at open_word q

      go : (f : ℕ) → 3 * (length s + 1 - at) + 1 ≤ f → behind s (closed_of s r) ≡ valued (term_value (value_in card)) (term_at f room (words_from s at))
      go zero h = absurd (omega arith)
      go (suc f) h =
          let y : room ≡ suc (room - 1) = omega arith in
          sym (closed_behind s r) ∙ (ap close_step (R.exact f (omega (arith, w.inside)))
          ∙ sym (ap (λ (x : List Bytes). valued (term_value (value_in card)) (term_at (suc f) room x)) w.words
          ∙ (ap (λ (d : ℕ). valued (term_value (value_in card)) (term_at (suc f) d (open_word ∷ words_from s (at + 2)))) y
          ∙ open_step (value_in card) f (room - 1) (words_from s (at + 2)))))

  pub name-read : next_is not_word (words_from s at) ≡ false → next_is open_word (words_from s at) ≡ false → {r : Option Read} → OfName card s at r → OfTerm card s at room r
  name-read n o {r} R = record { ahead = R.ahead; exact = go }
    where
      go : (f : ℕ) → 3 * (length s + 1 - at) + 1 ≤ f → behind s r ≡ valued (term_value (value_in card)) (term_at f room (words_from s at))
      go zero h = absurd (omega arith)
      go (suc f) h =
          R.exact f (omega arith)
          ∙ sym (ap (valued (term_value (value_in card)))
          (name-step (value_in card) f room (words_from s at) (another_next not_word (words_from s at) n) (another_next open_word (words_from s at) o)))
