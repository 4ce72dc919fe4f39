-- A query as a whole: too long, ill-formed, with words behind it, or told.
use mathlib.Core.Path.{◌≡◌, sym, ap, ◌∙◌}
use mathlib.Core.List.{List}
use mathlib.Core.Option.{some}
use Prim.Native.Nat.{◌+◌, ◌*◌, ◌≤◌, ◌<◌}
use native.Mathlib.Omega.{arith}
use lib.ListN.{length}
use Rattle.std.specs.Prelude.{Option, Some, None, Ok, Err}
use Rattle.buffer.specs.Bytes.{Bytes}
use Rattle.refusal.specs.declared.Refusal.TheVariants.{Query}
use Rattle.card.specs.Card.{value_in}
use Rattle.query.specs.Reading.{most_bytes, most_open}
use Rattle.query.specs.Grammar.{list_read_at}
use Rattle.query.specs.Place.{words_from}
use Rattle.query.specs.Value.{value_of, valued}
use Rattle.query.proofs.Places.{from_start, from-outside, from-inside}
use Rattle.query.proofs.Fused.{whole_step, reading-valued, too_long}
use Rattle.evaluate.specs.declared.Read.{Read}
use Rattle.evaluate.specs.Read.{behind, OfList}
use Rattle.evaluate.specs.Evaluate.{evaluate_of}

module _ (card s : Bytes) where
  pub long-refused : most_bytes < length s → Err Query ≡ evaluate_of card s
  long-refused h = rw (too_long s h)

  module _ (h : length s ≤ most_bytes) {r : Option Read} (R : OfList card s 0 most_open r) where
    by_list : whole_step (Err Query) Ok (behind s r) ≡ evaluate_of card s
    by_list =
        let f = 3 * length s + 6 in
        sym (reading-valued (value_in card) s (Err Query) Ok h
        ∙ ap (whole_step (Err Query) Ok)
        (ap (λ (ws : List Bytes). valued (value_of (value_in card)) (list_read_at f most_open ws)) (sym (from_start s)) ∙ sym (R.exact f (omega arith))))

    pub ill-refused : r ≡ None → Err Query ≡ evaluate_of card s
    ill-refused d = ap (λ (x : Option Read). whole_step (Err Query) Ok (behind s x)) (sym d) ∙ by_list

    module _ {p : Read} (d : r ≡ Some p) where
      by_words : (ws : List Bytes) → words_from s p.next ≡ ws → whole_step (Err Query) Ok (some (p.value, ws)) ≡ evaluate_of card s
      by_words ws e =
          ap (λ (x : List Bytes). whole_step (Err Query) Ok (some (p.value, x))) (sym e)
          ∙ (ap (λ (x : Option Read). whole_step (Err Query) Ok (behind s x)) (sym d) ∙ by_list)

      pub more-refused : p.next ≤ length s → Err Query ≡ evaluate_of card s
      more-refused q = by_words _ (from-inside s p.next q)

      pub all_told : length s < p.next → Ok p.value ≡ evaluate_of card s
      all_told q = by_words _ (from-outside s p.next q)
