-- A name with no line is not known; lines added leave a yes and a no.
use mathlib.Core.Path.{◌≡◌, refl, sym, ap, ◌∙◌}
use mathlib.Core.Bool.{true, not, ◌&&◌}
use mathlib.Core.List.{◌∷◌, ◌++◌, append-nil}
use mathlib.Core.Logic.{◌⊎◌, inl, inr}
use mathlib.Core.Option.{Option, none, some}
use Prim.Native.Nat.{ℕ, ◌≤◌}
use native.Mathlib.Omega.{arith}
use lib.Dec.{leb}
use borrow.Author.Tests.{leb-true}
use lib.ListN.{length}
use Rattle.std.specs.Prelude.{Ok, Err}
use Rattle.bedrock.specs.Choice.{on}
use Rattle.bedrock.proofs.Choices.{and-true}
use Rattle.buffer.specs.Bytes.{Bytes}
use Rattle.refusal.specs.declared.Refusal.TheVariants as why
use Rattle.kleene.specs.declared.Value.{Value}
use Rattle.kleene.specs.declared.Value.TheVariants.{NotKnown}
use Rattle.kleene.specs.Kleene.{not_of}
use Rattle.antigen.specs.Name.{is_name, reserved, letters_and_digits}
use Rattle.card.specs.Card.{value_in}
use Rattle.card.proofs.Says.{says, lines-added}
use Rattle.query.specs.Reading.{Reading, choice, term, name, negated, not_word, tokens, choice_tokens, term_tokens, joined}
use Rattle.query.specs.Reading.{spaced, text, named, choice_named, term_named, depth, choice_depth, term_depth, Within}
use Rattle.query.specs.Grammar.{reading_of}
use Rattle.query.specs.Value.{value_of, choice_value, term_value}
use Rattle.query.proofs.OneToOne.{every_reading-one-text}
use Rattle.query.proofs.Monotone.{monotone}
use Rattle.evaluate.specs.Evaluate.{evaluate_of}
use Rattle.search.specs.Search.{card_of}
use Rattle.search_laws.specs.Promises.{NeverTestedNeverAbsent, NeverTestedNeverByNot, LinesAddedToACard, LinesAddedOverLogs}
use Rattle.search_laws.proofs.Whole.{read_answer}

-- ---- a query that is a name

abbrev just : Bytes → Reading
just n = choice (term (name n))

just-text : (n : Bytes) → text (just n) ≡ n
unfolding tokens choice_tokens term_tokens joined spaced
just-text n = append-nil n

name-short : (n : Bytes) → is_name n ≡ true → length n ≤ 8
unfolding is_name
name-short n e =
    let p = and-true (leb 1 (length n) && leb (length n) 8) (not (reserved n) && letters_and_digits n) e in
    leb-true (length n) 8 (and-true (leb 1 (length n)) (leb (length n) 8) p.0).1

just-within : (n : Bytes) → is_name n ≡ true → Within (just n)
unfolding named choice_named term_named depth choice_depth term_depth
just-within n e = record {
  names = e;
  brackets = omega arith;
  bytes = omega (arith, ap length (just-text n), name-short n e);
}

just-read : (n : Bytes) → is_name n ≡ true → reading_of n ≡ some (just n)
just-read n e = ap reading_of (sym (just-text n)) ∙ every_reading-one-text (just n) (just-within n e)

just-value : (f : Bytes → Value) (n : Bytes) → value_of f (just n) ≡ f n
unfolding value_of choice_value term_value
just-value f n = refl

pub never_tested_never_absent : NeverTestedNeverAbsent
never_tested_never_absent log waiting page entry n ls r e f =
    let card = (card_of log waiting entry).bytes in
    read_answer log waiting page entry n ls r
    ∙ rw (just-read n e) (ap (λ (v : Value). Ok v) (just-value (value_in card) n ∙ (says card ls r.lines).silent n f))

-- ---- and one that is not and a name

abbrev opposite : Bytes → Reading
opposite n = choice (term (negated (name n)))

opposite-text : (n : Bytes) → text (opposite n) ≡ not_word ++ (0x20 ∷ n)
unfolding tokens choice_tokens term_tokens joined spaced
opposite-text n = ap (λ (x : Bytes). not_word ++ (0x20 ∷ x)) (append-nil n)

opposite-within : (n : Bytes) → is_name n ≡ true → Within (opposite n)
unfolding named choice_named term_named depth choice_depth term_depth
opposite-within n e = record {
  names = e;
  brackets = omega arith;
  bytes = omega (arith, ap length (opposite-text n), name-short n e);
}

opposite-read : (n : Bytes) → is_name n ≡ true → reading_of (not_word ++ (0x20 ∷ n)) ≡ some (opposite n)
opposite-read n e = ap reading_of (sym (opposite-text n)) ∙ every_reading-one-text (opposite n) (opposite-within n e)

opposite-value : (f : Bytes → Value) (n : Bytes) → f n ≡ NotKnown → value_of f (opposite n) ≡ NotKnown
unfolding value_of choice_value term_value
opposite-value f n e = ap not_of e

pub never_tested_never_by_not : NeverTestedNeverByNot
never_tested_never_by_not log waiting page entry n ls r e f =
    let card = (card_of log waiting entry).bytes in
    read_answer log waiting page entry (not_word ++ (0x20 ∷ n)) ls r
    ∙ rw (opposite-read n e) (ap (λ (v : Value). Ok v) (opposite-value (value_in card) n ((says card ls r.lines).silent n f)))

-- ---- lines added

-- a value is that of the query's reading
pub data Asked (card query : Bytes) (v : Value) : Type 0 where
  asked : (q : Reading) → reading_of query ≡ some q → value_of (value_in card) q ≡ v → Asked card query v

ask : (card query : Bytes) (v : Value) → evaluate_of card query ≡ Ok v → Asked card query v
ask card query v = go (reading_of query) refl
  where
    go : (o : Option Reading) → reading_of query ≡ o → on o (Err why.Query) (λ q. Ok (value_of (value_in card) q)) ≡ Ok v → Asked card query v
    go none p e = let z : ◌≡◌ {A = ℕ} 0 1 = cc in absurd (omega arith)
    go (some q) p e = asked q p (cc)

pub lines-added-to-a-card : LinesAddedToACard
lines-added-to-a-card card card' query ls ms v r r' more n e = go (ask card query v e)
  where
    stays : (q : Reading) → value_of (value_in card) q ≡ v → (value_of (value_in card) q ≡ NotKnown) ⊎ (value_of (value_in card) q ≡ value_of (value_in card') q)
        → value_of (value_in card') q ≡ v
    stays q f (inl g) = absurd (n (sym f ∙ g))
    stays q f (inr g) = sym g ∙ f

    go : Asked card query v → evaluate_of card' query ≡ Ok v
    go (asked q p f) =
        rw p (ap (λ (x : Value). Ok x) (stays q f (monotone (value_in card) (value_in card') (lines-added card card' ls ms r r' more) q)))

pub lines-added-over_logs : LinesAddedOverLogs
lines-added-over_logs log waiting page entry log' waiting' page' entry' query ls ms v r r' more n e =
    read_answer log' waiting' page' entry' query ms r'
    ∙ lines-added-to-a-card (card_of log waiting entry).bytes (card_of log' waiting' entry').bytes query ls ms v r.lines r'.lines more n
    (sym (read_answer log waiting page entry query ls r) ∙ e)
