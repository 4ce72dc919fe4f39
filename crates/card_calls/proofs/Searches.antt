-- The answer of a card search is small, and is read back as it was.
use mathlib.Core.Path.{◌≡◌, refl, sym, ap, ◌∙◌}
use mathlib.Core.Bool.{Bool}
use mathlib.Core.List.{[], ◌∷◌}
use Prim.Native.Nat.{ℕ, ◌+◌, ◌*◌, ◌/◌, ◌%◌, ◌≤◌, ◌<◌}
use native.Mathlib.Nat.{zero-add}
use native.Mathlib.Omega.{arith}
use lib.Dec.{leb}
use borrow.Author.Tests.{le-leb, lt-leb}
use lib.ListN.{length}
use Rattle.std.specs.Prelude.{Result, Ok, Err, ⊤}
use Rattle.bedrock.proofs.Choices.{cond_ind, on_ind}
use Rattle.buffer.specs.Bytes.{Bytes}
use Rattle.kleene.specs.declared.Value.{Value}
use Rattle.refusal.specs.Number.{told_sector}
use Rattle.refusal.specs.declared.Refusal.{Refusal}
use Rattle.sector_log.specs.LookUp.{lent_allowed}
use Rattle.sector_log.specs.Parts.{tape}
use Rattle.entry.specs.Entry.{entry_of}
use Rattle.leaf.specs.declared.Extent.TheVariants as extent
use Rattle.file.specs.declared.Located.TheVariants as part
use Rattle.file.specs.File.{page_allowed, entry_readable}
use Rattle.file.proofs.Tests.{shown}
use Rattle.fill.specs.Fill.{Read, byte_at}
use Rattle.fill.proofs.Tests.{zero-page}
use Rattle.file_laws.proofs.Gathered.{gathers}
use Rattle.file_laws.proofs.Filled.{byte-refused}
use Rattle.kleene.specs.declared.Value.TheVariants.{Yes, No, NotKnown}
use Rattle.card.specs.Card.{well_formed}
use Rattle.query.specs.Grammar.{reading_of}
use Rattle.evaluate.specs.Evaluate.{evaluate_of}
use Rattle.card_answer.specs.CardAnswer.{judged, once_read, answer_number}
use Rattle.search.specs.Search.{longest_card, card_of, search_of}
use Rattle.results.specs.Sizes.{most_both}
use Rattle.card_calls.specs.Search.{value_from, told_number, answer_sector, search_result, is_card, card_number}
use Rattle.card_calls.specs.Unpacked as claims
use Rattle.results.proofs.Numbers.{number-bounds}
use Rattle.file_bounds.proofs.Bounds.{refused-within}

-- ---- the sector is one of the longest log and waiting part

-- the sector of the offset that stops the reading of a card
stop-told : (log waiting entry : Bytes) (w : Refusal) → (card_of log waiting entry).stop ≡ Err w → told_sector w ≤ most_both
stop-told log waiting entry w e =
    let lent = lent_allowed (length log) (length waiting) in
    let both = tape log waiting in
    let n = length (card_of log waiting entry).bytes in
    let read : ℕ → Read = byte_at lent both entry in
    let q = ((gathers read (entry_of entry).size 0).ends w e).1 in
    let x = byte-refused lent both entry (0 ∷ []) zero-page n w (ap read (sym (zero-add n)) ∙ q) in
    refused-within log waiting (0 ∷ []) entry n (Err w) (shown log waiting (0 ∷ []) entry n (Err w) (sym x)) w refl

abbrev Few : Result Value Refusal → Type 0
Few a = answer_sector a ≤ most_both

evaluate_few : (card query : Bytes) → Few (evaluate_of card query)
evaluate_few card query = on_ind Few (reading_of query) _ _ (λ _. omega arith) (λ q _. omega arith)

judged_few : (card query : Bytes) → Few (judged card query)
unfolding judged
judged_few card query = cond_ind Few (well_formed card) _ _ (λ _. evaluate_few card query) (λ _. omega arith)

once_few : (s : Result ⊤ Refusal) (card query : Bytes) → ((w : Refusal) → s ≡ Err w → told_sector w ≤ most_both) → Few (once_read s card query)
once_few (Ok tt) card query h = judged_few card query
once_few (Err w) card query h = h w refl

search_few : (log waiting page entry query : Bytes) → Few (search_of log waiting page entry query)
unfolding search_of
search_few log waiting page entry query =
    cond_ind Few (lent_allowed (length log) (length waiting)) _ _
    (λ _. cond_ind Few (page_allowed page) _ _
    (λ _. cond_ind Few (entry_readable entry) _ _
    (λ _. cond_ind Few (leb (entry_of entry).size longest_card) _ _
    (λ _. once_few (card_of log waiting entry).stop (card_of log waiting entry).bytes query (stop-told log waiting entry))
    (λ _. omega arith))
    (λ _. omega arith))
    (λ _. omega arith))
    (λ _. omega arith)

-- of the code's answer
pub search_small : (log waiting page entry query : Bytes) (a : Result Value Refusal) → a ≡ search_of log waiting page entry query → answer_sector a ≤ most_both
search_small log waiting page entry query a e = rw e (search_few log waiting page entry query)

-- ---- the number and the value have 8 bits each

pub told_few : (a : Result Value Refusal) → told_number a ≤ 3
told_few (Ok Yes) = omega arith
told_few (Ok No) = omega arith
told_few (Ok NotKnown) = omega arith
told_few (Err w) = omega arith

number_few : (a : Result Value Refusal) → answer_number a ≤ 26
number_few (Ok v) = omega arith
number_few (Err w) = (number-bounds w).1

-- ---- what a caller reads back

pub value_goes_round : claims.ValueGoesRound
unfolding value_from
value_goes_round Yes = refl
value_goes_round No = refl
value_goes_round NotKnown = refl

value-told : (a : Result Value Refusal) → value_from (told_number a) ≡ claims.value_told a
unfolding value_from
value-told (Ok v) = value_goes_round v
value-told (Err w) = refl

parts : (n v s : ℕ) → n < 256 → v < 256 → let r = n + 256 * (v + 256 * s) in (r % 256 ≡ n) × (r / 256 % 256 ≡ v) × (r / 256 / 256 ≡ s)
parts n v s h k =
    let r = n + 256 * (v + 256 * s) in
    let u : r / 256 ≡ v + 256 * s = omega arith in
    (omega arith, omega arith, ap (λ (x : ℕ). x / 256) u ∙ omega arith)

pub search_unpacks : claims.SearchUnpacks
search_unpacks a =
    let p = parts (answer_number a) (told_number a) (answer_sector a) (omega (arith, number_few a)) (omega (arith, told_few a)) in
    (p.0, ap value_from p.1 ∙ value-told a, p.2)

-- of the code's parts
pub searched_so : (a b : Result Value Refusal) (k v s : ℕ) → a ≡ b → k ≡ answer_number a → v ≡ told_number a → s ≡ answer_sector a → k + 256 * (v + 256 * s) ≡ search_result b
searched_so a b k v s e f g h = (λ i. f i + 256 * (g i + 256 * h i)) ∙ ap search_result e

-- ---- whether bytes are a card

-- more than 4,096 are none
pub long_no_card : (s : Bytes) → longest_card < length s → 0 ≡ card_number (is_card s)
unfolding is_card
long_no_card s h = rw (lt-leb (length s) longest_card h) refl

-- no more are one if they are well-formed
pub short-card : (s : Bytes) (b t : Bool) → length s ≤ longest_card → t ≡ well_formed s → t ≡ b → card_number b ≡ card_number (is_card s)
unfolding is_card
short-card s b t h e q = rw (le-leb (length s) longest_card h, sym e ∙ q) refl
