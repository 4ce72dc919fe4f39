-- The value of what is read, step by step, from the values of its parts.
use mathlib.Core.Path.{◌≡◌, refl, ap, ◌∙◌}
use mathlib.Core.Bool.{Bool, true, false}
use mathlib.Core.List.{List, [], ◌∷◌}
use mathlib.Core.Option.{none, some}
use Prim.Native.Nat.{ℕ, suc, ◌+◌, ◌*◌, ◌≤◌, ◌<◌}
use lib.ListN.{length}
use borrow.Author.Tests.{le-leb, lt-leb}
use Rattle.bedrock.specs.Choice.{on}
use Rattle.buffer.specs.Bytes.{Bytes, same}
use Rattle.antigen.specs.Name.{is_name}
use Rattle.kleene.specs.declared.Value.{Value}
use Rattle.kleene.specs.Kleene.{not_of, and_of, or_of}
use Rattle.query.specs.Reading.{Reading, choice, or_else, term, and_also, Term, negated, group, or_word, and_word, not_word, open_word, close_word, most_bytes, most_open}
use Rattle.query.specs.Grammar.{Front, words, choose, after, name_at, list_read_at, choice_at, term_at, all_read, reading_of}
use Rattle.query.specs.Value.{value_of, choice_value, term_value, Valued, valued}
use Rattle.query.proofs.Front.{NotNext, after_other, after_word}

-- a value, and where the word t follows, by a table with it the value behind t
abbrev pub join_step : Bytes → (Value → Value → Value) → Valued → (List Bytes → Valued) → Valued
join_step t op o k = on o none (λ c. after t c.1 (some c) (λ vs. on (k vs) none (λ q. some (op c.0 q.0, q.1))))

abbrev pub not_step : Valued → Valued
not_step o = on o none (λ t. some (not_of t.0, t.1))

-- the other bracket has to follow
abbrev pub close_step : Valued → Valued
close_step o = on o none (λ q. after close_word q.1 none (λ us. some (q.0, us)))

module _ {A B : Type 0} (t : Bytes) (op : Value → Value → Value) (one : A → B) (two : A → B → B) (f : A → Value) (g : B → Value)
    (e₁ : (a : A) → g (one a) ≡ f a) (e₂ : (a : A) (b : B) → g (two a b) ≡ op (f a) (g b)) where
  second : (a : A) (o : Front B) → valued g (on o none (λ q. some (two a q.0, q.1))) ≡ on (valued g o) none (λ q. some (op (f a) q.0, q.1))
  second a none = refl
  second a (some q) = ap (λ (v : Value). some (v, q.1)) (e₂ a q.0)

  join_fused : (o : Front A) (k : List Bytes → Front B)
      → valued g (on o none (λ c. after t c.1 (some (one c.0, c.1)) (λ vs. on (k vs) none (λ q. some (two c.0 q.0, q.1)))))
      ≡ join_step t op (valued f o) (λ vs. valued g (k vs))
  unfolding after
  join_fused none k = refl
  join_fused (some (a, [])) k = ap (λ (v : Value). some (v, [])) (e₁ a)
  join_fused (some (a, w ∷ ws)) k = go (same w t)
    where
      go : (b : Bool) → valued g (choose b (λ vs. on (k vs) none (λ q. some (two a q.0, q.1))) ws (some (one a, w ∷ ws)))
          ≡ choose b (λ vs. on (valued g (k vs)) none (λ q. some (op (f a) q.0, q.1))) ws (some (f a, w ∷ ws))
      go true = second a (k ws)
      go false = ap (λ (v : Value). some (v, w ∷ ws)) (e₁ a)

negated_fused : (g : Bytes → Value) (o : Front Term) → valued (term_value g) (on o none (λ t. some (negated t.0, t.1))) ≡ not_step (valued (term_value g) o)
unfolding value_of
negated_fused g none = refl
negated_fused g (some t) = refl

group_fused : (g : Bytes → Value) (o : Front Reading)
    → valued (term_value g) (on o none (λ q. after close_word q.1 none (λ us. some (group q.0, us)))) ≡ close_step (valued (value_of g) o)
unfolding value_of after
group_fused g none = refl
group_fused g (some (q, [])) = refl
group_fused g (some (q, w ∷ ws)) = go (same w close_word)
  where
    go : (b : Bool) → valued (term_value g) (choose b (λ us. some (group q, us)) ws none) ≡ choose b (λ us. some (value_of g q, us)) ws none
    go true = refl
    go false = refl

module _ (g : Bytes → Value) (f d : ℕ) (ws : List Bytes) where
  pub list_step : valued (value_of g) (list_read_at (suc f) d ws) ≡ join_step or_word or_of (valued (choice_value g) (choice_at f d ws)) (λ vs. valued (value_of g) (list_read_at f d vs))
  unfolding list_read_at value_of
  list_step = join_fused or_word or_of choice or_else (choice_value g) (value_of g) (λ c. refl) (λ c q. refl) (choice_at f d ws) (λ vs. list_read_at f d vs)

  pub choice-step : valued (choice_value g) (choice_at (suc f) d ws) ≡ join_step and_word and_of (valued (term_value g) (term_at f d ws)) (λ vs. valued (choice_value g) (choice_at f d vs))
  unfolding list_read_at value_of
  choice-step = join_fused and_word and_of term and_also (term_value g) (choice_value g) (λ t. refl) (λ t c. refl) (term_at f d ws) (λ vs. choice_at f d vs)

  pub not_step_lem : valued (term_value g) (term_at (suc f) d (not_word ∷ ws)) ≡ not_step (valued (term_value g) (term_at f d ws))
  unfolding list_read_at
  not_step_lem = ap (valued (term_value g)) (after_word not_word ws _ _) ∙ negated_fused g (term_at f d ws)

  pub no_room : term_at (suc f) 0 (open_word ∷ ws) ≡ none
  unfolding list_read_at
  no_room = after_other not_word (open_word ∷ ws) _ _ refl ∙ after_word open_word ws _ _

  pub open_step : valued (term_value g) (term_at (suc f) (suc d) (open_word ∷ ws)) ≡ close_step (valued (value_of g) (list_read_at f d ws))
  unfolding list_read_at
  open_step = ap (valued (term_value g)) (after_other not_word (open_word ∷ ws) _ _ refl ∙ after_word open_word ws _ _) ∙ group_fused g (list_read_at f d ws)

  pub name-step : NotNext not_word ws → NotNext open_word ws → term_at (suc f) d ws ≡ name_at ws
  unfolding list_read_at
  name-step n o = after_other not_word ws _ _ n ∙ after_other open_word ws _ _ o

-- ---- a name

pub no_name : (g : Bytes → Value) → valued (term_value g) (name_at []) ≡ none
unfolding name_at
no_name g = refl

module _ (g : Bytes → Value) (w : Bytes) (ws : List Bytes) where
  pub name-valued : is_name w ≡ true → valued (term_value g) (name_at (w ∷ ws)) ≡ some (g w, ws)
  unfolding name_at value_of
  name-valued e = rw e

  pub name-refused : is_name w ≡ false → valued (term_value g) (name_at (w ∷ ws)) ≡ none
  unfolding name_at
  name-refused e = rw e

-- ---- the whole

-- x, or what k makes of a value with no words behind it
abbrev pub whole_step : {C : Type 0} → C → (Value → C) → Valued → C
whole_step x k none = x
whole_step x k (some (v, [])) = k v
whole_step x k (some (v, w ∷ ws)) = x

whole-valued : {C : Type 0} (g : Bytes → Value) (x : C) (k : Value → C) (o : Front Reading)
    → on (all_read o) x (λ q. k (value_of g q)) ≡ whole_step x k (valued (value_of g) o)
whole-valued g x k none = refl
whole-valued g x k (some (q, [])) = refl
whole-valued g x k (some (q, w ∷ ws)) = refl

pub reading-valued : {C : Type 0} (g : Bytes → Value) (b : Bytes) (x : C) (k : Value → C) → length b ≤ most_bytes
    → on (reading_of b) x (λ q. k (value_of g q)) ≡ whole_step x k (valued (value_of g) (list_read_at (3 * length b + 6) most_open (words b)))
unfolding reading_of
reading-valued g b x k h = rw (le-leb (length b) most_bytes h) (whole-valued g x k (list_read_at (3 * length b + 6) most_open (words b)))

pub too_long : (b : Bytes) → most_bytes < length b → reading_of b ≡ none
unfolding reading_of
too_long b h = rw (lt-leb (length b) most_bytes h)
