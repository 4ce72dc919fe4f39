-- Good lines: the name of each is behind those of all before it.
use mathlib.Core.Path.{◌≡◌, sym, ap, ◌∙◌}
use mathlib.Core.Bool.{true, ◌&&◌, true≢false}
use mathlib.Core.List.Memᴰ
use mathlib.Core.List.{List, [], ◌∷◌, ◌++◌, Memᴰ}
use mathlib.Core.Logic.{◌⊎◌, inl, inr, ◌≢◌}
use Rattle.bedrock.proofs.Choices.{and-true}
use Rattle.buffer.specs.Bytes.{Bytes}
use Rattle.antigen.specs.Name.{is_name, before}
use Rattle.antigen.proofs.Before.{before_self, before_trans}
use Rattle.card.specs.Card.{Line, good_from}

-- the tests of the first of good lines
pub good-first : (n : Bytes) (l : Line) (ls : List Line) → good_from n (l ∷ ls) ≡ true → (is_name l.name ≡ true) × (before n l.name ≡ true) × (good_from l.name ls ≡ true)
unfolding good_from
good-first n l ls e =
    let p = and-true (is_name l.name) (before n l.name && good_from l.name ls) e in
    let q = and-true (before n l.name) (good_from l.name ls) p.1 in
    (p.0, q.0, q.1)

-- every name is behind n
pub good-behind : (n : Bytes) (ls : List Line) → good_from n ls ≡ true → (m : Line) → Memᴰ m ls → before n m.name ≡ true
good-behind n [] e m h = absurd (Memᴰ.not-nil h)
good-behind n (l ∷ ls) e m h = go (Memᴰ.cases_cons h) (good-behind l.name ls)
  where
    go : (m ≡ l) ⊎ Memᴰ m ls → (good_from l.name ls ≡ true → (m : Line) → Memᴰ m ls → before l.name m.name ≡ true) → before n m.name ≡ true
    go (inl q) f = ap (λ (k : Line). before n k.name) q ∙ (good-first n l ls e).1
    go (inr g) f = let p = good-first n l ls e in before_trans n l.name m.name p.1 (f p.2 m g)

-- no line behind the first has its name
pub good_other : (n : Bytes) (l : Line) (ls : List Line) → good_from n (l ∷ ls) ≡ true → (m : Line) → Memᴰ m ls → l.name ≢ m.name
good_other n l ls e m h q =
    true≢false (sym (good-behind l.name ls (good-first n l ls e).2 m h) ∙ ap (before l.name) (sym q) ∙ before_self l.name)

-- lines behind others are good
pub good-rest : (n : Bytes) (x ls : List Line) → good_from n (x ++ ls) ≡ true → (k : Bytes) × (good_from k ls ≡ true)
good-rest n [] ls e = (n, e)
good-rest n (l ∷ x) ls e = good-rest l.name x ls (good-first n l (x ++ ls) e).2
