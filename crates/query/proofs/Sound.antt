-- What is read at the front of words has these words for its tokens, lawful names and no more brackets than may be opened.
use mathlib.Core.Path.{◌≡◌, refl, ap, sym, ◌∙◌}
use mathlib.Core.Bool.{Bool, true, ◌&&◌}
use mathlib.Core.List.{List, [], ◌∷◌, ◌++◌, append_assoc}
use mathlib.Core.Option.{none, some}
use Prim.Native.Nat.{ℕ, zero, suc, ◌≤◌, max}
use native.Mathlib.Nat.{max-le}
use native.Mathlib.Omega.{arith}
use Rattle.bedrock.specs.Choice.{on}
use Rattle.bedrock.proofs.Choices.{on_ind, cond_ind}
use Rattle.buffer.specs.Bytes.{Bytes}
use Rattle.antigen.specs.Name.{is_name}
use Rattle.query.specs.Reading.{Reading, Choice, Term, name, group, or_word, and_word, not_word, open_word, close_word, tokens}
use Rattle.query.specs.Reading.{choice_tokens, term_tokens, named, choice_named, term_named, depth, choice_depth, term_depth}
use Rattle.query.specs.Grammar.{Front, after, opening, name_at, list_read_at, choice_at, term_at}
use Rattle.query.proofs.Front.{after_ind}

-- tokens ts before the words vs are ws; the names are lawful, and at most d brackets are open
pub record Read (ws ts vs : List Bytes) (lawful : Bool) (deep d : ℕ) : Type 0 where
  pub words : ts ++ vs ≡ ws
  pub names : lawful ≡ true
  pub brackets : deep ≤ d

abbrev pub OfList : ℕ → List Bytes → Front Reading → Type 0
OfList d ws none = Unit {0}
OfList d ws (some r) = Read ws (tokens r.0) r.1 (named r.0) (depth r.0) d

abbrev pub OfChoice : ℕ → List Bytes → Front Choice → Type 0
OfChoice d ws none = Unit {0}
OfChoice d ws (some r) = Read ws (choice_tokens r.0) r.1 (choice_named r.0) (choice_depth r.0) d

abbrev pub OfTerm : ℕ → List Bytes → Front Term → Type 0
OfTerm d ws none = Unit {0}
OfTerm d ws (some r) = Read ws (term_tokens r.0) r.1 (term_named r.0) (term_depth r.0) d

-- two that are joined by a word t
two-joined : (t : Bytes) (ws us vs ts ts' : List Bytes) {l l' : Bool} {m m' d : ℕ} → Read ws ts (t ∷ us) l m d → Read us ts' vs l' m' d
    → Read ws (ts ++ (t ∷ ts')) vs (l && l') (max m m') d
two-joined t ws us vs ts ts' a b = record {
  words = append_assoc ts (t ∷ ts') vs ∙ ap (λ (x : List Bytes). ts ++ (t ∷ x)) b.words ∙ a.words;
  names = rw a.names b.names;
  brackets = max-le a.brackets b.brackets;
}

in_brackets : (ws us vs ts : List Bytes) {l : Bool} {m d : ℕ} → ws ≡ open_word ∷ us → Read us ts (close_word ∷ vs) l m d
    → Read ws (open_word ∷ (ts ++ (close_word ∷ []))) vs l (suc m) (suc d)
in_brackets ws us vs ts e a = record {
  words = ap (λ (x : List Bytes). open_word ∷ x) (append_assoc ts (close_word ∷ []) vs ∙ a.words) ∙ sym e;
  names = a.names;
  brackets = omega (arith, a.brackets);
}

name-read : (d : ℕ) (ws : List Bytes) → OfTerm d ws (name_at ws)
unfolding name_at tokens named depth
name-read d [] = tt
name-read d (w ∷ ws) =
    cond_ind (OfTerm d (w ∷ ws)) (is_name w) (some (name w, ws)) none (λ e. record { words = refl; names = e; brackets = omega arith }) (λ e. tt)

-- a list in brackets, where one may be opened
group-read : (f d : ℕ) (ws us : List Bytes) → ws ≡ open_word ∷ us → ((m : ℕ) → OfList m us (list_read_at f m us))
    → OfTerm d ws (opening d (λ m. on (list_read_at f m us) none (λ q. after close_word q.1 none (λ vs. some (group q.0, vs)))))
unfolding tokens named depth
group-read f zero ws us e h = tt
group-read f (suc d) ws us e h =
    on_ind (OfTerm (suc d) ws) (list_read_at f d us) none _ (λ _. tt)
    (λ q e₂. let r : OfList d us (some q) = rw e₂ at (h d) in
    after_ind (OfTerm (suc d) ws) close_word q.1 _ _ tt
    (λ vs e₃. in_brackets ws us vs (tokens q.0) e (rw e₃ at r)))

mutual
  unfolding list_read_at tokens named depth

  pub list_read : (f d : ℕ) (ws : List Bytes) → OfList d ws (list_read_at f d ws)
  list_read zero d ws = tt
  list_read (suc f) d ws =
      on_ind (OfList d ws) (choice_at f d ws) none _ (λ _. tt)
      (λ c e. let h : OfChoice d ws (some c) = rw e at (choice-read f d ws) in
      after_ind (OfList d ws) or_word c.1 _ _
      (record { words = h.words; names = h.names; brackets = h.brackets })
      (λ us e₂. on_ind (OfList d ws) (list_read_at f d us) none _ (λ _. tt)
      (λ q e₃. two-joined or_word ws us q.1 (choice_tokens c.0) (tokens q.0) (rw e₂ at h) (rw e₃ at (list_read f d us)))))

  pub choice-read : (f d : ℕ) (ws : List Bytes) → OfChoice d ws (choice_at f d ws)
  choice-read zero d ws = tt
  choice-read (suc f) d ws =
      on_ind (OfChoice d ws) (term_at f d ws) none _ (λ _. tt)
      (λ t e. let h : OfTerm d ws (some t) = rw e at (term-read f d ws) in
      after_ind (OfChoice d ws) and_word t.1 _ _
      (record { words = h.words; names = h.names; brackets = h.brackets })
      (λ us e₂. on_ind (OfChoice d ws) (choice_at f d us) none _ (λ _. tt)
      (λ c e₃. two-joined and_word ws us c.1 (term_tokens t.0) (choice_tokens c.0) (rw e₂ at h) (rw e₃ at (choice-read f d us)))))

  pub term-read : (f d : ℕ) (ws : List Bytes) → OfTerm d ws (term_at f d ws)
  term-read zero d ws = tt
  term-read (suc f) d ws =
      after_ind (OfTerm d ws) not_word ws _ _
      (after_ind (OfTerm d ws) open_word ws _ _ (name-read d ws)
      (λ us e. group-read f d ws us e (λ m. list_read f m us)))
      (λ us e. on_ind (OfTerm d ws) (term_at f d us) none _ (λ _. tt)
      (λ t e₂. let h : OfTerm d us (some t) = rw e₂ at (term-read f d us) in
      record { words = ap (λ (x : List Bytes). not_word ∷ x) h.words ∙ sym e; names = h.names; brackets = h.brackets }))
