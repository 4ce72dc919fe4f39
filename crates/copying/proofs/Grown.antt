-- A log after writes: what was there stays, and what is new is found and is the block of a visit.
use mathlib.Core.Path.{◌≡◌, refl, sym, ap, subst, ◌∙◌}
use mathlib.Core.Bool.{Bool, true, false, cond, ◌&&◌}
use mathlib.Core.List.Memᴰ
use mathlib.Core.List.{List, [], ◌∷◌, ◌++◌, append_assoc, append-nil, Memᴰ}
use mathlib.Core.Logic.{◌⊎◌, inl, inr}
use mathlib.Core.Option.{none as nothing, some}
use Prim.Native.Nat.{ℕ, zero, suc, ◌+◌, ◌-◌, ◌≤◌, ◌<◌}
use native.Mathlib.Omega.{arith}
use lib.Dec.{leb, ltb}
use borrow.Author.Tests.{lt-leb}
use lib.ListN.{length}
use Rattle.buffer.specs.Bytes.{Bytes, zeros}
use Rattle.block.specs.Block.{Row, parts, written, valid, image}
use Rattle.block.specs.Log.{sectors, at, used}
use Rattle.block.proofs.Used.{lt_used, at-used}
use Rattle.block.proofs.Written.{length-written, at-written}
use Rattle.sector_log.specs.LookUp.{blocks, held}
use Rattle.sector_log.proofs.Appended.{blocks-appended}
use Rattle.sector_log.proofs.Written.{held-written, held-appended}
use Rattle.entry.specs.declared.Entry.{Entry}
use Rattle.walk_laws.specs.Found.{Found, leaf, FoundEntries, FoundRoot}
use Rattle.walk_laws.specs.Found.{directory as directoryFound, pointers as pointersFound}
use Rattle.copying.specs.PostOrder.{Role, Visit}
use Rattle.copying.specs.Promises.{Holds, Shown, Linked, below_root, below_top, no_link, entries, scores, Stays, VisitedIn}

-- ---- what a log finds, one finds that holds as much

module _ (s s' : Bytes) (h : Holds s s') where
  pub found_holds : {e : Entry} {l : ℕ} {x : Bytes} → Found s e l x → Found s' e l x
  found_holds (leaf r d q) = leaf r d (h _ _ r q)
  found_holds (directoryFound r d q a f) = directoryFound r d (h _ _ r q) a (λ i l k. found_holds (f i l k))
  found_holds (pointersFound r q m f) = pointersFound r (h _ _ r q) m (λ i l. found_holds (f i l))

  pub entries_hold : {b : Bytes} → FoundEntries s b → FoundEntries s' b
  entries_hold E = record { formed = E.formed; found = λ i l k. found_holds (E.found i l k) }

  pub linked_holds : {t : Role} {b : Bytes} → Linked s t b → Linked s' t b
  linked_holds (below_root r w q f) = below_root r w (h _ _ r q) (entries_hold f)
  linked_holds (below_top f) = below_top (entries_hold f)
  linked_holds (no_link d) = no_link d
  linked_holds (entries d f) = entries d (entries_hold f)
  linked_holds (scores m f) = scores m (λ i l. found_holds (f i l))

  pub shown_holds : {t : ℕ} {x b : Bytes} → Shown s t x b → Shown s' t x b
  shown_holds S = record { row = S.row; row-held = h _ _ S.row S.row-held; these = S.these }

  pub root_holds : {x : Bytes} → FoundRoot s x → FoundRoot s' x
  root_holds R = record {
    root = R.root;
    root-held = h _ _ R.root R.root-held;
    formed = R.formed;
    top = R.top;
    top-held = h _ _ R.top R.top-held;
    below = entries_hold R.below;
  }

-- ---- logs that grow

pub record Grown (vs : List Visit) (date s s' : Bytes) : Type 0 where
  pub stays : Stays date s s'
  pub visited : (x : Row) → Memᴰ x stays.new → VisitedIn vs x

pub grown-same : (vs : List Visit) (date s : Bytes) → Grown vs date s s
grown-same vs date s = record {
  stays = record {
    new = [];
    as_long = refl;
    unchanged = λ n h. refl;
    added = sym (append-nil (blocks s));
    still-held = λ t x r q. q;
    new-held = λ x m. absurd (Memᴰ.not-nil m);
    new-dated = λ x m. absurd (Memᴰ.not-nil m);
  };
  visited = λ x m. absurd (Memᴰ.not-nil m);
}

-- the used part does not shrink
used_grows : (s s' : Bytes) → ((n : ℕ) → n < used s → at s' n ≡ at s n) → used s ≤ used s'
used_grows s s' f = go (used s) refl
  where
    go : (u : ℕ) → used s ≡ u → u ≤ used s'
    go zero e = omega arith
    go (suc n) e = lt_used s' n (ap zeros (f n (omega arith)) ∙ at-used s n e)

pub grown_again : {vs : List Visit} {date s s₁ s₂ : Bytes} → Grown vs date s s₁ → Grown vs date s₁ s₂ → Grown vs date s s₂
grown_again {vs} {date} {s} {s₁} {s₂} A B = record {
  stays = record {
    new = A.stays.new ++ B.stays.new;
    as_long = B.stays.as_long ∙ A.stays.as_long;
    unchanged = λ n h. B.stays.unchanged n (omega (arith, used_grows s s₁ A.stays.unchanged)) ∙ A.stays.unchanged n h;
    added = B.stays.added ∙ ap (λ (x : List Row). x ++ B.stays.new) A.stays.added ∙ append_assoc (blocks s) A.stays.new B.stays.new;
    still-held = λ t x r q. B.stays.still-held t x r (A.stays.still-held t x r q);
    new-held = λ x m. by (λ (y : Row). held s₂ y.kind y.score ≡ some y) x (λ k. B.stays.still-held _ _ x (A.stays.new-held x k)) (B.stays.new-held x) m;
    new-dated = λ x m. by (λ (y : Row). y.date ≡ date) x (A.stays.new-dated x) (B.stays.new-dated x) m;
  };
  visited = λ x m. by (VisitedIn vs) x (A.visited x) (B.visited x) m;
}
  where
    by : (P : Row → Type 0) (x : Row) → (Memᴰ x A.stays.new → P x) → (Memᴰ x B.stays.new → P x) → Memᴰ x (A.stays.new ++ B.stays.new) → P x
    by P x f g m = go (Memᴰ.append_cases A.stays.new m)
      where
        go : Memᴰ x A.stays.new ⊎ Memᴰ x B.stays.new → P x
        go (inl k) = f k
        go (inr k) = g k

-- ---- a row appended

only : (P : Row → Type 0) (r : Row) → P r → (x : Row) → Memᴰ x (r ∷ []) → P x
only P r p x m = subst P (sym (Memᴰ.eq_of_singleton m)) p

module _ (vs : List Visit) (date s : Bytes) (r : Row) (v : valid r ≡ true) (f : r.first ≡ used s) (room : r.first + parts r ≤ sectors (length s)) (d : r.date ≡ date)
    (h : held s r.kind r.score ≡ nothing) (l : VisitedIn vs r) where
  front_same : (n : ℕ) → n < used s → at (written s r) n ≡ at s n
  front_same n k =
      let z : leb r.first n ≡ false = lt-leb r.first n (omega (arith, f)) in
      at-written s r v room n ∙ ap (λ (b : Bool). cond (b && ltb n (r.first + parts r)) (image r (n - r.first)) (at s n)) z

  pub grown-written : Grown vs date s (written s r)
  grown-written = record {
    stays = record {
      new = r ∷ [];
      as_long = length-written s r v room;
      unchanged = front_same;
      added = blocks-appended s r v f room;
      still-held = held-written s r v f room;
      new-held = only (λ (x : Row). held (written s r) x.kind x.score ≡ some x) r (held-appended s r v f room h);
      new-dated = only (λ (x : Row). x.date ≡ date) r d;
    };
    visited = only (VisitedIn vs) r l;
  }
