-- A block appended to the log and entered into the index: an index that led to every block still does.
use mathlib.Core.Path.{◌≡◌, refl, sym, ap, ap₂, ◌∙◌, subst}
use mathlib.Core.Bool.{Bool, true, false, cond, ◌&&◌, true≢false}
use mathlib.Core.List.Memᴰ
use mathlib.Core.List.{[], ◌∷◌, Memᴰ}
use mathlib.Core.Logic.{◌≢◌, ◌⊎◌, inl, inr}
use mathlib.Core.Option.{Option, none, some}
use Prim.Native.Nat.{ℕ, ◌-◌, ◌<◌}
use lib.Dec.{eqb, ltb}
use borrow.Author.Tests.{eqb-true, eqb-false, eq-eqb, ltb-true, ltb-false}
use lib.ListN.{length, get_or, take}
use Rattle.bedrock.proofs.Choices.{and-true, some-not-none, is_some, false_unless}
use Rattle.buffer.specs.Bytes.{Bytes, same}
use Rattle.buffer.proofs.Bytes.{same_true, same_refl}
use Rattle.block.specs.Block.{Row, written}
use Rattle.block.specs.Log.{used, sound}
use Rattle.block.proofs.Facts.{score-length}
use Rattle.block.proofs.Sound.{sound-reads}
use Rattle.block.proofs.Apart.{none-past}
use Rattle.sector_log.specs.LookUp.{blocks, first_of}
use Rattle.sector_log.proofs.Blocks.{blocks_in, blocks_out}
use Rattle.sector_log.proofs.First.{first-sound}
use Rattle.sector_log.proofs.Written.{first-front, still, same-sound}
use Rattle.sector_log.proofs.Appended.{blocks-added}
use Rattle.index.specs.Index.{bucket_of, place_at, named, sector_at, free, free_place, has_free}
use Rattle.index.proofs.Entered.{entered_other, entered-full, entered-stays, taken_free}
use Rattle.hint.specs.Hint.{sound_with, true_at, hint}
use Rattle.hint.specs.Rebuilt.{entered_row}
use Rattle.hint.specs.Promises.{Exact, Complete, Appends, EnteredHits, EnteredExact, HintStays}
use Rattle.hint.proofs.Found.{found_any, found-same, found_or}
use Rattle.hint.proofs.Sound.{with_reads, with_finds, true-reads, head_lt, free-true}
use Rattle.hint.proofs.Entered.{bucket_stays, own_true, entered-found}
use Rattle.hint.proofs.Leads.{hint-reads, hint-sound, hint_finds, first_finds}

-- the same entry, and the same answer at its sector
true_same : (log after index index' : Bytes) (t : ℕ) (s : Bytes) (p : ℕ) → place_at index' p ≡ place_at index p
    → sound_with after (sector_at index p) t s ≡ sound_with log (sector_at index p) t s → true_at after index' t s p ≡ true_at log index t s p
unfolding true_at sector_at
true_same log after index index' t s p e f = rw (e, f)

module _ (log index : Bytes) (r : Row) (a : Appends log r) where
  l : length r.score ≡ 20
  l = score-length r a.0

  b : get_or r.score 0 0 < 256
  b = head_lt r a.0

  -- a sound block of the new log is one of the old, or the row
  pub old_or_new : (x : Row) → sound (written log r) x.first ≡ some x → (sound log x.first ≡ some x) ⊎ (x ≡ r)
  old_or_new x e = go (Memᴰ.append_cases (blocks log) (subst (Memᴰ x) (blocks-added log r a.0 a.1 a.2) (blocks_in (written log r) x e)))
    where
      go : Memᴰ x (blocks log) ⊎ Memᴰ x (r ∷ []) → (sound log x.first ≡ some x) ⊎ (x ≡ r)
      go (inl m) = inl (blocks_out log x m)
      go (inr m) = inr (Memᴰ.eq_of_singleton m)

  -- and at each sector starts what started there, or the row
  with_or : (t : ℕ) (s : Bytes) (n : ℕ) → (sound_with (written log r) n t s ≡ sound_with log n t s) ⊎ (sound_with (written log r) n t s ≡ some r)
  unfolding sound_with
  with_or t s n = go (ltb n (used log)) refl
    where
      go : (c : Bool) → ltb n (used log) ≡ c → (sound_with (written log r) n t s ≡ sound_with log n t s) ⊎ (sound_with (written log r) n t s ≡ some r)
      go true q = inl (rw (same-sound log r a.0 a.1 a.2 n (ltb-true n (used log) q)))
      go false q = past (sound_with (written log r) n t s) refl
        where
          gone : sound log n ≡ none
          gone = none-past log n (ltb-false n (used log) q)

          past : (o : Option Row) → sound_with (written log r) n t s ≡ o → (sound_with (written log r) n t s ≡ sound_with log n t s) ⊎ (sound_with (written log r) n t s ≡ some r)
          past none p = inl (p ∙ sym (rw gone))
          past (some x) p = either (old_or_new x (ap (sound (written log r)) here ∙ w.0))
            where
              w : (sound (written log r) n ≡ some x) × (x.kind ≡ t) × (x.score ≡ s)
              w = with_reads (written log r) n t s x p

              here : x.first ≡ n
              here = (sound-reads (written log r) n x w.0).1

              either : (sound log x.first ≡ some x) ⊎ (x ≡ r) → (sound_with (written log r) n t s ≡ sound_with log n t s) ⊎ (sound_with (written log r) n t s ≡ some r)
              either (inl o) = absurd (some-not-none x (sym o ∙ ap (sound log) here ∙ gone))
              either (inr z) = inr (p ∙ ap (λ (y : Row). some y) z)

  -- of another type or score than the row's what starts at a sector stays
  module _ (t : ℕ) (s : Bytes) (other : (eqb r.kind t && same r.score s) ≡ false) where
    with_same : (n : ℕ) → sound_with (written log r) n t s ≡ sound_with log n t s
    with_same n = go (with_or t s n)
      where
        go : (sound_with (written log r) n t s ≡ sound_with log n t s) ⊎ (sound_with (written log r) n t s ≡ some r) → sound_with (written log r) n t s ≡ sound_with log n t s
        go (inl e) = e
        go (inr e) =
            let w = with_reads (written log r) n t s r e in
            let is : (eqb r.kind t && same r.score s) ≡ true = rw (eq-eqb r.kind t w.1, ap (λ (u : Bytes). same u s) w.2 ∙ same_refl s) in
            absurd (true≢false (sym is ∙ other))

  -- ---- where its bucket has a free place

  module _ (room : has_free index r.score ≡ true) where
    -- what an entry led to it leads to still
    true-still : (t : ℕ) (s : Bytes) (p : ℕ) (x : Row) → true_at log index t s p ≡ some x → true_at (written log r) (entered_row index r) t s p ≡ some x
    true-still t s p x e =
        let h = true-reads log index t s p x e in
        let n = sector_at index p in
        let w : sound_with (written log r) n t s ≡ some x =
        ap₂ (sound_with (written log r) n) (sym h.2) (sym h.3) ∙ with_finds (written log r) n x (still log r a.0 a.1 a.2 n x h.1) in
        let o : sound_with log n t s ≡ some x = ap₂ (sound_with log n) (sym h.2) (sym h.3) ∙ with_finds log n x h.1 in
        true_same log (written log r) index (entered_row index r) t s p (entered-stays index r.score l b r.kind r.first p (taken p x e)) (w ∙ sym o) ∙ e
      where
        taken : (q : ℕ) (y : Row) → true_at log index t s q ≡ some y → free index q ≡ false
        taken q y d = false_unless (free index q) (λ f. some-not-none y (sym d ∙ free-true log index t s q f))

    hint-still : (t : ℕ) (s : Bytes) → hint log index t s ≢ none → hint (written log r) (entered_row index r) t s ≢ none
    unfolding hint
    hint-still t s n =
        let x = is_some (hint log index t s) n in
        let h = hint-reads log index t s x.0 x.1 in
        let B = bucket_of index s in
        rw (bucket_stays log index r a s)
        (found_any (true_at (written log r) (entered_row index r) t s) (B.to - B.from) B.from h.0 x.0 h.1 h.2 (true-still t s h.0 x.0 h.3))

    complete_still : Complete log index → Complete (written log r) (entered_row index r)
    complete_still c x e = go (old_or_new x e)
      where
        go : (sound log x.first ≡ some x) ⊎ (x ≡ r) → hint (written log r) (entered_row index r) x.kind x.score ≢ none
        go (inl o) = hint-still x.kind x.score (c x o)
        go (inr z) = subst (λ (y : Row). hint (written log r) (entered_row index r) y.kind y.score ≢ none) (sym z) (entered-found log index r a room)

    -- and the index leads to what it led to
    module _ (t : ℕ) (s : Bytes) (other : (eqb r.kind t && same r.score s) ≡ false) where
      true-alike : (p : ℕ) → true_at (written log r) (entered_row index r) t s p ≡ true_at log index t s p
      true-alike p = go (eqb p (free_place index r.score)) refl
        where
          go : (c : Bool) → eqb p (free_place index r.score) ≡ c → true_at (written log r) (entered_row index r) t s p ≡ true_at log index t s p
          go true q =
              let e : p ≡ free_place index r.score = eqb-true p (free_place index r.score) q in
              ap (true_at (written log r) (entered_row index r) t s) e ∙ own_true log index r a room t s ∙ ap (λ (c : Bool). cond c (some r) none) other
              ∙ sym (ap (true_at log index t s) e ∙ free-true log index t s (free_place index r.score) (taken_free index r.score l b room))
          go false q =
              true_same log (written log r) index (entered_row index r) t s p
              (entered_other index r.score l b r.kind r.first p (eqb-false p (free_place index r.score) q)) (with_same t s other (sector_at index p))

      hint-alike : hint (written log r) (entered_row index r) t s ≡ hint log index t s
      unfolding hint
      hint-alike =
          let B = bucket_of index s in
          rw (bucket_stays log index r a s) (found-same (true_at (written log r) (entered_row index r) t s) (true_at log index t s) (B.to - B.from) B.from (λ p _ _. true-alike p))

    -- ---- where the log has no block of the row's type and score

    module _ (alone : first_of r.kind r.score (blocks log) ≡ none) (exact : Exact log index) where
      complete : Complete (written log r) (entered_row index r)
      complete = complete_still (λ x e n. first_finds log x e (sym (exact x.kind x.score) ∙ n))

      exact-still : Exact (written log r) (entered_row index r)
      exact-still t s = go (first_of t s (blocks log)) refl
        where
          G : Type 0
          G = hint (written log r) (entered_row index r) t s ≡ first_of t s (blocks (written log r))

          -- what is sound now with a type and score that nothing had is the row
          new : first_of t s (blocks log) ≡ none → (x : Row) → (sound (written log r) x.first ≡ some x) × (x.kind ≡ t) × (x.score ≡ s) → x ≡ r
          new p x h = last (old_or_new x h.0)
            where
              last : (sound log x.first ≡ some x) ⊎ (x ≡ r) → x ≡ r
              last (inr z) = z
              last (inl o) = absurd (first_finds log x o (ap₂ (λ (k : ℕ) (v : Bytes). first_of k v (blocks log)) h.1 h.2 ∙ p))

          both : first_of t s (blocks log) ≡ none → (h o : Option Row) → hint (written log r) (entered_row index r) t s ≡ h → first_of t s (blocks (written log r)) ≡ o → G
          both p none none q w = q ∙ sym w
          both p (some x) none q w = absurd (hint_finds (written log r) (entered_row index r) t s x q w)
          both p none (some y) q w =
              let f = first-sound (written log r) t s y w in
              absurd (complete y f.0 (ap₂ (hint (written log r) (entered_row index r)) f.1 f.2 ∙ q))
          both p (some x) (some y) q w =
              let e : x ≡ y = new p x (hint-sound (written log r) (entered_row index r) t s x q) ∙ sym (new p y (first-sound (written log r) t s y w)) in
              q ∙ ap (λ (z : Row). some z) e ∙ sym w

          go : (o : Option Row) → first_of t s (blocks log) ≡ o → G
          go none p = both p (hint (written log r) (entered_row index r) t s) (first_of t s (blocks (written log r))) refl refl
          go (some y) p = known (eqb r.kind t && same r.score s) refl
            where
              known : (c : Bool) → (eqb r.kind t && same r.score s) ≡ c → G
              known false q =
                  hint-alike t s q ∙ exact t s ∙ p
                  ∙ sym (ap (first_of t s) (blocks-added log r a.0 a.1 a.2) ∙ first-front t s (blocks log) (r ∷ []) y p)
              known true q =
                  let w = and-true (eqb r.kind t) (same r.score s) q in
                  let e : some y ≡ none = sym p ∙ ap₂ (λ (k : ℕ) (v : Bytes). first_of k v (blocks log)) (sym (eqb-true r.kind t w.0)) (sym (same_true r.score s w.1)) ∙ alone in
                  absurd (some-not-none y e)

  -- so it does whether the row had room in it or not
  pub hint-others : (t : ℕ) (s : Bytes) → (eqb r.kind t && same r.score s) ≡ false → hint (written log r) (entered_row index r) t s ≡ hint log index t s
  unfolding hint
  hint-others t s other = go (has_free index r.score) refl
    where
      go : (c : Bool) → has_free index r.score ≡ c → hint (written log r) (entered_row index r) t s ≡ hint log index t s
      go true q = hint-alike q t s other
      go false q =
          let B = bucket_of index s in
          ap (λ (x : Bytes). hint (written log r) x t s) (entered-full index r.score l b r.kind r.first q)
          ∙ found-same (true_at (written log r) index t s) (true_at log index t s) (B.to - B.from) B.from
          (λ p _ _. true_same log (written log r) index index t s p refl (with_same t s other (sector_at index p)))

  -- ---- what the index led to

  module _ (t : ℕ) (s : Bytes) where
    abbrev TrueOr : ℕ → Type 0
    TrueOr p = (true_at (written log r) (entered_row index r) t s p ≡ true_at log index t s p) ⊎ (true_at (written log r) (entered_row index r) t s p ≡ some r)

    -- an entry that stays is true of what it was true of, or of the row
    kept_entry : (p : ℕ) → place_at (entered_row index r) p ≡ place_at index p → TrueOr p
    unfolding true_at sector_at
    kept_entry p e = go (same (take 21 (place_at index p)) (named s t)) refl (with_or t s (sector_at index p))
      where
        go : (c : Bool) → same (take 21 (place_at index p)) (named s t) ≡ c
            → (sound_with (written log r) (sector_at index p) t s ≡ sound_with log (sector_at index p) t s) ⊎ (sound_with (written log r) (sector_at index p) t s ≡ some r) → TrueOr p
        go c q (inl f) = inl (true_same log (written log r) index (entered_row index r) t s p e f)
        go true q (inr f) = inr (rw (e, q, f))
        go false q (inr f) = inl (rw (e, q))

    true_or : (p : ℕ) → TrueOr p
    true_or p = go (has_free index r.score) (eqb p (free_place index r.score)) refl refl
      where
        own : has_free index r.score ≡ true → p ≡ free_place index r.score → (c : Bool) → (eqb r.kind t && same r.score s) ≡ c → TrueOr p
        own room e true q = inr (ap (true_at (written log r) (entered_row index r) t s) e ∙ own_true log index r a room t s ∙ ap (λ (c : Bool). cond c (some r) none) q)
        own room e false q =
            inl (ap (true_at (written log r) (entered_row index r) t s) e ∙ own_true log index r a room t s ∙ ap (λ (c : Bool). cond c (some r) none) q
            ∙ sym (ap (true_at log index t s) e ∙ free-true log index t s (free_place index r.score) (taken_free index r.score l b room)))

        go : (f c : Bool) → has_free index r.score ≡ f → eqb p (free_place index r.score) ≡ c → TrueOr p
        go false c room q = kept_entry p (ap (λ (x : Bytes). place_at x p) (entered-full index r.score l b r.kind r.first room))
        go true false room q = kept_entry p (entered_other index r.score l b r.kind r.first p (eqb-false p (free_place index r.score) q))
        go true true room q = own room (eqb-true p (free_place index r.score) q) (eqb r.kind t && same r.score s) refl

    hint_or : (x : Row) → hint log index t s ≡ some x
        → (hint (written log r) (entered_row index r) t s ≡ some x) ⊎ (hint (written log r) (entered_row index r) t s ≡ some r)
    unfolding hint
    hint_or x e =
        let B = bucket_of index s in
        rw (bucket_stays log index r a s) (found_or (true_at log index t s) (true_at (written log r) (entered_row index r) t s) r true_or (B.to - B.from) B.from x e)

pub entered_hits : EnteredHits
entered_hits log index r a room c = complete_still log index r a room c

pub entered-exact : EnteredExact
entered-exact log index r a room alone exact = exact-still log index r a room alone exact

pub hint-stays : HintStays
hint-stays log index r a t s x e = hint_or log index r a t s x e
