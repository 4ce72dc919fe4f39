-- A list of writes: what it leaves of the second log, and how storing a list ends.
use mathlib.Core.Path.{◌≡◌, refl, sym, ap, ap₂, subst, ◌∙◌}
use mathlib.Core.Bool.{true}
use mathlib.Core.List.Memᴰ
use mathlib.Core.List.{List, [], ◌∷◌, Memᴰ}
use mathlib.Core.Logic.{◌⊎◌, inl, inr}
use mathlib.Core.Option.{none as nothing, some}
use Prim.Native.Nat.{ℕ, ◌≤◌, ◌^◌}
use lib.ListN.{length}
use Rattle.buffer.specs.Bytes.{Bytes, same}
use Rattle.buffer.proofs.Bytes.{same_refl, same_false}
use Rattle.digits.specs.Number.{small}
use Rattle.sha1_digest.specs.Sha1.{sha1_of}
use Rattle.kind.specs.Kind.{lawful, longest}
use Rattle.sector.specs.Sector.{is_date}
use Rattle.block.specs.Block.{written}
use Rattle.block.specs.Log.{sectors}
use Rattle.sector_log.specs.LookUp.{held}
use Rattle.sector_log.specs.Parts.{alone}
use Rattle.sector_log.specs.Store.{AfterStore, store}
use Rattle.sector_log.proofs.Named.{held-named}
use Rattle.sector_log.proofs.Written.{held-appended}
use Rattle.visit.specs.declared.Walked.{Walked}
use Rattle.visit.specs.Visit.{walked}
use Rattle.walk_laws.proofs.Found.{not_done}
use Rattle.copying.specs.Copy.{Copied, copied, store_end, then_by}
use Rattle.copying.specs.PostOrder.{type_of, Visit, post_order, stored, store_visits}
use Rattle.copying.specs.Promises.{Holds, Shown, HeldIn, HoldsAll, Linked, wrote, wrote_all, Writes, none, next, Refuses, no_room, clash, StopsAt, ended, OfSecond}
use Rattle.copying.specs.Promises.{refused as refusedAt}
use Rattle.copying.proofs.Stored.{Stored, new, there, refused, Fits, stored-alone}
use Rattle.copying.proofs.Grown.{linked_holds, shown_holds, Grown, grown-same, grown_again, grown-written}
use Rattle.copying.proofs.Visited.{SpentWithin, LinksFirst}
use Rattle.std.specs.Prelude.{Ok, Err, Result, ⊤}
use Rattle.refusal.specs.declared.Refusal.{Refusal}

pub not-of-second {ℓ} : {A : Type ℓ} {e : Result ⊤ Refusal} → OfSecond e → e ≡ Ok tt → A
not-of-second (inl p) q = not_done _ (sym p ∙ q)
not-of-second (inr p) q = not_done _ (sym p ∙ q)

pub refuses_second : {s date : Bytes} {t : ℕ} {b : Bytes} {e : Result ⊤ Refusal} → Refuses s date t b e → OfSecond e
refuses_second (no_room h q) = inl refl
refuses_second (clash x h f) = inr refl

-- ---- what look-up finds may be written

pub record Writable (t : ℕ) (score b : Bytes) : Type 0 where
  pub lawful-kind : lawful t ≡ true
  pub not_many : length b ≤ longest
  pub of-bytes : small b ≡ true
  pub scored : sha1_of b ≡ score

pub shown_writable : (log : Bytes) (t : ℕ) (score b : Bytes) → Shown log t score b → Writable t score b
shown_writable log t score b S =
    let N = held-named log t score S.row S.row-held in
    subst (Writable t score) S.these (record { lawful-kind = N.lawful-kind; not_many = N.not_many; of-bytes = N.of-bytes; scored = N.scored })

-- ---- one store

-- of a block that is there, or that is refused: nothing is written
abbrev Leaves : AfterStore → Result ⊤ Refusal → Bytes → Type 0
Leaves a e s = (store_end a.receipt.stored ≡ e) × (a.lent.log ≡ s)

pub there-stored : (s date : Bytes) (t : ℕ) (score b : Bytes) → Shown s t score b → Leaves (store (alone s) date t b) (Ok tt) s
unfolding store
there-stored s date t score b S =
    let h : held s t (sha1_of b) ≡ some S.row = ap (held s t) (shown_writable s t score b S).scored ∙ S.row-held in
    let q : same S.row.bytes b ≡ true = rw S.these (same_refl b) in
    rw (h, q) (refl, refl)

pub refused-stored : (s date : Bytes) (t : ℕ) (b : Bytes) (e : Result ⊤ Refusal) → Refuses s date t b e → Leaves (store (alone s) date t b) e s
unfolding store
refused-stored s date t b _ (no_room h q) = rw (h, q) (refl, refl)
refused-stored s date t b _ (clash x h f) = rw (h, same_false x.bytes b f) (refl, refl)

stored-grown : (vs : List Visit) (s date : Bytes) (v : Visit) (a : AfterStore) → Stored s date (type_of v.role) v.bytes a → Memᴰ v vs → Grown vs date s a.lent.log
stored-grown vs s date v a (new r w f room k sc eb d h e _) m =
    let n : held s r.kind r.score ≡ nothing = ap₂ (held s) k sc ∙ h in
    subst (Grown vs date s) (sym e) (grown-written vs date s r w f room d n (v, m, (sym k, sym eb)))
stored-grown vs s date v a (there x h eb e _) m = subst (Grown vs date s) (sym e) (grown-same vs date s)
stored-grown vs s date v a (refused _ e) m = subst (Grown vs date s) (sym e) (grown-same vs date s)

stored-shown : (s date : Bytes) (t : ℕ) (score b : Bytes) (a : AfterStore) → Stored s date t b a → sha1_of b ≡ score → store_end a.receipt.stored ≡ Ok tt
    → Shown a.lent.log t score b
stored-shown s date t score b a (new r v f room k sc eb d h e _) z q =
    let n : held s r.kind r.score ≡ nothing = ap₂ (held s) k sc ∙ h in
    let p : held a.lent.log t score ≡ some r =
    ap₂ (λ (x y : Bytes). held x t y) e (sym z) ∙ ap₂ (held (written s r)) (sym k) (sym sc) ∙ held-appended s r v f room n in
    record { row = r; row-held = p; these = eb }
stored-shown s date t score b a (there x h eb e _) z q = record { row = x; row-held = ap₂ (λ (y u : Bytes). held y t u) e (sym z) ∙ h; these = eb }
stored-shown s date t score b a (refused R e) z q = not-of-second (refuses_second R) q

-- ---- lists of writes

fits_on : {vs : List Visit} {date s s' : Bytes} → Grown vs date s s' → Fits s → Fits s'
fits_on G f = subst (λ (n : ℕ). sectors n ≤ 16 ^ 8) (sym G.stays.as_long) f

module _ (first date : Bytes) (d : is_date date ≡ true) where
  pub stored_visit : (s : Bytes) (v : Visit) → Fits s → HeldIn first v → Stored s date (type_of v.role) v.bytes (stored date v s)
  stored_visit s v fit h =
      let W = shown_writable first (type_of v.role) v.score v.bytes h in
      stored-alone s date (type_of v.role) v.bytes fit d W.lawful-kind W.not_many W.of-bytes

  module _ (all : List Visit) where
    grown-wrote : (s : Bytes) (v : Visit) → Fits s → HeldIn first v → Memᴰ v all → Grown all date s (wrote date v s)
    grown-wrote s v fit h m = stored-grown all s date v (stored date v s) (stored_visit s v fit h) m

    pub writes-grown : {vs : List Visit} {s : Bytes} → Writes first date vs s → ((v : Visit) → Memᴰ v vs → Memᴰ v all) → Fits s → Grown all date s (wrote_all date vs s)
    unfolding wrote_all
    writes-grown {s = s} none f fit = grown-same all date s
    writes-grown {s = s} (next {v = v} h l q w) f fit =
        let G = grown-wrote s v fit h (f v (Memᴰ.head refl)) in
        grown_again G (writes-grown w (λ x m. f x (Memᴰ.tail m)) (fits_on G fit))

  -- what was written is found
  pub writes-held : {vs : List Visit} {s : Bytes} → Writes first date vs s → Fits s → HoldsAll (wrote_all date vs s) vs
  unfolding wrote_all
  writes-held none fit = tt
  writes-held {s = s} (next {v = v} {vs = vs} h l q w) fit =
      let G = grown-wrote (v ∷ []) s v fit h (Memᴰ.head refl) in
      let fit₁ = fits_on G fit in
      let S = stored-shown s date (type_of v.role) v.score v.bytes (stored date v s) (stored_visit s v fit h)
      (shown_writable first (type_of v.role) v.score v.bytes h).scored q in
      (shown_holds (wrote date v s) (wrote_all date vs (wrote date v s)) (writes-grown vs w (λ x m. m) fit₁).stays.still-held S, writes-held w fit₁)

  -- and what it links to
  pub writes-linked : {vs : List Visit} {s : Bytes} → Writes first date vs s → Fits s → (v : Visit) → Memᴰ v vs → Linked (wrote_all date vs s) v.role v.bytes
  unfolding wrote_all
  writes-linked none fit x m = absurd (Memᴰ.not-nil m)
  writes-linked {s = s} (next {v = v} {vs = vs} h l q w) fit x m =
      go (Memᴰ.cases_cons m) (λ k. writes-linked w (fits_on (grown-wrote (v ∷ []) s v fit h (Memᴰ.head refl)) fit) x k)
    where
      go : (x ≡ v) ⊎ Memᴰ x vs → (Memᴰ x vs → Linked (wrote_all date vs (wrote date v s)) x.role x.bytes) → Linked (wrote_all date (v ∷ vs) s) x.role x.bytes
      go (inl e) f =
          linked_holds s (wrote_all date (v ∷ vs) s) (writes-grown (v ∷ vs) (next h l q w) (λ y k. k) fit).stays.still-held
          (subst (λ (y : Visit). Linked s y.role y.bytes) (sym e) l)
      go (inr k) f = f k

  -- ---- how storing a list ends

  one_more : (v : Visit) (vs : List Visit) (w : Walked) (s : Bytes) (c : Copied) → HeldIn first v → Linked s v.role v.bytes → store_end (stored date v s).receipt.stored ≡ Ok tt
      → StopsAt first date (post_order vs w) (wrote date v s) c → StopsAt first date (post_order (v ∷ vs) w) s c
  unfolding wrote_all
  one_more v vs w s c h l q (ended W e a) = ended (next h l q W) e a
  one_more v vs w s c h l q (refusedAt before after x e W b k m R n i) = refusedAt (v ∷ before) after x (ap (λ (y : List Visit). v ∷ y) e) (next h l q W) b k m R n i

  stops_here : (v : Visit) (vs : List Visit) (w : Walked) (s s' : Bytes) (k : ℕ → Bytes → Copied) → HeldIn first v → Linked s v.role v.bytes → v.spent ≤ w.visits → s' ≡ s
      → (e : Result ⊤ Refusal) → Refuses s date (type_of v.role) v.bytes e → StopsAt first date (post_order (v ∷ vs) w) s (then_by e v.spent s' k)
  unfolding wrote_all
  stops_here v vs w s s' k h l i z (Ok tt) R = not-of-second (refuses_second R) refl
  stops_here v vs w s s' k h l i z (Err why) R =
      refusedAt [] vs v refl none z h (subst (λ (x : Bytes). Linked x v.role v.bytes) (sym z) l)
      (subst (λ (x : Bytes). Refuses x date (type_of v.role) v.bytes (Err why)) (sym z) R) refl i

  goes_through : (v : Visit) (vs : List Visit) (w : Walked) (s : Bytes) → HeldIn first v → Linked s v.role v.bytes
      → StopsAt first date (post_order vs w) (wrote date v s) (store_visits date vs w (wrote date v s)) → (e : Result ⊤ Refusal) → store_end (stored date v s).receipt.stored ≡ e → e ≡ Ok tt
      → StopsAt first date (post_order (v ∷ vs) w) s (then_by e v.spent (wrote date v s) (λ n x. store_visits date vs w x))
  goes_through v vs w s h l S (Ok tt) q z = one_more v vs w s (store_visits date vs w (wrote date v s)) h l q S
  goes_through v vs w s h l S (Err why) q z = not_done why z

  pub stops_at : (vs : List Visit) (w : Walked) (s : Bytes) → Fits s → (Q : Bytes → Type 0) → ((L L' : Bytes) → Holds L L' → Q L → Q L') → Q s → LinksFirst Q vs
      → HoldsAll first vs → SpentWithin w.visits vs → StopsAt first date (post_order vs w) s (store_visits date vs w s)
  unfolding wrote_all store_visits
  stops_at [] w s fit Q f q l h i = ended none refl refl
  stops_at (v ∷ vs) w s fit Q f q l h i = by (stored_visit s v fit h.0)
      (λ z.
      let G = grown-wrote (v ∷ []) s v fit h.0 (Memᴰ.head refl) in
      let S = stored-shown s date (type_of v.role) v.score v.bytes (stored date v s) (stored_visit s v fit h.0)
      (shown_writable first (type_of v.role) v.score v.bytes h.0).scored z in
      stops_at vs w (wrote date v s) (fits_on G fit) (λ L. Q L × HeldIn L v) (λ L L' g p. (f L L' g p.0, shown_holds L L' g p.1))
      (f s (wrote date v s) G.stays.still-held q, S) l.1 h.1 i.1)
    where
      by : Stored s date (type_of v.role) v.bytes (stored date v s)
          → (store_end (stored date v s).receipt.stored ≡ Ok tt → StopsAt first date (post_order vs w) (wrote date v s) (store_visits date vs w (wrote date v s)))
          → StopsAt first date (post_order (v ∷ vs) w) s (then_by (store_end (stored date v s).receipt.stored) v.spent (wrote date v s) (λ n x. store_visits date vs w x))
      by (new _ _ _ _ _ _ _ _ _ _ z) g = goes_through v vs w s h.0 (l.0 s q) (g z) (store_end (stored date v s).receipt.stored) refl z
      by (there _ _ _ _ z) g = goes_through v vs w s h.0 (l.0 s q) (g z) (store_end (stored date v s).receipt.stored) refl z
      by (refused R e) g = stops_here v vs w s (wrote date v s) _ h.0 (l.0 s q) i.0 e (store_end (stored date v s).receipt.stored) R

-- ---- storing again

pub then-done : (e : Result ⊤ Refusal) (n : ℕ) (s s' : Bytes) (k : Bytes → Copied) → e ≡ Ok tt → s' ≡ s → then_by e n s' (λ m x. k x) ≡ k s
then-done (Ok tt) n s s' k q z = ap k z
then-done (Err why) n s s' k q z = not_done why q

-- blocks that are all there add nothing
pub all_there : (date : Bytes) (vs : List Visit) (w : Walked) (s : Bytes) → HoldsAll s vs → store_visits date vs w s ≡ copied w s
unfolding store_visits
all_there date [] w s h = refl
all_there date (v ∷ vs) w s h =
    let t = there-stored s date (type_of v.role) v.score v.bytes h.0 in
    then-done (store_end (stored date v s).receipt.stored) v.spent s (stored date v s).lent.log (λ x. store_visits date vs w x) t.0 t.1
    ∙ all_there date vs w s h.1

then-refused : (e f : Result ⊤ Refusal) (n : ℕ) (s s' : Bytes) (k : ℕ → Bytes → Copied) → e ≡ f → OfSecond f → s' ≡ s → then_by e n s' k ≡ copied (walked n f) s
then-refused (Ok tt) f n s s' k q o z = not-of-second o (sym q)
then-refused (Err why) f n s s' k q o z = ap₂ (λ (x : Result ⊤ Refusal) (y : Bytes). copied (walked n x) y) q z

pub refused_again : (date : Bytes) (v : Visit) (vs : List Visit) (w : Walked) (s : Bytes) (e : Result ⊤ Refusal) → Refuses s date (type_of v.role) v.bytes e
    → store_visits date (v ∷ vs) w s ≡ copied (walked v.spent e) s
unfolding store_visits
refused_again date v vs w s e R =
    let r = refused-stored s date (type_of v.role) v.bytes e R in
    then-refused (store_end (stored date v s).receipt.stored) e v.spent s (stored date v s).lent.log _ r.0 (refuses_second R) r.1
