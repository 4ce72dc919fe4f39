-- Blocks stored one after the other are held, and what was held still is.
use mathlib.Core.Path.{◌≡◌, refl, sym, ap, ap₂, ◌∙◌, subst}
use mathlib.Core.Bool.{Bool, true, false, cond}
use mathlib.Core.List.{List, [], ◌∷◌}
use mathlib.Core.Logic.{◌⊎◌, inl, inr}
use mathlib.Core.Option.{Option, none, some}
use Prim.Native.Nat.{ℕ}
use native.Mathlib.Omega.{arith}
use lib.ListN.{length}
use Rattle.bedrock.specs.Choice.{on}
use Rattle.buffer.specs.Bytes.{Bytes, same}
use Rattle.buffer.proofs.Bytes.{same_true, no_bytes}
use Rattle.sha1_digest.specs.Sha1.{sha1_of}
use Rattle.refusal.specs.declared.Refusal.{Refusal}
use Rattle.refusal.specs.declared.Refusal.TheVariants.{NoRoom, Clash}
use Rattle.kind.specs.Kind.{lawful}
use Rattle.sector.specs.Sector.{is_date}
use Rattle.block.specs.Block.{Row, parts, valid, written as writtenIn}
use Rattle.block.specs.Log.{used}
use Rattle.sector_log.specs.Parts.{Lent, beside, one_log, tape, room_for, append_row, written_from}
use Rattle.sector_log.specs.LookUp.{held, lent_allowed}
use Rattle.sector_log.specs.Store.{AfterStore, after_store, receipt, new_row, parts_for, appended, compared, store}
use Rattle.sector_log.specs.declared.Stored.{Stored}
use Rattle.sector_log.specs.declared.Stored.TheVariants.{New, Duplicate}
use Rattle.sector_log.proofs.Written.{held-written, held-appended}
use Rattle.sector_log.proofs.Allowed.{row-valid}
use Rattle.demands.proofs.Seen.{held-zero, empty-score}
use Rattle.demands.proofs.TellAdds.{date_or_none, log-allowed-of}
use Rattle.demands.proofs.LentLaws.{room-one, one-appended, extent-written, start-before, room-same}
use Rattle.demands.specs.Ledger.{Extent}
use Rattle.writer.specs.Blocks.{Typed}
use Rattle.writer.specs.WriteFile.{end_of, AfterAll, after_all, onward, store_all}
use Rattle.writer_laws.specs.Held.{Holds, Writable, EndedAt, StaysIn, Stays}
use Rattle.std.specs.Prelude.{Ok, Err, Result, ⊤}

-- what one store leaves
pub record Kept (log w : Bytes) (x : Typed) (a : AfterStore) : Type 0 where
  pub part : Bytes
  pub lent : a.lent ≡ beside log part
  pub long : length part ≡ length w
  pub keeps : (t : ℕ) (s : Bytes) (r : Row) → held (tape log w) t s ≡ some r → held (tape log part) t s ≡ some r
  pub holds : end_of a.receipt.stored ≡ Ok tt → Holds (tape log part) x
  pub stays : (y : Refusal) → end_of a.receipt.stored ≡ Err y → a.lent ≡ beside log w

-- the refusal of a call that ended with one
abbrev pub why-ended : Result ⊤ Refusal → Refusal
why-ended (Ok tt) = NoRoom
why-ended (Err y) = y

not-stored : (s : Result Stored Refusal) (y : Refusal) → end_of s ≡ Err y → s ≡ Err y
not-stored (Ok (New at)) y e = let z : ◌≡◌ {A = ℕ} 0 1 = cc in absurd (omega arith)
not-stored (Ok (Duplicate at)) y e = let z : ◌≡◌ {A = ℕ} 0 1 = cc in absurd (omega arith)
not-stored (Err v) y e = ap Err (ap why-ended e)

-- on any log a store is refused with 14 or 15
pub store_refuses : (L : Lent) (date : Bytes) (t : ℕ) (d : Bytes) (y : Refusal) → end_of (store L date t d).receipt.stored ≡ Err y → (y ≡ NoRoom) ⊎ (y ≡ Clash)
unfolding store
store_refuses L date t d y e = go (held (one_log L) t (sha1_of d)) e
  where
    room : (b : Bool)
        → end_of (cond b (after_store (receipt (sha1_of d) (Ok (New (record { 0 = used (one_log L) })))) (append_row L (new_row L date t d)))
        (after_store (receipt (sha1_of d) (Err NoRoom)) L)).receipt.stored
        ≡ Err y → (y ≡ NoRoom) ⊎ (y ≡ Clash)
    room true q = let z : ◌≡◌ {A = ℕ} 0 1 = cc in absurd (omega arith)
    room false q = inl (sym (ap why-ended q))

    alike : (b : Bool) (n : ℕ)
        → end_of (cond b (after_store (receipt (sha1_of d) (Ok (Duplicate (record { 0 = n })))) L) (after_store (receipt (sha1_of d) (Err Clash)) L)).receipt.stored ≡ Err y
        → (y ≡ NoRoom) ⊎ (y ≡ Clash)
    alike true n q = let z : ◌≡◌ {A = ℕ} 0 1 = cc in absurd (omega arith)
    alike false n q = inr (sym (ap why-ended q))

    go : (o : Option Row) → end_of (on o (appended L date t d) (λ (r : Row). compared L r.bytes r.first d)).receipt.stored ≡ Err y → (y ≡ NoRoom) ⊎ (y ≡ Clash)
    go none q = room (room_for L (parts_for date d)) q
    go (some r) q = alike (same r.bytes d) r.first q

-- a call that was done left no block out
pub none_left : (a : AfterAll) (date : Bytes) (rest : List Typed) → EndedAt a date rest → a.end ≡ Ok tt → rest ≡ []
none_left a date [] E e = refl
none_left a date (x ∷ xs) E e = let c = sym E.1 ∙ e in let z : ◌≡◌ {A = ℕ} 0 1 = cc in absurd (omega arith)

-- the empty block is always held
empty-held : (log : Bytes) (t : ℕ) (d : Bytes) → lawful t ≡ true → d ≡ [] → held log t (sha1_of d) ≡ none → ⊥
empty-held log t d l e h =
    let c = sym h ∙ ap (λ (x : Bytes). held log t (sha1_of x)) e ∙ held-zero log t (sha1_of []) l empty-score in
    let z : ◌≡◌ {A = ℕ} 0 1 = cc in absurd (omega arith)

module _ (log w date : Bytes) (x : Typed) (allowed : lent_allowed (length log) (length w) ≡ true) (dated : is_date date ≡ true) (W : Writable x) where
  abbrev d : Bytes
  d = x.bytes

  abbrev L : Lent
  L = beside log w

  refused-keeps : (y : Refusal) → Kept log w x (after_store (receipt (sha1_of d) (Err y)) L)
  refused-keeps y = record {
    part = w;
    lent = refl;
    long = refl;
    keeps = λ t s y e. e;
    holds = λ e. let z : ◌≡◌ {A = ℕ} 0 1 = cc in absurd (omega arith);
    stays = λ _ _. refl;
  }

  unchanged : (r : Row) → held (tape log w) x.kind (sha1_of d) ≡ some r → Kept log w x (compared L r.bytes r.first d)
  unchanged r h = go (same r.bytes d) refl
    where
      go : (b : Bool) → same r.bytes d ≡ b
          → Kept log w x (cond b (after_store (receipt (sha1_of d) (Ok (Duplicate (record { 0 = r.first })))) L) (after_store (receipt (sha1_of d) (Err Clash)) L))
      go true q = record { part = w; lent = refl; long = refl; keeps = λ t s y e. e; holds = λ _. (r, h, same_true r.bytes d q); stays = λ _ _. refl }
      go false q = refused-keeps Clash

  new : (length d ≡ 0 → ⊥) → held (tape log w) x.kind (sha1_of d) ≡ none → Kept log w x (appended L date x.kind d)
  unfolding append_row
  new some_bytes h = go (room_for L (parts_for date d)) refl
    where
      row : Row
      row = new_row L date x.kind d

      go : (b : Bool) → room_for L (parts_for date d) ≡ b
          → Kept log w x (cond b (after_store (receipt (sha1_of d) (Ok (New (record { 0 = used (one_log L) })))) (append_row L (new_row L date x.kind d)))
          (after_store (receipt (sha1_of d) (Err NoRoom)) L))
      go true q =
          let room = room-one log (some w) (parts_for date d) q in
          let v : valid (new_row L date x.kind d) ≡ true =
          row-valid date x.kind d (used (one_log L)) (length log) (date_or_none (some date) dated) (log-allowed-of log (some w) allowed) W.0 W.1 (omega (arith, some_bytes)) W.2 room.1 in
          let r = new_row L date x.kind d in
          let one : tape log (written_from (used log) w r) ≡ writtenIn (tape log w) r = one-appended log (some w) r refl in
          let ext = extent-written r v log (some w) (start-before log (some w))
          (sym (room-same log (some w) (parts r)) ∙ q) in
          record {
            part = written_from (used log) w r;
            lent = refl;
            long = ap (λ (y : Extent). on y.waiting 0 (λ n. n)) ext;
            keeps = λ t s y e. ap (λ (b : Bytes). held b t s) one ∙ held-written (tape log w) r v refl room.0 t s y e;
            holds = λ _. (r, ap (λ (b : Bytes). held b x.kind (sha1_of d)) one ∙ held-appended (tape log w) r v refl room.0 h, refl);
            stays = λ y e. let z : ◌≡◌ {A = ℕ} 0 1 = cc in absurd (omega arith);
          }
      go false q = refused-keeps NoRoom

  pub one_kept : Kept log w x (store L date x.kind d)
  unfolding store
  one_kept = go (held (one_log L) x.kind (sha1_of d)) refl
    where
      go : (o : Option Row) → held (one_log L) x.kind (sha1_of d) ≡ o → Kept log w x (on o (appended L date x.kind d) (λ (r : Row). compared L r.bytes r.first d))
      go none q = new (λ e. empty-held (tape log w) x.kind d W.0 (no_bytes d e) q) q
      go (some r) q = unchanged r q

-- ---- all of them

pub stays : Stays
unfolding store_all
stays log w date [] al da A = (w, [], [], refl, refl, refl, refl, tt, λ t s r e. e, refl)
stays log w date (x ∷ xs) al da A =
    go (end_of (store (beside log w) date x.kind x.bytes).receipt.stored) (store (beside log w) date x.kind x.bytes).lent refl refl
    (stays log K.part date xs (ap (λ (n : ℕ). lent_allowed (length log) n) K.long ∙ al) da A.1)
  where
    K : Kept log w x (store (beside log w) date x.kind x.bytes)
    K = one_kept log w date x al da A.0

    go : (e : Result ⊤ Refusal) (M : Lent) → end_of (store (beside log w) date x.kind x.bytes).receipt.stored ≡ e → (store (beside log w) date x.kind x.bytes).lent ≡ M
        → StaysIn log K.part date xs (store_all (beside log K.part) date xs) → StaysIn log w date (x ∷ xs) (onward e M (store_all M date xs))
    go (Ok tt) M p q (w', before, rest, lent, long, split, stored, holds, keeps, ended) =
        let m : M ≡ beside log K.part = sym q ∙ K.lent in
        let there : store_all M date xs ≡ store_all (beside log K.part) date xs = ap (λ (y : Lent). store_all y date xs) m in
        let h = K.holds p in (
          w',
          x ∷ before,
          rest,
          ap (λ (b : AfterAll). b.lent) there ∙ lent,
          long ∙ K.long,
          ap (λ (ys : List Typed). x ∷ ys) split,
          ap₂ (λ (y : Result ⊤ Refusal) (z : Lent). onward y z (store_all z date before)) p K.lent ∙ stored ∙ ap (λ (b : AfterAll). after_all (Ok tt) b.lent) (sym there),
          ((h.0, keeps x.kind (sha1_of x.bytes) h.0 h.1, h.2), holds),
          λ t s r e. keeps t s r (K.keeps t s r e),
          subst (λ (b : AfterAll). EndedAt b date rest) (sym there) ended,
        )
    go (Err y) M p q R =
        let m : M ≡ beside log w = sym q ∙ K.stays y p in
        let again : (store M date x.kind x.bytes).receipt.stored ≡ Err y =
        ap (λ (l : Lent). (store l date x.kind x.bytes).receipt.stored) m ∙ not-stored (store (beside log w) date x.kind x.bytes).receipt.stored y p in
        (w, [], x ∷ xs, m, refl, refl, ap (after_all (Ok tt)) (sym m), tt, λ t s r e. e, (y, refl, again, store_refuses (beside log w) date x.kind x.bytes y p))
