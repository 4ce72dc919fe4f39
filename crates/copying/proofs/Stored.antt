-- One block stored in a log alone: appended, there already, or refused.
use mathlib.Core.Path.{◌≡◌, refl, sym, ◌∙◌}
use mathlib.Core.Bool.{Bool, true, false, cond, true≢false}
use mathlib.Core.Option.{Option, none, some}
use Prim.Native.Nat.{ℕ, ◌+◌, ◌≤◌, ◌^◌}
use native.Mathlib.Omega.{arith}
use borrow.Author.Tests.{leb-true}
use lib.ListN.{length}
use Rattle.bedrock.specs.Choice.{on}
use Rattle.buffer.specs.Bytes.{Bytes, same}
use Rattle.buffer.proofs.Bytes.{same_refl, same_true}
use Rattle.digits.specs.Number.{small}
use Rattle.sha1_digest.specs.Sha1.{sha1_of}
use Rattle.refusal.specs.declared.Refusal.TheVariants.{NoRoom, Clash}
use Rattle.kind.specs.Kind.{lawful, longest}
use Rattle.sector.specs.Sector.{is_date}
use Rattle.sector.proofs.Dates.{date_or_none}
use Rattle.block.specs.Block.{Row, parts, valid, written}
use Rattle.block.specs.Log.{sectors, used}
use Rattle.block.proofs.Facts.{facts_valid}
use Rattle.sector_log.specs.LookUp.{held}
use Rattle.sector_log.specs.Parts.{alone, room_for, append_row}
use Rattle.sector_log.specs.Store.{AfterStore, after_store, receipt, new_row, parts_for, appended, compared, store}
use Rattle.sector_log.specs.declared.Stored.TheVariants.{New, Duplicate}
use Rattle.sector_log.proofs.Allowed.{some_bytes}
use Rattle.copying.specs.Copy.{store_end}
use Rattle.copying.specs.Promises.{Refuses, no_room, clash}
use Rattle.std.specs.Prelude.{Ok, Err}

-- ---- a store

-- what a store of type t and bytes b leaves of a log s
pub data Stored (s date : Bytes) (t : ℕ) (b : Bytes) (a : AfterStore) : Type 0 where
  new : (r : Row) → valid r ≡ true → r.first ≡ used s → r.first + parts r ≤ sectors (length s) → r.kind ≡ t → r.score ≡ sha1_of b → r.bytes ≡ b → r.date ≡ date
      → held s t (sha1_of b) ≡ none → a.lent.log ≡ written s r → store_end a.receipt.stored ≡ Ok tt → Stored s date t b a
  there : (x : Row) → held s t (sha1_of b) ≡ some x → x.bytes ≡ b → a.lent.log ≡ s → store_end a.receipt.stored ≡ Ok tt → Stored s date t b a
  refused : Refuses s date t b (store_end a.receipt.stored) → a.lent.log ≡ s → Stored s date t b a

-- a log whose sectors eight digits name
abbrev pub Fits : Bytes → Type 0
Fits s = sectors (length s) ≤ 16 ^ 8

room-alone : (s : Bytes) (k : ℕ) → room_for (alone s) k ≡ true → used s + k ≤ sectors (length s)
unfolding room_for
room-alone s k e = leb-true (used s + k) (sectors (length s)) e

module _ (s date : Bytes) (t : ℕ) (b : Bytes) (fit : Fits s) (d : is_date date ≡ true) (l : lawful t ≡ true) (m : length b ≤ longest) (o : small b ≡ true) where
  by_room : held s t (sha1_of b) ≡ none → (q : Bool) → room_for (alone s) (parts_for date b) ≡ q
      → Stored s date t b (cond q (after_store (receipt (sha1_of b) (Ok (New (record { 0 = used s })))) (append_row (alone s) (new_row (alone s) date t b)))
      (after_store (receipt (sha1_of b) (Err NoRoom)) (alone s)))
  unfolding append_row
  by_room h true q =
      let r : Row = new_row (alone s) date t b in
      let p = room-alone s (parts_for date b) q in
      let v : valid r ≡ true = facts_valid r (record {
        lawful-kind = l;
        some_bytes = some_bytes s t b l h;
        not_many = m;
        of-bytes = o;
        scored = refl;
        can_be_named = omega (arith, p, fit);
        dated = date_or_none date d;
      }) in
      new r v refl p refl refl refl refl h refl refl
  by_room h false q = refused (no_room h q) refl

  by_bytes : (x : Row) → held s t (sha1_of b) ≡ some x → (q : Bool) → same x.bytes b ≡ q
      → Stored s date t b (cond q (after_store (receipt (sha1_of b) (Ok (Duplicate (record { 0 = x.first })))) (alone s))
      (after_store (receipt (sha1_of b) (Err Clash)) (alone s)))
  by_bytes x h true q = there x h (same_true x.bytes b q) refl refl
  by_bytes x h false q = refused (clash x h (λ e. true≢false (sym (rw e (same_refl b)) ∙ q))) refl

  pub stored-alone : Stored s date t b (store (alone s) date t b)
  unfolding store
  stored-alone = go (held s t (sha1_of b)) refl
    where
      go : (h : Option Row) → held s t (sha1_of b) ≡ h → Stored s date t b (on h (appended (alone s) date t b) (λ r. compared (alone s) r.bytes r.first b))
      go none h = by_room h (room_for (alone s) (parts_for date b)) refl
      go (some x) h = by_bytes x h (same x.bytes b) refl
