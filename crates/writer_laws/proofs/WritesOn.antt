-- What a call leaves of its blocks, and the same call after a sync.
use mathlib.Core.Path.{◌≡◌, refl, sym, ap, ap₂, ◌∙◌, subst}
use mathlib.Core.Bool.{true}
use mathlib.Core.List.{List, [], ◌∷◌, ◌++◌}
use mathlib.Core.Option.{Option, none, some}
use Prim.Native.Nat.{ℕ, ◌*◌, ◌/◌, ◌≤◌}
use native.Mathlib.Omega.{arith}
use lib.ListN.{length}
use Rattle.bedrock.specs.Choice.{on}
use Rattle.buffer.specs.Bytes.{Bytes, same}
use Rattle.buffer.proofs.Bytes.{same_refl}
use Rattle.digits.specs.Number.{small}
use Rattle.kind.specs.Kind.{longest}
use Rattle.sector.specs.Sector.{is_date}
use Rattle.block.specs.Block.{parts_of}
use Rattle.sector_log.specs.Parts.{Lent, beside, one_log, tape, can_settle, settled}
use Rattle.sector_log.specs.LookUp.{lent_allowed}
use Rattle.sector_log.specs.Store.{store}
use Rattle.sector_log.proofs.Alike.{held-alike}
use Rattle.demands.specs.Ledger.{Extent}
use Rattle.demands.specs.Instance.{extent_of}
use Rattle.demands.proofs.LentLaws.{settle-fits, extent-settled, at-settled}
use Rattle.trees.specs.Again.{waiting_of}
use Rattle.writer.specs.Blocks.{Typed, file_blocks}
use Rattle.writer.specs.Depth.{depth_of}
use Rattle.writer.specs.WriteFile.{AfterAll, after_all, store_all, WriteOutcome, outcome, entry_after, cleared_to, entry_over, write_file}
use Rattle.writer.proofs.Depth.{depth_lies, least-found}
use Rattle.writer.proofs.Tested.{tests_passed}
use Rattle.writer_laws.specs.Held.{HoldsAll, AllWritable, StaysIn, FileStays, WritesOn, FileWritesOn}
use Rattle.writer_laws.proofs.Held.{none_left, stays}
use Rattle.writer_laws.proofs.Written.{writable_file}
use Rattle.writer_laws.proofs.ReadBack.{all-before, holds_later}
use Rattle.std.specs.Prelude.{Ok}

-- the blocks of a file of an allowed depth may be written
writable_deep : (slice : Bytes) (dsize psize depth : ℕ) → small slice ≡ true → depth_of (length slice) dsize psize ≡ some depth → AllWritable (file_blocks slice dsize psize depth)
writable_deep slice dsize psize depth sm de =
    let lies = depth_lies (length slice) dsize psize depth de in
    writable_file slice dsize psize depth lies.dsize-to lies.psize-from lies.psize-to (least-found (length slice) dsize (psize / 20) depth lies.least).0 sm

pub file-stays : FileStays
file-stays log w date slice dsize psize entry scores depth sm en sc al da sh de =
    let xs = file_blocks slice dsize psize depth in
    let p = tests_passed log w date slice dsize psize entry scores en sc true (sym al) refl true (sym da) refl sh depth de in
    subst (λ (o : WriteOutcome). StaysIn log w date xs (after_all o.end o.lent)) p (stays log w date xs al da (writable_deep slice dsize psize depth sm de))

-- ---- blocks that are there already

-- a log that holds a list of blocks is as it was when they are stored once more
held_again : (M : Lent) (date : Bytes) (xs ys : List Typed) → HoldsAll (one_log M) xs → store_all M date (xs ++ ys) ≡ store_all M date ys
unfolding store_all store
held_again M date [] ys H = refl
held_again M date (x ∷ xs) ys H =
    let same_bytes : same H.0.0.bytes x.bytes ≡ true = rw H.0.2 (same_refl x.bytes) in
    rw (H.0.1, same_bytes) (held_again M date xs ys H.1)

writable_front : (xs ys : List Typed) → AllWritable (xs ++ ys) → AllWritable xs
writable_front [] ys A = tt
writable_front (x ∷ xs) ys A = (A.0, writable_front xs ys A.1)

-- blocks that were all stored are held, also when they are settled
holds_settled : (log w date : Bytes) (xs : List Typed) (L : Lent) → lent_allowed (length log) (length w) ≡ true → is_date date ≡ true → AllWritable xs
    → store_all (beside log w) date xs ≡ after_all (Ok tt) L → can_settle L ≡ true → HoldsAll (one_log (settled L)) xs
holds_settled log w date xs L al da A e c =
    let a = store_all (beside log w) date xs in
    let S = stays log w date xs al da A in
    let all = all-before xs S.1 S.2 S.5 (none_left a date S.2 S.9 (ap (λ (b : AfterAll). b.end) e)) in
    let is : L ≡ beside log S.0 = sym (ap (λ (b : AfterAll). b.lent) e) ∙ S.3 in
    let holds : HoldsAll (one_log L) xs = rw is (subst (HoldsAll (tape log S.0)) (sym all) S.7) in
    holds_later (one_log L) (one_log (settled L)) xs
    (λ t s r h. held-alike (one_log (settled L)) (one_log L) (λ k. at-settled L.log L.waiting k (settle-fits L.log L.waiting c)) t s ∙ h) holds

pub writes-on : WritesOn
writes-on log w date xs al da A c before rest split stored =
    let L = (store_all (beside log w) date xs).lent in
    let M = settled L in
    let H = holds_settled log w date before L al da (writable_front before rest (subst AllWritable split A)) stored c in
    ap (store_all M date) split ∙ held_again M date before rest H

-- ---- of the call

module _ (date slice : Bytes) (dsize psize : ℕ) (entry scores : Bytes) (depth : ℕ) (en : length entry ≡ 40) (sc : 20 * longest ≤ length scores) (da : is_date date ≡ true)
    (sh : length slice ≤ longest) (de : depth_of (length slice) dsize psize ≡ some depth) where
  -- what a call leaves whose blocks are stored so
  abbrev wrote_in : AfterAll → WriteOutcome
  wrote_in a = outcome a.end a.lent (entry_after a.end entry (entry_over slice dsize psize depth)) (cleared_to (20 * parts_of dsize (length slice)) scores)

  -- a call on a log with its waiting part as they are lent
  wrote_in_lem : (log : Bytes) (o : Option Bytes) (m n : ℕ) → lent_allowed m n ≡ true → let L : Lent = record { log = log; waiting = o } in extent_of L ≡ record { size = m; waiting = some n }
      → write_file log (waiting_of L) date slice dsize psize entry scores ≡ wrote_in (store_all L date (file_blocks slice dsize psize depth))
  wrote_in_lem log none m n al e = let z : ◌≡◌ {A = ℕ} 0 1 = ap (λ (x : Extent). on x.waiting 0 (λ n. 1)) e in absurd (omega arith)
  wrote_in_lem log (some w) m n al e =
      let allowed = ap₂ lent_allowed (ap (λ (x : Extent). x.size) e) (ap (λ (x : Extent). on x.waiting 0 (λ n. n)) e) ∙ al in
      sym (tests_passed log w date slice dsize psize entry scores en sc true (sym allowed) refl true (sym da) refl sh depth de)

pub file-writes-on : FileWritesOn
file-writes-on log w date slice dsize psize entry scores depth sm en sc al da sh de c before rest split stored entry' scores' en' sc' =
    let xs = file_blocks slice dsize psize depth in
    let o = write_file log w date slice dsize psize entry scores in
    let A = writable_deep slice dsize psize depth sm de in
    let F = file-stays log w date slice dsize psize entry scores depth sm en sc al da sh de in
    let L = o.lent in
    let M = settled L in
    let H = holds_settled log w date before L al da (writable_front before rest (subst AllWritable split A)) stored c in
    let long : extent_of M ≡ record { size = length log; waiting = some (length w) } =
    extent-settled L.log L.waiting (settle-fits L.log L.waiting c) ∙ ap extent_of F.3 ∙ ap (λ (n : ℕ). record { size = length log; waiting = some n }) F.4 in
    wrote_in_lem date slice dsize psize entry' scores' depth en' sc' da sh de M.log M.waiting (length log) (length w) al long
    ∙ ap (wrote_in date slice dsize psize entry' scores' depth en' sc' da sh de) (ap (store_all M date) split ∙ held_again M date before rest H)
