-- A call that its tests refuse changes nothing.
use mathlib.Core.Path.{◌≡◌, refl, ap, ◌∙◌}
use mathlib.Core.Bool.{Bool, true, false, cond, not}
use mathlib.Core.List.{List, [], ◌∷◌}
use mathlib.Core.Logic.{◌⊎◌, inl, inr}
use mathlib.Core.Option.{Option, none, some}
use Prim.Native.Nat.{ℕ}
use native.Mathlib.Omega.{arith}
use lib.Dec.{ltb}
use lib.ListN.{length}
use Rattle.bedrock.specs.Choice.{on}
use Rattle.buffer.specs.Bytes.{Bytes}
use Rattle.refusal.specs.declared.Refusal.{Refusal}
use Rattle.refusal.specs.declared.Refusal.TheVariants as why
use Rattle.kind.specs.Kind.{longest}
use Rattle.sector.specs.Sector.{is_date}
use Rattle.sector_log.specs.Parts.{Lent, beside}
use Rattle.sector_log.specs.LookUp.{lent_allowed}
use Rattle.sector_log.specs.Store.{store}
use Rattle.writer.specs.Blocks.{Typed, file_blocks}
use Rattle.writer.specs.Depth.{depth_of}
use Rattle.writer.specs.WriteFile.{end_of, WriteOutcome, onward, store_all, outcome, wrote, buffers_allowed, write_file}
use Rattle.writer_laws.specs.Asking.{RefusedWritesNothing}
use Rattle.writer_laws.proofs.Held.{why-ended, store_refuses}
use Rattle.std.specs.Prelude.{Ok, Err, Result, ⊤}

-- blocks stored one after the other are refused with 14 or 15
all_refuse : (L : Lent) (date : Bytes) (xs : List Typed) (y : Refusal) → (store_all L date xs).end ≡ Err y → (y ≡ why.NoRoom) ⊎ (y ≡ why.Clash)
unfolding store_all
all_refuse L date [] y e = let z : ◌≡◌ {A = ℕ} 0 1 = cc in absurd (omega arith)
all_refuse L date (x ∷ xs) y e =
    let a = store L date x.kind x.bytes in
    go (end_of a.receipt.stored) refl e (all_refuse a.lent date xs y)
  where
    go : (s : Result ⊤ Refusal) → end_of (store L date x.kind x.bytes).receipt.stored ≡ s
        → (onward s (store L date x.kind x.bytes).lent (store_all (store L date x.kind x.bytes).lent date xs)).end ≡ Err y
        → ((store_all (store L date x.kind x.bytes).lent date xs).end ≡ Err y → (y ≡ why.NoRoom) ⊎ (y ≡ why.Clash))
        → (y ≡ why.NoRoom) ⊎ (y ≡ why.Clash)
    go (Ok tt) q f rest = rest f
    go (Err v) q f rest = store_refuses L date x.kind x.bytes y (q ∙ f)

pub refused-writes-nothing : RefusedWritesNothing
unfolding write_file
refused-writes-nothing log w date slice dsize psize entry scores y e room clash =
    test (not (buffers_allowed (length entry) (length scores))) why.Buffer _
    (test (not (lent_allowed (length log) (length w))) why.LogLength _
    (test (not (is_date date)) why.Date _
    (test (ltb longest (length slice)) why.DataLength _
    (deep (depth_of (length slice) dsize psize))))) e
  where
    test : (b : Bool) (v : Refusal) (x : WriteOutcome) → (x.end ≡ Err y → x ≡ outcome (Err y) (beside log w) entry scores)
        → (cond b (outcome (Err v) (beside log w) entry scores) x).end ≡ Err y
        → cond b (outcome (Err v) (beside log w) entry scores) x ≡ outcome (Err y) (beside log w) entry scores
    test true v x f q = ap (λ (u : Refusal). outcome (Err u) (beside log w) entry scores) (ap why-ended q)
    test false v x f q = f q

    neither : (y ≡ why.NoRoom) ⊎ (y ≡ why.Clash) → ⊥
    neither (inl q) = room q
    neither (inr q) = clash q

    deep : (o : Option ℕ) → (on o (outcome (Err why.Entry) (beside log w) entry scores) (wrote log w date slice dsize psize entry scores)).end ≡ Err y
        → on o (outcome (Err why.Entry) (beside log w) entry scores) (wrote log w date slice dsize psize entry scores) ≡ outcome (Err y) (beside log w) entry scores
    deep none q = ap (λ (u : Refusal). outcome (Err u) (beside log w) entry scores) (ap why-ended q)
    deep (some d) q = absurd (neither (all_refuse (beside log w) date (file_blocks slice dsize psize d) y q))
