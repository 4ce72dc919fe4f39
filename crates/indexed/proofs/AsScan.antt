-- A request by index beside the one by the scan.
use mathlib.Core.Path.{◌≡◌, refl, ap}
use mathlib.Core.Bool.{cond, not}
use mathlib.Core.Option.{Option, none, some}
use Prim.Native.Nat.{ℕ}
use native.Mathlib.Omega.{arith}
use lib.Dec.{ltb}
use lib.ListN.{length}
use Rattle.buffer.specs.Bytes.{Bytes}
use Rattle.refusal.specs.declared.Refusal.TheVariants.{BlockType, OverCount}
use Rattle.message.specs.Message.{tag_of, score_of}
use Rattle.message.specs.Reply.{read_reply}
use Rattle.kind.specs.Kind.{lawful}
use Rattle.block.specs.Block.{Row}
use Rattle.sector_log.specs.LookUp.{held}
use Rattle.sector_log.specs.Parts.{Lent, one_log}
use Rattle.hint.specs.Hint.{held_by}
use Rattle.hint.specs.Promises.{bytes_of}
use Rattle.hint.proofs.Scan.{hint-is_scan}
use Rattle.request.specs.Step.{Outcome, refused, granted, read_of, read}
use Rattle.request.specs.declared.Session.TheVariants.{Greeted}
use Rattle.indexed.specs.Indexed.{read_by, write_by}
use Rattle.indexed.specs.Promises.{ReadsAsScan, OnlyReadsLook}
use Rattle.indexed.proofs.Ways.{step_ways}

-- what a read answers is decided by the bytes of the block found
answers-of-bytes : (f g : Option Row) (count tag : ℕ) (L : Lent) (buffer : Bytes) → bytes_of f ≡ bytes_of g → read_of f count tag L buffer ≡ read_of g count tag L buffer
answers-of-bytes none none count tag L buffer e = refl
answers-of-bytes none (some x) count tag L buffer e = let z : ◌≡◌ {A = ℕ} 0 1 = cc in absurd (omega arith)
answers-of-bytes (some r) none count tag L buffer e = let z : ◌≡◌ {A = ℕ} 0 1 = cc in absurd (omega arith)
answers-of-bytes (some r) (some x) count tag L buffer e =
    let z : r.bytes ≡ x.bytes = cc in
    ap (λ (b : Bytes). cond (ltb count (length b)) (refused OverCount tag Greeted L buffer) (granted (read_reply tag b) Greeted L buffer)) z

pub reads_as_scan : ReadsAsScan
unfolding read_by read write_by
reads_as_scan s m date index L buffer c =
    step_ways m date index L buffer (λ _ x o. x.outcome ≡ o) (λ _ o _. refl)
    (λ kind count _. ap (λ (y : Outcome). cond (not (lawful kind)) (refused BlockType (tag_of m) Greeted L buffer) y)
    (answers-of-bytes (held_by (one_log L) index kind (score_of m)) (held (one_log L) kind (score_of m)) count (tag_of m) L buffer (hint-is_scan (one_log L) index c kind (score_of m))))
    (λ kind _ _ _. refl)
    s

pub only-reads_look : OnlyReadsLook
unfolding write_by
only-reads_look s m date index L buffer n =
    step_ways m date index L buffer (λ _ x o. x.outcome ≡ o) (λ _ o _. refl) (λ kind count e. absurd (n kind count e)) (λ kind _ _ _. refl) s
