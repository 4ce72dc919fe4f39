-- What can belong to a log and a waiting part.
use mathlib.Core.Path.{◌≡◌, refl, sym, ap, ◌∙◌}
use mathlib.Core.Bool.{Bool, true, false, cond, ◌&&◌}
use Prim.Native.Nat.{◌+◌}
use lib.Dec.{eqb, leb}
use lib.ListN.{length}
use borrow.Author.Tests.{le-leb, lt-ltb, leb-true, ltb-true}
use Rattle.bedrock.proofs.Choices.{and-true}
use Rattle.buffer.specs.Bytes.{Bytes}
use Rattle.refusal.specs.declared.Refusal.TheVariants.{NotKnown}
use Rattle.block.specs.Log.{sectors, used}
use Rattle.block.proofs.Used.{used_le_sectors}
use Rattle.block.proofs.Joined.{used-joined}
use Rattle.sector_log.specs.LookUp.{doubtful, first_doubtful, absence}
use Rattle.sector_log.specs.Parts.{tape}
use Rattle.sector_log.proofs.Gives.{twelve_is-first}
use Rattle.known.specs.Known.{doubt_of, doubt_before, learned, belongs}
use Rattle.known.specs.Promises.{LearnedBelongs, BelongsWithin}
use Rattle.std.specs.Prelude.{Some, None, Option as Optional}
use Rattle.sector_number.specs.declared.SectorNumber.{SectorNumber}

pub belongs-within : BelongsWithin
unfolding belongs
belongs-within k m w e =
    let doubt = doubt_before k.doubt (k.used.0 + k.waits.0) in
    let p = and-true (leb k.used.0 (sectors m)) (leb k.waits.0 (sectors w) && doubt) e in
    let q = and-true (leb k.waits.0 (sectors w)) doubt p.1 in (
      leb-true k.used.0 (sectors m) p.0,
      leb-true k.waits.0 (sectors w) q.0,
      λ n d. ltb-true n.0 (k.used.0 + k.waits.0) (sym (ap (λ (x : Optional SectorNumber). doubt_before x (k.used.0 + k.waits.0)) d) ∙ q.1),
    )

-- the doubt that is learned lies in the used part
doubt-before : (log : Bytes) → doubt_before (doubt_of log) (used log) ≡ true
unfolding doubt_of absence
doubt-before log = go (eqb (doubtful log) 0) refl
  where
    go : (b : Bool) → eqb (doubtful log) 0 ≡ b → doubt_before (cond b None (Some (record { 0 = first_doubtful log }))) (used log) ≡ true
    go true q = refl
    go false q =
        let told : absence log ≡ NotKnown (record { 0 = first_doubtful log }) = rw q in
        lt-ltb (first_doubtful log) (used log) (twelve_is-first log (record { 0 = first_doubtful log }) told).0

pub learned-belongs : LearnedBelongs
unfolding learned belongs
learned-belongs log waiting index =
    let d : doubt_before (doubt_of (tape log waiting)) (used log + used waiting) ≡ true =
    ap (doubt_before (doubt_of (tape log waiting))) (sym (used-joined log waiting)) ∙ doubt-before (tape log waiting) in
    rw (le-leb (used log) (sectors (length log)) (used_le_sectors log), le-leb (used waiting) (sectors (length waiting)) (used_le_sectors waiting)) d
