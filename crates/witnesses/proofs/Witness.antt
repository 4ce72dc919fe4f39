-- Histories that there are: one whose damage changed a sector, and those without damage.
use mathlib.Core.Path.{refl, sym, ap, ◌∙◌}
use mathlib.Core.Bool.{true≢false}
use mathlib.Core.List.{[], ◌∷◌}
use mathlib.Core.Logic.{◌≢◌}
use mathlib.Core.Option.{none}
use lib.Dec.{lit<}
use Rattle.buffer.specs.Bytes.{zeros}
use Rattle.block.specs.Log.{at}
use Rattle.block.proofs.At.{blank-is}
use Rattle.sector_log.specs.Parts.{one_log}
use Rattle.demands.specs.Ledger.{Extent}
use Rattle.demands.specs.Instance.{void}
use Rattle.promises.specs.Histories.{NothingWaits}
use Rattle.witnesses.specs.CanBe.{DamageCanBe, DamageMayBeNone}
use Rattle.demands.proofs.LentLaws.{extent-void, at-blank, start-alone}
use Rattle.witnesses.proofs.Splice.{splice, with_log}
use Rattle.witnesses.proofs.Hurts.{marred, marred_used, damage-none, damage-one}

-- on a blank log nothing waits
void-rests : (x : Extent) → NothingWaits (void x)
void-rests x = start-alone x.waiting (void x)

-- of one sector
abbrev one : Extent
one = record { size = 512; waiting = none }

blank-differs : at (one_log (void one)) 0 ≢ marred
blank-differs e = true≢false (sym blank-is ∙ ap zeros (sym (at-blank one 0) ∙ e) ∙ marred_used)

pub damage_can_be : DamageCanBe
damage_can_be = (
  record {
    size = one;
    before = [];
    before-of-bytes = tt;
    rests = void-rests one;
    changed = 0 ∷ [];
    hurt = with_log (splice 0 marred (void one).log) (void one);
    damage = damage-one (at (one_log (void one))) one (void one) (extent-void one) (λ k. refl) (void-rests one) 0 (lit< tt) blank-differs;
    later = [];
    later-of-bytes = tt;
  },
  0,
  refl,
)

-- all of the list comes after damage that changed nothing
pub damage_may_be_none : DamageMayBeNone
damage_may_be_none x qs b = (
  record {
    size = x;
    before = [];
    before-of-bytes = tt;
    rests = void-rests x;
    changed = [];
    hurt = void x;
    damage = damage-none (at (one_log (void x))) x (void x) (extent-void x) (λ k. refl) (void-rests x);
    later = qs;
    later-of-bytes = b;
  },
  refl,
  refl,
  refl,
)
