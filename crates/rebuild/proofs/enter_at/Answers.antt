use Rattle.rebuild.proofs.Turns.{entered-none, label_facts, entered-some}
use Rattle.rebuild.proofs.enter_at.Goals as goal

pub returns-in_default : goal.returns-in_default
returns-in_default c =
    let a = c.args in
    entered-none a.log.now a.n.0 _ c.sound_at.ensures a.index.now c.in_default.is

pub enter_label-requires : goal.enter_label-requires
enter_label-requires c =
    let a = c.args in
    label_facts a.log.now a.n.0 _ c.sound_at.ensures _ c.in-Some.is _ c.sector_at.ensures

pub returns : goal.returns
returns c = let args = c.args in
    let enter-label = c.enter_label in
    let sector-at = c.sector_at in
    let sound-at = c.sound_at in
    let a = args in
    entered-some a.log.now a.n.0 _ sound-at.ensures _ c.in-Some.is _ sector-at.ensures
    a.index.now _ enter-label.ensures
