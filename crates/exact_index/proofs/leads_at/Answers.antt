use Rattle.block.specs.Log.{joined}
use Rattle.exact_index.proofs.Turns.{leads_nowhere, label_facts, leads-there}
use Rattle.exact_index.proofs.leads_at.Goals as goal

pub returns-in_default : goal.returns-in_default
returns-in_default c =
    let a = c.args in
    leads_nowhere (joined a.runs.end.0 a.runs.log.now a.runs.waiting.now) a.index.now a.n.0 _ c.sound_at.ensures c.in_default.is

pub leads_from-requires : goal.leads_from-requires
leads_from-requires c =
    let a = c.args in
    let both = joined a.runs.end.0 a.runs.log.now a.runs.waiting.now in
    let f = label_facts both a.index.now a.n.0 _ c.sound_at.ensures _ c.in-Some.is _ c.sector_at-s.ensures in
    (c.requires.0, f.0, f.1, f.2, f.3)

pub returns : goal.returns
returns c = let args = c.args in
    let sound-at = c.sound_at in
    let a = args in
    let both = joined a.runs.end.0 a.runs.log.now a.runs.waiting.now in
    leads-there both a.index.now a.n.0 _ sound-at.ensures _ c.in-Some.is _ c.sector_at-s.ensures _ c.leads_from.ensures
