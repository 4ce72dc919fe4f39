use Rattle.print.specs.Text.{verdict}
use Rattle.print.proofs.Lines.{verdict-sound, verdict_notknown}
use Rattle.print.proofs.write_verdict.Goals as goal

pub returns-then-doubtful-eq0 : goal.returns-then-doubtful-eq0
unfolding verdict
returns-then-doubtful-eq0 c =
    verdict-sound c.args.d.now _ c.args.at c.args.doubtful c.if-doubtful-eq0.true c.copy_at.ensures

pub returns : goal.returns
unfolding verdict
returns c =
    verdict_notknown c.args.d.now _ c.args.at c.args.doubtful c.if-doubtful-eq0.false c.copy_at-2.ensures
