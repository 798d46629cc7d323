use Rattle.cj_cases.proofs.LineByLine.{unwritten}
use Rattle.cj_cases.proofs.playing.refuse.Goals as goal

pub returns-in_default : goal.returns-in_default
returns-in_default g c = unwritten (g.E.Sink.held c.args.errors.now) (g.E.Sink.faults c.args.errors.now) _ _
