use Rattle.cj_state.proofs.OtherReads.{other_read}
use Rattle.cj_state.proofs.state.is_other.Goals as goal

pub returns-in-Some : goal.returns-in-Some
returns-in-Some c = other_read c.in-Some.read c.args.session.now c.args.select.now c.is_same.result c.in-Some.is c.is_same.ensures
