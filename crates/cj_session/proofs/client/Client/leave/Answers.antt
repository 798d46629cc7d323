use Rattle.cj_session.proofs.Works.{can_roll_back}
use Rattle.cj_session.proofs.client.Client.leave.Goals as goal

pub write-requires-clause-can : goal.write-requires-clause-can
write-requires-clause-can g c = can_roll_back (g.K.Desk.state_of c.args.desk.now) c.in-Some.user c.args.self.now.user c.requires.room c.requires.at.short c.in-Some.is
