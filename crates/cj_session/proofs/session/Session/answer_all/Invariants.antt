use Rattle.std.proofs.Common.{◌≡◌, ◌+◌, ◌-◌, ◌*◌, length}
use Rattle.cj_session.proofs.Common.{client_state, most, setting}
use Rattle.cj_session.specs.Proving.Points.{point, ServesUpTo}
use Rattle.cj_session.specs.Proving.Works.{IsClientAt}
use Rattle.cj_session.proofs.session.Session.answer_all.Given as goal

abbrev pub invariant-loop-end : goal.invariant-loop-end
invariant-loop-end g l =
    let desk = g.K.Desk in
    let left = g.I.Source.left in
    let held = g.O.Sink.held in
    record {
      served : ServesUpTo (setting desk.state_of desk.leads_to g.D.Draw.drawn g.D.Draw.later (g.C.Clock.moment l.clock))
          (point (left l.fn.input) (held l.fn.output) (client_state l.fn.self.client.user l.fn.desk l.fn.draw) l.fn.self.feed l.fn.self.taken)
          (point (left l.input) (held l.output) (client_state l.self.client.user l.desk l.draw) l.self.feed l.self.taken);
      at : IsClientAt l.self.client.user l.self.client.tx (desk.state_of l.desk);
      input : g.I.Source.faults l.input ≡ g.I.Source.faults l.fn.input;
      output : g.O.Sink.faults l.output ≡ g.O.Sink.faults l.fn.output;
    }

abbrev pub decreases-loop-end : goal.decreases-loop-end
decreases-loop-end g l = 2 * (most - l.self.taken) + length l.self.feed
