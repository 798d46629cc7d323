use Rattle.std.proofs.Common.{◌≡◌, None, sym, subst}
use Rattle.cj_state.proofs.Cited.{AnswersOpen, WorldState, first_lagging, reply_answers, states_of}
use Rattle.cj_state.proofs.state.State.reply.Goals as goal

pub returns : goal.returns
returns g c =
    let w = c.self.inside in
    let none = subst (λ (x : WorldState). first_lagging x.core.history 0 x.core.positions ≡ None) (sym c.self.view_is) c.requires.behind in
    subst (λ (x : WorldState). AnswersOpen g.B.Backend.tells x.core c.reply.result) c.self.view_is
    (λ e is.
    reply_answers g.B.Backend.tells w.accounts w.book.state.layout w.book.state.history (states_of w.cells.items) w.sessions w.book.state.greatest w.dumps w.book.state.sessions w.tally c.self.invariant.0 c.targets.result c.targets.ensures e is none c.reply.result c.reply.ensures.answers)
