use Rattle.std.proofs.Common.{◌≡◌, None, rules}
use Rattle.cj_start.proofs.Cited.{Apply, not_now, others_untouched, took_open}
use Rattle.cj_start.proofs.ending.take_where_due.Goals as goal

pub returns-clause-others : goal.returns-clause-others
returns-clause-others g c = others_untouched g.B.Backend.tells c.args.state.now c.catch_up_open.new.self c.args.b c.catch_up_open.result c.catch_up_open.ensures.applies c.catch_up_open.ensures.counts

pub returns-clause-here : goal.returns-clause-here
returns-clause-here g c =
    let now : not_now c.args.state.now.core (Apply c.args.b) ≡ None = search rules in
    took_open g.B.Backend.tells c.args.state.now c.catch_up_open.new.self c.args.b c.catch_up_open.result c.unless_starved.result c.catch_up_open.ensures.applies c.catch_up_open.ensures.counts c.legal.ensures.world c.requires.within now c.unless_starved.ensures.went
