use Rattle.std.proofs.Common.{◌∙◌}
use Rattle.cj_cluster.specs.History.Histories.{log}
use Rattle.cj_recovery.proofs.KeptSessions.{keeps_fit, put_here, put_there}
use Rattle.cj_recovery.proofs.grown.Grown.follow.Goals as goal

pub returns-clause-sessions : goal.returns-clause-sessions
returns-clause-sessions c =
    let old = c.args.self.now in
    let updates = c.in_ok-insert.ensures.updates in
    keeps_fit (log old.events.items) c.args.entry.now old.sessions c.insert.new.self c.owner-owner.result c.requires.keeps.followed
    (put_here c.insert.new.self c.owner-owner.result c.session_behind-session.result updates.1 ∙ c.session_behind-session.ensures)
    (put_there old.sessions c.insert.new.self c.owner-owner.result updates.2) c.owner-owner.ensures c.requires.fit
