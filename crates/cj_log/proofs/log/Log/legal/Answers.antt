use Rattle.std.proofs.Common.{subst}
use Rattle.cj_log.proofs.Common.{IsBeforeOrAfter, KeepsAtLeast, LeavesOnly, LogState, items_in}
use Rattle.cj_log.proofs.Stops.{keeps_at_least, leaves_now}
use Rattle.cj_log.proofs.log.Log.legal.Goals as goal

pub returns-clause-at_least : goal.returns-clause-at_least
returns-clause-at_least g c = λ t.
    let s = g.S.Store in
    subst (λ (v : LogState g.row.S.Denot). KeepsAtLeast (s.held v.store) v.items v.torn) c.self.view_is
    (keeps_at_least s.tells c.self.inside.records (items_in c.self.inside.records.list) (s.held c.self.inside.records.store) t c.self.invariant (c.legal.ensures.at_least t))

pub returns-clause-now : goal.returns-clause-now
returns-clause-now g c = λ t item.
    let s = g.S.Store in
    subst (λ (v : LogState g.row.S.Denot). LeavesOnly s.moment s.since v.store v.store (IsBeforeOrAfter v item)) c.self.view_is
    (leaves_now s.tells c.self.inside.records (items_in c.self.inside.records.list) item t c.self.invariant s.moment s.since (c.legal.ensures.now t))
