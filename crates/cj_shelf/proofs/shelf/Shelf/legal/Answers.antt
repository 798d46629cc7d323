use Rattle.std.proofs.Common.{subst}
use Rattle.cj_outside.specs.Stores.{LeavesOnly}
use Rattle.cj_shelf.specs.Shelves.{ShelfState, KeepsAtLeast, IsBeforeOrAfter}
use Rattle.cj_shelf.proofs.Stops.{keeps_at_least, leaves_now}
use Rattle.cj_shelf.proofs.shelf.Shelf.legal.Goals as goal

pub returns-clause-at_least : goal.returns-clause-at_least
returns-clause-at_least g c = λ t.
    let s = g.D.Store in
    subst (λ (v : ShelfState g.row.D.Denot). KeepsAtLeast (s.held v.store) v.dumps v.torn) c.self.view_is
    (keeps_at_least s.tells c.self.inside.records c.self.inside.labels.items (s.held c.self.inside.records.store) t c.self.invariant (c.legal.ensures.at_least t))

pub returns-clause-now : goal.returns-clause-now
returns-clause-now g c = λ t d.
    let s = g.D.Store in
    subst (λ (v : ShelfState g.row.D.Denot). LeavesOnly s.moment s.since v.store v.store (IsBeforeOrAfter v d)) c.self.view_is
    (leaves_now s.tells c.self.inside.records c.self.inside.labels.items d t c.self.invariant s.moment s.since (c.legal.ensures.now t))
