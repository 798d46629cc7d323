use Rattle.std.proofs.Common.{◌≡◌, false, Ok, subst, refl}
use Rattle.cj_records.proofs.Common.{Finds, LeavesOnly, bodies_at}
use Rattle.cj_records.specs.Records.{RecordList, KeepsAtLeast, LeavesList, IsBeforeOrAfter}
use Rattle.cj_records.proofs.Crash.{held_at_least, started, safe_tells}
use Rattle.cj_records.proofs.Begun.{laid_finds}
use Rattle.cj_records.proofs.records.Records.legal.Goals as goal

pub returns-clause-list : goal.returns-clause-list
returns-clause-list g c = λ t.
    let held = g.S.Store.held in
    let r = c.self.inside in
    subst (λ (v : RecordList g.row.S.Denot). v.torn ≡ false → Finds v.magic (held v.store) (Ok v.list)) c.self.view_is (laid_finds r.magic (held r.store) (bodies_at (held r.store) r.places.items) r.end r.torn (c.self.invariant.0.laid t))

pub returns-clause-at_least : goal.returns-clause-at_least
returns-clause-at_least g c = λ t.
    let s = g.S.Store in
    let r = c.self.inside in
    subst (λ (v : RecordList g.row.S.Denot). KeepsAtLeast v (s.held v.store)) c.self.view_is
    (held_at_least (s.held r.store) (s.may r.store) r.magic r.places.items r.end r.torn (c.self.invariant.0.laid t) (safe_tells s.tells (s.held r.store) (s.may r.store) r.magic r.places.items r.end r.torn t c.self.invariant.1))

pub returns-clause-safe : goal.returns-clause-safe
returns-clause-safe g c = λ t.
    let held = g.S.Store.held in
    let r = c.self.inside in
    subst (λ (v : RecordList g.row.S.Denot). v.torn ≡ false → LeavesList (g.S.Store.may v.store) v.magic v.list) c.self.view_is
    (λ shut image now. laid_finds r.magic image (bodies_at (held r.store) r.places.items) r.end false (c.self.invariant.1.shut t shut image now) refl)

pub returns-clause-now : goal.returns-clause-now
returns-clause-now g c = λ t body.
    let s = g.S.Store in
    let r = c.self.inside in
    subst (λ (v : RecordList g.row.S.Denot). LeavesOnly s.moment s.since v.store v.store (IsBeforeOrAfter v body)) c.self.view_is
    (started s.moment s.may s.since s.held r.magic r.places.items r.end r.torn body r.store (c.self.invariant.0.laid t) (safe_tells s.tells (s.held r.store) (s.may r.store) r.magic r.places.items r.end r.torn t c.self.invariant.1) (λ image left. g.met.S.Store.only_now r.store image left))
