use Rattle.std.proofs.Common.{sym, subst}
use Rattle.cj_book.proofs.Cited.{BookLogState, IsKeptIn, LeavesItems, LogFollows, items_of, kept_in, shut_where}
use Rattle.cj_book.proofs.book_log.BookLog.legal.Goals as goal

pub returns-clause-kept : goal.returns-clause-kept
returns-clause-kept g c = λ h follows t.
    let s = g.S.Store in
    let l = c.self.inside.log in
    let f = subst (λ (v : BookLogState g.row.S.Denot). LogFollows s.tells s.faults v h) (sym c.self.view_is) follows in
    subst (λ (v : BookLogState g.row.S.Denot). IsKeptIn (s.held v.log.store) h) c.self.view_is
    (kept_in (s.held l.store) h l.items l.torn (f.logged t) (f.gate t) (c.legal.ensures.items t) (c.legal.ensures.at_least t))

pub returns-clause-safe : goal.returns-clause-safe
returns-clause-safe g c = λ h follows t well.
    let s = g.S.Store in
    let l = c.self.inside.log in
    let f = subst (λ (v : BookLogState g.row.S.Denot). LogFollows s.tells s.faults v h) (sym c.self.view_is) follows in
    subst (λ (v : BookLogState g.row.S.Denot). LeavesItems (s.may v.log.store) (items_of h)) c.self.view_is
    (rw (f.logged t) (c.legal.ensures.safe t (shut_where h l.torn (f.gate t) well)))

pub returns-clause-now : goal.returns-clause-now
returns-clause-now g c = λ t. rw (← c.self.view_is) (c.legal.ensures.now t)
