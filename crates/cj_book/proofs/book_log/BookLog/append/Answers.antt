use Rattle.std.proofs.Common.{refl, sym, subst}
use Rattle.cj_book.proofs.Cited.{BookLogState, LogFollows, appended_entry, appended_fault, appended_marker, appended_want}
use Rattle.cj_book.proofs.book_log.BookLog.append.Goals as goal

pub returns-clause-follows_entry : goal.returns-clause-follows_entry
returns-clause-follows_entry g c = λ h e follows is.
    let s = g.S.Store in
    let f = subst (λ (v : BookLogState g.row.S.Denot). LogFollows s.tells s.faults v h) (sym c.self.view_is) follows in
    let a = c.append.ensures in
    appended_entry f (record { log = c.append.new.self; faults_at_opening = s.faults c.self.inside.opened_with.value }) refl c.append.result a.cause c.args.item e a.items a.refused is

pub returns-clause-follows_marker : goal.returns-clause-follows_marker
returns-clause-follows_marker g c = λ h name b follows is.
    let s = g.S.Store in
    let f = subst (λ (v : BookLogState g.row.S.Denot). LogFollows s.tells s.faults v h) (sym c.self.view_is) follows in
    let a = c.append.ensures in
    appended_marker f (record { log = c.append.new.self; faults_at_opening = s.faults c.self.inside.opened_with.value }) refl c.append.result a.cause c.args.item name b a.items a.refused is

pub returns-clause-follows_fault : goal.returns-clause-follows_fault
returns-clause-follows_fault g c = λ h x q follows is.
    let s = g.S.Store in
    let f = subst (λ (v : BookLogState g.row.S.Denot). LogFollows s.tells s.faults v h) (sym c.self.view_is) follows in
    let a = c.append.ensures in
    appended_fault f (record { log = c.append.new.self; faults_at_opening = s.faults c.self.inside.opened_with.value }) refl c.append.result a.cause c.args.item x q a.items is

pub returns-clause-follows_want : goal.returns-clause-follows_want
returns-clause-follows_want g c = λ h follows is.
    let s = g.S.Store in
    let f = subst (λ (v : BookLogState g.row.S.Denot). LogFollows s.tells s.faults v h) (sym c.self.view_is) follows in
    let a = c.append.ensures in
    appended_want f (record { log = c.append.new.self; faults_at_opening = s.faults c.self.inside.opened_with.value }) refl c.append.result a.cause c.args.item a.items a.memory is
