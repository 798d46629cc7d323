use Rattle.std.proofs.Common.{List, refl, sym, subst, arith}
use Rattle.cj_transactions.proofs.Cited.{BookSession, IsIndexOf, changed, changed_rises, session_number, unchanged}
use Rattle.cj_transactions.proofs.sessions.BookSessions.put_tx.Goals as goal

pub invariant_of-self : goal.invariant_of-self
invariant_of-self c =
    let at = subst (λ (xs : List BookSession). IsIndexOf session_number xs c.args.number c.in-Some.place) (sym c.self.view_is) c.in-Some.ensures in
    record { rises = changed_rises session_number c.self.inside.open.items c.self.invariant.rises c.args.number c.in-Some.place at c.index_mut.result.now c.index_mut.ensures.value (λ y. record y { tx = c.args.tx }) (λ y. refl); room = omega (arith, c.self.invariant.room) }

pub returns-in-Some : goal.returns-in-Some
returns-in-Some c =
    let at = subst (λ (xs : List BookSession). IsIndexOf session_number xs c.args.number c.in-Some.place) (sym c.self.view_is) c.in-Some.ensures in
    rw (← c.self.view_is) (changed session_number c.self.inside.open.items c.self.invariant.rises c.args.number c.in-Some.place at c.index_mut.result.now c.index_mut.ensures.value (λ y. record y { tx = c.args.tx }))

pub returns-in_default : goal.returns-in_default
returns-in_default c = unchanged session_number (λ y. record y { tx = c.args.tx }) c.args.self.now c.args.number c.in_default.ensures
