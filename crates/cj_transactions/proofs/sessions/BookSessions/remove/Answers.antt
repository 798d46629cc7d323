use Rattle.std.proofs.Common.{List, sym, subst, arith}
use Rattle.cj_transactions.proofs.Cited.{BookSession, IsIndexOf, removed, removed_rises, session_number, unremoved}
use Rattle.cj_transactions.proofs.sessions.BookSessions.remove.Goals as goal

pub invariant_of-self : goal.invariant_of-self
invariant_of-self c =
    let at = subst (λ (xs : List BookSession). IsIndexOf session_number xs c.args.number c.in-Some.place) (sym c.self.view_is) c.in-Some.ensures in
    record { rises = rw c.remove.ensures.items (removed_rises session_number c.self.inside.open.items c.self.invariant.rises c.args.number c.in-Some.place at c.remove.result c.remove.ensures.value); room = omega (arith, c.self.invariant.room) }

pub returns-in-Some : goal.returns-in-Some
returns-in-Some c =
    let at = subst (λ (xs : List BookSession). IsIndexOf session_number xs c.args.number c.in-Some.place) (sym c.self.view_is) c.in-Some.ensures in
    rw (← c.self.view_is, c.remove.ensures.items) (removed session_number c.self.inside.open.items c.self.invariant.rises c.args.number c.in-Some.place at c.remove.result c.remove.ensures.value)

pub returns-in_default : goal.returns-in_default
returns-in_default c = unremoved session_number c.args.self.now c.args.number c.in_default.ensures
