use Rattle.std.proofs.Common.{List, refl, sym, subst, arith}
use Rattle.cj_open_sessions.proofs.Cited.{IsPlaceOf, OpenSession, changed, changed_rises, unchanged, was_answered}
use Rattle.cj_open_sessions.proofs.sessions.Sessions.refuse_read.Goals as goal

pub invariant_of-self : goal.invariant_of-self
invariant_of-self c =
    let at = subst (λ (ss : List OpenSession). IsPlaceOf ss c.args.number c.in-Some.place) (sym c.self.view_is) c.in-Some.ensures in
    record { rises = rw c.close_read.ensures (changed_rises c.self.inside.open.items c.self.invariant.rises c.args.number c.in-Some.place at c.index_mut.result.now c.index_mut.ensures.value was_answered (λ y. refl)); room = omega (arith, c.self.invariant.room) }

pub returns-in-Some : goal.returns-in-Some
returns-in-Some c =
    let at = subst (λ (ss : List OpenSession). IsPlaceOf ss c.args.number c.in-Some.place) (sym c.self.view_is) c.in-Some.ensures in
    rw (← c.self.view_is, c.close_read.ensures) (changed c.self.inside.open.items c.self.invariant.rises c.args.number c.in-Some.place at c.index_mut.result.now c.index_mut.ensures.value was_answered)

pub returns-in_default : goal.returns-in_default
returns-in_default c = unchanged was_answered c.args.self.now c.args.number c.in_default.ensures
