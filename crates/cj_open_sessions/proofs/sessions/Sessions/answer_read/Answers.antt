use Rattle.std.proofs.Common.{List, refl, sym, subst, arith}
use Rattle.cj_open_sessions.proofs.Cited.{IsPlaceOf, OpenSession, answered_at, changed, changed_rises, unchanged, was_answered}
use Rattle.cj_open_sessions.proofs.sessions.Sessions.answer_read.Goals as goal

pub invariant_of-self : goal.invariant_of-self
invariant_of-self c =
    let at = subst (λ (ss : List OpenSession). IsPlaceOf ss c.args.number c.in-Some.place) (sym c.self.view_is) c.in-Some.ensures in
    record { rises = rw c.close_read.ensures (changed_rises c.self.inside.open.items c.self.invariant.rises c.args.number c.in-Some.place at c.index_mut-session.result.now c.index_mut-session.ensures.value (λ y. answered_at c.args.position (was_answered y)) (λ y. refl)); room = omega (arith, c.self.invariant.room) }

pub returns-in-Some : goal.returns-in-Some
returns-in-Some c =
    let at = subst (λ (ss : List OpenSession). IsPlaceOf ss c.args.number c.in-Some.place) (sym c.self.view_is) c.in-Some.ensures in
    rw (← c.self.view_is, c.close_read.ensures) (changed c.self.inside.open.items c.self.invariant.rises c.args.number c.in-Some.place at c.index_mut-session.result.now c.index_mut-session.ensures.value (λ y. answered_at c.args.position (was_answered y)))

pub returns-in_default : goal.returns-in_default
returns-in_default c = unchanged (λ y. answered_at c.args.position (was_answered y)) c.args.self.now c.args.number c.in_default.ensures
