use Rattle.std.proofs.Common.{◌≡◌, ◌+◌, true, sym, subst}
use Rattle.cj_core.proofs.Cited.{StandsBetweenCalls, WorldState, is_free, stands_opened}
use Rattle.cj_core.proofs.world.World.desk.Goals as goal

pub invariant_of-result : goal.invariant_of-result
invariant_of-result g c =
    let old = c.self.inside.state.core in
    let made = c.add_session-session.ensures in
    let idle : is_free old.history ≡ true = subst (λ (w : WorldState). is_free w.core.history ≡ true) (sym c.self.view_is) c.requires in
    subst (λ s. StandsBetweenCalls c.add_session-session.new.self.core s) (sym made.number)
    (subst (λ (w : WorldState). StandsBetweenCalls w.core (old.greatest + 1)) (sym made.opened) (stands_opened old c.empty_text.result c.legal.ensures.world.sound idle))
