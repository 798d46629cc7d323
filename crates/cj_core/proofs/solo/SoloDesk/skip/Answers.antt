use Rattle.std.proofs.Common.{sym, ap, subst}
use Rattle.cj_core.proofs.Cited.{SoloState, SoloSteps, StandsBetweenCalls, WorldState, query_skipped, solo_skipped, stands_counted}
use Rattle.cj_core.proofs.solo.SoloDesk.skip.Goals as goal

pub invariant_of-self : goal.invariant_of-self
invariant_of-self g c =
    let solo = c.self.inside in
    subst (λ (w : WorldState). StandsBetweenCalls w.core solo.session) (sym c.count.ensures) (stands_counted solo.world.core solo.session c.self.invariant)

pub returns : goal.returns
returns g c =
    let solo = c.self.inside in
    let old : SoloState = record { world = solo.world; session = solo.session } in
    let new : SoloState = record { world = c.count.new.self; session = solo.session } in
    subst (λ (a : SoloState). SoloSteps g.B.Backend.tells a query_skipped new) c.self.view_is
    (solo_skipped g.B.Backend.tells old new c.self.invariant.here (ap (λ (w : WorldState). record { world = w; session = solo.session }) c.count.ensures))
