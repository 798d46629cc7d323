use Rattle.std.proofs.Common.{map, sym, ap, ◌∙◌, subst}
use Rattle.cj_core.proofs.Cited.{AreEmpty, states_of, told_of_backends}
use Rattle.cj_core.proofs.start.seat_all.Goals as goal

pub returns-clause-empty : goal.returns-clause-empty
returns-clause-empty g c =
    let b = g.B.Backend in
    subst (AreEmpty b.tells) (ap (map b.told) (sym c.into_vec-list.ensures) ∙ told_of_backends b.told b.faults b.asks b.login b.arming c.into_vec-list.result.items (states_of c.in_ok-cells.cells.items) (sym c.in_ok-cells.ensures.same)) c.requires.nothing
