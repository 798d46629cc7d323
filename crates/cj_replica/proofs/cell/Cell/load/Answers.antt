use Rattle.std.proofs.Common.{◌≡◌, ℕ, ◌≤◌, ◌&&◌, true, None, length, sym, subst}
use Rattle.std.proofs.lemmas.Bool.{and_parts}
use Rattle.cj_model.specs.Cluster.Placements.{part}
use Rattle.cj_board.specs.Seats.{cell_view}
use Rattle.cj_cluster.specs.History.Histories.{database_after, log}
use Rattle.cj_replica.specs.Seated.{SeatedCell, view_after_load}
use Rattle.cj_replica.proofs.SeatedCalls.{number_of, seated_load}
use Rattle.cj_replica.proofs.cell.Cell.load.Goals as goal

pub invariant_of-self : goal.invariant_of-self
invariant_of-self g c =
    let n : ℕ = c.args.position in
    let number = number_of c.self.inside.seat.b c.self.inside.replica.b _ _ c.self.inside.seat.is_cell c.self.invariant.role in
    seated_load _ _ _ _ _ _ _ _ c.self.invariant g.B.Backend.tells (λ on. (and_parts g.D.Store.tells g.B.Backend.tells on).1) c.args.db n c.load-loaded.result
    (subst (λ (s : SeatedCell). s.state.position ≡ None) (sym c.self.view_is) c.requires.out)
    (subst (λ (s : SeatedCell). n ≤ length (log s.view.front)) (sym c.self.view_is) c.requires.within)
    (subst (λ (s : SeatedCell). (g.D.Store.tells && g.B.Backend.tells) ≡ true → c.args.db ≡ part s.state.placement s.state.b (database_after (log s.view.front) n)) (sym c.self.view_is) c.requires.right)
    c.load-loaded.ensures (subst (λ b. cell_view c.note_load.new.seat ≡ view_after_load b n (cell_view c.self.inside.seat) c.load-loaded.result) number c.note_load.ensures.view)
