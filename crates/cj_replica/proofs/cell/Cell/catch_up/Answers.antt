use Rattle.std.proofs.Common.{◌≡◌, ℕ, ◌-◌, Some, slice_get, sym, subst}
use Rattle.cj_board.specs.Seats.{cell_view}
use Rattle.cj_cluster.specs.History.Histories.{log}
use Rattle.cj_replica.specs.Cells.{IsEntryAfter}
use Rattle.cj_replica.specs.Logged.{IsLoggedOutcome}
use Rattle.cj_replica.specs.Seated.{SeatedCell, view_after_entry}
use Rattle.cj_replica.proofs.SeatedCalls.{entry_logged, follows_in, number_of, seated_entry}
use Rattle.cj_replica.proofs.cell.Cell.catch_up.Goals as goal

pub catch_up-caught-requires-clause-written : goal.catch_up-caught-requires-clause-written
catch_up-caught-requires-clause-written g c =
    let follows = subst (λ (s : SeatedCell). IsEntryAfter s.state.position c.args.n) (sym c.self.view_is) c.requires.next in
    let entry = subst (λ (s : SeatedCell). slice_get (log s.view.front) (c.args.n - 1) ≡ Some c.args.e.now) (sym c.self.view_is) c.requires.entry in
    (follows_in _ _ _ _ _ c.self.invariant c.args.n c.args.e.now follows entry).2

pub note_entry-requires-clause-below : goal.note_entry-requires-clause-below
note_entry-requires-clause-below g c =
    let follows = subst (λ (s : SeatedCell). IsEntryAfter s.state.position c.args.n) (sym c.self.view_is) c.requires.next in
    let entry = subst (λ (s : SeatedCell). slice_get (log s.view.front) (c.args.n - 1) ≡ Some c.args.e.now) (sym c.self.view_is) c.requires.entry in
    (follows_in _ _ _ _ _ c.self.invariant c.args.n c.args.e.now follows entry).1

pub invariant_of-self : goal.invariant_of-self
invariant_of-self g c =
    let follows = subst (λ (s : SeatedCell). IsEntryAfter s.state.position c.args.n) (sym c.self.view_is) c.requires.next in
    let entry = subst (λ (s : SeatedCell). slice_get (log s.view.front) (c.args.n - 1) ≡ Some c.args.e.now) (sym c.self.view_is) c.requires.entry in
    let next = (follows_in _ _ _ _ _ c.self.invariant c.args.n c.args.e.now follows entry).0 in
    let number = number_of c.self.inside.seat.b c.self.inside.replica.b _ _ c.self.inside.seat.is_cell c.self.invariant.role in
    seated_entry _ _ _ _ _ _ _ _ c.self.invariant c.args.n c.args.e.now c.args.login.now c.catch_up-caught.result follows entry c.catch_up-caught.ensures
    (subst (λ (z : ℕ × ℕ). cell_view c.note_entry.new.seat ≡ view_after_entry z.0 z.1 (cell_view c.self.inside.seat) c.catch_up-caught.result) (λ i. (number i, sym next i)) c.note_entry.ensures.view)

pub returns-clause-logged : goal.returns-clause-logged
returns-clause-logged g c on =
    let follows = subst (λ (s : SeatedCell). IsEntryAfter s.state.position c.args.n) (sym c.self.view_is) c.requires.next in
    let entry = subst (λ (s : SeatedCell). slice_get (log s.view.front) (c.args.n - 1) ≡ Some c.args.e.now) (sym c.self.view_is) c.requires.entry in
    subst (λ (s : SeatedCell). IsLoggedOutcome (log s.view.front) c.args.n c.catch_up-caught.result) c.self.view_is
    (entry_logged _ _ _ _ _ c.self.invariant _ c.args.n c.args.e.now c.args.login.now c.catch_up-caught.result follows entry c.catch_up-caught.ensures on)
