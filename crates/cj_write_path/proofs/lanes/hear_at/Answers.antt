use Rattle.std.proofs.Common.{◌≡◌, ℕ, ◌-◌, Some, slice_get, sym, subst}
use Rattle.cj_cluster.specs.History.Histories.{log}
use Rattle.cj_board.specs.Seats.{front}
use Rattle.cj_place.specs.Layouts.{placement_of}
use Rattle.cj_locked.proofs.Ending.{entry_there}
use Rattle.cj_write_path.proofs.lanes.hear_at.Goals as goal

pub count-requires-clause-entry : goal.count-requires-clause-entry
count-requires-clause-entry g c =
    let F = front c.args.pass.now.seat in
    subst (λ (k : ℕ). slice_get (log F) (k - 1) ≡ Some c.args.e.now) (sym c.hear.ensures) (entry_there (placement_of g.J.Naming.layout) F c.args.n c.args.e.now c.requires.scheduled)
