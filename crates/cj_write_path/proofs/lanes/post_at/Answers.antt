use Rattle.std.proofs.Common.{◌≡◌, ◌-◌, Some, slice_get, sym, subst, ap, ◌∙◌}
use Rattle.std.specs.Arc.{arc_value}
use Rattle.cj_model.specs.declared.request.Entry.{Entry}
use Rattle.cj_cluster.specs.History.Histories.{log}
use Rattle.cj_board.specs.declared.view.SeatView.{SeatView}
use Rattle.cj_board.specs.Seats.{front}
use Rattle.cj_place.specs.Layouts.{placement_of}
use Rattle.cj_locked.proofs.Ending.{entry_there}
use Rattle.cj_write_path.proofs.lanes.post_at.Goals as goal

pub new-job-requires-clause-scheduled : goal.new-job-requires-clause-scheduled
new-job-requires-clause-scheduled g c =
    let e = arc_value c.args.e.now in
    let there = entry_there (placement_of g.J.Naming.layout) (front c.args.pass.now.seat) c.args.n e c.requires.scheduled in
    subst (λ (x : Entry). slice_get (log (front c.split.result.seat)) (c.args.n - 1) ≡ Some x) (sym c.in-Ok.ensures) (ap (λ (v : SeatView). slice_get (log v.front) (c.args.n - 1)) c.split.ensures.other ∙ there)
