use Rattle.std.proofs.Common.{◌≡◌, ap, sym, ◌∙◌}
use Rattle.cj_model.specs.Cluster.Placements.{part}
use Rattle.cj_cluster.specs.History.Histories.{database_after, log}
use Rattle.cj_board.specs.Seats.{front, pass_view}
use Rattle.cj_place.specs.Layouts.{placement_of}
use Rattle.cj_pass.proofs.Passes.{noted_then}
use Rattle.cj_replica.specs.Cells.{CellState}
use Rattle.cj_locked_cell.proofs.Loading.{loaded_earlier, part_later, within_later}
use Rattle.cj_locked_cell.proofs.cell.LockedCell.load.Goals as goal

pub load_out-requires-clause-within : goal.load_out-requires-clause-within
load_out-requires-clause-within g c = within_later (front c.args.pass.now.seat) (front c.stand.new.pass.seat) c.stand.ensures.more.seen.front c.args.position c.requires.within

pub load_out-requires-clause-right : goal.load_out-requires-clause-right
load_out-requires-clause-right g c on =
    let its : c.stand.new.self.cell.state.b ≡ c.args.b = ap (λ (s : CellState). s.b) c.stand.ensures.state ∙ c.in-Out.ensures.is.0 in
    part_later (front c.args.pass.now.seat) (front c.stand.new.pass.seat) c.stand.ensures.more.seen.front c.args.position c.requires.within (placement_of g.J.Naming.layout) c.args.b c.args.db (c.requires.right on)
    ∙ ap (λ b. part (placement_of g.J.Naming.layout) b (database_after (log (front c.stand.new.pass.seat)) c.args.position)) (sym its)

pub returns-in-Out-clause-more : goal.returns-in-Out-clause-more
returns-in-Out-clause-more g c = noted_then (pass_view c.args.pass.now.seat) (pass_view c.stand.new.pass.seat) (pass_view c.load_out.new.pass.seat) c.stand.ensures.more c.load_out.ensures.more

pub returns-in-Out-clause-loaded : goal.returns-in-Out-clause-loaded
returns-in-Out-clause-loaded g c =
    let its : c.stand.new.self.cell.state.b ≡ c.args.b = ap (λ (s : CellState). s.b) c.stand.ensures.state ∙ c.in-Out.ensures.is.0 in
    loaded_earlier c.args.b c.stand.new.self.cell.state.b c.args.position (pass_view c.args.pass.now.seat) (pass_view c.stand.new.pass.seat) (pass_view c.load_out.new.pass.seat) c.load_out.result its c.stand.ensures.more c.load_out.ensures.loaded
