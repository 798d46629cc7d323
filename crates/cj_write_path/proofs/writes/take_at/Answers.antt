use Rattle.std.proofs.Common.{◌-◌, sym, subst}
use Rattle.cj_board.specs.Seats.{front, pass_view}
use Rattle.cj_cluster.specs.History.Histories.{log}
use Rattle.cj_place.specs.Layouts.{placement_of}
use Rattle.cj_tally.specs.declared.tally.Tally.{Tally}
use Rattle.cj_tally.specs.Tallies.{IsTallyOf}
use Rattle.cj_locked_cell.specs.Taking.{HasTallied}
use Rattle.cj_locked.proofs.Ending.{entry_there}
use Rattle.cj_locked_cell.proofs.Tallying.{tallied_more}
use Rattle.cj_write_path.proofs.writes.take_at.Goals as goal

pub take-did-requires-clause-entry : goal.take-did-requires-clause-entry
take-did-requires-clause-entry g c = entry_there (placement_of g.J.Naming.layout) (front c.args.pass.now.seat) c.args.n c.args.e.now c.requires.scheduled

pub returns-clause-tallied : goal.returns-clause-tallied
returns-clause-tallied g c =
    let t = g.B.Backend.tells in
    let p = placement_of g.J.Naming.layout in
    let v = pass_view c.args.pass.now.seat in
    let w = pass_view c.take-did.new.pass.seat in
    let there = entry_there p (front c.args.pass.now.seat) c.args.n c.args.e.now c.requires.scheduled in
    subst (λ (x : Tally). HasTallied t p c.args.n c.args.e.now w x) (sym c.took.ensures.report)
    (tallied_more t p c.args.n c.args.e.now v w c.take-did.ensures.more there c.args.tally.now c.requires.tallied c.args.b c.take-did.result c.take-did.ensures.reports
    (λ of report. subst (λ (x : Tally). IsTallyOf t p (log w.front) (c.args.n - 1) c.args.e.now x) c.took.ensures.report (c.took.ensures.tally t p (log w.front) (c.args.n - 1) c.args.e.now of report)))
