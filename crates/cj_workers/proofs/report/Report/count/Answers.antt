use Rattle.std.proofs.Common.{rules, ◌≡◌, ℕ, subst}
use Rattle.std.specs.Arc.{arc_value}
use Rattle.cj_cluster.specs.declared.moves.Did.TheVariants as did
use Rattle.cj_board.specs.Seats.{pass_view}
use Rattle.cj_place.specs.Layouts.{placement_of}
use Rattle.cj_workers.specs.Reports.{TellsEntry}
use Rattle.cj_workers.proofs.Joining.{report_counted}
use Rattle.cj_workers.proofs.Telling.{told_entry}
use Rattle.cj_workers.proofs.report.Report.count.Goals as goal

pub returns-then-backend-b-clause-tallied : goal.returns-then-backend-b-clause-tallied
returns-then-backend-b-clause-tallied g c =
    let r = c.args.self in
    let t = g.J.Naming.tells in
    let p = placement_of g.J.Naming.layout in
    let u = pass_view r.pass.seat in
    report_counted t p r.number (arc_value r.entry) c.args.e.now (pass_view c.args.pass.now.seat) u (pass_view c.rejoin.new.pass.seat) c.rejoin.ensures.pass c.rejoin.ensures.more c.rejoin.ensures.other r.scheduled c.requires.entry
    c.args.b did.Starved (told_entry t p r.number (arc_value r.entry) u c.args.b did.Starved (record { noted = tt; right = tt })) c.args.tally.now c.took.new.self c.requires.tallied c.took.ensures.report c.took.ensures.tally

pub returns-clause-tallied : goal.returns-clause-tallied
returns-clause-tallied g c =
    let r = c.args.self in
    let t = g.J.Naming.tells in
    let p = placement_of g.J.Naming.layout in
    let u = pass_view r.pass.seat in
    let its : r.backend ≡ c.args.b = search rules in
    report_counted t p r.number (arc_value r.entry) c.args.e.now (pass_view c.args.pass.now.seat) u (pass_view c.rejoin.new.pass.seat) c.rejoin.ensures.pass c.rejoin.ensures.more c.rejoin.ensures.other r.scheduled c.requires.entry
    c.args.b r.did (subst (λ (b : ℕ). TellsEntry t p r.number (arc_value r.entry) u b r.did) its r.tells) c.args.tally.now c.took-2.new.self c.requires.tallied c.took-2.ensures.report c.took-2.ensures.tally
