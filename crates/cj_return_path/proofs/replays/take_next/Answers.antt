use Rattle.std.proofs.Common.{◌+◌, ◌<◌, ◌≤◌, length, arith}
use Rattle.std.proofs.lemmas.Option.{slice_get_within}
use Rattle.cj_board.specs.Seats.{front, pass_view}
use Rattle.cj_board.proofs.Histories.{log_bound}
use Rattle.cj_cluster.specs.History.Histories.{log}
use Rattle.cj_pass.proofs.Passes.{noted_then}
use Rattle.cj_return_path.proofs.Restoring.{took, took_next}
use Rattle.cj_return_path.proofs.replays.take_next.Goals as goal

pub overflow_add-next : goal.overflow_add-next
overflow_add-next g c =
    let inside : c.args.n < length (log (front c.args.pass.now.seat)) = slice_get_within (log (front c.args.pass.now.seat)) c.args.n c.args.e.now c.requires.entry in
    let few : length (log (front c.args.pass.now.seat)) ≤ 4611686018427387904 = log_bound (front c.args.pass.now.seat) c.requires.legal in
    omega (arith, inside, few)

pub returns-in-At-clause-more : goal.returns-in-At-clause-more
returns-in-At-clause-more g c = noted_then (pass_view c.args.pass.now.seat) (pass_view c.take.new.pass.seat) (pass_view c.stand.new.pass.seat) c.take.ensures.more c.stand.ensures.more

pub returns-in_default-clause-more : goal.returns-in_default-clause-more
returns-in_default-clause-more g c = noted_then (pass_view c.args.pass.now.seat) (pass_view c.take.new.pass.seat) (pass_view c.stand.new.pass.seat) c.take.ensures.more c.stand.ensures.more

pub returns-in-Done-clause-takes : goal.returns-in-Done-clause-takes
returns-in-Done-clause-takes g c until =
    let v = pass_view c.take.new.pass.seat in
    took_next c.args.b c.args.n until c.args.e.now (pass_view c.args.pass.now.seat) v c.requires.entry c.take.ensures.more (took v (c.args.n + 1) c.args.b c.take.result c.in-Done.is c.take.ensures.reports)
