use Rattle.std.proofs.Common.{◌≤◌, length, arith}
use Rattle.cj_cluster.specs.History.Histories.{log}
use Rattle.cj_cluster.proofs.Pushed.{log-prefix, prefix_length}
use Rattle.cj_board.specs.Seats.{front}
use Rattle.cj_read_path.proofs.reads.read_until.Goals as goal

pub round-requires-clause-owes : goal.round-requires-clause-owes
round-requires-clause-owes g c =
    let F = front c.args.pass.now.seat in
    let G = front c.loop.pass.seat in
    let more = prefix_length (log F) (log G) (log-prefix F G c.loop.invariant.seen.front) in
    let owes : c.args.query.now.least ≤ length (log F) = c.requires.owes in
    let there : c.args.query.now.least ≤ length (log G) = omega (arith, owes, more) in
    there
