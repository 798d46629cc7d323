use Rattle.std.proofs.Common.{◌-◌}
use Rattle.std.specs.Arc.{arc_value}
use Rattle.cj_cluster.specs.History.Histories.{log}
use Rattle.cj_cluster.proofs.Pushed.{log-prefix, prefix_get}
use Rattle.cj_board.specs.Seats.{front}
use Rattle.cj_write_path.proofs.lanes.carry.Goals as goal

pub new-requires-clause-scheduled : goal.new-requires-clause-scheduled
new-requires-clause-scheduled g c =
    let F = front c.args.job.pass.seat in
    let G = front c.take-did.new.pass.seat in prefix_get (log F) (log G) (c.args.job.number - 1) (arc_value c.args.job.entry) (log-prefix F G c.take-did.ensures.more.seen.front) c.args.job.scheduled
