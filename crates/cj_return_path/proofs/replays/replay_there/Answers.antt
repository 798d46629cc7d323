use Rattle.cj_board.specs.Seats.{front, pass_view}
use Rattle.cj_pass.proofs.Passes.{noted_then}
use Rattle.cj_locked_cell.proofs.Loading.{within_later}
use Rattle.cj_return_path.proofs.Restoring.{replayed_earlier}
use Rattle.cj_return_path.proofs.replays.replay_there.Goals as goal

pub replay_from-requires-clause-until : goal.replay_from-requires-clause-until
replay_from-requires-clause-until g c = within_later (front c.args.pass.now.seat) (front c.stand.new.pass.seat) c.stand.ensures.more.seen.front c.args.until c.requires.until

pub returns-in-At-clause-replays : goal.returns-in-At-clause-replays
returns-in-At-clause-replays g c =
    replayed_earlier c.args.b c.args.most c.args.until (pass_view c.args.pass.now.seat) (pass_view c.stand.new.pass.seat) (pass_view c.replay_from.new.pass.seat) c.stand.ensures.more c.replay_from.result c.replay_from.ensures.replays

pub returns-in-At-clause-more : goal.returns-in-At-clause-more
returns-in-At-clause-more g c = noted_then (pass_view c.args.pass.now.seat) (pass_view c.stand.new.pass.seat) (pass_view c.replay_from.new.pass.seat) c.stand.ensures.more c.replay_from.ensures.more
