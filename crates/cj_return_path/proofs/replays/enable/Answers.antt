use Rattle.cj_board.specs.Seats.{pass_view}
use Rattle.cj_pass.proofs.Passes.{noted_then}
use Rattle.cj_return_path.proofs.Restoring.{enables_earlier, not_replayed}
use Rattle.cj_return_path.proofs.replays.enable.Goals as goal

pub returns-then-is_in-clause-more : goal.returns-then-is_in-clause-more
returns-then-is_in-clause-more g c = noted_then (pass_view c.args.pass.now.seat) (pass_view c.hold-length.new.pass.seat) (pass_view c.give_back.new.pass.seat) c.hold-length.ensures.more c.give_back.ensures.more

pub returns-in-Ok-clause-enables : goal.returns-in-Ok-clause-enables
returns-in-Ok-clause-enables g c =
    enables_earlier c.args.b (pass_view c.args.pass.now.seat) (pass_view c.replay_there.new.pass.seat) (pass_view c.enable_at.new.pass.seat)
    (noted_then (pass_view c.args.pass.now.seat) (pass_view c.hold-length.new.pass.seat) (pass_view c.replay_there.new.pass.seat) c.hold-length.ensures.more c.replay_there.ensures.more) c.enable_at.result c.enable_at.ensures.enables

pub returns-in-Ok-clause-more : goal.returns-in-Ok-clause-more
returns-in-Ok-clause-more g c = noted_then (pass_view c.args.pass.now.seat) (pass_view c.replay_there.new.pass.seat) (pass_view c.enable_at.new.pass.seat) (noted_then (pass_view c.args.pass.now.seat) (pass_view c.hold-length.new.pass.seat) (pass_view c.replay_there.new.pass.seat) c.hold-length.ensures.more c.replay_there.ensures.more) c.enable_at.ensures.more

pub returns-in-Err-clause-enables : goal.returns-in-Err-clause-enables
returns-in-Err-clause-enables g c =
    not_replayed c.args.b c.hold-length.result.length c.hold-length.result.length (pass_view c.args.pass.now.seat) (pass_view c.hold-length.new.pass.seat) (pass_view c.replay_there.new.pass.seat) (pass_view c.give_back-in-Err.new.pass.seat)
    c.hold-length.ensures.more c.give_back-in-Err.ensures.more c.in-Err.error c.in-Err.ensures.replays

pub returns-in-Err-clause-more : goal.returns-in-Err-clause-more
returns-in-Err-clause-more g c = noted_then (pass_view c.args.pass.now.seat) (pass_view c.replay_there.new.pass.seat) (pass_view c.give_back-in-Err.new.pass.seat) (noted_then (pass_view c.args.pass.now.seat) (pass_view c.hold-length.new.pass.seat) (pass_view c.replay_there.new.pass.seat) c.hold-length.ensures.more c.replay_there.ensures.more) c.give_back-in-Err.ensures.more
