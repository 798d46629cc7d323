use Rattle.std.proofs.Common.{◌≤◌, length, sym, subst, ℕ}
use Rattle.cj_cluster.specs.History.Histories.{log}
use Rattle.cj_cluster.proofs.Pushed.{log-prefix, prefix_length}
use Rattle.cj_board.specs.Seats.{front, pass_view}
use Rattle.cj_pass.proofs.Passes.{noted_then}
use Rattle.cj_return_path.proofs.Restoring.{replays_earlier}
use Rattle.cj_return_path.proofs.replays.replay.Goals as goal

pub returns-then-is_enabled-clause-more : goal.returns-then-is_enabled-clause-more
returns-then-is_enabled-clause-more g c = noted_then (pass_view c.args.pass.now.seat) (pass_view c.log_length-until.new.pass.seat) (pass_view c.is_enabled.new.pass.seat) c.log_length-until.ensures.more c.is_enabled.ensures.more

pub replay_there-requires-clause-until : goal.replay_there-requires-clause-until
replay_there-requires-clause-until g c =
    let G = front c.log_length-until.new.pass.seat in
    let H = front c.is_enabled.new.pass.seat in
    subst (λ (k : ℕ). k ≤ length (log H)) (sym c.log_length-until.ensures.length) (prefix_length (log G) (log H) (log-prefix G H c.is_enabled.ensures.more.seen.front))

pub returns-clause-replays : goal.returns-clause-replays
returns-clause-replays g c =
    let F = front c.args.pass.now.seat in
    let G = front c.log_length-until.new.pass.seat in
    let within : length (log F) ≤ c.log_length-until.result = subst (λ (k : ℕ). length (log F) ≤ k) (sym c.log_length-until.ensures.length) (prefix_length (log F) (log G) (log-prefix F G c.log_length-until.ensures.more.seen.front)) in
    replays_earlier c.args.b c.args.most c.log_length-until.result (pass_view c.args.pass.now.seat) (pass_view c.is_enabled.new.pass.seat) (pass_view c.replay_there.new.pass.seat)
    (noted_then (pass_view c.args.pass.now.seat) (pass_view c.log_length-until.new.pass.seat) (pass_view c.is_enabled.new.pass.seat) c.log_length-until.ensures.more c.is_enabled.ensures.more) within c.replay_there.result c.replay_there.ensures.replays

pub returns-clause-more : goal.returns-clause-more
returns-clause-more g c = noted_then (pass_view c.args.pass.now.seat) (pass_view c.is_enabled.new.pass.seat) (pass_view c.replay_there.new.pass.seat) (noted_then (pass_view c.args.pass.now.seat) (pass_view c.log_length-until.new.pass.seat) (pass_view c.is_enabled.new.pass.seat) c.log_length-until.ensures.more c.is_enabled.ensures.more) c.replay_there.ensures.more
