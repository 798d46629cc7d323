use Rattle.std.proofs.Common.{◌≤◌, length, arith}
use Rattle.cj_cluster.specs.History.Histories.{log}
use Rattle.cj_board.specs.Seats.{front, pass_view}
use Rattle.cj_control.proofs.Callers.{counts_none, none_newer}
use Rattle.cj_control.proofs.control.Control.connect.Goals as goal

pub invariant_of-result : goal.invariant_of-result
invariant_of-result g c =
    let k =
    counts_none (pass_view c.args.own.seat) (pass_view c.rejoin.new.pass.seat) (pass_view c.show.new.pass.seat) c.args.session c.rejoin.ensures.more.seen c.show.ensures.seen c.requires.own.0 c.requires.none c.show.ensures.few
    in
    record {
      own = (k.1, c.requires.own.1, c.requires.own.2);
      counted = k.2;
      owes = (let none : 0 ≤ length (log (front c.show.new.pass.seat)) = omega arith in none);
      newer = none_newer c.args.session (front c.show.new.pass.seat) c.requires.own.1 c.show.ensures.legal k.0;
    }
