use Rattle.cj_board.specs.Seats.{front, pass_view}
use Rattle.cj_pass.specs.Passes.{HasSeenMore}
use Rattle.cj_read_path.specs.Reading.{HaveFailedSince}
use Rattle.cj_read_path.proofs.reads.read_until.Given as goal

abbrev pub invariant-loop : goal.invariant-loop
invariant-loop g l =
    record {
      seen : HasSeenMore (pass_view l.fn.pass.seat) (pass_view l.pass.seat);
      failed : HaveFailedSince (front l.fn.pass.seat) (front l.pass.seat) l.fn.query.session l.fn.query.seq l.tries.failed;
    }
