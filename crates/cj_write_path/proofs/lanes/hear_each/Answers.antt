use Rattle.cj_board.specs.Seats.{front, pass_view}
use Rattle.cj_place.specs.Layouts.{placement_of}
use Rattle.cj_locked.proofs.Ending.{scheduled_on}
use Rattle.cj_pass.proofs.Passes.{noted_then}
use Rattle.cj_write_path.proofs.Reporting.{reported_next}
use Rattle.cj_write_path.proofs.lanes.hear_each.Goals as goal

pub hear_at-requires-clause-scheduled : goal.hear_at-requires-clause-scheduled
hear_at-requires-clause-scheduled g c = scheduled_on (placement_of g.J.Naming.layout) (front c.args.pass.now.seat) c.args.n c.args.e.now c.requires.scheduled (front c.loop-b.pass.seat) c.loop-b.invariant.more.seen.front

pub loop-b-preserved : goal.loop-b-preserved
loop-b-preserved g c =
    record {
      more = noted_then (pass_view c.args.pass.now.seat) (pass_view c.loop-b.pass.seat) (pass_view c.hear_at.new.pass.seat) c.loop-b.invariant.more c.hear_at.ensures.more;
      tallied = c.hear_at.ensures.tallied;
      reported = reported_next c.args.mask c.loop-b.b c.loop-b.tally c.hear_at.new.tally c.loop-b.invariant.reported c.hear_at.ensures.others c.hear_at.ensures.reported;
      others = λ k was. c.hear_at.ensures.others k (c.loop-b.invariant.others k was);
    }
