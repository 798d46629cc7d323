use Rattle.std.proofs.Common.{None}
use Rattle.cj_board.specs.Seats.{front, pass_view}
use Rattle.cj_locked.proofs.Marking.{marked_now}
use Rattle.cj_pass.proofs.Passes.{noted_then}
use Rattle.cj_administration.proofs.Administering.{marked_checks, not_begun, not_marked}
use Rattle.cj_administration.proofs.administration.checkpoint.Goals as goal

pub finish_checkpoint-marked-requires : goal.finish_checkpoint-marked-requires
finish_checkpoint-marked-requires g c =
    let x = c.in-Ok-Some.begun in
    record {
      holds =
          marked_now g.S.Store.tells g.S.Store.faults (front c.args.pass.now.seat) (front c.begin_marker-begun.new.pass.seat) c.args.name.now None x.turn.share.amount x.turn.log x.item (rw c.in-Ok-Some.field-0-is at c.in-Ok-Some.ensures.ok)
          c.append-appended.new.self.share.amount c.append-appended.ensures.amount c.append-appended.new.self.log c.append-appended.result (λ h follows is. c.append-appended.ensures.follows_marker h c.args.name.now None follows is);
    }

pub returns-in-Ok-clause-checks : goal.returns-in-Ok-clause-checks
returns-in-Ok-clause-checks g c =
    marked_checks (front c.args.pass.now.seat) (front c.begin_marker-begun.new.pass.seat) (front c.finish_checkpoint-marked.new.pass.seat) c.args.name.now c.in-Ok.number c.begin_marker-begun.ensures.more.seen.front c.in-Ok.ensures.marks

pub returns-in-Ok-clause-more : goal.returns-in-Ok-clause-more
returns-in-Ok-clause-more g c =
    noted_then (pass_view c.args.pass.now.seat) (pass_view c.begin_marker-begun.new.pass.seat) (pass_view c.finish_checkpoint-marked.new.pass.seat) c.begin_marker-begun.ensures.more c.finish_checkpoint-marked.ensures.more

pub returns-in-Err-marked-clause-more : goal.returns-in-Err-marked-clause-more
returns-in-Err-marked-clause-more g c =
    noted_then (pass_view c.args.pass.now.seat) (pass_view c.begin_marker-begun.new.pass.seat) (pass_view c.finish_checkpoint-marked.new.pass.seat) c.begin_marker-begun.ensures.more c.finish_checkpoint-marked.ensures.more

pub returns-in-Err-marked-clause-checks : goal.returns-in-Err-marked-clause-checks
returns-in-Err-marked-clause-checks g c =
    not_marked (front c.args.pass.now.seat) (front c.begin_marker-begun.new.pass.seat) (front c.finish_checkpoint-marked.new.pass.seat) c.args.name.now c.in-Err-marked.error c.refusal_of.result c.begin_marker-begun.ensures.more.seen.front
    c.in-Err-marked.ensures.marks c.refusal_of.ensures

pub returns-in-Err-clause-checks : goal.returns-in-Err-clause-checks
returns-in-Err-clause-checks g c =
    not_begun (front c.args.pass.now.seat) (front c.begin_marker-begun.new.pass.seat) c.args.name.now c.in-Err.error c.refusal_of-in-Err.result c.begin_marker-begun.ensures.more.seen.front c.in-Err.ensures.err c.refusal_of-in-Err.ensures
