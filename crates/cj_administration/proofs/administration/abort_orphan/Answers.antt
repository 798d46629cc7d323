use Rattle.cj_board.specs.Seats.{front, pass_view}
use Rattle.cj_place.specs.Layouts.{placement_of}
use Rattle.cj_locked.specs.Orphans.{BeginsAbortSince}
use Rattle.cj_pass.proofs.Passes.{seen_then}
use Rattle.cj_administration.proofs.Administering.{abort_not_begun, begins_again, ends_earlier}
use Rattle.cj_administration.proofs.administration.abort_orphan.Goals as goal

pub carry_out_abort-requires : goal.carry_out_abort-requires
carry_out_abort-requires g c =
    let x = c.in-Ok-Some.begun in
    record {
      begins =
          begins_again g.S.Store.tells g.S.Store.faults (placement_of g.J.Naming.layout) (front c.args.pass.now.seat) (front c.begin_abort-begun.new.pass.seat) c.args.tx x.entry x.copy x.begun.prepared x.begun.turn.share.amount x.begun.turn.log x.begun.item
          (rw c.in-Ok-Some.field-0-is at c.in-Ok-Some.ensures.ok);
    }

pub returns-in-Ok-Some-clause-ends : goal.returns-in-Ok-Some-clause-ends
returns-in-Ok-Some-clause-ends g c =
    let x = c.in-Ok-Some.begun in
    let F = front c.args.pass.now.seat in
    let H = front c.begin_abort-begun.new.pass.seat in
    let begins : BeginsAbortSince g.S.Store.tells g.S.Store.faults (placement_of g.J.Naming.layout) F H c.args.tx x.entry x.copy x.begun.prepared x.begun.turn.share.amount x.begun.turn.log x.begun.item = rw c.in-Ok-Some.field-0-is at c.in-Ok-Some.ensures.ok in
    ends_earlier g.B.Backend.tells (placement_of g.J.Naming.layout) F H (front c.carry_out_abort.new.pass.seat) x.entry.tx c.args.tx c.begin_abort-begun.ensures.more.seen.front begins.aborts.transaction c.carry_out_abort.result c.carry_out_abort.ensures.ends

pub returns-in-Err-clause-ends : goal.returns-in-Err-clause-ends
returns-in-Err-clause-ends g c =
    abort_not_begun (front c.args.pass.now.seat) (front c.begin_abort-begun.new.pass.seat) c.args.tx c.in-Err.error c.refusal_of.result c.begin_abort-begun.ensures.more.seen.front c.in-Err.ensures.err c.refusal_of.ensures

pub returns-in-Ok-Some-clause-seen : goal.returns-in-Ok-Some-clause-seen
returns-in-Ok-Some-clause-seen g c =
    seen_then (pass_view c.args.pass.now.seat) (pass_view c.begin_abort-begun.new.pass.seat) (pass_view c.carry_out_abort.new.pass.seat) c.begin_abort-begun.ensures.more.seen c.carry_out_abort.ensures.seen
