use Rattle.cj_board.specs.Seats.{front}
use Rattle.cj_place.specs.Layouts.{placement_of}
use Rattle.cj_locked.specs.Writing.{RefusesSince, SchedulesSince}
use Rattle.cj_locked.proofs.Beginning.{err_weaker, ok_weaker, refused_earlier}
use Rattle.cj_locked.proofs.Finishing.{appended_now, scheduled_earlier}
use Rattle.cj_write_path.proofs.Writing.{begun_longer, begun_quiet}
use Rattle.cj_write_path.proofs.writes.schedule.Goals as goal

pub finish-requires-clause-holds : goal.finish-requires-clause-holds
finish-requires-clause-holds g c =
    let x = c.in-Ok.field-0 in
    appended_now g.S.Store.tells g.S.Store.faults (placement_of g.J.Naming.layout) (front c.args.pass.now.seat) (front c.begin.new.pass.seat) c.args.e x.prepared x.turn.share.amount x.turn.log x.item c.in-Ok.ensures.ok c.append-appended.new.self.share.amount c.append-appended.ensures.amount
    c.append-appended.new.self.log c.append-appended.result (λ h follows is. c.append-appended.ensures.follows h c.args.e follows is)

pub returns-in-Ok-clause-since : goal.returns-in-Ok-clause-since
returns-in-Ok-clause-since g c =
    let x = c.in-Ok.field-0 in
    let p = placement_of g.J.Naming.layout in
    let F = front c.args.pass.now.seat in
    let H = front c.begin.new.pass.seat in
    let G = front c.finish.new.pass.seat in
    let longer = begun_longer g.S.Store.tells g.S.Store.faults p F H c.args.e x.prepared x.turn.share.amount x.turn.log x.item c.in-Ok.ensures.ok in
    let quiet = begun_quiet g.S.Store.tells g.S.Store.faults p F H c.args.e x.prepared x.turn.share.amount x.turn.log x.item c.in-Ok.ensures.ok in
    ok_weaker (λ y. SchedulesSince p H G y.number c.args.e) (λ y. SchedulesSince p F G y.number c.args.e) (λ y since. scheduled_earlier p F H G y.number c.args.e longer quiet since) c.finish.result c.finish.ensures.since

pub returns-in-Ok-clause-err : goal.returns-in-Ok-clause-err
returns-in-Ok-clause-err g c =
    let x = c.in-Ok.field-0 in
    let p = placement_of g.J.Naming.layout in
    let F = front c.args.pass.now.seat in
    let H = front c.begin.new.pass.seat in
    let G = front c.finish.new.pass.seat in
    let longer = begun_longer g.S.Store.tells g.S.Store.faults p F H c.args.e x.prepared x.turn.share.amount x.turn.log x.item c.in-Ok.ensures.ok in
    let quiet = begun_quiet g.S.Store.tells g.S.Store.faults p F H c.args.e x.prepared x.turn.share.amount x.turn.log x.item c.in-Ok.ensures.ok in
    err_weaker (RefusesSince p H G c.args.e) (RefusesSince p F G c.args.e) (λ y since. refused_earlier p F H G c.args.e y longer quiet since) c.finish.result c.finish.ensures.err
