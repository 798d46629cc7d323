use Rattle.cj_board.specs.Seats.{front, pass_view}
use Rattle.cj_place.specs.Layouts.{placement_of}
use Rattle.cj_locked.specs.Writing.{RefusesSince, SchedulesSince}
use Rattle.cj_locked.proofs.Beginning.{err_weaker, ok_weaker, refused_earlier}
use Rattle.cj_locked.proofs.Finishing.{appended_on, scheduled_earlier}
use Rattle.cj_locked.proofs.Writing.{still_counted}
use Rattle.cj_locked.proofs.book.LockedBook.finish.Goals as goal

pub finish_told-requires-clause-counted : goal.finish_told-requires-clause-counted
finish_told-requires-clause-counted g c =
    let k = still_counted c.args.e.session (pass_view c.args.pass.now.seat) (pass_view c.tell.new.pass.seat) (pass_view c.check_count.new.pass.seat) c.tell.ensures.more.seen c.check_count.ensures.same c.requires.own.0 c.requires.own.1 c.requires.counted c.check_count.ensures.counted in
    k.1

pub finish_told-requires-clause-holds : goal.finish_told-requires-clause-holds
finish_told-requires-clause-holds g c =
    let k = still_counted c.args.e.session (pass_view c.args.pass.now.seat) (pass_view c.tell.new.pass.seat) (pass_view c.check_count.new.pass.seat) c.tell.ensures.more.seen c.check_count.ensures.same c.requires.own.0 c.requires.own.1 c.requires.counted c.check_count.ensures.counted in
    appended_on g.S.Store.tells g.S.Store.faults (placement_of g.J.Naming.layout) (front c.args.pass.now.seat) (front c.check_count.new.pass.seat) c.args.e c.args.prepared c.args.turn.share.amount c.args.turn.log c.args.appended k.2 c.requires.holds

pub returns-clause-since : goal.returns-clause-since
returns-clause-since g c =
    let k = still_counted c.args.e.session (pass_view c.args.pass.now.seat) (pass_view c.tell.new.pass.seat) (pass_view c.check_count.new.pass.seat) c.tell.ensures.more.seen c.check_count.ensures.same c.requires.own.0 c.requires.own.1 c.requires.counted c.check_count.ensures.counted in
    let p = placement_of g.J.Naming.layout in
    let F = front c.args.pass.now.seat in
    let H = front c.check_count.new.pass.seat in
    let G = front c.finish_told.new.pass.seat in
    ok_weaker (λ x. SchedulesSince p H G x.number c.args.e) (λ x. SchedulesSince p F G x.number c.args.e) (λ x since. scheduled_earlier p F H G x.number c.args.e k.2 k.0 since) c.finish_told.result c.finish_told.ensures.since

pub returns-clause-err : goal.returns-clause-err
returns-clause-err g c =
    let k = still_counted c.args.e.session (pass_view c.args.pass.now.seat) (pass_view c.tell.new.pass.seat) (pass_view c.check_count.new.pass.seat) c.tell.ensures.more.seen c.check_count.ensures.same c.requires.own.0 c.requires.own.1 c.requires.counted c.check_count.ensures.counted in
    let p = placement_of g.J.Naming.layout in
    let F = front c.args.pass.now.seat in
    let H = front c.check_count.new.pass.seat in
    let G = front c.finish_told.new.pass.seat in
    err_weaker (RefusesSince p H G c.args.e) (RefusesSince p F G c.args.e) (λ x since. refused_earlier p F H G c.args.e x k.2 k.0 since) c.finish_told.result c.finish_told.ensures.err
