use Rattle.std.proofs.Common.{◌∙◌, ap, sym, subst}
use Rattle.cj_board.specs.declared.view.SeatView.{SeatView}
use Rattle.cj_board.specs.Counting.{event_count_of}
use Rattle.cj_board.specs.Seats.{front, pass_view}
use Rattle.cj_cluster.specs.History.Legality.{IsLegal}
use Rattle.cj_place.specs.Layouts.{placement_of}
use Rattle.cj_locked.specs.Writing.{BeginsSince, RefusesSince}
use Rattle.cj_locked.proofs.Beginning.{begun_earlier, err_weaker, fit_on, ok_weaker, refused_earlier}
use Rattle.cj_locked.proofs.Writing.{still_counted}
use Rattle.cj_locked.proofs.book.LockedBook.begin.Goals as goal

pub begin_told-requires-clause-fit : goal.begin_told-requires-clause-fit
begin_told-requires-clause-fit g c =
    let k = still_counted c.args.e.now.session (pass_view c.args.pass.now.seat) (pass_view c.tell.new.pass.seat) (pass_view c.check_count.new.pass.seat) c.tell.ensures.more.seen c.check_count.ensures.same c.requires.own.0 c.requires.own.1 c.requires.counted c.check_count.ensures.counted in
    let legal : IsLegal (front c.check_count.new.pass.seat) = subst (λ (z : SeatView). IsLegal z.front) (sym c.check_count.ensures.same) c.tell.ensures.legal in
    fit_on c.args.e.now (front c.args.pass.now.seat) (front c.check_count.new.pass.seat) c.requires.own.1 k.2 legal k.0 c.requires.fit

pub returns-clause-ok : goal.returns-clause-ok
returns-clause-ok g c =
    let k = still_counted c.args.e.now.session (pass_view c.args.pass.now.seat) (pass_view c.tell.new.pass.seat) (pass_view c.check_count.new.pass.seat) c.tell.ensures.more.seen c.check_count.ensures.same c.requires.own.0 c.requires.own.1 c.requires.counted c.check_count.ensures.counted in
    let t = g.S.Store.tells in
    let n = g.S.Store.faults in
    let p = placement_of g.J.Naming.layout in
    let F = front c.args.pass.now.seat in
    let H = front c.check_count.new.pass.seat in
    let G = front c.begin_told.new.pass.seat in
    ok_weaker (λ x. BeginsSince t n p H G c.args.e.now x.prepared x.turn.share.amount x.turn.log x.item) (λ x. BeginsSince t n p F G c.args.e.now x.prepared x.turn.share.amount x.turn.log x.item)
    (λ x since. begun_earlier t n p F H G c.args.e.now x.prepared x.turn.share.amount x.turn.log x.item k.2 k.0 since) c.begin_told.result c.begin_told.ensures.ok

pub returns-clause-err : goal.returns-clause-err
returns-clause-err g c =
    let k = still_counted c.args.e.now.session (pass_view c.args.pass.now.seat) (pass_view c.tell.new.pass.seat) (pass_view c.check_count.new.pass.seat) c.tell.ensures.more.seen c.check_count.ensures.same c.requires.own.0 c.requires.own.1 c.requires.counted c.check_count.ensures.counted in
    let p = placement_of g.J.Naming.layout in
    let F = front c.args.pass.now.seat in
    let H = front c.check_count.new.pass.seat in
    let G = front c.begin_told.new.pass.seat in
    err_weaker (RefusesSince p H G c.args.e.now) (RefusesSince p F G c.args.e.now) (λ x since. refused_earlier p F H G c.args.e.now x k.2 k.0 since) c.begin_told.result c.begin_told.ensures.err

pub returns-clause-counted : goal.returns-clause-counted
returns-clause-counted g c =
    let k = still_counted c.args.e.now.session (pass_view c.args.pass.now.seat) (pass_view c.tell.new.pass.seat) (pass_view c.check_count.new.pass.seat) c.tell.ensures.more.seen c.check_count.ensures.same c.requires.own.0 c.requires.own.1 c.requires.counted c.check_count.ensures.counted in
    ap (event_count_of c.args.e.now.session) c.begin_told.ensures.same ∙ (k.1 ∙ sym c.begin_told.ensures.count)
