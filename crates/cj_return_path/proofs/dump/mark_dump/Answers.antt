use Rattle.std.proofs.Common.{List, Some, ap, sym, ◌∙◌, subst}
use Rattle.cj_cluster.specs.declared.event.Event.{Event}
use Rattle.cj_board.specs.Seats.{front, pass_view}
use Rattle.cj_book.specs.Books.{BookState}
use Rattle.cj_pass.proofs.Passes.{noted_then}
use Rattle.cj_return_path.specs.Dumping.{CanSpare}
use Rattle.cj_return_path.proofs.Dumping.{begun_earlier}
use Rattle.cj_return_path.proofs.dump.mark_dump.Goals as goal

pub returns-in-Ok-Some-clause-ok : goal.returns-in-Ok-Some-clause-ok
returns-in-Ok-Some-clause-ok g c =
    let x = c.in-Ok-Some.begun in
    begun_earlier g.S.Store.tells g.S.Store.faults (front c.args.pass.now.seat) (front c.enabled-enabled.new.pass.seat) (front c.begin_marker.new.pass.seat) c.args.name.now (Some c.args.b) x.turn.share.amount x.turn.log x.item c.enabled-enabled.ensures.more.seen.front
    (rw c.in-Ok-Some.field-0-is at c.in-Ok-Some.ensures.ok)

pub returns-in-Ok-Some-clause-spare : goal.returns-in-Ok-Some-clause-spare
returns-in-Ok-Some-clause-spare g c =
    subst (λ (x : List Event). CanSpare g.J.Naming.layout x c.args.b) (sym (c.begin_marker.ensures.told ∙ ap (λ (x : BookState). x.history) c.begin_marker.ensures.state)) c.in_ok-check_dump.ensures.ok.spare

pub returns-in-Ok-Some-clause-more : goal.returns-in-Ok-Some-clause-more
returns-in-Ok-Some-clause-more g c = noted_then (pass_view c.args.pass.now.seat) (pass_view c.enabled-enabled.new.pass.seat) (pass_view c.begin_marker.new.pass.seat) c.enabled-enabled.ensures.more c.begin_marker.ensures.more

pub returns-in-Ok-None-clause-more : goal.returns-in-Ok-None-clause-more
returns-in-Ok-None-clause-more g c = noted_then (pass_view c.args.pass.now.seat) (pass_view c.enabled-enabled.new.pass.seat) (pass_view c.begin_marker.new.pass.seat) c.enabled-enabled.ensures.more c.begin_marker.ensures.more
