use Rattle.std.proofs.Common.{◌≡◌, List, IfOk, subst}
use Rattle.cj_model.specs.Cluster.Masks.{in_mask}
use Rattle.cj_board.specs.Seats.{pass_view}
use Rattle.cj_locked.proofs.Beginning.{ok_weaker}
use Rattle.cj_pass.proofs.Passes.{noted_then}
use Rattle.cj_administration.specs.Showing.{backends_text, ShowsBackends}
use Rattle.cj_administration.specs.declared.show.Looked.{Looked}
use Rattle.cj_administration.proofs.Showing.{noted_on, shown, stand_on}
use Rattle.cj_administration.proofs.show.show_backends.Goals as goal

pub returns-in-Ok-clause-shows : goal.returns-in-Ok-clause-shows
returns-in-Ok-clause-shows g c =
    let names = g.J.Naming.layout.names in
    let mask = in_mask c.enabled-enabled.result in
    let looks = c.in-Ok.looks.items in
    let u = pass_view c.args.pass.now.seat in
    let v = pass_view c.look_at_each-looks.new.pass.seat in
    let w = pass_view c.enabled-enabled.new.pass.seat in
    ok_weaker (λ text. text ≡ backends_text names mask looks) (ShowsBackends names u w)
    (λ text is. shown names u w mask looks text c.in-Ok.ensures.each (noted_on v w looks c.enabled-enabled.ensures.more c.in-Ok.ensures.noted)
    (stand_on u.front v.front w.front looks c.look_at_each-looks.ensures.more.seen.front c.enabled-enabled.ensures.more.seen.front c.in-Ok.ensures.stand) c.enabled-enabled.ensures.enabled is) c.lines_of.result
    (subst (λ (xs : List Looked). IfOk c.lines_of.result (λ text. text ≡ backends_text names mask xs)) c.deref.ensures.value c.lines_of.ensures)

pub returns-in-Ok-clause-more : goal.returns-in-Ok-clause-more
returns-in-Ok-clause-more g c =
    noted_then (pass_view c.args.pass.now.seat) (pass_view c.look_at_each-looks.new.pass.seat) (pass_view c.enabled-enabled.new.pass.seat) c.look_at_each-looks.ensures.more c.enabled-enabled.ensures.more

pub returns-in-Err-clause-more : goal.returns-in-Err-clause-more
returns-in-Err-clause-more g c =
    noted_then (pass_view c.args.pass.now.seat) (pass_view c.look_at_each-looks.new.pass.seat) (pass_view c.enabled-enabled.new.pass.seat) c.look_at_each-looks.ensures.more c.enabled-enabled.ensures.more
