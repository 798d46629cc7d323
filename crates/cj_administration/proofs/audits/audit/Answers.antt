use Rattle.std.proofs.Common.{◌≡◌, ◌∙◌, true, sym}
use Rattle.cj_board.specs.Seats.{front, pass_view}
use Rattle.cj_place.specs.Layouts.{placement_of}
use Rattle.cj_locked.specs.Auditing.{IsHeldOver}
use Rattle.cj_locked.proofs.Beginning.{err_weaker, ok_weaker}
use Rattle.cj_pass.proofs.Passes.{noted_then}
use Rattle.cj_administration.specs.Auditing.{FailsAudit, audit_text_of}
use Rattle.cj_administration.proofs.Auditing.{fails_between, free_over, same_text}
use Rattle.cj_administration.proofs.audits.audit.Goals as goal

pub returns-clause-text : goal.returns-clause-text
returns-clause-text g c =
    let holds = c.hold-length.ensures.holds in
    let H = front c.hold-length.new.pass.seat in
    let G = front c.give_back.new.pass.seat in
    let names = g.J.Naming.layout.names in
    let p = placement_of g.J.Naming.layout in
    let held : IsHeldOver H G = c.give_back.ensures.since holds.m H holds.turn holds.was_free holds.seen c.audit_each-text.ensures.more.seen.front in
    ok_weaker (λ text. g.B.Backend.tells ≡ true → text ≡ audit_text_of names p H) (λ text. g.B.Backend.tells ≡ true → text ≡ audit_text_of names p G) (λ text is tells. is tells ∙ sym (same_text names p H G held.entries held.enabled)) c.audit_each-text.result
    c.audit_each-text.ensures.text

pub returns-clause-err : goal.returns-clause-err
returns-clause-err g c =
    let holds = c.hold-length.ensures.holds in
    let H = front c.hold-length.new.pass.seat in
    let G = front c.give_back.new.pass.seat in
    let u = pass_view c.args.pass.now.seat in
    let v = pass_view c.hold-length.new.pass.seat in
    let w = pass_view c.audit_each-text.new.pass.seat in
    let z = pass_view c.give_back.new.pass.seat in
    let held : IsHeldOver H G = c.give_back.ensures.since holds.m H holds.turn holds.was_free holds.seen c.audit_each-text.ensures.more.seen.front in
    err_weaker (FailsAudit H v w) (FailsAudit G u z) (λ error. fails_between H G u v w z error held.enabled c.hold-length.ensures.more c.give_back.ensures.more) c.audit_each-text.result c.audit_each-text.ensures.err

pub returns-clause-free : goal.returns-clause-free
returns-clause-free g c =
    let holds = c.hold-length.ensures.holds in
    let H = front c.hold-length.new.pass.seat in
    free_over H (front c.give_back.new.pass.seat) (c.give_back.ensures.since holds.m H holds.turn holds.was_free holds.seen c.audit_each-text.ensures.more.seen.front) c.give_back.ensures.legal

pub returns-clause-more : goal.returns-clause-more
returns-clause-more g c =
    let u = pass_view c.args.pass.now.seat in
    let v = pass_view c.hold-length.new.pass.seat in
    let w = pass_view c.audit_each-text.new.pass.seat in
    noted_then u w (pass_view c.give_back.new.pass.seat) (noted_then u v w c.hold-length.ensures.more c.audit_each-text.ensures.more) c.give_back.ensures.more
