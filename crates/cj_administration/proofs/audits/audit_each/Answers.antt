use Rattle.std.proofs.Common.{refl, sym, subst}
use Rattle.cj_audit.proofs.AuditTexts.{empty_text}
use Rattle.cj_model.specs.Sql.Names.{IsText}
use Rattle.cj_board.specs.Seats.{front, pass_view}
use Rattle.cj_place.specs.Layouts.{placement_of}
use Rattle.cj_pass.proofs.Passes.{noted_self, noted_then}
use Rattle.cj_administration.specs.Auditing.{audit_lines_at}
use Rattle.cj_administration.proofs.Auditing.{fails_between, lines_next}
use Rattle.cj_administration.proofs.audits.audit_each.Goals as goal

pub loop-b-init : goal.loop-b-init
loop-b-init g c =
    record {
      more = noted_self (pass_view c.args.pass.now.seat);
      text = subst IsText (sym c.new-text.ensures.items) empty_text;
      lines = λ tells. c.new-text.ensures.items;
    }

pub returns-in-Err-clause-err : goal.returns-in-Err-clause-err
returns-in-Err-clause-err g c =
    let F = front c.args.pass.now.seat in
    let now = pass_view c.audit_backend-audited.new.pass.seat in
    fails_between F F (pass_view c.args.pass.now.seat) (pass_view c.loop-b.pass.seat) now now c.in-Err.error (λ b. refl) c.loop-b.invariant.more (noted_self now) (c.in-Err.ensures.err F (c.requires.enabled c.loop-b.b))

pub returns-in-Err-clause-more : goal.returns-in-Err-clause-more
returns-in-Err-clause-more g c =
    noted_then (pass_view c.args.pass.now.seat) (pass_view c.loop-b.pass.seat) (pass_view c.audit_backend-audited.new.pass.seat) c.loop-b.invariant.more c.audit_backend-audited.ensures.more

pub loop-b-preserved : goal.loop-b-preserved
loop-b-preserved g c =
    let F = front c.args.pass.now.seat in
    let before = c.loop-b.invariant in
    let added = c.in_default.ensures in
    record {
      more = noted_then (pass_view c.args.pass.now.seat) (pass_view c.loop-b.pass.seat) (pass_view c.audit_backend-audited.new.pass.seat) before.more c.audit_backend-audited.ensures.more;
      text = added.text before.text;
      lines =
          λ tells. lines_next (audit_lines_at g.J.Naming.layout.names (placement_of g.J.Naming.layout) F) c.loop-b.b c.loop-b.text.items c.audit_backend-audited.new.text.items (before.lines tells)
          (added.lines F before.more.seen.front c.requires.length (c.requires.enabled c.loop-b.b) tells);
    }
