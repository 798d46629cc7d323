use Rattle.std.proofs.Common.{refl, sym, ◌∙◌, subst}
use Rattle.cj_audit.proofs.AuditTexts.{empty_text}
use Rattle.cj_model.specs.Sql.Names.{IsText}
use Rattle.cj_world_audit.proofs.LinesAdded.{lines_added}
use Rattle.cj_world_audit.proofs.auditing.audit.Goals as goal

pub loop-b-init : goal.loop-b-init
loop-b-init g c =
    record {
      same = refl;
      core = refl;
      setup = refl;
      faults = refl;
      logins = refl;
      armings = refl;
      recovery_log = refl;
      text = subst IsText (sym c.new-text.ensures.items) empty_text;
      lines = λ on. c.new-text.ensures.items;
    }

pub loop-b-preserved : goal.loop-b-preserved
loop-b-preserved g c =
    let before = c.loop-b.invariant in
    let added = c.in_ok-audit_backend.ensures in
    record {
      same = added.same refl ∙ before.same;
      core = added.core ∙ before.core;
      setup = added.setup ∙ before.setup;
      faults = added.faults ∙ before.faults;
      logins = added.logins ∙ before.logins;
      armings = added.armings ∙ before.armings;
      recovery_log = added.recovery_log ∙ before.recovery_log;
      text = added.text before.text;
      lines = λ on. lines_added c.args.state.now c.loop-b.state c.loop-b.b c.loop-b.text.items c.audit_backend.new.text.items before.core before.setup (before.lines on) (added.lines on);
    }
