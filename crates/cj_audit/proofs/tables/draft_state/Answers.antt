use Rattle.std.proofs.Common.{subst, rules, ◌≡◌, string_bytes}
use Rattle.cj_model.specs.Sql.Names.{IsText}
use Rattle.cj_audit.specs.Audits.{draft_state}
use Rattle.cj_audit.proofs.AuditTexts.{state_text}
use Rattle.cj_audit.proofs.tables.draft_state.Goals as goal

pub returns-clause-text : goal.returns-clause-text
returns-clause-text c =
    let is : draft_state c.args.tx ≡ string_bytes c.in_ok-format.field-0 = search rules in
    subst IsText is (state_text c.args.tx (search (rules, c.ranges.tx)))
