use Rattle.std.proofs.Common.{◌≡◌, ◌++◌, take}
use Rattle.cj_model.specs.Sql.Literals.{literal}
use Rattle.cj_print.specs.Canonical.{behind_commas}
use Rattle.cj_audit.specs.Audits.{StaysText}
use Rattle.cj_audit.proofs.rows.append_behind_commas.Given as goal

-- the values so far were added
abbrev pub invariant-loop-value : goal.invariant-loop-value
invariant-loop-value l = record {
  ok : l.text.items ≡ l.initial.text.items ++ behind_commas literal (take l.value-index l.values);
  text : StaysText l.initial.text.items l.text.items;
}
