use Rattle.std.proofs.Common.{◌≡◌, ◌++◌, take}
use Rattle.cj_audit.specs.Audits.{StaysText, backend_lines}
use Rattle.cj_audit.proofs.backend.append_backend.Given as goal

-- the tables so far were added
abbrev pub invariant-loop-slot : goal.invariant-loop-slot
invariant-loop-slot l = record {
  ok : l.text.items ≡ l.initial.text.items ++ backend_lines l.name (take l.slot-index l.database);
  text : StaysText l.initial.text.items l.text.items;
}
