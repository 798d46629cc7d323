use Rattle.std.proofs.Common.{◌≡◌, ◌++◌, drop, take}
use Rattle.cj_cases.specs.Lines.{before, behind}
use Rattle.cj_cases.proofs.cut.cut.Given as goal

-- no such byte was passed
abbrev pub invariant-loop-at : goal.invariant-loop-at
invariant-loop-at l = record {
  before : before l.byte l.text ≡ take l.at l.text ++ before l.byte (drop l.at l.text);
  behind : behind l.byte l.text ≡ behind l.byte (drop l.at l.text);
}
