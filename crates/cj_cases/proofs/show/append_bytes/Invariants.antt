use Rattle.std.proofs.Common.{◌≤◌, ◌-◌, length, take}
use Rattle.std.specs.Option.{option_copied}
use Rattle.cj_cases.specs.Shown.{AppendsShown}
use Rattle.cj_cases.proofs.show.append_bytes.Given as goal

-- the bytes so far were shown
abbrev pub invariant-loop-at : goal.invariant-loop-at
invariant-loop-at l = record {
  within : l.at ≤ length l.bytes;
  shown : AppendsShown (option_copied l.line_tag) l.part_tag (take l.at l.bytes) l.initial.text.items l.text.items;
}

abbrev pub decreases-loop-at : goal.decreases-loop-at
decreases-loop-at l = length l.bytes - l.at
