use Rattle.std.proofs.Common.{◌≡◌, ◌++◌, drop}
use Rattle.cj_cases.specs.Spellings.{shown_text}
use Rattle.cj_cases.proofs.spelling.append_text.Given as goal

-- the text so far, and that of the bytes that are left, are the whole
abbrev pub invariant-loop-b : goal.invariant-loop-b
invariant-loop-b l = l.initial.text.items ++ shown_text l.bytes ≡ l.text.items ++ shown_text (drop l.b-index l.bytes)
