use Rattle.std.proofs.Common.{◌≡◌, ◌++◌, take}
use Rattle.cj_print.specs.Canonical.{behind_commas}
use Rattle.cj_print.proofs.part.append_behind_commas.Given as goal

-- the parts so far were added
abbrev pub invariant-loop-part : goal.invariant-loop-part
invariant-loop-part g l = l.text ≡ l.initial.text ++ behind_commas g.T.Part.written (take l.part-index l.parts)
