use Rattle.std.proofs.Common.{take}
use Rattle.cj_cluster.specs.Script.Lines.{HasNoSpace}
use Rattle.cj_words.proofs.words.first_space.Given as goal

-- no space was passed
abbrev pub invariant-loop-i : goal.invariant-loop-i
invariant-loop-i l = HasNoSpace (take l.i l.bytes)
