use Rattle.std.proofs.Common.{◌≡◌, ◌∷◌, take}
use Rattle.cj_model.specs.Sql.Lexical.{doubled}
use Rattle.cj_print.proofs.literal.quoted.Given as goal

-- what has been written is a quote and the bytes so far
abbrev pub invariant-loop-b : goal.invariant-loop-b
invariant-loop-b l = l.quoted.items ≡ 39 ∷ doubled (take l.b-index l.bytes)
