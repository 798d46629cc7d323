use Rattle.std.proofs.Common.{◌≡◌, ◌-◌, ◌^◌, min, take}
use Rattle.cj_model.specs.Sql.Lexical.{number_spelled}
use Rattle.cj_lex.proofs.numbers.value.Given as goal

abbrev pub invariant-loop-digit : goal.invariant-loop-digit
invariant-loop-digit l = l.n ≡ min (number_spelled (take l.digit-index l.digits)) (2 ^ 64 - 1)
