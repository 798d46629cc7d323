use Rattle.std.proofs.Common.{◌≡◌, drop}
use Rattle.cj_cases.specs.Lines.{number_from}
use Rattle.cj_cases.proofs.number.read_digits.Given as goal

-- the digits so far write the number
abbrev pub invariant-loop-b : goal.invariant-loop-b
invariant-loop-b l = number_from 0 l.digits ≡ number_from l.number (drop l.b-index l.digits)
