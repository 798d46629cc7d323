-- The lists of failing calls as contracts see them.
use Rattle.cj_cases.specs.Cases.{FailingCalls}
use Rattle.cj_cases.specs.declared.case.Fails.{Fails}

-- the lists of failing calls as contracts see them
abbrev pub calls_of : Fails → FailingCalls
calls_of f = record {
  configuration = f.configuration.items;
  log = f.log.items;
  input = f.input.items;
  output =
      f.output.items;
  errors = f.errors.items;
}
