-- What a lane keeps of reports.
use Rattle.std.specs.Prelude.{ℕ, Bool, true, eqb, not}
use Rattle.std.specs.declared.option.Option.{Option}
use Rattle.std.specs.declared.option.Option.TheVariants.{None, Some}
use Rattle.cj_pass.specs.declared.naming.Naming.{Ghosts}
use Rattle.cj_workers.specs.declared.report.Report.{Report}

module _ {J : Type 0} {n : Ghosts J} where
  -- whether the report of entry k is not there
  abbrev pub lacks : ℕ → Option (Report J n) → Bool
  lacks k None = true
  lacks k (Some r) = not (eqb r.number k)
