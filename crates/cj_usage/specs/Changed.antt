-- The table that an entry of the log changes.
use Rattle.std.specs.Prelude.{ℕ, List}
use Rattle.std.specs.declared.option.Option.{Option}
use Rattle.std.specs.declared.option.Option.TheVariants.{None, Some}
use Rattle.cj_model.specs.declared.request.Act.{Act}
use Rattle.cj_model.specs.declared.request.Act.TheVariants as act
use Rattle.cj_model.specs.Database.Steps.{table_written}

-- the table that a write, CREATE or DROP changes; none for other acts
abbrev pub table_changed : Act → Option (List ℕ)
table_changed act.Begin = None
table_changed (act.Write w) = Some (table_written w)
table_changed (act.Create c) = Some c.table
table_changed (act.Drop table) = Some table
table_changed act.Commit = None
table_changed act.Abort = None
