use Rattle.std.proofs.Common.{◌≡◌, length}
use Rattle.cj_model.specs.Database.Tables as tables
use Rattle.cj_dml.proofs.insert.fits_columns.Given as goal

abbrev pub invariant-loop-columns : goal.invariant-loop-columns
invariant-loop-columns l = tables.fits_columns l.columns l.row ≡ tables.fits_columns l.initial.columns l.initial.row

abbrev pub decreases-loop-columns : goal.decreases-loop-columns
decreases-loop-columns l = length l.columns
