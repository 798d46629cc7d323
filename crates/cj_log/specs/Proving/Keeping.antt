-- What holds of the fields of a log, and the results of its steps.
use Rattle.std.specs.Prelude.{◌≡◌, ℕ, Bool, true, List, Result, Ok, Err}
use Rattle.std.specs.List.{AllByRecursion}
use Rattle.std.specs.Global.{Vec}
use Rattle.cj_records.specs.declared.error.RecordsError.{RecordsError}
use Rattle.cj_records.specs.declared.error.RecordsError.TheVariants as errors
use Rattle.cj_records.specs.Records.{RecordList}
use Rattle.cj_log.specs.declared.error.LogError.{LogError}
use Rattle.cj_log.specs.declared.error.LogError.TheVariants as log_errors
use Rattle.cj_log.specs.declared.item.LogItem.{LogItem}
use Rattle.cj_log.specs.Items.{item_bytes, IsItem}
use Rattle.cj_log.specs.Logs.{log_magic, bodies_of, BadIn}

-- the bytes are the body of an item
abbrev pub IsBody : List ℕ → Type 0
IsBody body = (item : LogItem) × IsItem item × (item_bytes item ≡ body)

-- what holds of the fields of a log
pub record AgreesWithRecords {S : Type 0} (tells : Bool) (records : RecordList S) (items : List LogItem) : Type 0 where
  pub magic : records.magic ≡ log_magic
  pub bodies : tells ≡ true → records.list ≡ bodies_of items
  pub each : tells ≡ true → AllByRecursion IsItem items
  pub refused : tells ≡ true → records.torn ≡ true → IsBody records.refused

-- the refusal of an append of records, as the log tells it
abbrev pub log_error_of : RecordsError → LogError
log_error_of errors.NoMemory = log_errors.NoMemory
log_error_of errors.Failed = log_errors.Failed
log_error_of (errors.BadRecord _) = log_errors.Failed

-- the items of these bodies, or the offset of the first body that is no item's
abbrev pub ItemsOf : List (List ℕ) → Result (Vec LogItem) RecordsError → Type 0
ItemsOf list (Ok items) = list ≡ bodies_of items.items
ItemsOf list (Err (errors.BadRecord offset)) = BadIn list offset
ItemsOf list (Err errors.Failed) = Unit {0}
ItemsOf list (Err errors.NoMemory) = Unit {0}
