-- What a book keeps of the history that its log opens with, and the book's errors for a log that can't be opened.
use Rattle.std.specs.Prelude.{◌≡◌, List}
use Rattle.cj_model.specs.Cluster.Placements.{Placement}
use Rattle.cj_cluster.specs.declared.event.Event.{Event}
use Rattle.cj_cluster.specs.History.Histories.{log}
use Rattle.cj_records.specs.declared.error.RecordsError.{RecordsError}
use Rattle.cj_records.specs.declared.error.RecordsError.TheVariants as records
use Rattle.cj_recovery.specs.declared.error.OpeningError.{OpeningError}
use Rattle.cj_recovery.specs.declared.error.OpeningError.TheVariants as openings
use Rattle.cj_book.specs.declared.recovered.Recovered.{Recovered}
use Rattle.cj_book.specs.declared.error.StartError.{StartError}
use Rattle.cj_book.specs.declared.error.StartError.TheVariants.{StoreFault, BadRecord, BadEntry, NoMemory}
use Rattle.cj_book.specs.Books.{markers_of}
use Rattle.cj_transactions.specs.Kept.{KeepsTransactions}
use Rattle.cj_book.specs.Starts.{greatest_session}

-- what was found has the history's entries, open transactions, markers and greatest session number
pub record IsRecovered (p : Placement) (h : List Event) (found : Recovered) : Type 0 where
  pub entries : found.entries.items ≡ log h
  pub transactions : KeepsTransactions p (log h) found.transactions.list
  pub marked : found.markers.items ≡ markers_of h
  pub greatest : found.greatest ≡ greatest_session (log h)

-- the book's error for a refusal of the log's records
abbrev pub start_error_of : RecordsError → StartError
start_error_of records.Failed = StoreFault
start_error_of (records.BadRecord offset) = BadRecord offset
start_error_of records.NoMemory = NoMemory

-- the book's error for log items that open no history
abbrev pub entry_error_of : OpeningError → StartError
entry_error_of (openings.BadEntry n) = BadEntry n
entry_error_of openings.NoMemory = NoMemory
