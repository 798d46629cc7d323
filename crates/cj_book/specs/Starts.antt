-- What `open` gives: a book that was just opened, or an error and what the log's store has then.
use Rattle.std.specs.Prelude.{◌≡◌, ◌⊎◌, ℕ, false, List, [], fold, length, max, nat_le, if◌then◌else◌, Result, Ok, Err}
use Rattle.cj_model.specs.declared.request.Entry.{Entry}
use Rattle.cj_model.specs.Cluster.Balancing.{Balance}
use Rattle.cj_model.specs.Cluster.Caching.{CacheState}
use Rattle.cj_cluster.specs.History.Histories.{log}
use Rattle.cj_outside.specs.Causes.{next}
use Rattle.cj_place.specs.Layouts.{Layout}
use Rattle.cj_records.specs.RecordFiles.{Finds}
use Rattle.cj_records.specs.Records.{begun, WritesOnlyNew}
use Rattle.cj_log.specs.declared.item.LogItem.{LogItem}
use Rattle.cj_log.specs.Logs.{log_magic, HasBadItem, KeepsItems, LogState}
use Rattle.cj_recovery.specs.Openings.{HasBadEntry, OpensTo, items_of}
use Rattle.cj_book.specs.Books.{BookState}
use Rattle.cj_book.specs.declared.error.StartError.{StartError}
use Rattle.cj_book.specs.declared.error.StartError.TheVariants.{StoreFault, BadRecord, BadEntry, NoMemory}

-- the greatest session number in a log
abbrev pub greatest_session : List Entry → ℕ
greatest_session entries = fold (λ n (e : Entry). max n e.session) 0 entries

-- The book of a log that was just opened: its history is the one that its entries and markers open with, and no
-- session is open. Session numbers go on above the greatest in the log.
pub record IsStarted {S : Type 0} (placement : Layout) (balancer : Balance) (answers : CacheState) (book : BookState) (l : LogState S) : Type 0 where
  pub layout : book.layout ≡ placement
  pub balance : book.balance ≡ balancer
  pub cache : book.cache ≡ answers
  pub opens : OpensTo (items_of book.history) book.history
  pub sessions : book.sessions ≡ []
  pub greatest : book.greatest ≡ greatest_session (log book.history)
  pub shut : l.torn ≡ false

-- the bytes keep the items of a log, of which entry n, or a marker before it, can't come next
abbrev pub KeepsBadEntry : List ℕ → ℕ → Type 0
KeepsBadEntry bytes n = (items : List LogItem) × KeepsItems bytes items × HasBadEntry items n

-- what opening makes of the bytes of the log's store
abbrev pub Starts : {S : Type 0} → (S → List ℕ) → List ℕ → Result (BookState × LogState S) (StartError × S) → Type 0
Starts held old (Ok (book, l)) = KeepsItems old (items_of book.history) × (held l.store ≡ (if nat_le (length old) 5 then begun log_magic else old))
Starts held old (Err (StoreFault, store)) = WritesOnlyNew old (held store)
Starts held old (Err (NoMemory, store)) = WritesOnlyNew old (held store)
Starts held old (Err (BadRecord offset, store)) = (Finds log_magic old (Err offset) ⊎ HasBadItem old offset) × (held store ≡ old)
Starts held old (Err (BadEntry n, store)) = KeepsBadEntry old n × (held store ≡ old)

-- opening counts a fault exactly where it answers that the store failed
abbrev pub CountsStartFault : {S : Type 0} → (S → ℕ) → ℕ → Result (BookState × LogState S) (StartError × S) → Type 0
CountsStartFault faults before (Ok (book, l)) = faults l.store ≡ before
CountsStartFault faults before (Err (StoreFault, store)) = faults store ≡ next before
CountsStartFault faults before (Err (NoMemory, store)) = faults store ≡ before
CountsStartFault faults before (Err (BadRecord offset, store)) = faults store ≡ before
CountsStartFault faults before (Err (BadEntry n, store)) = faults store ≡ before
