-- The command `log`: the items that are found in the log, a line an item.
use Rattle.std.specs.Prelude.{◌≡◌, ◌⊎◌, ℕ, List, Result}
use Rattle.std.specs.declared.option.Option.{Option}
use Rattle.cj_outside.specs.Streams.{WritesAll}
use Rattle.cj_outside.specs.declared.sink.OutError.{OutError}
use Rattle.cj_log.specs.declared.item.LogItem.{LogItem}
use Rattle.cj_listing.specs.Listing.{listing}
use Rattle.cj_conf.specs.declared.conf.Conf.{Conf}
use Rattle.cj_top.specs.Program.{status_of_listing}

-- The items that were found were listed, or a front of that; backends go by these names.
pub record ListsLog (names : List (List ℕ)) (found : List LogItem → Type 0) (held held' : Option (List ℕ)) (status : ℕ) : Type 0 where
  pub items : List LogItem
  pub found_in : found items
  pub answer : Result (Unit {0}) OutError
  pub bytes : WritesAll held held' (listing names items) answer
  pub status_is : status ≡ status_of_listing answer

-- `log` with this configuration: the log was listed, or the command stopped at it. `Reads` says that it only read the
-- log's store.
abbrev pub ComesByLog : (c : Conf) (found : List LogItem → Type 0) (Reads Stops : ℕ → Type 0) (held held' : Option (List ℕ)) → ℕ → Type 0
ComesByLog c found Reads Stops held held' status = Reads status × (ListsLog c.placement.names found held held' status ⊎ Stops status)
