-- A serving over which no count of faults rose.
use Rattle.std.specs.Prelude.{◌≡◌, ◌⊎◌, ℕ, ◌-◌, ◌^◌, ◌<◌, Bool, true, false, List, length}
use Rattle.std.specs.declared.option.Option.{Option}
use Rattle.std.specs.declared.option.Option.TheVariants.{Some}
use Rattle.cj_outside.specs.Streams.{most}
use Rattle.cj_cluster.specs.declared.event.Event.{Event}
use Rattle.cj_conf.specs.declared.conf.Conf.{Conf}
use Rattle.cj_dump.specs.declared.dump.Dump.{Dump}
use Rattle.cj_log.specs.declared.item.LogItem.{LogItem}
use Rattle.cj_log.specs.Logs.{KeepsItems}
use Rattle.cj_recovery.specs.Openings.{OpensTo}
use Rattle.cj_shelf.specs.Shelves.{KeepsDumps}
use Rattle.cj_console.specs.Answers.{Served}
use Rattle.cj_console.specs.declared.chat.ConsoleEnd.{ConsoleEnd}
use Rattle.cj_console.specs.declared.chat.ConsoleEnd.TheVariants as ends
use Rattle.cj_serve.specs.declared.serving.ServeEnd.TheVariants as serve_end
use Rattle.cj_program.specs.Served.{Counted, RunsServe}

-- ---- what it begins with

-- a count of faults that did not rise, and could have
pub record CountsNoFault (before now : ℕ) : Type 0 where
  pub same : now ≡ before
  pub room : before < 2 ^ 64 - 1

-- the store tells its bytes, and they keep the items of a log that open to a history
pub record KeepsLog (tells : Bool) (held : List ℕ) : Type 0 where
  pub told : tells ≡ true
  pub items : List LogItem
  pub keeps : KeepsItems held items
  pub history : List Event
  pub opens : OpensTo items history

-- the store tells its bytes, and they keep dumps
pub record KeepsShelf (tells : Bool) (held : List ℕ) : Type 0 where
  pub told : tells ≡ true
  pub dumps : List Dump
  pub keeps : KeepsDumps held dumps

-- the input tells its bytes, and has fewer than are taken of one input at most
abbrev pub TellsShortInput : Option (List ℕ) → Type 0
TellsShortInput left = (bytes : List ℕ) × (left ≡ Some bytes) × (length bytes < most)

-- ---- what it comes to

-- the input itself ended the console
abbrev pub is_console_end_by_input : ConsoleEnd → Bool
is_console_end_by_input ends.Quit = true
is_console_end_by_input ends.Eof = true
is_console_end_by_input ends.ReadFault = false
is_console_end_by_input ends.WriteFault = false
is_console_end_by_input ends.Spent = true
is_console_end_by_input ends.NoMemory = false

-- `serve` came to this status by a console that its input ended. As many connections came as the configuration asks
-- for; or memory ran out for one, which the status does not tell where so many bytes were taken.
pub record CompletesServing {D : Type 0} (s : Served D) (c : Conf) (found : List LogItem → Type 0) (dumps : D) (left left' held held' : Option (List ℕ)) (before now : Counted) (status : ℕ) : Type 0 where
  pub runs : RunsServe s c found dumps left left' held held' before now status
  pub by_input : is_console_end_by_input runs.ending ≡ true
  pub all_came : (runs.accepting ≡ serve_end.Done) ⊎ ((runs.accepting ≡ serve_end.NoMemory) × (runs.ending ≡ ends.Spent))
