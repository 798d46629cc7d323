-- How a cluster is served over its stores, a port and a console.
use Rattle.std.specs.Prelude.{◌≡◌, ℕ, Bool, true, List, Ok, Err}
use Rattle.std.specs.declared.option.Option.{Option}
use Rattle.cj_cluster.specs.declared.event.Event.{Event}
use Rattle.cj_place.specs.Layouts.{Layout, placement_of}
use Rattle.cj_board.specs.declared.view.SeatView.{SeatView}
use Rattle.cj_dump.specs.declared.dump.Dump.{Dump}
use Rattle.cj_log.specs.declared.item.LogItem.{LogItem}
use Rattle.cj_recovery.specs.Openings.{OpensTo}
use Rattle.cj_shelf.specs.Shelves.{CountsOpenFault, Opens, ShelfState}
use Rattle.cj_state.specs.Worlds.{WorldState}
use Rattle.cj_core.specs.Starts.{CountsFaultOfStart, RefusesBytes}
use Rattle.cj_console.specs.Answers.{AreRightDumps, Served, Standing}
use Rattle.cj_console.specs.Chats.{ChatsTo}
use Rattle.cj_console.specs.declared.chat.ConsoleEnd.{ConsoleEnd}
use Rattle.cj_console.specs.declared.chat.ConsoleEnd.TheVariants as console
use Rattle.cj_serve.specs.declared.serving.ServeEnd.{ServeEnd}
use Rattle.cj_serve.specs.declared.serving.ServeEnd.TheVariants as accepting
use Rattle.cj_served.specs.declared.started.Unserved.{Unserved}
use Rattle.cj_served.specs.declared.started.Unserved.TheVariants.{Log, Dumps, NoMemory}

-- The dumps that a store keeps are of the log that another keeps: each may be loaded at the history with which the log's
-- items open. An empty store meets this.
abbrev pub AreDumpsOfLog : (List LogItem → Type 0) → (List Dump → Type 0) → Type 0
AreDumpsOfLog Found Keeps = (items : List LogItem) (opening : List Event) (dumps : List Dump) → Found items → OpensTo items opening → Keeps dumps → AreRightDumps true opening dumps

-- From the history of a first world on a console chatted to this end, over the dumps that their store kept. Meanwhile
-- sessions were served. What the console sees then goes on from that history. The layout is the one given, as far as it
-- names the backends and says which of them host which tables.
pub record ChatsFrom {D : Type 0} (s : Served D) (dumps : D) (left left' held held' : Option (List ℕ)) (first : WorldState) (ending : ConsoleEnd) : Type 0 where
  pub layout : Layout
  pub names : layout.names ≡ s.layout.names
  pub hosts : placement_of layout ≡ placement_of s.layout
  pub view : SeatView
  pub begins : view.front ≡ first.core.history
  pub shelf : ShelfState D
  pub opened : s.kept ≡ true → Opens s.held (s.held dumps) (Ok shelf)
  pub last : Standing D
  pub chats : ChatsTo (record { tells = s.tells; kept = s.kept; layout = layout; held = s.held; faults = s.faults }) left left' held held' (record { view = view; shelf = shelf }) ending last

-- ---- statuses

-- of a console's end
abbrev pub status_of_console : ConsoleEnd → ℕ
status_of_console console.Quit = 0
status_of_console console.Eof = 0
status_of_console console.NoMemory = 1
status_of_console console.ReadFault = 5
status_of_console console.WriteFault = 6
status_of_console console.Spent = 11

-- Of serving: a fault of the port comes first, then what ended the console. Want of memory for a connection comes last.
abbrev pub status_of_serving : ServeEnd → ConsoleEnd → ℕ
status_of_serving accepting.PortFault ending = 9
status_of_serving accepting.Done ending = status_of_console ending
status_of_serving accepting.NoMemory console.Quit = 1
status_of_serving accepting.NoMemory console.Eof = 1
status_of_serving accepting.NoMemory ending = status_of_console ending

-- ---- why a cluster is not served

-- The log was not opened: its store has counted a fault exactly if it failed, and has lost nothing; the store of the
-- dumps was not touched. Or a world has started over the log, whose store is handed back as that world has it, and the
-- dumps were not opened: their store has counted a fault exactly if it failed. Or memory ran out once both were opened.
abbrev pub RefusesServing : {S D : Type 0} → (Starts : WorldState → Type 0) → (S → ℕ) → (S → List ℕ) → Bool → (D → ℕ) → (D → List ℕ) → Bool → S → D → Unserved S D → Type 0
RefusesServing Starts faults held tells counts keeps kept log dumps (Log error after same) =
    (tells ≡ true → RefusesBytes {W = WorldState} held (held log) (Err (error, after))) × CountsFaultOfStart faults (faults log) (Err (error, after)) × (same ≡ dumps)
RefusesServing {S} {D} Starts faults held tells counts keeps kept log dumps (Dumps error after store) =
    ((first : WorldState) × Starts first × (faults after ≡ first.recovery_log.faults) × (held after ≡ first.recovery_log.bytes))
    × (kept ≡ true → Opens {S = D} keeps (keeps dumps) (Err (error, store))) × CountsOpenFault counts (counts dumps) (Err (error, store))
RefusesServing Starts faults held tells counts keeps kept log dumps NoMemory = Unit {0}
