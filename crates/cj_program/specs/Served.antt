-- The command `serve`: a console beside sessions over the connections of a port.
use Rattle.std.specs.Prelude.{◌≡◌, ◌≢◌, ◌⊎◌, ◌↔◌, ℕ, ◌+◌, Bool, true, ◌&&◌, List, Err}
use Rattle.std.specs.declared.option.Option.{Option}
use Rattle.std.specs.declared.option.Option.TheVariants.{Some}
use Rattle.cj_args.specs.Words.{AsksToServeAt}
use Rattle.cj_outside.specs.Causes.{CountsFault}
use Rattle.cj_conf.specs.declared.conf.Conf.{Conf}
use Rattle.cj_log.specs.declared.item.LogItem.{LogItem}
use Rattle.cj_shelf.specs.Shelves.{CountsOpenFault, Opens}
use Rattle.cj_shelf.specs.declared.error.ShelfError.{ShelfError}
use Rattle.cj_shelf.specs.declared.error.ShelfError.TheVariants as shelf_errors
use Rattle.cj_state.specs.Worlds.{WorldState}
use Rattle.cj_console.specs.Answers.{Served}
use Rattle.cj_console.specs.declared.chat.ConsoleEnd.{ConsoleEnd}
use Rattle.cj_console.specs.declared.chat.ConsoleEnd.TheVariants as ends
use Rattle.cj_serve.specs.declared.serving.ServeEnd.{ServeEnd}
use Rattle.cj_serve.specs.declared.serving.ServeEnd.TheVariants as serve_end
use Rattle.cj_served.specs.Servings.{ChatsFrom, status_of_serving}
use Rattle.cj_top.specs.Configured.{BeginsAsConfigured, in_memory}
use Rattle.cj_book.specs.declared.error.StartError.{StartError}
use Rattle.cj_top.specs.Logs.{RefusesLog, StopsAtLog, TellsLine, bad_record_line}

-- the words ask to serve a cluster
abbrev pub AsksToServe : List (List ℕ) → Type 0
AsksToServe words = (conf : List ℕ) × (address : List ℕ) × AsksToServeAt words conf address

-- what a configuration has a console serve: its backends tell what they hold if they are in memory and the store of the
-- dumps tells its bytes
abbrev pub served_by : {D : Type 0} → Conf → Bool → (D → List ℕ) → (D → ℕ) → Served D
served_by c kept held faults = record { tells = in_memory c && kept; kept = kept; layout = c.placement; held = held; faults = faults }

-- what the input, the output and the port have counted, and how many connections the port has given
pub record Counted : Type 0 where
  pub input : ℕ
  pub output : ℕ
  pub port : ℕ
  pub accepted : ℕ

-- New backends, as the configuration has them, were started over the log that was found, and then a console chatted while
-- sessions were served over the connections that the port gave. Each end has its cause: a fault is counted exactly by the
-- object that failed, and the accepting is done exactly if as many connections came as the configuration asks for.
pub record RunsServe {D : Type 0} (s : Served D) (c : Conf) (found : List LogItem → Type 0) (dumps : D) (left left' held held' : Option (List ℕ)) (before now : Counted) (status : ℕ) : Type 0 where
  pub first : WorldState
  pub begins : BeginsAsConfigured s.tells c found first
  pub ending : ConsoleEnd
  pub chats : ChatsFrom s dumps left left' held held' first ending
  pub accepting : ServeEnd
  pub done : (accepting ≡ serve_end.Done) ↔ ((now.accepted ≡ before.accepted + c.connections) × (c.connections ≢ 0))
  pub input : CountsFault (ending ≡ ends.ReadFault) before.input now.input
  pub output : CountsFault (ending ≡ ends.WriteFault) before.output now.output
  pub port : CountsFault (accepting ≡ serve_end.PortFault) before.port now.port
  pub status_is : status ≡ status_of_serving accepting ending

-- ---- the dumps are refused

-- what the errors are told of that
abbrev pub TellsShelfRefusal : (errors errors' : Option (List ℕ)) → (before now : ℕ) → ShelfError → Type 0
TellsShelfRefusal out out' before now shelf_errors.Failed = out' ≡ out
TellsShelfRefusal out out' before now shelf_errors.NoMemory = out' ≡ out
TellsShelfRefusal out out' before now (shelf_errors.BadRecord offset) = TellsLine out out' before now (bad_record_line offset)

-- the status that the command comes to by it
abbrev pub status_of_shelf : ShelfError → ℕ
status_of_shelf shelf_errors.Failed = 7
status_of_shelf shelf_errors.NoMemory = 1
status_of_shelf (shelf_errors.BadRecord offset) = 8

-- A world has started over the log, and its dumps were not opened: neither the streams nor the port were touched (`Idle`).
pub record StopsAtDumps {D : Type 0} (kept : Bool) (held : D → List ℕ) (faults : D → ℕ) (dumps : D) (left : Option D) (Tells : ShelfError → Type 0) (Idle : Type 0) (status : ℕ) : Type 0 where
  pub error : ShelfError
  pub store : D
  pub back : left ≡ Some store
  pub opens : kept ≡ true → Opens {S = D} held (held dumps) (Err (error, store))
  pub cause : CountsOpenFault faults (faults dumps) (Err (error, store))
  pub told : Tells error
  pub idle : Idle
  pub status_is : status ≡ status_of_shelf error

-- The log was not opened: its store is given back, that of the dumps was not touched (`Untouched`), and neither were the
-- streams and the port (`Idle`).
pub record StopsUnserved {S : Type 0} (faults : S → ℕ) (held : S → List ℕ) (tells : Bool) (log : S) (left : Option S) (Untouched : Type 0) (Tells : StartError → Type 0) (Idle : Type 0) (status : ℕ) : Type 0 where
  pub after : S
  pub back : left ≡ Some after
  pub untouched : Untouched
  pub stops : StopsAtLog (RefusesLog faults held tells log after) Tells Idle status

-- `serve` with this configuration: it served, or it stopped at its log or at its dumps, or memory ran out for the locks.
-- `Quiet`: nothing was touched but the stores.
abbrev pub ComesByServe : {D : Type 0} → (s : Served D) (c : Conf) (found : List LogItem → Type 0) (dumps : D) (Stops StopsDumps : ℕ → Type 0) (Quiet : Type 0) (left left' held held' : Option (List ℕ)) (before now : Counted) → ℕ → Type 0
ComesByServe s c found dumps Stops StopsDumps Quiet left left' held held' before now status =
    RunsServe s c found dumps left left' held held' before now status ⊎ Stops status ⊎ StopsDumps status ⊎ (status ≡ 1) × Quiet
