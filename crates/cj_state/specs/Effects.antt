-- What the parts of moves change of a world, and what they answer.
use Rattle.std.specs.Prelude.{◌≡◌, ◌⊎◌, ℕ, ◌+◌, ◌<◌, ◌≤◌, Bool, true, false, List, length, Result, Ok, Err}
use Rattle.std.specs.declared.option.Option.{Option}
use Rattle.std.specs.declared.option.Option.TheVariants.{None, Some}
use Rattle.cj_model.specs.declared.request.Act.{Act}
use Rattle.cj_model.specs.declared.request.Entry.{Entry}
use Rattle.cj_model.specs.declared.answer.Reply.{Reply}
use Rattle.cj_model.specs.declared.answer.Asked.{Asked}
use Rattle.cj_model.specs.declared.select.Select.{Select}
use Rattle.cj_cluster.specs.declared.event.Event.TheVariants as event
use Rattle.cj_model.specs.Database.Outcomes.{IsAsked}
use Rattle.cj_model.specs.Sql.PlainRequests.{request_of}
use Rattle.cj_model.specs.Database.Queries.{ask}
use Rattle.cj_cluster.specs.History.Histories.{log, ended_count, is_free, open_entry_of, events_left, database_after}
use Rattle.cj_model.specs.Cluster.Masks.{in_mask}
use Rattle.cj_cluster.specs.History.Answering.{HasServer, HasNoServer, AnswersEntry}
use Rattle.cj_cluster.specs.Moves.Cores.{Core, position_at, session_at}
use Rattle.cj_cluster.specs.Moves.Moves.{last_number, with_end, with_entry, scheduled_as, happened, IsFarEnough, read_number}
use Rattle.cj_cluster.specs.History.Turns.{SessionView}
use Rattle.cj_cluster.specs.Moves.Runs.{HasFailedSince, IsBetweenReplies}
use Rattle.cj_book.specs.declared.error.BookError.{BookError}
use Rattle.cj_book.specs.declared.error.BookError.TheVariants.{InProgress, NoBackend, HistoryFull, LogFault, NoMemory}
use Rattle.cj_book.specs.Books.{BookState, with_event, HasNoRoomForOne}
use Rattle.cj_replica.specs.declared.replica.CellReadError.{CellReadError}
use Rattle.cj_replica.specs.declared.replica.CellReadError.TheVariants as cell_errors
use Rattle.cj_state.specs.declared.cells.AskError.{AskError}
use Rattle.cj_state.specs.declared.cells.AskError.TheVariants as errors
use Rattle.cj_state.specs.Worlds.{WorldState}

-- the world with another core
abbrev pub with_core : WorldState → Core → WorldState
with_core w c = record w { core = c }

-- whether the entry was scheduled, or why not
abbrev pub SchedulesAs : Core → Entry → Result ℕ BookError → Type 0
SchedulesAs c e (Ok n) = (n ≡ last_number c + 1) × HasServer c.placement c.history (request_of e.act) × (3 ≤ events_left c.history)
SchedulesAs c e (Err (InProgress n)) = is_free c.history ≡ false
SchedulesAs c e (Err NoBackend) = HasNoServer c.placement c.history (request_of e.act)
SchedulesAs c e (Err (HistoryFull n)) = (n ≡ length c.history) × HasServer c.placement c.history (request_of e.act) × (events_left c.history < 3)
SchedulesAs c e (Err LogFault) = HasServer c.placement c.history (request_of e.act) × (3 ≤ events_left c.history)
SchedulesAs c e (Err NoMemory) = Unit {0}

-- whether the history had room for one event more, or why not
abbrev pub HadRoom : {T : Type 0} → Core → Result T BookError → Type 0
HadRoom c (Ok x) = 0 < events_left c.history
HadRoom c (Err (InProgress n)) = ⊥
HadRoom c (Err NoBackend) = ⊥
HadRoom c (Err (HistoryFull n)) = (events_left c.history ≡ 0) × (n ≡ length c.history)
HadRoom c (Err LogFault) = ⊥
HadRoom c (Err NoMemory) = ⊥

-- whether the history had room for an event that the log keeps first, or why not; the log's store may fail or memory
-- run out
abbrev pub HadLoggedRoom : {T : Type 0} → Core → Result T BookError → Type 0
HadLoggedRoom c (Ok x) = 0 < events_left c.history
HadLoggedRoom c (Err (InProgress n)) = ⊥
HadLoggedRoom c (Err NoBackend) = ⊥
HadLoggedRoom c (Err (HistoryFull n)) = (events_left c.history ≡ 0) × (n ≡ length c.history)
HadLoggedRoom c (Err LogFault) = 0 < events_left c.history
HadLoggedRoom c (Err NoMemory) = Unit {0}

-- the core after an entry of session s was scheduled or refused; a fault of the log's store is an event of the
-- session's request, which is yet to be counted
abbrev pub core_scheduled : Core → ℕ → Entry → Result ℕ BookError → Core
core_scheduled c s e (Ok n) = scheduled_as c s e
core_scheduled c s e (Err (InProgress n)) = c
core_scheduled c s e (Err NoBackend) = c
core_scheduled c s e (Err (HistoryFull n)) = c
core_scheduled c s e (Err LogFault) = happened c (event.LogFailed e.session e.seq)
core_scheduled c s e (Err NoMemory) = c

-- the core after an administrator's entry was scheduled or refused
abbrev pub core_aborted : Core → Entry → Result ℕ BookError → Core
core_aborted c e (Ok n) = with_entry c e
core_aborted c e (Err (InProgress n)) = c
core_aborted c e (Err NoBackend) = c
core_aborted c e (Err (HistoryFull n)) = c
core_aborted c e (Err LogFault) = happened c (event.LogFailed e.session e.seq)
core_aborted c e (Err NoMemory) = c

-- the core after a checkpoint was marked or refused
abbrev pub core_marked : Core → List ℕ → Result ℕ BookError → Core
core_marked c name (Ok n) = happened c (event.Marker name None)
core_marked c name (Err (InProgress n)) = c
core_marked c name (Err NoBackend) = c
core_marked c name (Err (HistoryFull n)) = c
core_marked c name (Err LogFault) = happened c (event.LogFailed 0 0)
core_marked c name (Err NoMemory) = c

-- the reply to the open entry is right
abbrev pub AnswersOpen : Bool → Core → Reply → Type 0
AnswersOpen tells c reply = (e : Entry) → open_entry_of c.history ≡ Some e → AnswersEntry tells c.placement c.history (with_end c) (ended_count c.history) e reply

-- what backend b answered a session's query of transaction tx, or why it did not
abbrev pub Asks : Bool → Core → ℕ → ℕ → ℕ → Select → Result (Asked × ℕ) AskError → Type 0
Asks tells c s b tx select (Ok (answer, p)) =
    (position_at c b ≡ Some p) × ((session_at c s).least ≤ p) × (p ≤ last_number c) × IsAsked answer × (tells ≡ true → answer ≡ ask (database_after (log c.history) p) tx select)
Asks tells c s b tx select (Err errors.Out) = position_at c b ≡ None
Asks tells c s b tx select (Err (errors.Behind p)) = (position_at c b ≡ Some p) × (p < (session_at c s).least)
Asks tells c s b tx select (Err errors.Failed) = IsFarEnough c s b × (0 < events_left c.history)
Asks tells c s b tx select (Err (errors.Unnoted n)) = IsFarEnough c s b × (events_left c.history ≡ 0) × (n ≡ length c.history)
Asks tells c s b tx select (Err errors.NoMemory) = Unit {0}

-- the core after backend b was asked for a session: its failure is an event of the history, if that has room
abbrev pub asked_core : Core → ℕ → ℕ → Result (Asked × ℕ) AskError → Core
asked_core c s b (Ok answered) = c
asked_core c s b (Err errors.Out) = c
asked_core c s b (Err (errors.Behind p)) = c
asked_core c s b (Err errors.Failed) = happened c (event.ReadFailed s (read_number (session_at c s)) b)
asked_core c s b (Err (errors.Unnoted n)) = c
asked_core c s b (Err errors.NoMemory) = c

-- backend b, if it failed when it was asked
abbrev pub failed_asked : ℕ → Result (Asked × ℕ) AskError → Option ℕ
failed_asked b (Ok answered) = None
failed_asked b (Err errors.Out) = None
failed_asked b (Err (errors.Behind p)) = None
failed_asked b (Err errors.Failed) = Some b
failed_asked b (Err (errors.Unnoted n)) = Some b
failed_asked b (Err errors.NoMemory) = None

-- the error given for a cell's error, and the book after it: a failure is an event, if there is room
abbrev pub Notes : BookState → ℕ → ℕ → ℕ → CellReadError → AskError → BookState → Type 0
Notes old s q b cell_errors.Out error new = (error ≡ errors.Out) × (new ≡ old)
Notes old s q b (cell_errors.Behind p) error new = (error ≡ errors.Behind p) × (new ≡ old)
Notes old s q b cell_errors.Failed error new =
    ((error ≡ errors.Failed) × (0 < events_left old.history) × (new ≡ with_event old (event.ReadFailed s q b))) ⊎ ((n : ℕ) × (error ≡ errors.Unnoted n) × HasNoRoomForOne old n × (new ≡ old))
Notes old s q b cell_errors.NoMemory error new = (error ≡ errors.NoMemory) × (new ≡ old)

-- each backend of `other` is in `mask`
abbrev pub Covers : ℕ → ℕ → Type 0
Covers mask other = (b : ℕ) → in_mask other b ≡ true → in_mask mask b ≡ true

-- since some reply of the session, or since it began, each backend of the mask has failed in its read
abbrev pub HaveFailed : Core → ℕ → ℕ → Type 0
HaveFailed c s mask = (a : SessionView) × IsBetweenReplies a c s × ((b : ℕ) → in_mask mask b ≡ true → HasFailedSince a.front c.history s (read_number (session_at c s)) b)

-- the entry of the next request of session s, for this user and in transaction tx
abbrev pub own_entry : Core → ℕ → ℕ → List ℕ → Act → Entry
own_entry c s tx user act = record { session = s; seq = (session_at c s).requests + 1; tx = tx; user = user; act = act }
