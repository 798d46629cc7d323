-- The logins of backends: under which login each was last called.
use Rattle.std.specs.Prelude.{◌≡◌, ◌⊎◌, ℕ, List, [], map, slice_get, slice_set, Ok, Err}
use Rattle.std.specs.declared.option.Option.{Option}
use Rattle.std.specs.declared.option.Option.TheVariants.{None, Some}
use Rattle.std.specs.declared.result.Result.{Result}
use Rattle.std.specs.Option.{option_map_or}
use Rattle.cj_model.specs.declared.answer.Asked.{Asked}
use Rattle.cj_model.specs.declared.request.Entry.{Entry}
use Rattle.cj_model.specs.Cluster.Accounts.{login_of}
use Rattle.cj_cluster.specs.declared.moves.Did.{Did}
use Rattle.cj_cluster.specs.declared.moves.Did.TheVariants as did
use Rattle.cj_cluster.specs.declared.moves.OpenSession.{OpenSession}
use Rattle.cj_cluster.specs.History.Histories.{log}
use Rattle.cj_cluster.specs.Moves.Cores.{position_at, find_session}
use Rattle.cj_replica.specs.Cells.{CellState}
use Rattle.cj_state.specs.declared.cells.AskError.{AskError}
use Rattle.cj_state.specs.declared.cells.AskError.TheVariants as ask_errors
use Rattle.cj_state.specs.Worlds.{WorldState, accounts_of}

-- the login of each backend's last call that had one
abbrev pub logins_of : List CellState → List (Option (List ℕ))
logins_of cells = map (λ (x : CellState). x.login) cells

-- the user of the entry after a position
abbrev pub next_user : List Entry → Option ℕ → List ℕ
next_user entries None = []
next_user entries (Some p) = option_map_or (λ (e : Entry). e.user) (slice_get entries p) []

-- backend b was called under this login, and no other was called
abbrev pub CallsUnder : ℕ → List ℕ → List (Option (List ℕ)) → List (Option (List ℕ)) → Type 0
CallsUnder b login old new = new ≡ slice_set old b (Some login)

-- backend b was called under this login, or was refused before it looked at the login
abbrev pub MayCallUnder : ℕ → List ℕ → List (Option (List ℕ)) → List (Option (List ℕ)) → Type 0
MayCallUnder b login old new = (new ≡ old) ⊎ CallsUnder b login old new

-- the user for whom a session asks: the one given, or else the session's own
abbrev pub asked_for : List OpenSession → ℕ → Option (List ℕ) → List ℕ
asked_for sessions s (Some user) = user
asked_for sessions s None = option_map_or (λ (x : OpenSession). x.user) (find_session sessions s) []

-- the logins after backend b did this with an entry, whose user has this login there
abbrev pub LogsInToTake : ℕ → List ℕ → Did → List (Option (List ℕ)) → List (Option (List ℕ)) → Type 0
LogsInToTake b login (did.Done o) old new = CallsUnder b login old new
LogsInToTake b login did.Skipped old new = new ≡ old
LogsInToTake b login did.Failed old new = MayCallUnder b login old new
LogsInToTake b login did.Starved old new = MayCallUnder b login old new

-- the logins after backend b was asked for a user who has this login there
abbrev pub AskedUnderLogin : ℕ → List ℕ → Result (Asked × ℕ) AskError → List (Option (List ℕ)) → List (Option (List ℕ)) → Type 0
AskedUnderLogin b login (Ok answered) old new = CallsUnder b login old new
AskedUnderLogin b login (Err ask_errors.Out) old new = new ≡ old
AskedUnderLogin b login (Err (ask_errors.Behind p)) old new = new ≡ old
AskedUnderLogin b login (Err ask_errors.Failed) old new = MayCallUnder b login old new
AskedUnderLogin b login (Err (ask_errors.Unnoted n)) old new = MayCallUnder b login old new
AskedUnderLogin b login (Err ask_errors.NoMemory) old new = new ≡ old

-- the login at backend b of the user of the entry that it takes next
abbrev pub login_to_take : WorldState → ℕ → List ℕ
login_to_take w b = login_of (accounts_of w) (next_user (log w.core.history) (position_at w.core b)) b
