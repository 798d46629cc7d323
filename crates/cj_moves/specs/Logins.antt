-- The logins of backends: under which login each was last called, and which move called one.
use Rattle.std.specs.Prelude.{◌≡◌, ℕ, List, Ok, Err}
use Rattle.std.specs.declared.option.Option.{Option}
use Rattle.std.specs.declared.option.Option.TheVariants.{None}
use Rattle.cj_model.specs.declared.request.Entry.{Entry}
use Rattle.cj_model.specs.Cluster.Accounts.{login_of}
use Rattle.cj_cluster.specs.declared.moves.Move.{Move}
use Rattle.cj_cluster.specs.declared.moves.Move.TheVariants.{Open, Close, Schedule, Abort, Apply, End, Read, Arm, Disable, Replay, Enable, Mark, Dump, Load}
use Rattle.cj_cluster.specs.declared.moves.Moved.TheVariants as moved
use Rattle.cj_cluster.specs.declared.moves.MoveError.TheVariants as errors
use Rattle.cj_cluster.specs.Moves.Moves.{MoveResult}
use Rattle.cj_state.specs.Worlds.{WorldState, accounts_of}
use Rattle.cj_state.specs.CalledLogins.{CallsUnder, LogsInToTake, MayCallUnder, asked_for, login_to_take, logins_of}

-- ---- moves

-- the result of a move says how backend b was called, for a user who has this login there; after a refusal it was
-- called or not
abbrev pub LogsInByMove : ℕ → List ℕ → MoveResult → List (Option (List ℕ)) → List (Option (List ℕ)) → Type 0
LogsInByMove b login (Ok (moved.Session n)) old new = new ≡ old
LogsInByMove b login (Ok moved.Closed) old new = new ≡ old
LogsInByMove b login (Ok (moved.Entry n)) old new = new ≡ old
LogsInByMove b login (Ok (moved.Refused r)) old new = MayCallUnder b login old new
LogsInByMove b login (Ok (moved.Applied k d)) old new = LogsInToTake b login d old new
LogsInByMove b login (Ok (moved.Replied s reply)) old new = new ≡ old
LogsInByMove b login (Ok (moved.Rows a)) old new = CallsUnder b login old new
LogsInByMove b login (Ok (moved.Behind p)) old new = new ≡ old
LogsInByMove b login (Ok moved.Out) old new = new ≡ old
LogsInByMove b login (Ok moved.Failed) old new = MayCallUnder b login old new
LogsInByMove b login (Ok moved.Starved) old new = new ≡ old
LogsInByMove b login (Ok moved.Armed) old new = new ≡ old
LogsInByMove b login (Ok moved.Disabled) old new = new ≡ old
LogsInByMove b login (Ok moved.Enabled) old new = new ≡ old
LogsInByMove b login (Ok (moved.Marked n)) old new = new ≡ old
LogsInByMove b login (Ok (moved.Dumped n)) old new = new ≡ old
LogsInByMove b login (Ok (moved.Loaded n)) old new = new ≡ old
LogsInByMove b login (Ok (moved.Replayed n d)) old new = LogsInToTake b login d old new
LogsInByMove b login (Err (errors.NotNow why)) old new = new ≡ old
LogsInByMove b login (Err errors.NoMemory) old new = new ≡ old

-- the login that the session's user has at backend b
abbrev pub login_to_ask : WorldState → ℕ → ℕ → List ℕ
login_to_ask w s b = login_of (accounts_of w) (asked_for w.core.sessions s None) b

-- a backend carries out an entry under the login of the entry's user, answers a query under that of the session's
-- user, and is called by no other move
abbrev pub HasLogins : WorldState → WorldState → Move → MoveResult → Type 0
HasLogins old new (Open user) g = logins_of new.cells ≡ logins_of old.cells
HasLogins old new (Close s) g = logins_of new.cells ≡ logins_of old.cells
HasLogins old new (Schedule s r) g = logins_of new.cells ≡ logins_of old.cells
HasLogins old new (Abort tx) g = logins_of new.cells ≡ logins_of old.cells
HasLogins old new (Apply b) g = LogsInByMove b (login_to_take old b) g (logins_of old.cells) (logins_of new.cells)
HasLogins old new End g = logins_of new.cells ≡ logins_of old.cells
HasLogins old new (Read s b select) g = LogsInByMove b (login_to_ask old s b) g (logins_of old.cells) (logins_of new.cells)
HasLogins old new (Arm b) g = logins_of new.cells ≡ logins_of old.cells
HasLogins old new (Disable b) g = logins_of new.cells ≡ logins_of old.cells
HasLogins old new (Replay b) g = LogsInByMove b (login_to_take old b) g (logins_of old.cells) (logins_of new.cells)
HasLogins old new (Enable b) g = logins_of new.cells ≡ logins_of old.cells
HasLogins old new (Mark name) g = logins_of new.cells ≡ logins_of old.cells
HasLogins old new (Dump b name) g = logins_of new.cells ≡ logins_of old.cells
HasLogins old new (Load b name) g = logins_of new.cells ≡ logins_of old.cells
