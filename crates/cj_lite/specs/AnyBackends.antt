-- What contracts see of a backend of any kind.
use Rattle.std.specs.Prelude.{ℕ, Bool, true, false, List}
use Rattle.std.specs.declared.option.Option.{Option}
use Rattle.cj_lite.specs.declared.any_backend.AnyBackend.{AnyBackend}
use Rattle.cj_lite.specs.declared.any_backend.AnyBackend.TheVariants.{Mem, Lite}

-- the faults that the backend counted; one in memory never fails
abbrev pub faults_of : AnyBackend → ℕ
faults_of (Mem b) = 0
faults_of (Lite b) = b.faults

-- the number of queries that the backend answered
abbrev pub asks_of : AnyBackend → ℕ
asks_of (Mem b) = b.asks
asks_of (Lite b) = b.asks

-- the transactions that are begun at the backend
abbrev pub begun_of : AnyBackend → List ℕ
begun_of (Mem b) = b.begun
begun_of (Lite b) = b.begun

-- the login of the backend's last call
abbrev pub login_of : AnyBackend → Option (List ℕ)
login_of (Mem b) = b.login
login_of (Lite b) = b.login

-- whether the backend gives snapshots
abbrev pub snaps_of : AnyBackend → Bool
snaps_of (Mem b) = true
snaps_of (Lite b) = false
