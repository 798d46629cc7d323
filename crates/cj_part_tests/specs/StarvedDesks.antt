-- A desk for tests, which runs out of memory at each call.
use Rattle.std.specs.Prelude.{ℕ, [], ◌&&◌, List, length, nat_le}
use Rattle.std.specs.Str.{bytes_eq}
use Rattle.cj_model.specs.declared.limits.TheConstants.{USER_LIMIT}
use Rattle.cj_model.specs.Cluster.Placements.{everywhere}
use Rattle.cj_desk.specs.DeskStates.{DeskState}

-- the state of the desk: one user, whatever the password, in session 1, which has seen nothing
abbrev pub starved_desk : List ℕ → ℕ → DeskState
starved_desk user requests =
    record {
      placement = everywhere 1;
      admits = λ other password. nat_le (length other) USER_LIMIT && bytes_eq other user;
      session = 1;
      seen = record { front = []; least = 0 };
      requests = requests;
    }
