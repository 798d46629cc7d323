-- What contracts see of a caller as a desk.
use Rattle.std.specs.Prelude.{ℕ, List}
use Rattle.cj_auth.specs.Admission.{admits, Register}
use Rattle.cj_cluster.specs.declared.event.Event.{Event}
use Rattle.cj_desk.specs.DeskStates.{DeskState}
use Rattle.cj_place.specs.Layouts.{Layout, placement_of}

-- the desk of session s, whose pass has seen this history, whose reads need this position at least, and that has
-- counted so many Queries
abbrev pub desk_at : Layout → Register → ℕ → List Event → ℕ → ℕ → DeskState
desk_at layout register s seen least requests =
    record {
      placement = placement_of layout;
      admits = admits register.accounts;
      session = s;
      seen = record { front = seen; least = least };
      requests = requests;
    }
