-- What the administrator is shown of the backends.
use Rattle.std.specs.Prelude.{◌≡◌, ℕ, ◌<◌, Bool, true, false, List, [], ◌∷◌, ◌++◌, codes, length, Contains, IfSome, slice_index_or}
use mathlib.Core.List.{IsPrefix}
use Rattle.std.specs.declared.option.Option.{Option}
use Rattle.std.specs.declared.option.Option.TheVariants.{None, Some}
use Rattle.std.specs.Fmt.{decimal}
use Rattle.std.specs.List.{flat_map, range_with_len}
use Rattle.cj_backend.specs.declared.backend.Counts.{Counts}
use Rattle.cj_board.specs.declared.view.SeatView.{SeatView}
use Rattle.cj_cluster.specs.declared.event.Event.{Event}
use Rattle.cj_cluster.specs.History.Histories.{is_enabled, is_free, log}
use Rattle.cj_administration.specs.declared.show.Looked.{Looked}

-- the word for how a backend stands, by whether it is enabled and by its position
abbrev pub state_word : Bool → Option ℕ → List ℕ
state_word true position = codes " enabled"
state_word false None = codes " out"
state_word false (Some n) = codes " disabled"

-- the position, a dash for one that is out
abbrev pub position_text : Option ℕ → List ℕ
position_text None = codes " position=-"
position_text (Some n) = codes " position=" ++ decimal n

abbrev pub counts_text : Counts → List ℕ
counts_text c = codes " asks=" ++ decimal c.asks ++ codes " begun=" ++ decimal c.begun ++ codes " faults=" ++ decimal c.faults

-- the login, a dash for none
abbrev pub login_text : Option (List ℕ) → List ℕ
login_text None = codes "-"
login_text (Some text) = text

-- the line of the backend of this name, with its line feed
abbrev pub backend_line : List ℕ → Bool → Looked → List ℕ
backend_line name enabled x = name ++ state_word enabled x.position ++ position_text x.position ++ counts_text x.counts ++ codes " login=" ++ login_text x.login ++ 10 ∷ []

abbrev pub no_look : Looked
no_look = record { position = None; counts = record { faults = 0; asks = 0; begun = 0 }; login = None }

-- the lines of the backends of these names, in the order of their numbers
abbrev pub backends_text : List (List ℕ) → (ℕ → Bool) → List Looked → List ℕ
backends_text names enabled looks = flat_map (λ b. backend_line (slice_index_or names b []) (enabled b) (slice_index_or looks b no_look)) (range_with_len 0 (length names))

-- the pass has noted each position that was had
abbrev pub AreNoted : SeatView → List Looked → Type 0
AreNoted v looks = (b : ℕ) → b < length looks → IfSome (slice_index_or looks b no_look).position (λ n. Contains v.position_notes (b, n))

-- each that was enabled at moment m of what the pass had seen, while no entry was open, is at the end of the log, if no
-- entry came since
abbrev pub StandAtEnd : List Event → List Event → List Looked → Type 0
StandAtEnd old new looks = (m : List Event) → IsPrefix m old → is_free m ≡ true → length (log new) ≡ length (log m)
    → (b : ℕ) → b < length looks → is_enabled m b ≡ true → (slice_index_or looks b no_look).position ≡ Some (length (log m))

-- the lines are by a look at each backend, and by who is enabled in what the pass has seen
pub record ShowsBackends (names : List (List ℕ)) (old new : SeatView) (text : List ℕ) : Type 0 where
  pub looks : List Looked
  pub each : length looks ≡ length names
  pub noted : AreNoted new looks
  pub stand : StandAtEnd old.front new.front looks
  pub is : text ≡ backends_text names (is_enabled new.front) looks
