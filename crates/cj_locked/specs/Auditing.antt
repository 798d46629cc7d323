-- The turn that is held while backends are asked for what they hold, and what one of them gives.
use Rattle.std.specs.Prelude.{◌≡◌, ℕ, Bool, true, List, None}
use mathlib.Core.List.{IsPrefix}
use Rattle.cj_cluster.specs.declared.event.Event.{Event}
use Rattle.cj_cluster.specs.History.Histories.{is_enabled, is_free, log}
use Rattle.cj_book.specs.BookLogs.{BookLogState, LogFollows}
use Rattle.cj_locked.specs.Turns.{turn_amount}

-- Who has the turn at history m, where no entry was open and nothing pending: the turn's amount is that of m, and the
-- log follows m. G goes on from there.
pub record HoldsTurn {S : Type 0} (tells : Bool) (count : S → ℕ) (G : List Event) (amount : ℕ) (l : BookLogState S) : Type 0 where
  pub m : List Event
  pub was_free : is_free m ≡ true
  pub seen : IsPrefix m G
  pub turn : amount ≡ turn_amount m None
  pub follows : LogFollows tells count l m

-- while the turn was held, history G came to H with the same entries, and with the same backends enabled
pub record IsHeldOver (G H : List Event) : Type 0 where
  pub longer : IsPrefix G H
  pub was_free : is_free G ≡ true
  pub entries : log H ≡ log G
  pub enabled : (b : ℕ) → is_enabled H b ≡ is_enabled G b
