-- Where a query is answered, and what came of asking one backend, after which it goes on unless that ended it.
use Rattle.std.specs.Prelude.{◌≡◌, ℕ, Bool, true, List}
use Rattle.cj_model.specs.declared.select.Select.{Select}
use Rattle.cj_model.specs.Cluster.Masks.{in_mask}
use Rattle.cj_model.specs.Cluster.Placements.{Placement}
use Rattle.cj_cluster.specs.declared.event.Event.{Event}
use Rattle.cj_cluster.specs.Moves.Runs.{HasFailedSince}
use Rattle.cj_book.specs.News.{IsOwedAt, IsRightAt}
use Rattle.cj_locked.specs.Looking.{IsLookAt}
use Rattle.cj_locked.specs.Reading.{EndsRead}
use Rattle.cj_read_path.specs.declared.reads.Attempt.{Attempt}
use Rattle.cj_read_path.specs.declared.reads.Attempt.TheVariants as attempt
use Rattle.cj_read_path.specs.declared.reads.Sought.{Sought}
use Rattle.cj_read_path.specs.declared.reads.Sought.TheVariants as sought

-- since history F, each backend of the mask has failed in request q of session s, as G tells
abbrev pub HaveFailedSince : List Event → List Event → ℕ → ℕ → ℕ → Type 0
HaveFailedSince F G s q mask = (b : ℕ) → in_mask mask b ≡ true → HasFailedSince F G s q b

-- backend b was asked in query q of a session that had seen F, and G is seen then
abbrev pub IsAttempt : Bool → Placement → List Event → ℕ → ℕ → ℕ → ℕ → Select → ℕ → List Event → Attempt → Type 0
IsAttempt tells p F s q b tx select least G (attempt.Ended reply n) = EndsRead tells p F s q tx select least G reply n
IsAttempt tells p F s q b tx select least G attempt.Failed = HasFailedSince F G s q b
IsAttempt tells p F s q b tx select least G attempt.Later = Unit {0}

-- where a query of transaction tx may be answered at history h, of which its session owes the position `least`
abbrev pub IsSoughtAt : Bool → Placement → List Event → ℕ → Select → ℕ → ℕ → Sought → Type 0
IsSoughtAt tells p h tx select least tried (sought.Kept answer n) = IsRightAt tells p h tx select answer.value n × IsOwedAt h least n
IsSoughtAt tells p h tx select least tried (sought.Looked look) = IsLookAt p h select least tried look
