-- The contracts of the parts of a Schedule.
use Rattle.std.specs.Prelude.{◌≡◌, ℕ, ◌<◌, false, Option, None, Some, Result, Ok, Err}
use Rattle.cj_model.specs.declared.answer.Refusal.{Refusal}
use Rattle.cj_model.specs.declared.limits.TheConstants.{REQUEST_LIMIT}
use Rattle.cj_model.specs.declared.request.Request.{Request}
use Rattle.cj_cluster.specs.declared.moves.MoveError.TheVariants.{NoMemory}
use Rattle.cj_cluster.specs.declared.moves.Moved.TheVariants as moved
use Rattle.cj_cluster.specs.Moves.Cores.{Core, session_at}
use Rattle.cj_cluster.specs.Moves.Moves.{MoveResult, SchedulesRequest, is_waiting, with_request_counted}
use Rattle.cj_moves.specs.Proving.RefusedEvents.{refused_as}

-- the session can count one request more
pub record CanCountOne (c : Core) (s : ℕ) : Type 0 where
  pub counts : (session_at c s).requests < REQUEST_LIMIT
  pub idle : is_waiting c s ≡ false
  pub no_read : (session_at c s).reading ≡ None

-- the result of the move for an entry's number, or for a refused entry
abbrev pub schedule_given : Result ℕ (Option Refusal) → MoveResult
schedule_given (Ok n) = Ok (moved.Entry n)
schedule_given (Err refusal) = refused_as refusal

-- a request of session s was scheduled, or refused and is yet to be counted
abbrev pub SchedulesUncounted : Core → ℕ → Request → Result ℕ (Option Refusal) → Core → Type 0
SchedulesUncounted c s r (Ok n) z = SchedulesRequest c s r (Ok (moved.Entry n)) z
SchedulesUncounted c s r (Err (Some refusal)) z = CanCountOne z s × SchedulesRequest c s r (Ok (moved.Refused refusal)) (with_request_counted z s)
SchedulesUncounted c s r (Err None) z = SchedulesRequest c s r (Err NoMemory) z
