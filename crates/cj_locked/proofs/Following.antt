-- A log that follows a history follows it on over failures in reads.
use Rattle.std.proofs.Common.{◌≡◌, Bool, ℕ, List, [], ◌∷◌, ◌++◌, Result, Ok, Err, OnOk, IsErrOf, refl}
use mathlib.Core.List.{IsPrefix}
use Rattle.cj_cluster.specs.declared.event.Event.{Event}
use Rattle.cj_cluster.specs.declared.event.Event.TheVariants.{Sched, ReadFailed, LogFailed}
use Rattle.cj_model.specs.declared.request.Entry.{Entry}
use Rattle.cj_log.specs.declared.error.LogError.{LogError}
use Rattle.cj_log.specs.declared.error.LogError.TheVariants as log_errors
use Rattle.cj_book.specs.BookLogs.{BookLogState, LogFollows}
use Rattle.cj_book.proofs.LogFollowing.{log_more}
use Rattle.cj_locked.specs.Writing.{FollowsAppend}
use Rattle.cj_locked.specs.Turns.{turn_events_of}
use Rattle.cj_locked.proofs.Turns.{turn_keeps}

pub follows_reads : {S : Type 0} (tells : Bool) (count : S → ℕ) (l : BookLogState S) (g h : List Event) → IsPrefix g h → turn_events_of h ≡ turn_events_of g → LogFollows tells count l g → LogFollows tells count l h
follows_reads tells count l g h p same follows = turn_keeps (LogFollows tells count l) (λ m s q b f. log_more f (ReadFailed s q b) (λ n. refl) (λ failed. refl) refl) g h p same follows

-- by what the append answers
pub follows_append : {S : Type 0} (tells : Bool) (count : S → ℕ) (l : BookLogState S) (h : List Event) (e : Entry) (r : Result Unit LogError) → OnOk r (LogFollows tells count l (h ++ Sched e ∷ []))
    → (IsErrOf r log_errors.Failed → LogFollows tells count l (h ++ LogFailed e.session e.seq ∷ [])) → (IsErrOf r log_errors.NoMemory → LogFollows tells count l h) → FollowsAppend tells count l h e r
follows_append tells count l h e (Ok u) well failed wanting = well
follows_append tells count l h e (Err log_errors.Failed) well failed wanting = failed refl
follows_append tells count l h e (Err log_errors.NoMemory) well failed wanting = wanting refl
