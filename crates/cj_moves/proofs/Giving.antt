-- What scheduling a request gives.
use Rattle.std.proofs.Common.{◌≡◌, ◌++◌, ◌∷◌, ℕ, ◌<◌, [], length, inl, inr, Option, None, Some, Result, Ok, Err, IsErrOf, refl, ap, sym, ◌∙◌, subst, arith, length-append}
use Rattle.cj_model.specs.declared.limits.TheConstants.{REQUEST_LIMIT}
use Rattle.cj_model.specs.declared.request.Act.{Act}
use Rattle.cj_model.specs.declared.request.Request.{Request}
use Rattle.cj_model.specs.declared.request.Entry.{Entry}
use Rattle.cj_model.specs.declared.codes.TheConstants.{HISTORY_FULL, LOG_FAULT, NO_BACKEND}
use Rattle.cj_cluster.proofs.Common.{Core, HasServer, act_of, is_entry_of, request_of, session_at}
use Rattle.cj_cluster.proofs.Now.{can_schedule}
use Rattle.cj_cluster.specs.History.Answering.{HasNoServer}
use Rattle.cj_cluster.proofs.Pushed.{opened-free, opened-same}
use Rattle.cj_model.specs.Database.Inserts.{refusal_of_code}
use Rattle.cj_cluster.specs.History.Histories.{log}
use Rattle.cj_cluster.specs.declared.event.Event.TheVariants.{LogFailed}
use Rattle.cj_cluster.specs.declared.moves.Move.TheVariants.{Schedule}
use Rattle.cj_cluster.specs.declared.moves.MoveError.TheVariants as errors
use Rattle.cj_cluster.specs.declared.moves.Moved.TheVariants as moved
use Rattle.cj_cluster.specs.Moves.Moves.{MoveResult, forbidden_by, not_now, open_tx, next_entry, SchedulesAct, SchedulesAnyAct, SchedulesRequest, scheduled_as, happened, with_request_counted}
use Rattle.cj_cluster.proofs.Soundness.{request_of-act}
use Rattle.cj_model.specs.Cluster.Caching.{CacheState}
use Rattle.cj_book.specs.declared.error.BookError.{BookError}
use Rattle.cj_book.specs.declared.error.BookError.TheVariants.{InProgress, NoBackend, HistoryFull, LogFault, NoMemory}
use Rattle.cj_book.specs.Refusals.{refusal_of}
use Rattle.cj_outside.specs.Causes.{CountsFault}
use Rattle.cj_state.specs.Effects.{SchedulesAs, core_scheduled, with_core}
use Rattle.cj_state.specs.Worlds.{CacheFollowsLog, IsSameWorldButLog, WorldState, with_cache, with_log}
use Rattle.cj_moves.specs.Counting.{answers_log_fault, log_faults_after}
use Rattle.cj_moves.specs.Proving.ScheduleParts.{CanCountOne, SchedulesUncounted, schedule_given}

-- a request that can be scheduled now can be counted
pub can_count : (c : Core) (s : ℕ) (r : Request) → not_now c (Schedule s r) ≡ None → (session_at c s).requests < REQUEST_LIMIT → CanCountOne c s
can_count c s r now counts = let can = can_schedule c s r now in record { counts = counts; idle = can.idle; no_read = can.no_read }

module _ (c : Core) (s : ℕ) (r : Request) (a : Act) (is : act_of r ≡ Some a) where
  of_act : (g : MoveResult) (z : Core) → SchedulesAct c s r a g z → SchedulesRequest c s r g z
  of_act g z h = subst (λ (o : Option Act). SchedulesAnyAct c s r o g z) (sym is) h

  -- memory was wanting
  gives_want : (z : Core) → z ≡ c → SchedulesUncounted c s r (Err None) z
  gives_want z same = of_act (Err errors.NoMemory) z same

  module _ (e : Entry) (next : e ≡ next_entry c s a) (allowed : forbidden_by (open_tx c s) a ≡ None) where
    -- the request that the entry comes from
    same_request : request_of e.act ≡ r
    same_request = ap (λ (d : Entry). request_of d.act) next ∙ request_of-act r a is

    pub gives_entry : (n : ℕ) (z : Core) → SchedulesAs c e (Ok n) → z ≡ core_scheduled c s e (Ok n) → SchedulesUncounted c s r (Ok n) z
    gives_entry n z did after =
        of_act (Ok (moved.Entry n)) z
        (allowed, subst (HasServer c.placement c.history) same_request did.1, did.2, did.0, after ∙ ap (scheduled_as c s) next)

    -- the core where the log's store failed
    abbrev faulted : Core
    faulted = happened c (LogFailed e.session e.seq)

    -- the request of such a fault can be counted, too
    still_counts : not_now c (Schedule s r) ≡ None → CanCountOne c s → CanCountOne faulted s
    still_counts now can =
        let free = (can_schedule c s r now).is_free in
        record {
          counts = can.counts;
          idle = ap (is_entry_of s) (opened-same c.history (LogFailed e.session e.seq) refl refl ∙ opened-free c.history free);
          no_read = can.no_read;
        }

    -- no entry was scheduled
    pub gives_refusal : (error : BookError) (z : Core) → not_now c (Schedule s r) ≡ None → CanCountOne c s → SchedulesAs c e (Err error) → z ≡ core_scheduled c s e (Err error)
        → SchedulesUncounted c s r (Err (refusal_of error)) z
    gives_refusal (InProgress n) z now can busy after = gives_want z after
    gives_refusal NoMemory z now can wanting after = gives_want z after
    gives_refusal NoBackend z now can none after = (
      subst (λ (k : Core). CanCountOne k s) (sym after) can,
      of_act (Ok (moved.Refused (refusal_of_code NO_BACKEND))) (with_request_counted z s)
          (inr (inl (record { allowed = allowed; none = subst (HasNoServer c.placement c.history) same_request none; refused = refl; after = ap (λ (k : Core). with_request_counted k s) after }))),
    )
    gives_refusal (HistoryFull n) z now can full after = (
      subst (λ (k : Core). CanCountOne k s) (sym after) can,
      of_act (Ok (moved.Refused (record { code = HISTORY_FULL; a = n; b = 0 }))) (with_request_counted z s)
          (inr (inr (inl (record {
            allowed = allowed;
            served = subst (HasServer c.placement c.history) same_request full.1;
            full = full.2;
            refused = ap (λ m. record { code = HISTORY_FULL; a = m; b = 0 }) full.0;
            after = ap (λ (k : Core). with_request_counted k s) after;
          })))),
    )
    gives_refusal LogFault z now can failed after = (
      subst (λ (k : Core). CanCountOne k s) (sym after) (still_counts now can),
      of_act (Ok (moved.Refused (refusal_of_code LOG_FAULT))) (with_request_counted z s)
          (inr (inr (inr (record {
            allowed = allowed;
            served = subst (HasServer c.placement c.history) same_request failed.0;
            space = failed.1;
            refused = refl;
            after = ap (λ (k : Core). with_request_counted k s) after ∙ ap (λ (d : Entry). with_request_counted (happened c (LogFailed d.session d.seq)) s) next;
          })))),
    )

-- the log's store has counted a fault where the refusal says so
abbrev scheduled_or : BookError → Result ℕ BookError
scheduled_or error = Err error

pub refusal_causes : (error : BookError) (before now : ℕ) → CountsFault (IsErrOf (scheduled_or error) LogFault) before now → now ≡ log_faults_after before (answers_log_fault (schedule_given (Err (refusal_of error))))
refusal_causes (InProgress n) before now counts = counts.uncounted (λ is. cc is)
refusal_causes NoBackend before now counts = counts.uncounted (λ is. cc is)
refusal_causes (HistoryFull n) before now counts = counts.uncounted (λ is. cc is)
refusal_causes LogFault before now counts = counts.counted refl
refusal_causes NoMemory before now counts = counts.uncounted (λ is. cc is)

module _ (old new : WorldState) (same : IsSameWorldButLog (with_cache (with_core old new.core) new.cache) new) (follows : CacheFollowsLog old new) where
  -- the core as before leaves the world as before, but maybe for its log
  pub same_core : new.core ≡ old.core → IsSameWorldButLog old new
  same_core core = parts follows
    where
      kept : new.cache ≡ old.cache → IsSameWorldButLog old new
      kept cache =
          same
          ∙ (ap (λ (k : Core). with_log (with_cache (with_core old k) new.cache) new.recovery_log) core
          ∙ ap (λ (k : CacheState). with_log (with_cache old k) new.recovery_log) cache)

      parts : CacheFollowsLog old new → IsSameWorldButLog old new
      parts (inl still) = kept still.1
      parts (inr (e, longer, cache)) =
          let one : log old.core.history ≡ log old.core.history ++ e ∷ [] = ap (λ (k : Core). log k.history) (sym core) ∙ longer in
          let count : length (log old.core.history) ≡ length (log old.core.history ++ e ∷ []) = ap length one in
          let sum = length-append (log old.core.history) (e ∷ []) in
          absurd (omega (arith, count, sum))

  -- where no refusal came of an error, so it is
  pub refusal_want : (s : ℕ) (e : Entry) (error : BookError) → new.core ≡ core_scheduled old.core s e (Err error) → refusal_of error ≡ None → IsSameWorldButLog old new
  refusal_want s e (InProgress n) core none = same_core core
  refusal_want s e NoBackend core none = absurd (cc none)
  refusal_want s e (HistoryFull n) core none = absurd (cc none)
  refusal_want s e LogFault core none = absurd (cc none)
  refusal_want s e NoMemory core none = same_core core
