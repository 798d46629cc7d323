-- A session's write over a whole world, from its entry to the end of that.
use Rattle.std.proofs.Common.{◌≡◌, ◌⊎◌, inl, inr, ℕ, suc, ◌+◌, ◌<◌, ◌≤◌, ◌==◌, ◌&&◌, Bool, true, false, cond, is_some, List, [], ◌∷◌, ◌++◌, length, slice_get, Option, Some, Ok, Err, refl, ap, sym, ◌∙◌, subst, ⊎_elim, append_assoc, length-append, arith}
use Rattle.cj_calls.proofs.Common.{accounts_of, Act, act_of, act_of_request, AddsEntry, AddsOwnEvents, All-nil, answered_at, AnswersEntry, append-nil, AreBackendsOf, AreCalledFor, Call, call_of, Core, CoreInvariant, Ended, ended_for, Entry, open_entry_of, entry_of_call, EntryEnded}
use Rattle.cj_calls.proofs.Common.{EntryRefused, EntryScheduled, eq-eqb, Event, events_left, faults_counted, faults_of, FitsTx, follows_own, follows_rest, free-ended, free-same, free-sched, happened, HasNoRoomFor, HasServer, is_entry_of, is_free}
use Rattle.cj_calls.proofs.Common.{is_open, is_open-with, is_waiting, IsOutcome, IsReadAtEnd, IsSameWorldButLog, last_number, legal_push, log, log-sched, log_failed_in, log_failure_of, LOG_FAULT, log_faults_after, LogFailed, logins_of, LogView, mask_with, ne_eqb, open_tx, open_user}
use Rattle.cj_calls.proofs.Common.{asks_of, at_log_end, CallsBackends, CallsExactly, CarriesOut, CellState, enabled-push, false_from_ne_true, find_session, is_enabled, is_masked, IsBeforeEnd, IsPartOf, login_of, position_at, session_of-other, takes_part_in}
use Rattle.cj_calls.proofs.Common.{cond_both, opened-sched, OpenSession, option_map_or, Outcome, outcome_reply, own_entry, own_tx, Placement, prefix_self, Refusal, refusal_of_code, Refused, Reply, request_of, Rests, Sched, scheduled_as, SchedulesAs, SchedulesOrRefuses, seen_at, session_at}
use Rattle.cj_calls.proofs.Common.{session_owes, SessionView, StandsBetweenCalls, tells_log_failure, Turn, turn_full, turn_log_fault, turn_starved, turn_unserved, with_cache, with_core, with_one_request, with_request_counted, WorldState, WorldTurn}
use Rattle.cj_model.specs.declared.answer.Outcome.TheVariants as outcome
use Rattle.cj_cluster.proofs.Standing.{open_above}
use Rattle.cj_calls.proofs.SoloTurns.{between_scheduled, between_taken, log_refused, turn_ended}

-- what an entry comes to is no failure of the log's store
outcome_without : (o : Outcome) → IsOutcome o → tells_log_failure (outcome_reply o) ≡ false
outcome_without (outcome.Done n) possible = refl
outcome_without (outcome.Refused r) possible = let high : r.code ≤ 29 = possible.1 in ne_eqb r.code LOG_FAULT (λ is. omega (arith, is))

pub answered_without : (tells : Bool) (p : Placement) (then h : List Event) (i : ℕ) (e : Entry) (reply : Reply) → AnswersEntry tells p then h i e reply → tells_log_failure reply ≡ false
answered_without tells p then h i e reply (inl f) = ap tells_log_failure f.replied ∙ outcome_without f.outcome f.possible
answered_without tells p then h i e reply (inr u) = ⊎_elim (λ q. ap tells_log_failure q.1) (λ q. ap tells_log_failure q.1) u.replied

replied_without_log : (c : Call) (act : Act) → act_of c.request ≡ Some act → tells_log_failure c.reply ≡ false → log_failed_in c ≡ false
replied_without_log c act is none = ap (λ (o : Option Act). is_some o && tells_log_failure c.reply) is ∙ none

-- a request that is an act reads nothing
pub reads_nothing : (c : Call) (z : SessionView) (act : Act) → act_of c.request ≡ Some act → IsReadAtEnd c z
reads_nothing c z act is = λ none answer possible replied. absurd (cc (none, is))

-- The entry was scheduled, so it is the open one.
module _ (s : ℕ) (entry : Entry) (old begun : WorldState) (idle : is_free old.core.history ≡ true) (after : EntryScheduled s entry old begun) where
  begun_history : begun.core.history ≡ old.core.history ++ Sched entry ∷ []
  begun_history = ap (λ (x : WorldState). x.core.history) after.after

  opened : open_entry_of begun.core.history ≡ Some entry
  opened = ap open_entry_of begun_history ∙ opened-sched old.core.history entry idle

  pub begun_running : is_free begun.core.history ≡ false
  begun_running = ap is_free begun_history ∙ free-sched old.core.history entry idle

  pub begun_waits : entry.session ≡ s → is_waiting begun.core s ≡ true
  begun_waits own = ap (is_entry_of s) opened ∙ eq-eqb entry.session s own

  pub begun_user : open_user begun.core ≡ entry.user
  begun_user = ap (λ (o : Option Entry). option_map_or (λ (e : Entry). e.user) o []) opened

-- From `old` the entry was scheduled, which led to `begun`, and from there it ended.
module _ (tells : Bool) (s tx : ℕ) (user : List ℕ) (act : Act) (reply : Reply) (old begun new : WorldState) (n : ℕ) (w : CoreInvariant old.core) (stands : StandsBetweenCalls old.core s) (ended : EntryEnded tells s user begun reply new) where
  abbrev pub call : Call
  call = call_of old.core s tx user (request_of act) reply

  abbrev pub entry : Entry
  entry = entry_of_call s call act

  module _ (did : SchedulesAs old.core entry (Ok n)) (scheduled : EntryScheduled s entry old begun) where
    after : IsSameWorldButLog (with_cache (with_core old (scheduled_as old.core s entry)) begun.cache) begun
    after = scheduled.after

    begun_core : begun.core ≡ scheduled_as old.core s entry
    begun_core = ap (λ (x : WorldState). x.core) after

    new_core : new.core ≡ ended_for ended.mid.core s
    new_core = ap (λ (x : WorldState). x.core) ended.ended

    placed : ended.mid.core.placement ≡ old.core.placement
    placed = ap (λ (c : Core). c.placement) ended.taken.core ∙ ap (λ (c : Core). c.placement) begun_core

    -- the history from the entry to its end
    mid_history : ended.mid.core.history ≡ old.core.history ++ Sched entry ∷ []
    mid_history = ap (λ (c : Core). c.history) ended.taken.core ∙ ap (λ (c : Core). c.history) begun_core

    running : is_free ended.mid.core.history ≡ false
    running = ap is_free mid_history ∙ free-sched old.core.history entry stands.idle

    in_progress : open_entry_of ended.mid.core.history ≡ Some entry
    in_progress = ap open_entry_of mid_history ∙ opened-sched old.core.history entry stands.idle

    -- the session, as it stands then
    mid_open : is_open ended.mid.core s ≡ true
    mid_open =
        subst (λ (c : Core). is_open c s ≡ true) (sym ended.taken.core)
        (subst (λ (c : Core). is_open c s ≡ true) (sym begun_core) (is_open-with with_one_request (λ x. refl) old.core.sessions s s ∙ stands.here))

    mid_session : session_at ended.mid.core s ≡ with_one_request (session_at old.core s)
    mid_session =
        (follows_rest begun.core ended.mid.core s ended.taken.core refl (prefix_self begun.core.history) refl refl).session
        ∙ (follows_own old.core begun.core s begun_core refl (Sched entry ∷ [], refl) refl with_one_request (λ x. refl) refl stands.here).session

    new_session_is : session_at new.core s ≡ answered_at (last_number ended.mid.core) (with_one_request (session_at old.core s))
    new_session_is =
        (follows_own ended.mid.core new.core s new_core refl (Ended ended.mid.core.failed ended.mid.core.starved ∷ [], refl) refl (answered_at (last_number ended.mid.core)) (λ x. refl) refl mid_open).session
        ∙ ap (answered_at (last_number ended.mid.core)) mid_session

    still_stands : StandsBetweenCalls new.core s
    still_stands =
        let one = ended.was_sound.one_open in
        record {
          idle = ap (λ (c : Core). is_free c.history) new_core ∙ free-ended ended.mid.core.history ended.mid.core.failed ended.mid.core.starved running one.0 one.1;
          here =
              subst (λ (c : Core). is_open c s ≡ true) (sym new_core)
              (is_open-with (answered_at (last_number ended.mid.core)) (λ x. refl) ended.mid.core.sessions s s ∙ mid_open);
          no_read = ap (λ (x : OpenSession). x.reading) new_session_is ∙ stands.no_read;
        }

    turn : Turn tells old.core.placement s (seen_at old.core s) call (seen_at new.core s)
    turn =
        subst (λ (p : Placement). Turn tells p s (seen_at old.core s) call (seen_at new.core s)) placed
        (turn_ended tells (seen_at old.core s) ended.mid.core new.core s entry reply (open_above old.core s w stands.here) ended.was_sound ended.is_sound
        (between_taken (seen_at old.core s) begun ended.mid s user ended.taken (between_scheduled old.core begun.core s entry w stands refl did.1 did.2 begun_core)) running ended.everywhere in_progress refl (ended.answer entry in_progress) new_core)

    -- the masks begin empty
    failed_mask : ended.mid.core.failed ≡ mask_with 0 ended.taken.failed
    failed_mask = ended.taken.mask ∙ ap (λ (c : Core). mask_with c.failed ended.taken.failed) begun_core

    history_then : new.core.history ≡ old.core.history ++ Sched entry ∷ Ended (mask_with 0 ended.taken.failed) ended.mid.core.starved ∷ []
    history_then =
        ap (λ (c : Core). c.history) new_core
        ∙ (ap (λ (h : List Event). h ++ Ended ended.mid.core.failed ended.mid.core.starved ∷ []) mid_history
        ∙ (append_assoc old.core.history (Sched entry ∷ []) (Ended ended.mid.core.failed ended.mid.core.starved ∷ [])
        ∙ ap (λ (m : ℕ). old.core.history ++ Sched entry ∷ Ended m ended.mid.core.starved ∷ []) failed_mask))

    pub entry_added : AddsEntry (suc (length (log old.core.history))) s call act ended.taken.failed old.core.history new.core.history
    entry_added = (refl, (ended.mid.core.starved, history_then))

    -- ---- what the backends did

    -- the entry is the open one
    opened_now : open_entry_of begun.core.history ≡ Some entry
    opened_now = ap (λ (c : Core). open_entry_of c.history) begun_core ∙ opened-sched old.core.history entry stands.idle

    still_on : (b : ℕ) → is_enabled begun.core.history b ≡ is_enabled old.core.history b
    still_on b = ap (λ (c : Core). is_enabled c.history b) begun_core ∙ enabled-push old.core.history (Sched entry) b

    still_part : (b : ℕ) → takes_part_in begun.core b entry ≡ takes_part_in old.core b entry
    still_part b = ap (λ (c : Core). takes_part_in c b entry) begun_core

    -- each enabled backend has yet to take it
    due : (b : ℕ) → is_enabled old.core.history b ≡ true → IsBeforeEnd begun.core b
    due b on =
        let longer : last_number begun.core ≡ last_number old.core + 1 =
        ap (λ (c : Core). length (log c.history)) begun_core ∙ (ap length (log-sched old.core.history entry) ∙ length-append (log old.core.history) (entry ∷ []))
        in
        record {
          p = last_number old.core;
          stands = ap (λ (c : Core). position_at c b) begun_core ∙ at_log_end old.core w stands.idle b on;
          more = λ same. absurd (omega (arith, same, longer));
        }

    -- the cells and the accounts are those of before and after
    cells_begun : begun.cells ≡ old.cells
    cells_begun = ap (λ (x : WorldState). x.cells) after

    cells_new : new.cells ≡ ended.mid.cells
    cells_new = ap (λ (x : WorldState). x.cells) ended.ended

    masked : (b : ℕ) → is_masked ended.mid.core.failed ended.mid.core.starved b ≡ is_masked (mask_with 0 ended.taken.failed) ended.mid.core.starved b
    masked b = ap (λ (m : ℕ). is_masked m ended.mid.core.starved b) failed_mask

    called_exactly : CallsExactly (accounts_of old) user (λ b. IsPartOf old.core entry b × (is_masked (mask_with 0 ended.taken.failed) ended.mid.core.starved b ≡ false)) (λ b. is_masked (mask_with 0 ended.taken.failed) ended.mid.core.starved b ≡ true)
        (logins_of old.cells) (logins_of new.cells)
    called_exactly =
        record {
          only =
              subst (λ (x : WorldState). AreCalledFor (accounts_of old) user (logins_of old.cells) (logins_of x.cells)) (sym ended.ended)
              (subst (λ (x : WorldState). AreCalledFor (accounts_of x) user (logins_of x.cells) (logins_of ended.mid.cells)) after ended.taken.logins);
          did =
              λ b x.
              ap (λ (xs : List CellState). slice_get (logins_of xs) b) cells_new
              ∙ ((ended.each b).did entry opened_now (due b x.0.0) (still_on b ∙ x.0.0, still_part b ∙ x.0.1) (masked b ∙ x.1)
              ∙ ap (λ (y : WorldState). Some (Some (login_of (accounts_of y) user b))) after);
          others =
              λ b apart none.
              let unmasked = false_from_ne_true (is_masked (mask_with 0 ended.taken.failed) ended.mid.core.starved b) none in
              ap (λ (xs : List CellState). slice_get (logins_of xs) b) cells_new
              ∙ ((ended.each b).skipped entry opened_now (λ part. apart ((sym (still_on b) ∙ part.0, sym (still_part b) ∙ part.1), unmasked))
              ∙ ap (λ (xs : List CellState). slice_get (logins_of xs) b) cells_begun);
        }

    carried_out : CarriesOut s call act ended.taken.failed old new
    carried_out =
        record {
          handed = inr (record { starved = ended.mid.core.starved; ended = history_then; logins = called_exactly });
          asks = ap asks_of cells_new ∙ (ended.taken.asks ∙ ap asks_of cells_begun);
          balance = ap (λ (x : WorldState). x.balance) ended.ended ∙ (ended.taken.balance ∙ ap (λ (x : WorldState). x.balance) after);
        }

    pub wrote : WorldTurn tells s old call new
    wrote =
        record {
          placement = ap (λ (c : Core). c.placement) new_core ∙ placed;
          dumps = ap (λ (c : Core). c.dumps) new_core ∙ (ap (λ (c : Core). c.dumps) ended.taken.core ∙ ap (λ (c : Core). c.dumps) begun_core);
          greatest = ap (λ (c : Core). c.greatest) new_core ∙ (ap (λ (c : Core). c.greatest) ended.taken.core ∙ ap (λ (c : Core). c.greatest) begun_core);
          others =
              λ t other.
              ap (λ (c : Core). find_session c.sessions t) new_core
              ∙ (session_of-other (answered_at (last_number ended.mid.core)) (λ x. refl) ended.mid.core.sessions s t other
              ∙ (ap (λ (c : Core). find_session c.sessions t) ended.taken.core
              ∙ (ap (λ (c : Core). find_session c.sessions t) begun_core ∙ session_of-other with_one_request (λ x. refl) old.core.sessions s t other)));
          disabled =
              λ b off.
              ap (λ (xs : List CellState). slice_get xs b) cells_new
              ∙ ((ended.each b).disabled (still_on b ∙ off) ∙ ap (λ (xs : List CellState). slice_get xs b) cells_begun);
          setup = ap (λ (x : WorldState). x.setup) ended.ended ∙ (ended.taken.setup ∙ ap (λ (x : WorldState). x.setup) after);
          number = refl;
          requests = ap (λ (x : OpenSession). x.requests) new_session_is;
          turn = turn;
          at_end = reads_nothing call (seen_at new.core s) act (act_of_request act);
          stands = still_stands;
          failed = ended.taken.failed;
          backends = subst (λ (x : WorldState). AreBackendsOf x ended.taken.failed) after ended.taken.backends;
          events =
              subst (λ (o : Option Act). AddsOwnEvents s call o ended.taken.failed old.core.history new.core.history) (sym (act_of_request act))
              (suc (length (log old.core.history)), entry_added);
          log_faults =
              ap (λ (x : WorldState). x.recovery_log.faults) ended.ended ∙ (ap (λ (l : LogView). l.faults) ended.taken.recovery_log ∙ (scheduled.log_faults
              ∙ ap (log_faults_after old.recovery_log.faults) (sym (replied_without_log call act (act_of_request act) (answered_without tells _ _ _ _ entry reply (ended.answer entry in_progress))))));
          faults = ap (λ (x : WorldState). faults_of x.cells) ended.ended ∙ (ended.taken.faults ∙ ap (λ (x : WorldState). faults_counted (faults_of x.cells) ended.taken.failed) after);
          calls = subst (λ (o : Option Act). CallsBackends s call o ended.taken.failed old new) (sym (act_of_request act)) carried_out;
        }

-- the session has seen all that there is
nothing_more : (c : Core) (s : ℕ) → Rests s (seen_at c s) c.history
nothing_more c s = record { entries = refl; tx = refl; log_faults = λ q. refl }

-- Nothing was scheduled, and the session counted its request.
module _ (tells : Bool) (s tx : ℕ) (user : List ℕ) (act : Act) (old new : WorldState) (refusal : Refusal) (w : CoreInvariant old.core) (stands : StandsBetweenCalls old.core s) (fits : FitsTx (open_tx old.core s) tx act)
    (setup : new.setup ≡ old.setup) (cells : new.cells ≡ old.cells) (log_faults : new.recovery_log.faults ≡ log_faults_after old.recovery_log.faults (refusal.code == LOG_FAULT)) (balance : new.balance ≡ old.balance) where
  abbrev pub refusing : Call
  refusing = call_of old.core s tx user (request_of act) (Refused refusal)

  own : (tx ≡ 0) ⊎ (tx ≡ open_tx old.core s)
  own = own_tx (open_tx old.core s) tx act fits

  -- the history may have an event more
  module _ (more : List Event) (after : new.core ≡ with_request_counted (record old.core { history = old.core.history ++ more }) s) (idle : is_free (old.core.history ++ more) ≡ true) (events : log_failure_of s refusing ≡ more)
      (turn : Turn tells old.core.placement s (seen_at old.core s) refusing (record { front = old.core.history ++ more; least = (session_at old.core s).least })) where
    refused_session : session_at new.core s ≡ with_one_request (session_at old.core s)
    refused_session = (follows_own old.core new.core s after refl (more, refl) refl with_one_request (λ x. refl) refl stands.here).session

    refused_as : WorldTurn tells s old refusing new
    refused_as =
        let seen : record { front = old.core.history ++ more; least = (session_at old.core s).least } ≡ seen_at new.core s =
        sym (ap (λ (c : Core). record { front = c.history; least = (session_at new.core s).least }) after ∙ ap (λ (x : OpenSession). record { front = old.core.history ++ more; least = x.least }) refused_session)
        in
        let grew : new.core.history ≡ old.core.history ++ log_failure_of s refusing = ap (λ (c : Core). c.history) after ∙ ap (λ (es : List Event). old.core.history ++ es) (sym events) in
        record {
          placement = ap (λ (c : Core). c.placement) after;
          dumps = ap (λ (c : Core). c.dumps) after;
          greatest = ap (λ (c : Core). c.greatest) after;
          others = λ t other. ap (λ (c : Core). find_session c.sessions t) after ∙ session_of-other with_one_request (λ x. refl) old.core.sessions s t other;
          disabled = λ b off. ap (λ (xs : List CellState). slice_get xs b) cells;
          setup = setup;
          number = refl;
          requests = ap (λ (x : OpenSession). x.requests) refused_session;
          turn = subst (Turn tells old.core.placement s (seen_at old.core s) refusing) seen turn;
          at_end = reads_nothing refusing (seen_at new.core s) act (act_of_request act);
          stands =
              record {
                idle = ap (λ (c : Core). is_free c.history) after ∙ idle;
                here = subst (λ (c : Core). is_open c s ≡ true) (sym after) (is_open-with with_one_request (λ x. refl) old.core.sessions s s ∙ stands.here);
                no_read = ap (λ (x : OpenSession). x.reading) refused_session ∙ stands.no_read;
              };
          failed = [];
          backends = All-nil (λ (b : ℕ). b < length old.cells);
          events =
              subst (λ (o : Option Act). AddsOwnEvents s refusing o [] old.core.history new.core.history) (sym (act_of_request act))
              (0, (grew, refl));
          faults = ap faults_of cells;
          log_faults = log_faults ∙ ap (log_faults_after old.recovery_log.faults) (sym (ap (λ (o : Option Act). is_some o && (refusal.code == LOG_FAULT)) (act_of_request act)));
          calls =
              subst (λ (o : Option Act). CallsBackends s refusing o [] old new) (sym (act_of_request act))
              (record { handed = inl (record { unscheduled = log_refused s refusing old.core.history new.core.history grew; cells = cells }); asks = ap asks_of cells; balance = balance });
        }

  -- it is no failure of the log's store, so the history has no event more
  module _ (other : (refusal.code == LOG_FAULT) ≡ false) (after : new.core ≡ with_request_counted old.core s) (turn : Turn tells old.core.placement s (seen_at old.core s) refusing (seen_at old.core s)) where
    pub refused_quietly : WorldTurn tells s old refusing new
    refused_quietly =
        let same : old.core.history ≡ old.core.history ++ [] = sym (append-nil old.core.history) in
        refused_as [] (after ∙ ap (λ (h : List Event). with_request_counted (record old.core { history = h }) s) same) (ap is_free (sym same) ∙ stands.idle)
        (ap (λ (t : Bool). cond t (LogFailed s refusing.number ∷ []) []) other)
        (subst (λ (h : List Event). Turn tells old.core.placement s (seen_at old.core s) refusing (record { front = h; least = (session_at old.core s).least })) same turn)

  -- or it is
  pub refused_by_log : refusal ≡ refusal_of_code LOG_FAULT → HasServer old.core.placement old.core.history (request_of act) → 3 ≤ events_left old.core.history
      → new.core ≡ with_request_counted (happened old.core (LogFailed s refusing.number)) s → WorldTurn tells s old refusing new
  refused_by_log is served space after =
      let ev : Event = LogFailed s refusing.number in
      let legal = legal_push old.core.history ev w.legal (omega arith) stands.idle in
      refused_as (ev ∷ []) after (free-same old.core.history ev refl refl ∙ stands.idle) (ap (λ (r : Refusal). cond (r.code == LOG_FAULT) (LogFailed s refusing.number ∷ []) []) is)
      (turn_log_fault tells old.core.placement s (seen_at old.core s) old.core.history refusing act legal (prefix_self old.core.history) (session_owes old.core s w) (nothing_more old.core s) own (act_of_request act) (ap (λ r. Refused r) is)
      stands.idle served space)

-- between its calls the session stands where its entry was refused
pub stands_refused : (s : ℕ) (e : Entry) (refusal : Refusal) (old mid : WorldState) → StandsBetweenCalls old.core s → EntryRefused e refusal old mid → StandsBetweenCalls mid.core s
stands_refused s e refusal old mid stands gone =
    subst (λ (c : Core). StandsBetweenCalls c s) (sym (ap (λ (x : WorldState). x.core) gone.after))
    (cond_both (refusal.code == LOG_FAULT) (happened old.core (LogFailed e.session e.seq)) old.core (λ (c : Core). StandsBetweenCalls c s)
    (λ _. record { idle = free-same old.core.history (LogFailed e.session e.seq) refl refl ∙ stands.idle; here = stands.here; no_read = stands.no_read }) (λ _. stands))

-- whichever it is
module _ (tells : Bool) (s tx : ℕ) (user : List ℕ) (act : Act) (old mid new : WorldState) (refusal : Refusal) (w : CoreInvariant old.core) (stands : StandsBetweenCalls old.core s) (fits : FitsTx (open_tx old.core s) tx act)
    (gone : EntryRefused (own_entry old.core s tx user act) refusal old mid) (after : new ≡ with_core mid (with_request_counted mid.core s)) where
  setup_is : new.setup ≡ old.setup
  setup_is = ap (λ (x : WorldState). x.setup) after ∙ ap (λ (x : WorldState). x.setup) gone.after

  cells_are : new.cells ≡ old.cells
  cells_are = ap (λ (x : WorldState). x.cells) after ∙ ap (λ (x : WorldState). x.cells) gone.after

  balance_is : new.balance ≡ old.balance
  balance_is = ap (λ (x : WorldState). x.balance) after ∙ ap (λ (x : WorldState). x.balance) gone.after

  faults_are : new.recovery_log.faults ≡ log_faults_after old.recovery_log.faults (refusal.code == LOG_FAULT)
  faults_are = ap (λ (x : WorldState). x.recovery_log.faults) after ∙ gone.log_faults

  core_is : (t : Bool) → (refusal.code == LOG_FAULT) ≡ t → new.core ≡ with_request_counted (cond t (happened old.core (LogFailed s ((session_at old.core s).requests + 1))) old.core) s
  core_is t is =
      ap (λ (x : WorldState). x.core) after ∙ ap (λ (c : Core). with_request_counted c s)
      (ap (λ (x : WorldState). x.core) gone.after ∙ ap (λ (b : Bool). cond b (happened old.core (LogFailed s ((session_at old.core s).requests + 1))) old.core) is)

  abbrev call_refused : Call
  call_refused = call_of old.core s tx user (request_of act) (Refused refusal)

  quietly : (refusal.code == LOG_FAULT) ≡ false → Turn tells old.core.placement s (seen_at old.core s) call_refused (seen_at old.core s) → WorldTurn tells s old call_refused new
  quietly other turn = refused_quietly tells s tx user act old new refusal w stands fits setup_is cells_are faults_are balance_is other (core_is false other) turn

  own_again : (tx ≡ 0) ⊎ (tx ≡ open_tx old.core s)
  own_again = own_tx (open_tx old.core s) tx act fits

  pub refused : SchedulesOrRefuses old.core (own_entry old.core s tx user act) (Err refusal) → WorldTurn tells s old call_refused new
  refused (inl none) =
      quietly (ap (λ (r : Refusal). r.code == LOG_FAULT) none.1)
      (turn_unserved tells old.core.placement s (seen_at old.core s) old.core.history w.legal (prefix_self old.core.history) (session_owes old.core s w) (nothing_more old.core s) call_refused own_again (ap (λ r. Refused r) none.1) none.0)
  refused (inr (inl full)) =
      quietly (ap (λ (r : Refusal). r.code == LOG_FAULT) full.2)
      (turn_full tells old.core.placement s (seen_at old.core s) old.core.history w.legal (prefix_self old.core.history) (session_owes old.core s w) (nothing_more old.core s) call_refused own_again (ap (λ r. Refused r) full.2) full.0
      (subst (HasNoRoomFor old.core.history) (sym (act_of_request act)) (stands.idle, full.1)))
  refused (inr (inr (inl want))) =
      quietly (ap (λ (r : Refusal). r.code == LOG_FAULT) want)
      (turn_starved tells old.core.placement s (seen_at old.core s) old.core.history w.legal (prefix_self old.core.history) (session_owes old.core s w) (nothing_more old.core s) call_refused own_again (ap (λ r. Refused r) want))
  refused (inr (inr (inr faulted))) =
      refused_by_log tells s tx user act old new refusal w stands fits setup_is cells_are faults_are balance_is faulted.2 faulted.0 faulted.1 (core_is true (ap (λ (r : Refusal). r.code == LOG_FAULT) faulted.2))
