-- Every move keeps the state sound.
use Rattle.std.proofs.Common.{◌≡◌, ◌≢◌, ◌⊎◌, inl, inr, ℕ, ◌+◌, ◌-◌, ◌<◌, ◌≤◌, ◌==◌, Bool, true, false, cond, List, [], ◌∷◌, ◌++◌, length, take, All, Option, IfSome, None, Some, Ok, Err, refl, ap, sym, ◌∙◌, subst, arith, ⊎_elim, MatchOption}
use Rattle.std.proofs.lemmas.Bool.{eqb-true, eqb-false, or_parts, leb-false}
use Rattle.std.proofs.lemmas.List.Elements.{All-weaker}
use Rattle.cj_cluster.proofs.Common.{Abort, Act, Apply, Arm, Asked, Close, CoreInvariant, Disable, Dump, Enable, End, Ended, Entry, Event, FitsTx, IsFitEntry, IsSoundDump, IsSoundSession, Load, LogFailed, Mark, Move, NoMemory, NotNow, Open, OpenSession, Read, ReadFailed, Refusal, Replay, Request, Schedule, Select, TakenDump, Why, act_of, bytes_eq, events_left, is_free, log, request_of}
use Rattle.cj_model.specs.declared.request.Act.TheVariants as act
use Rattle.cj_model.specs.declared.request.Request.TheVariants as request
use Rattle.cj_cluster.specs.declared.moves.Moved.TheVariants as moved
use Rattle.cj_cluster.specs.declared.moves.Reason.TheVariants as reason
use Rattle.cj_model.specs.declared.limits.TheConstants.{REQUEST_LIMIT, SESSION_LIMIT, SESSION_NUMBER_LIMIT, USER_LIMIT}
use Rattle.cj_model.specs.Sql.WrittenRequests.{IsWritten}
use Rattle.cj_cluster.specs.Moves.Cores.{Core, find_dump, session_at, new_session, with_session}
use Rattle.cj_cluster.specs.Moves.Moves as moves
use Rattle.cj_cluster.specs.Moves.Moves.{MoveResult, MovesTo, DoesMove, happened, not_now, is_open, is_reading, read_number, next_entry, abort_entry, entry_numbered, user_of, is_orphan, open_tx, forbidden_by, tx_of_act, with_one_request, answered_at, was_answered, still_reading, last_number, with_read, read_failed, with_end, tried_of, tried_with}
use Rattle.cj_cluster.specs.Moves.Runs.{IsMoveOfCluster, CanCountRequests}
use Rattle.cj_cluster.proofs.WrittenRollback.{rollback_written}
use Rattle.cj_cluster.proofs.TransactionLaws.{fit_at, legal_fit}
use Rattle.cj_cluster.proofs.Pushed.{log-same, log_faults-same, opened-ended, opened-same}
use Rattle.cj_cluster.proofs.Sessions.{found_open, found_all, found_number, without}
use Rattle.cj_model.proofs.RisingLaws.{found_All}
use Rattle.cj_cluster.proofs.Effects.{sessions_are, KeepsSession, are_opened, are_closed, are_with, are_sched, are_sched_without, sound_sessions, sound_sched, sound_ended, sound_read_failed, sound_disabled, sound_enabled, sound_marked, sound_log_failed, sound_applied, sound_replayed, sound_dumped, sound_loaded, is_there, stands_there}
use Rattle.cj_cluster.proofs.Now.{numbered_at, orphan_of, CanClose, can_close, CanSchedule, can_schedule, CanAbort, can_abort, CanApply, can_apply, CanEnd, can_end, CanDisable, can_disable, CanReplay, can_replay, CanEnable, can_enable, CanMark, can_mark, CanLoad, can_load, behind_none}

-- ---- sessions

-- a session is opened, or none can be
sound_open : (c : Core) (user : List ℕ) (g : MoveResult) (z : Core) → length user ≤ USER_LIMIT → CoreInvariant c → moves.OpensSession c user g z → CoreInvariant z
sound_open c user (Ok (moved.Session n)) z fits w h =
    let full = or_parts _ _ h.0 in
    let few : length c.sessions < SESSION_LIMIT = leb-false _ _ full.0 in
    let more : c.greatest < SESSION_NUMBER_LIMIT = leb-false _ _ full.1 in
    subst CoreInvariant (sym h.2) (sound_sessions c (c.sessions ++ new_session (c.greatest + 1) user ∷ []) (c.greatest + 1) w (are_opened c.history c.greatest c.sessions user (sessions_are c w) few more fits))
sound_open c user (Ok (moved.Refused r)) z fits w h = subst CoreInvariant (sym h.2) w
sound_open c user _ z fits w h = absurd h

-- a session is closed
sound_close : (c : Core) (s : ℕ) (g : MoveResult) (z : Core) → CoreInvariant c → CanClose c s → moves.ClosesSession c s g z → CoreInvariant z
sound_close c s (Ok moved.Closed) z w can h =
    subst CoreInvariant (sym h) (sound_sessions c (without s c.sessions) c.greatest w (are_closed c.history c.greatest c.sessions s (sessions_are c w) can.idle))
sound_close c s _ z w can h = absurd h

-- a session is changed, and nothing else
with_sound : (c : Core) (s : ℕ) (f : OpenSession → OpenSession) (z : Core) → CoreInvariant c → KeepsSession (length (log c.history)) f → z ≡ with_read c s f → CoreInvariant z
with_sound c s f z w keeps is =
    subst CoreInvariant (sym is) (sound_sessions c (with_session c.sessions s f) c.greatest w (are_with c.history c.history c.greatest c.sessions s f (sessions_are c w) keeps refl (λ t q lt. refl) (λ e on. on)))

-- ---- entries

-- the request of an act is the one that it came from
pub request_of-act : (r : Request) (a : Act) → act_of r ≡ Some a → request_of a ≡ r
request_of-act (request.Select s) a is = absurd (cc is)
request_of-act (request.Write w) a is = let same : act.Write w ≡ a = cc is in subst (λ (x : Act). request_of x ≡ request.Write w) same refl
request_of-act (request.Create c) a is = let same : act.Create c ≡ a = cc is in subst (λ (x : Act). request_of x ≡ request.Create c) same refl
request_of-act (request.Drop t) a is = let same : act.Drop t ≡ a = cc is in subst (λ (x : Act). request_of x ≡ request.Drop t) same refl
request_of-act request.Begin a is = let same : act.Begin ≡ a = cc is in subst (λ (x : Act). request_of x ≡ request.Begin) same refl
request_of-act request.Commit a is = let same : act.Commit ≡ a = cc is in subst (λ (x : Act). request_of x ≡ request.Commit) same refl
request_of-act request.Rollback a is = let same : act.Abort ≡ a = cc is in subst (λ (x : Act). request_of x ≡ request.Rollback) same refl

-- the open session of a number, as the state has it
pub session_sound : (c : Core) (s : ℕ) → CoreInvariant c → is_open c s ≡ true → IsSoundSession c.history c.greatest (session_at c s) × ((session_at c s).number ≡ s)
session_sound c s w here =
    let found = found_open c s here in
    (found_all (IsSoundSession c.history c.greatest) c.sessions s (session_at c s) w.sessions found, found_number c.sessions s (session_at c s) found)

-- where the one branch of a test refuses, the other was taken
allowed_then : (t : Bool) (refusal : Refusal) → cond t None (Some refusal) ≡ None → t ≡ true
allowed_then true refusal e = refl
allowed_then false refusal e = absurd (cc e)

allowed_else : (t : Bool) (refusal : Refusal) → cond t (Some refusal) None ≡ None → t ≡ false
allowed_else true refusal e = absurd (cc e)
allowed_else false refusal e = refl

-- an act that the state of the session's transaction does not forbid is of a transaction that it may have
pub allowed_tx : (tx : ℕ) (a : Act) → forbidden_by tx a ≡ None → FitsTx tx (tx_of_act tx a) a
allowed_tx tx act.Begin allowed = (refl, eqb-true tx 0 (allowed_then (tx == 0) _ allowed))
allowed_tx tx (act.Write w) allowed = inr refl
allowed_tx tx (act.Create c) allowed = refl
allowed_tx tx (act.Drop table) allowed = refl
allowed_tx tx act.Commit allowed = (eqb-false tx 0 (allowed_else (tx == 0) _ allowed), refl)
allowed_tx tx act.Abort allowed = (eqb-false tx 0 (allowed_else (tx == 0) _ allowed), refl)

-- an entry of an open session may be scheduled, where it is of the session's next request, its act is written and of a transaction that it may have
pub session_entry_fits : (c : Core) (s : ℕ) (e : Entry) → e.session ≡ s → e.seq ≡ (session_at c s).requests + 1 → IsWritten (request_of e.act) → length e.user ≤ USER_LIMIT → FitsTx (open_tx c s) e.tx e.act
    → (session_at c s).requests < REQUEST_LIMIT → CoreInvariant c → is_open c s ≡ true → IsFitEntry (log c.history) e
session_entry_fits c s e session seq written user tx count w here =
    let x = session_sound c s w here in
    let i = x.0 in
    let number : (session_at c s).number ≡ s = x.1 in
    let low : 0 < (session_at c s).number = i.number.0 in
    let high : (session_at c s).number ≤ c.greatest = i.number.1 in
    let limit = w.numbers in
    record {
      written = written;
      user = user;
      by =
          inl
          record {
            session = (omega arith, omega arith);
            limit = omega arith;
            newer =
                All-weaker (λ (d : Entry). d.session ≡ (session_at c s).number → d.seq ≤ (session_at c s).requests) (λ (d : Entry). d.session ≡ e.session → d.seq < e.seq)
                (λ d old by. let le = old (by ∙ (session ∙ sym number)) in omega arith) (log c.history) i.entries;
            tx = subst (λ (k : ℕ). FitsTx (open_tx c k) e.tx e.act) (sym session) tx;
          };
    }

-- and so its next entry
pub entry_fits : (c : Core) (s : ℕ) (a : Act) → IsWritten (request_of a) → FitsTx (open_tx c s) (tx_of_act (open_tx c s) a) a → (session_at c s).requests < REQUEST_LIMIT → CoreInvariant c → is_open c s ≡ true
    → IsFitEntry (log c.history) (next_entry c s a)
entry_fits c s a written tx count w here = session_entry_fits c s (next_entry c s a) refl refl written (session_sound c s w here).0.user tx count w here

-- and so the act of a request
next_fits : (c : Core) (s : ℕ) (r : Request) (a : Act) → act_of r ≡ Some a → IsWritten r → forbidden_by (open_tx c s) a ≡ None → CanCountRequests c 1 → CoreInvariant c → is_open c s ≡ true
    → IsFitEntry (log c.history) (next_entry c s a)
next_fits c s r a is written allowed count w here =
    let more : (session_at c s).requests + 1 ≤ REQUEST_LIMIT = count s in
    entry_fits c s a (subst IsWritten (sym (request_of-act r a is)) written) (allowed_tx (open_tx c s) a allowed) (omega arith) w here

-- a request more
pub keeps_counted : (n : ℕ) → KeepsSession n with_one_request
keeps_counted n = record { number = λ x. refl; user = λ x. refl; requests = λ x. (let le : x.requests ≤ x.requests + 1 = omega arith in le); least = λ x le. le }

-- an act is scheduled, or refused
sound_act : (c : Core) (s : ℕ) (r : Request) (a : Act) (g : MoveResult) (z : Core) → act_of r ≡ Some a → IsWritten r → CanCountRequests c 1 → CoreInvariant c → CanSchedule c s
    → moves.SchedulesAct c s r a g z → CoreInvariant z
sound_act c s r a (Ok (moved.Entry n)) z is written count w can h =
    let x = session_sound c s w can.here in
    let high : (session_at c s).number ≤ c.greatest = x.0.number.1 in
    let number : (session_at c s).number ≡ s = x.1 in
    subst CoreInvariant (sym h.4)
    (sound_sched c (next_entry c s a) (with_session c.sessions s with_one_request) w can.is_free (next_fits c s r a is written h.0 count w can.here) h.2
    (are_sched c.history c.greatest c.sessions s (next_entry c s a) (session_at c s) (sessions_are c w) (found_open c s can.here) can.is_free refl refl (omega arith)))
sound_act c s r a (Ok (moved.Refused refusal)) z is written count w can h =
    ⊎_elim (λ (q : moves.ScheduleIsForbidden c s a refusal z). counted q.after)
    (⊎_elim (λ (q : moves.ScheduleHasNoBackend c s r a refusal z). counted q.after)
    (⊎_elim (λ (q : moves.ScheduleHasNoRoom c s r a refusal z). counted q.after) (λ (q : moves.ScheduleMeetsLogFault c s r a refusal z). faulted q))) h
  where
    faulted : moves.ScheduleMeetsLogFault c s r a refusal z → CoreInvariant z
    faulted q =
        let n : ℕ = (session_at c s).requests + 1 in
        let x = session_sound c s w can.here in
        let high : (session_at c s).number ≤ c.greatest = x.0.number.1 in
        let number : (session_at c s).number ≡ s = x.1 in
        let space : 3 ≤ events_left c.history = q.space in
        let failed : CoreInvariant (happened c (LogFailed s n)) = sound_log_failed c s n w can.is_free (omega arith) (omega arith) in
        with_sound (happened c (LogFailed s n)) s with_one_request z failed (keeps_counted (length (log (happened c (LogFailed s n)).history))) q.after

    counted : z ≡ moves.with_request_counted c s → CoreInvariant z
    counted = with_sound c s with_one_request z w (keeps_counted (length (log c.history)))
sound_act c s r a (Err NoMemory) z is written count w can h = subst CoreInvariant (sym h) w
sound_act c s r a _ z is written count w can h = absurd h

-- a request is scheduled, or refused
sound_schedule : (c : Core) (s : ℕ) (r : Request) (o : Option Act) (g : MoveResult) (z : Core) → act_of r ≡ o → IsWritten r → CanCountRequests c 1 → CoreInvariant c → CanSchedule c s
    → moves.SchedulesAnyAct c s r o g z → CoreInvariant z
sound_schedule c s r None g z is written count w can h = absurd h
sound_schedule c s r (Some a) g z is written count w can h = sound_act c s r a g z is written count w can h

-- the administrator's end of an orphan may be scheduled
pub abort_fits : (c : Core) (tx : ℕ) → CoreInvariant c → is_orphan c tx ≡ true → IsFitEntry (log c.history) (abort_entry c tx)
abort_fits c tx w is =
    let o = orphan_of c tx (entry_numbered (log c.history) tx) is in
    let at = numbered_at (log c.history) tx o.begin o.is in
    let user : user_of (entry_numbered (log c.history) tx) ≡ o.begin.user = ap user_of o.is in
    let begins : IsFitEntry (take (tx - 1) (log c.history)) o.begin = fit_at (log c.history) (tx - 1) o.begin (legal_fit c.history w.legal) at.1 in
    let some : tx ≢ 0 = at.0 in
    record {
      written = rollback_written;
      user = subst (λ (u : List ℕ). length u ≤ USER_LIMIT) (sym user) begins.user;
      by =
          inr
          record {
            session = refl;
            seq = refl;
            aborts = refl;
            begin = o.begin;
            at = tx - 1;
            tx = omega arith;
            began = at.1;
            is_open = o.of_session;
            user = user;
          };
    }

-- the administrator's move is refused
sound_refused : (n : ℕ) (c : Core) (refusal : Refusal) (z : Core) → CoreInvariant c → is_free c.history ≡ true → 0 < n → moves.LacksRoomFor n c refusal z ⊎ moves.MeetsLogFault n c refusal z → CoreInvariant z
sound_refused n c refusal z w fr some h =
    ⊎_elim (λ (q : moves.LacksRoomFor n c refusal z). subst CoreInvariant (sym q.after) w)
    (λ (q : moves.MeetsLogFault n c refusal z). let space : n ≤ events_left c.history = q.space in subst CoreInvariant (sym q.after) (sound_log_failed c 0 0 w fr (omega arith) (omega arith))) h

-- the end of an orphan is scheduled, or refused
sound_abort : (c : Core) (tx : ℕ) (g : MoveResult) (z : Core) → CoreInvariant c → CanAbort c tx → moves.AbortsOrphan c tx g z → CoreInvariant z
sound_abort c tx (Ok (moved.Entry n)) z w can h =
    subst CoreInvariant (sym h.2)
    (sound_sched c (abort_entry c tx) c.sessions w can.is_free (abort_fits c tx w can.orphan) h.0 (are_sched_without c.history c.greatest c.sessions (abort_entry c tx) (sessions_are c w) can.is_free refl))
sound_abort c tx (Ok (moved.Refused refusal)) z w can h = sound_refused 3 c refusal z w can.is_free (omega arith) h
sound_abort c tx (Err NoMemory) z w can h = subst CoreInvariant (sym h) w
sound_abort c tx _ z w can h = absurd h

-- ---- backends take entries, and entries end

-- a backend takes the open entry
sound_apply : (tells : Bool) (c : Core) (b : ℕ) (g : MoveResult) (z : Core) → CoreInvariant c → CanApply c b → moves.Applies tells c b g z → CoreInvariant z
sound_apply tells c b (Ok (moved.Applied n d)) z w can h = subst CoreInvariant (sym h.1.2) (sound_applied tells c b w can.is_running can.on d h.1.0 h.1.1)
sound_apply tells c b _ z w can h = absurd h

-- a backend that is not enabled takes the log's next entry
sound_replay : (tells : Bool) (c : Core) (b : ℕ) (g : MoveResult) (z : Core) → CoreInvariant c → CanReplay c b → moves.Replays tells c b g z → CoreInvariant z
sound_replay tells c b (Ok (moved.Replayed n d)) z w can h = subst CoreInvariant (sym h.1.2) (sound_replayed tells c b w can.off d h.1.0 h.1.1)
sound_replay tells c b _ z w can h = absurd h

-- a reply at a position within the log
pub keeps_answered : (n p : ℕ) → p ≤ n → KeepsSession n (answered_at p)
keeps_answered n p le = record { number = λ x. refl; user = λ x. refl; requests = λ x. (let le : x.requests ≤ x.requests = omega arith in le); least = λ x old. le }

-- the open entry ends, and its session is answered
sound_end : (tells : Bool) (c : Core) (g : MoveResult) (z : Core) → CoreInvariant c → CanEnd c → moves.EndsEntry tells c g z → CoreInvariant z
sound_end tells c (Ok (moved.Replied s reply)) z w can h =
    let none = opened-ended c.history c.failed c.starved can.is_running w.one_open.0 w.one_open.1 in
    let le : last_number c ≤ length (log c.history) = omega arith in
    subst CoreInvariant (sym h.4)
    (sound_ended c (with_session c.sessions s (answered_at (last_number c))) w can.is_running (behind_none c.history c.positions can.none_behind)
    (are_with c.history (with_end c) c.greatest c.sessions s (answered_at (last_number c)) (sessions_are c w) (keeps_answered (length (log c.history)) (last_number c) le)
    (log-same c.history (Ended c.failed c.starved) refl) (λ t q lt. log_faults-same c.history (Ended c.failed c.starved) (λ i j. refl) t q) (λ e on. absurd (cc (none, on)))))
sound_end tells c _ z w can h = absurd h

-- ---- reads

-- a read counts once at most
pub read_counts : (x : OpenSession) → (x.requests ≤ read_number x) × (read_number x ≤ x.requests + 1)
read_counts x = one (is_reading x)
  where
    one : (b : Bool) → (x.requests ≤ cond b x.requests (x.requests + 1)) × (cond b x.requests (x.requests + 1) ≤ x.requests + 1)
    one true = (omega arith, omega arith)
    one false = (omega arith, omega arith)

-- a read that was answered
pub keeps_was_answered : (n : ℕ) → KeepsSession n was_answered
keeps_was_answered n = record { number = λ x. refl; user = λ x. refl; requests = λ x. (read_counts x).0; least = λ x le. le }

-- a read that goes on
pub keeps_still_reading : (n : ℕ) (select : Select) (tried : ℕ) → KeepsSession n (still_reading select tried)
keeps_still_reading n select tried = record { number = λ x. refl; user = λ x. refl; requests = λ x. (read_counts x).0; least = λ x le. le }

-- a read that was answered at a position within the log
pub keeps_reached : (n p : ℕ) → p ≤ n → KeepsSession n (λ x. answered_at p (was_answered x))
keeps_reached n p le = record { number = λ x. refl; user = λ x. refl; requests = λ x. (read_counts x).0; least = λ x old. le }

-- a backend failed in a read, which goes on or was answered
failed_sound : (c : Core) (s b : ℕ) (f : OpenSession → OpenSession) (z : Core) → CoreInvariant c → KeepsSession (length (log c.history)) f → 0 < events_left c.history → z ≡ read_failed c s b f → CoreInvariant z
failed_sound c s b f z w keeps space is =
    let e : Event = ReadFailed s (read_number (session_at c s)) b in
    subst CoreInvariant (sym is)
    (sound_read_failed c s (read_number (session_at c s)) b (with_session c.sessions s f) w space
    (are_with c.history (c.history ++ e ∷ []) c.greatest c.sessions s f (sessions_are c w) keeps (log-same c.history e refl) (λ t q lt. log_faults-same c.history e (λ i j. refl) t q) (λ d on. sym (opened-same c.history e refl refl) ∙ on)))

module _ (tells : Bool) (c : Core) (s b : ℕ) (select : Select) (w : CoreInvariant c) where
  -- the backend answered
  reached : (answer : Asked) (z : Core) → moves.ReadIsAnswered tells c s b select answer z → CoreInvariant z
  reached answer z h = with_sound c s (λ x. answered_at h.p (was_answered x)) z w (keeps_reached (length (log c.history)) h.p (stands_there c b h.p w h.stands).0) h.after

  -- the backend is not far enough
  early : (p : Option ℕ) (z : Core) → moves.ReadCameTooEarly c s b select p z → CoreInvariant z
  early p z h = with_sound c s (still_reading select (tried_of (session_at c s).reading)) z w (keeps_still_reading (length (log c.history)) select (tried_of (session_at c s).reading)) h.after

  -- all that a read may give
  sound_read : (g : MoveResult) (z : Core) → moves.AttemptsRead tells c s b select g z → CoreInvariant z
  sound_read (Ok (moved.Rows a)) z h = reached _ z h
  sound_read (Ok (moved.Refused r)) z h =
      ⊎_elim (λ (q : moves.ReadIsAnswered tells c s b select _ z). reached _ z q)
      (λ (q : moves.ReadHasNoBackend c s b select r z ⊎ (moves.ReadHasNoRoom c s b select r z ⊎ moves.ReadFailedEverywhere c s b select r z)).
      ⊎_elim (λ (n : moves.ReadHasNoBackend c s b select r z). with_sound c s was_answered z w (keeps_was_answered (length (log c.history))) n.after)
      (λ (n : moves.ReadHasNoRoom c s b select r z ⊎ moves.ReadFailedEverywhere c s b select r z).
      ⊎_elim (λ (f : moves.ReadHasNoRoom c s b select r z). with_sound c s was_answered z w (keeps_was_answered (length (log c.history))) f.after)
      (λ (f : moves.ReadFailedEverywhere c s b select r z). failed_sound c s b was_answered z w (keeps_was_answered (length (log c.history))) f.space f.after) n) q) h
  sound_read (Ok (moved.Behind p)) z h = early (Some p) z h
  sound_read (Ok moved.Out) z h = early None z h
  sound_read (Ok moved.Failed) z h = failed_sound c s b (still_reading select (tried_with c s b)) z w (keeps_still_reading (length (log c.history)) select (tried_with c s b)) h.space h.after
  sound_read (Err (NotNow q)) z h = subst CoreInvariant (sym h.3) w
  sound_read (Err NoMemory) z h = subst CoreInvariant (sym h) w
  sound_read _ z h = absurd h

-- ---- backends

-- a backend is armed
sound_arm : (c : Core) (g : MoveResult) (z : Core) → CoreInvariant c → moves.Arms c g z → CoreInvariant z
sound_arm c (Ok moved.Armed) z w h = subst CoreInvariant (sym h) w
sound_arm c _ z w h = absurd h

-- a backend is disabled, or the history is full
sound_disable : (c : Core) (b : ℕ) (g : MoveResult) (z : Core) → CoreInvariant c → CanDisable c b → moves.Disables c b g z → CoreInvariant z
sound_disable c b (Ok moved.Disabled) z w can h = subst CoreInvariant (sym h.1) (sound_disabled c b w can.is_free can.on h.0)
sound_disable c b (Ok (moved.Refused r)) z w can h = subst CoreInvariant (sym h.2) w
sound_disable c b _ z w can h = absurd h

-- a backend is enabled, or the history is full
sound_enable : (c : Core) (b : ℕ) (g : MoveResult) (z : Core) → CoreInvariant c → CanEnable c b → moves.Enables c b g z → CoreInvariant z
sound_enable c b (Ok moved.Enabled) z w can h = subst CoreInvariant (sym h.1) (sound_enabled c b w can.is_free can.off (is_there c.positions b _ can.at) can.at h.0)
sound_enable c b (Ok (moved.Refused r)) z w can h = subst CoreInvariant (sym h.2) w
sound_enable c b _ z w can h = absurd h

-- a checkpoint is marked, or refused
sound_mark : (c : Core) (name : List ℕ) (g : MoveResult) (z : Core) → CoreInvariant c → CanMark c name → moves.Marks c name g z → CoreInvariant z
sound_mark c name (Ok (moved.Marked n)) z w can h = subst CoreInvariant (sym h.2) (sound_marked c name None w can.is_free can.fresh h.0)
sound_mark c name (Ok (moved.Refused r)) z w can h = sound_refused 1 c r z w can.is_free (omega arith) h
sound_mark c name (Err NoMemory) z w can h = subst CoreInvariant (sym h) w
sound_mark c name _ z w can h = absurd h

-- ---- dumps

-- what holds of each dump holds of the one of a name
found_dump : (P : TakenDump → Type 0) (dumps : List TakenDump) (name : List ℕ) (d : TakenDump) → All P dumps → find_dump dumps name ≡ Some d → P d
found_dump P dumps name d all is = subst (λ (o : Option TakenDump). IfSome o P) is (found_All P (λ (x : TakenDump). bytes_eq x.name name) dumps all)

-- a dump is taken, or the backend failed
sound_dump : (c : Core) (b : ℕ) (name : List ℕ) (g : MoveResult) (z : Core) → CoreInvariant c → moves.Dumps c b name g z → CoreInvariant z
sound_dump c b name (Ok (moved.Dumped n)) z w h = subst CoreInvariant (sym h.1) (sound_dumped c b name n w h.0)
sound_dump c b name (Ok moved.Failed) z w h = subst CoreInvariant (sym h) w
sound_dump c b name (Err NoMemory) z w h = subst CoreInvariant (sym h) w
sound_dump c b name _ z w h = absurd h

-- a dump is loaded, or the backend stays out
sound_load : (tells : Bool) (c : Core) (b : ℕ) (name : List ℕ) (g : MoveResult) (z : Core) → b < c.placement.backends → CoreInvariant c → CanLoad c b name → moves.Loads tells c b name g z → CoreInvariant z
sound_load tells c b name (Ok (moved.Loaded n)) z lt w can h =
    let within : n ≤ length (log c.history) = subst (λ (m : ℕ). m ≤ length (log c.history)) (sym h.number) (found_dump (IsSoundDump c.placement.backends c.history) c.dumps name h.taken w.dumps h.found).position in
    subst CoreInvariant (sym h.after) (sound_loaded c b n h.begun w (subst (λ (m : ℕ). b < m) (sym w.cells) lt) can.is_free can.off within)
sound_load tells c b name (Ok moved.Failed) z lt w can h = subst CoreInvariant (sym h) w
sound_load tells c b name (Ok moved.Starved) z lt w can h = subst CoreInvariant (sym h) w
sound_load tells c b name _ z lt w can h = absurd h

-- ---- all moves

-- each move that can be made now
does_sound : (tells : Bool) (c : Core) (m : Move) (g : MoveResult) (z : Core) → IsMoveOfCluster c.placement.backends m → CanCountRequests c 1 → CoreInvariant c → not_now c m ≡ None → DoesMove tells c m g z → CoreInvariant z
does_sound tells c (Open user) g z is count w now h = sound_open c user g z is w h
does_sound tells c (Close s) g z is count w now h = sound_close c s g z w (can_close c s now) h
does_sound tells c (Schedule s r) g z is count w now h = sound_schedule c s r (act_of r) g z refl is.0 count w (can_schedule c s r now) h
does_sound tells c (Abort tx) g z is count w now h = sound_abort c tx g z w (can_abort c tx now) h
does_sound tells c (Apply b) g z is count w now h = sound_apply tells c b g z w (can_apply c b now) h
does_sound tells c End g z is count w now h = sound_end tells c g z w (can_end c now) h
does_sound tells c (Read s b select) g z is count w now h =
    ⊎_elim (λ (q : moves.HasOtherRead (session_at c s) select × (g ≡ Err (NotNow (record { reason = reason.Waiting; value = s }))) × (z ≡ c)). subst CoreInvariant (sym q.2) w)
    (λ (q : moves.HasNoOtherRead (session_at c s) select × moves.AttemptsRead tells c s b select g z). sound_read tells c s b select w g z q.1) h
does_sound tells c (Arm b) g z is count w now h = sound_arm c g z w h
does_sound tells c (Disable b) g z is count w now h = sound_disable c b g z w (can_disable c b now) h
does_sound tells c (Replay b) g z is count w now h = sound_replay tells c b g z w (can_replay c b now) h
does_sound tells c (Enable b) g z is count w now h = sound_enable c b g z w (can_enable c b now) h
does_sound tells c (Mark name) g z is count w now h = sound_mark c name g z w (can_mark c name now) h
does_sound tells c (Dump b name) g z is count w now h = sound_dump c b name g z w h
does_sound tells c (Load b name) g z is count w now h = sound_load tells c b name g z is.0 w (can_load c b name now) h

-- a move is made, or it can't be made now and changes nothing
pub by_reason : (o : Option Why) (P Q : Type 0) (g : MoveResult) (c z : Core) → MatchOption o P (λ w. (g ≡ Err (NotNow w)) × (z ≡ c)) → (o ≡ None → P → Q) → ((w : Why) → g ≡ Err (NotNow w) → z ≡ c → Q) → Q
by_reason None P Q g c z h made not_made = made refl h
by_reason (Some w) P Q g c z h made not_made = not_made w h.0 h.1

-- every move leads from a sound state to one
pub moves_sound : (tells : Bool) (c : Core) (m : Move) (g : MoveResult) (z : Core) → IsMoveOfCluster c.placement.backends m → CanCountRequests c 1 → CoreInvariant c → MovesTo tells c m g z → CoreInvariant z
moves_sound tells c m g z is count w h =
    by_reason (not_now c m) (DoesMove tells c m g z) (CoreInvariant z) g c z h (λ now does. does_sound tells c m g z is count w now does) (λ why not_made same. subst CoreInvariant (sym same) w)
