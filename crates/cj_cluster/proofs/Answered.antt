-- What each move leaves a session: a turn where it answers it, and else what stood between two replies.
use Rattle.std.proofs.Common.{◌≡◌, ◌≢◌, ◌⊎◌, inl, inr, ℕ, ◌+◌, ◌<◌, ◌≤◌, ◌==◌, ◌&&◌, Bool, true, false, cond, List, [], ◌∷◌, ◌++◌, length, Option, None, Some, Ok, Err, is_none, refl, ap, sym, ◌∙◌, subst, arith, ⊎_elim}
use mathlib.Core.List.{IsPrefix}
use Rattle.std.specs.Option.{MatchOption}
use Rattle.std.proofs.lemmas.Bool.{cases_eq, eqb-true, eqb-false, eq-eqb, ne_eqb, both_ways, cond_both, and_parts}
use Rattle.cj_cluster.proofs.Common.{Abort, Act, Apply, Arm, Asked, BackendStands, Close, Core, CoreInvariant, Disable, Dump, Enable, End, Entry, Event, IsFitEntry, IsLegal, Load, Mark, Move, NoMemory, NotNow, Open, OpenSession, Placement, Read, Refusal, Replay, Reply, Request, Schedule, Select, Why, act_of, asked_reply, ended_count, open_entry_of, events_left, is_end_event, is_entry_of, is_free, is_log_fault, log, log_faults_of, new_session, scheduled_entry, session_at, tx_of, with_session}
use Rattle.cj_model.specs.declared.request.Act.TheVariants as act
use Rattle.cj_model.specs.declared.answer.Asked.TheVariants as asked
use Rattle.cj_model.specs.declared.answer.Reply.TheVariants.{Rows, Refused}
use Rattle.cj_cluster.specs.declared.event.Event.TheVariants as event
use Rattle.cj_cluster.specs.declared.moves.Moved.TheVariants as moved
use Rattle.cj_cluster.specs.History.Answering.{HasServer, AnswersEntry}
use Rattle.cj_cluster.specs.History.Turns.{SessionView, Call, HasNoRoomFor, Turn}
use Rattle.cj_cluster.specs.Moves.Moves.{MoveResult, MovesTo, is_open, DoesMove, OpensSession, ClosesSession, SchedulesRequest, SchedulesAnyAct, SchedulesAct, ScheduleIsForbidden, ScheduleHasNoBackend, ScheduleHasNoRoom, ScheduleMeetsLogFault, RefusesSchedule, LacksRoomFor, MeetsLogFault, AbortsOrphan, Marks, Dumps, Loads, Applies, Replays, EndsEntry, AttemptsRead, AttemptsReadOrWaits, ReadIsAnswered, ReadHasNoBackend, ReadHasNoRoom, ReadFailedEverywhere, ReadFailedHere, ReadCameTooEarly, Arms, Disables, Enables, not_now, forbidden_by, tx_of_act, open_tx, next_entry, last_number, with_one_request, with_request_counted, abort_entry, answered_at, was_answered, still_reading, read_number, tried_of, tried_with, with_end}
use Rattle.cj_cluster.specs.Moves.Runs.{reply_given, is_allowed_by_transaction, call_of_entry, call_of_act, call_at, seen_at, AwaitsEnd, StandsSince, IsBetweenReplies}
use Rattle.cj_cluster.proofs.Pushed.{no_fault_of_other, prefix_self, prefix_length, opened-same, opened-free, opened-last, opened-ended}
use Rattle.cj_cluster.proofs.Sessions.{without, session_of-other, session_of-without_other}
use Rattle.cj_cluster.proofs.Now.{CanSchedule, can_schedule, CanAbort, can_abort, CanEnd, can_end, CanRead, can_read, CanDisable, can_disable, CanEnable, can_enable, CanMark, can_mark}
use Rattle.cj_cluster.proofs.Soundness.{request_of-act}
use Rattle.cj_cluster.proofs.OwnTransactions.{session_fit, tx_of_other}
use Rattle.cj_cluster.proofs.TurnCases.{fit_last, Rests, turn_end, turn_unserved, turn_full, turn_read, turn_fault, turn_log_fault}
use Rattle.cj_cluster.proofs.Between.{Follows, follows_own, follows_rest, follows_opened, between_while_open, between_follows, between_fresh, between_opened, between_closed, seen_event, seen_ended, seen_other, seen_sched, seen_changed, tried_none, tried_still, tried_again, prior, with_cases}
use Rattle.cj_cluster.proofs.Standing.{open_above, orphan_leaves}

-- what a move leaves session s that has seen a, where it gave it this reply
abbrev pub After : Bool → SessionView → Core → ℕ → Move → Core → Option Reply → Type 0
After tells a c s m z None = IsBetweenReplies a z s
After tells a c s m z (Some reply) = Turn tells c.placement s a (call_at c s m reply) (seen_at z s) × IsBetweenReplies (seen_at z s) z s

-- an act has no transaction, or the one that its session is in
tx_of_act_own : (tx : ℕ) (a : Act) → (tx_of_act tx a ≡ 0) ⊎ (tx_of_act tx a ≡ tx)
tx_of_act_own tx act.Begin = inl refl
tx_of_act_own tx (act.Write w) = inr refl
tx_of_act_own tx (act.Create c) = inl refl
tx_of_act_own tx (act.Drop table) = inl refl
tx_of_act_own tx act.Commit = inr refl
tx_of_act_own tx act.Abort = inr refl

-- ---- replies

-- a reply to the session itself
to_own : (s : ℕ) (r : Reply) (P : Option Reply → Type 0) → P (Some r) → P (cond (s == s) (Some r) None)
to_own s r P h = cond_both (s == s) (Some r) None P (λ t. h) (λ f. absurd (both_ways (s == s) f (eq-eqb s s refl)))

-- a reply to another session
to_other : (t s : ℕ) (r : Reply) (P : Option Reply → Type 0) → (t ≡ s → ⊥) → P None → P (cond (t == s) (Some r) None)
to_other t s r P ne h = cond_both (t == s) (Some r) None P (λ e. absurd (ne (eqb-true t s e))) (λ f. h)

-- the turn up to where the session stands now, from which it goes on
replied : (tells : Bool) (p : Placement) (a : SessionView) (c z : Core) (h : List Event) (s : ℕ) (x : OpenSession) (call : Call) (n : ℕ) → CoreInvariant z → Follows c z h s x → is_entry_of s (open_entry_of h) ≡ false → x.reading ≡ None
    → x.least ≡ n → Turn tells p s a call (record { front = h; least = n }) → Turn tells p s a call (seen_at z s) × IsBetweenReplies (seen_at z s) z s
replied tells p a c z h s x call n v f idle none least turn =
    let now : (session_at z s).least ≡ n = ap (λ (y : OpenSession). y.least) f.session ∙ least in (
      subst (λ (g : List Event). Turn tells p s a call (record { front = g; least = (session_at z s).least })) (sym f.history)
          (subst (λ (m : ℕ). Turn tells p s a call (record { front = h; least = m })) (sym now) turn),
      between_fresh z s v (ap (λ g. is_entry_of s (open_entry_of g)) f.history ∙ idle) (ap (λ (y : OpenSession). y.reading) f.session ∙ none),
    )

-- ---- moves

module _ (tells : Bool) (a : SessionView) (c z : Core) (s : ℕ) (some : 0 < s) (w : CoreInvariant c) (v : CoreInvariant z) (j : IsBetweenReplies a c s) where
  -- nothing changes
  same : z ≡ c → IsBetweenReplies a z s
  same e = subst (λ (x : Core). IsBetweenReplies a x s) (sym e) j

  -- the history and the session stay
  stays : Follows c z c.history s (session_at c s) → IsBetweenReplies a z s
  stays f = between_follows a c z c.history s (session_at c s) j f (λ q. q)

  -- a session opens
  opens : (user : List ℕ) (g : MoveResult) → OpensSession c user g z → After tells a c s (Open user) z (reply_given c s (Open user) g)
  opens user (Ok (moved.Session n)) h =
      ⊎_elim
      (λ (e : s ≡ n). between_opened a c z s user w j (e ∙ h.1) (subst (λ (k : ℕ). z ≡ record c { sessions = c.sessions ++ new_session k user ∷ []; greatest = k }) (sym (e ∙ h.1)) h.2))
      (λ (e : s ≡ n → ⊥). stays (follows_opened c z s n user e h.1 (subst (λ (k : ℕ). z ≡ record c { sessions = c.sessions ++ new_session k user ∷ []; greatest = k }) (sym h.1) h.2)))
      (cases_eq s n)
  opens user (Ok (moved.Refused r)) h = same h.2
  opens user _ h = absurd h

  -- a session closes
  closes : (k : ℕ) (g : MoveResult) → ClosesSession c k g z → After tells a c s (Close k) z (reply_given c s (Close k) g)
  closes k (Ok moved.Closed) h =
      ⊎_elim
      (λ (e : s ≡ k). between_closed a c z s j (subst (λ (n : ℕ). z ≡ record c { sessions = without n c.sessions }) (sym e) h))
      (λ (e : s ≡ k → ⊥). stays (follows_rest c z s h refl (prefix_self c.history) refl (session_of-without_other c.sessions k s e)))
      (cases_eq s k)
  closes k _ h = absurd h

  -- a backend takes the open entry
  applies : (b : ℕ) (g : MoveResult) → Applies tells c b g z → After tells a c s (Apply b) z (reply_given c s (Apply b) g)
  applies b (Ok (moved.Applied n d)) h = stays (follows_rest c z s h.1.2 refl (prefix_self c.history) refl refl)
  applies b _ h = absurd h

  -- a backend that is not enabled takes an entry
  replays : (b : ℕ) (g : MoveResult) → Replays tells c b g z → After tells a c s (Replay b) z (reply_given c s (Replay b) g)
  replays b (Ok (moved.Replayed n d)) h = stays (follows_rest c z s h.1.2 refl (prefix_self c.history) refl refl)
  replays b _ h = absurd h

  -- a backend's next call is to fail
  arms : (b : ℕ) (g : MoveResult) → Arms c g z → After tells a c s (Arm b) z (reply_given c s (Arm b) g)
  arms b (Ok moved.Armed) h = same h
  arms b _ h = absurd h

  -- an event while no entry is open, which is no fault of the log's store in the session's requests
  while_free : (ev : Event) → scheduled_entry ev ≡ None → is_end_event ev ≡ false → ((q : ℕ) → is_log_fault s q ev ≡ false) → is_free c.history ≡ true → z ≡ record c { history = c.history ++ ev ∷ [] } → IsBetweenReplies a z s
  while_free ev none stays no_fault fr is =
      between_follows a c z (c.history ++ ev ∷ []) s (session_at c s) j (follows_rest c z s is refl (ev ∷ [], refl) refl refl)
      (λ q. seen_event c.placement a c.history s (session_at c s) q ev none stays no_fault (λ t. absurd (both_ways (is_entry_of s (open_entry_of c.history)) (ap (is_entry_of s) (opened-free c.history fr)) t)))

  -- a backend is disabled
  disables : (b : ℕ) (g : MoveResult) → CanDisable c b → Disables c b g z → After tells a c s (Disable b) z (reply_given c s (Disable b) g)
  disables b (Ok moved.Disabled) can h = while_free (event.Disabled b) refl refl (λ q. refl) can.is_free h.1
  disables b (Ok (moved.Refused r)) can h = same h.2
  disables b _ can h = absurd h

  -- a backend is enabled
  enables : (b : ℕ) (g : MoveResult) → CanEnable c b → Enables c b g z → After tells a c s (Enable b) z (reply_given c s (Enable b) g)
  enables b (Ok moved.Enabled) can h = while_free (event.Enabled b) refl refl (λ q. refl) can.is_free h.1
  enables b (Ok (moved.Refused r)) can h = same h.2
  enables b _ can h = absurd h

  -- the session of the open entry is open, where it is this one
  waiting_open : (e : Entry) → open_entry_of c.history ≡ Some e → s ≡ e.session → is_open c s ≡ true
  waiting_open e is own =
      ⊎_elim (λ (none : e.session ≡ 0). absurd (omega (arith, own, none, some))) (λ (here : is_open c e.session ≡ true). subst (λ (k : ℕ). is_open c k ≡ true) (sym own) here) (w.waits e is)

  -- the end of the session's own entry
  ends_own : (e : Entry) (reply : Reply) → CanEnd c → open_entry_of c.history ≡ Some e → s ≡ e.session
      → Follows c z (with_end c) s (answered_at (last_number c) (session_at c s)) → AnswersEntry tells c.placement c.history (with_end c) (ended_count c.history) e reply
      → After tells a c s End z (Some reply)
  ends_own e reply can is own f answer =
      let here : is_open c s ≡ true = waiting_open e is own in
      let waiting : is_entry_of s (open_entry_of c.history) ≡ true = ap (is_entry_of s) is ∙ eq-eqb e.session s (sym own) in
      let seen_so : StandsSince c.placement a c.history s (session_at c s) = j.here here in
      let q = seen_so.waits waiting in
      let last = opened-last c.history e w.one_open.1 is in
      let legal : IsLegal (with_end c) = subst IsLegal f.history v.legal in
      let turn : Turn tells c.placement e.session a (call_of_entry (Some e) reply) (record { front = with_end c; least = length (log c.history) }) =
      turn_end tells c.placement a c.history c.failed c.starved e reply legal j.longer j.owes (subst (AwaitsEnd c.placement a.front c.history) own q.0) is (omega (arith, own, some)) last.1
      (subst (λ (k : ℕ). (i : ℕ) → log_faults_of k i c.history ≡ log_faults_of k i a.front) own seen_so.log_faults) answer
      in
      let mine : Turn tells c.placement s a (call_of_entry (open_entry_of c.history) reply) (record { front = with_end c; least = length (log c.history) }) =
      subst (λ (k : ℕ). Turn tells c.placement k a (call_of_entry (open_entry_of c.history) reply) (record { front = with_end c; least = length (log c.history) })) (sym own)
      (subst (λ (o : Option Entry). Turn tells c.placement e.session a (call_of_entry o reply) (record { front = with_end c; least = length (log c.history) })) (sym is) turn)
      in
      let none : open_entry_of (with_end c) ≡ None = opened-ended c.history c.failed c.starved can.is_running w.one_open.0 w.one_open.1 in
      replied tells c.placement a c z (with_end c) s (answered_at (last_number c) (session_at c s)) (call_of_entry (open_entry_of c.history) reply) (length (log c.history)) v f (ap (is_entry_of s) none) q.1 refl mine

  -- an entry ends, which answers its session and no other
  ends : (g : MoveResult) → CanEnd c → EndsEntry tells c g z → After tells a c s End z (reply_given c s End g)
  ends (Ok (moved.Replied t reply)) can h =
      let e : Entry = h.0 in
      let longer : IsPrefix c.history (with_end c) = (event.Ended c.failed c.starved ∷ [], refl) in
      cond_both (t == s) (Some reply) None (After tells a c s End z)
      (λ is.
      let own : s ≡ e.session = sym (eqb-true t s is) ∙ h.2 in
      let here : is_open c s ≡ true = waiting_open e h.1 own in
      ends_own e reply can h.1 own
      (follows_own c z s h.4 refl longer refl (answered_at (last_number c)) (λ x. refl) (ap (λ (k : ℕ). with_session c.sessions k (answered_at (last_number c))) (eqb-true t s is)) here)
      h.3)
      (λ is.
      let other : s ≢ t = λ q. eqb-false t s is (sym q) in
      let not_own : is_entry_of s (open_entry_of c.history) ≡ false = ap (is_entry_of s) h.1 ∙ ne_eqb e.session s (λ q. other (sym (h.2 ∙ q))) in
      let none : open_entry_of (with_end c) ≡ None = opened-ended c.history c.failed c.starved can.is_running w.one_open.0 w.one_open.1 in
      between_follows a c z (with_end c) s (session_at c s) j (follows_rest c z s h.4 refl longer refl (session_of-other (answered_at (last_number c)) (λ x. refl) c.sessions t s other))
      (λ q. seen_ended c.placement a c.history s (session_at c s) q c.failed c.starved not_own none))
  ends _ can h = absurd h

  -- ---- what is scheduled, or refused

  -- no entry was scheduled since the session's last reply, and the log's store did not fail
  rested : is_open c s ≡ true → is_entry_of s (open_entry_of c.history) ≡ false → Rests s a c.history
  rested here idle = let q = (j.here here).rests idle in record { entries = q.0; tx = q.1; log_faults = (j.here here).log_faults }

  -- what the session owes is what it has seen
  owes_same : is_open c s ≡ true → (session_at c s).least ≡ a.least
  owes_same here = (j.here here).least

  module _ (r : Request) (act : Act) (is : act_of r ≡ Some act) where
    -- it was refused before the log was written
    abbrev RefusesAtOnce : ℕ → Refusal → Type 0
    RefusesAtOnce k refusal = ScheduleIsForbidden c k act refusal z ⊎ ScheduleHasNoBackend c k r act refusal z ⊎ ScheduleHasNoRoom c k r act refusal z

    -- and so it was, or the log's store failed
    refuses : (k : ℕ) (refusal : Refusal) → RefusesSchedule c k r act refusal z → RefusesAtOnce k refusal ⊎ ScheduleMeetsLogFault c k r act refusal z
    refuses k refusal (inl x) = inl (inl x)
    refuses k refusal (inr (inl x)) = inl (inr (inl x))
    refuses k refusal (inr (inr (inl x))) = inl (inr (inr x))
    refuses k refusal (inr (inr (inr x))) = inr x

    -- then its session has counted it
    refused_after : (k : ℕ) (refusal : Refusal) → RefusesAtOnce k refusal → z ≡ with_request_counted c k
    refused_after k refusal h =
        ⊎_elim (λ (x : ScheduleIsForbidden c k act refusal z). x.after)
        (⊎_elim (λ (x : ScheduleHasNoBackend c k r act refusal z). x.after) (λ (x : ScheduleHasNoRoom c k r act refusal z). x.after))
        h

    -- the session's own request, which its transaction's state allows
    own_refused : (refusal : Refusal) → CanSchedule c s → is_allowed_by_transaction c s (act_of r) ≡ true → RefusesAtOnce s refusal → Follows c z c.history s (with_one_request (session_at c s))
        → After tells a c s (Schedule s r) z (Some (Refused refusal))
    own_refused refusal can allowed at_once f =
        let call : Option Act → Call = λ o. call_of_act c s r o (Refused refusal) in
        let rests = rested can.here can.idle in
        let t : ℕ = tx_of_act (open_tx c s) act in
        let tx : (t ≡ 0) ⊎ (t ≡ tx_of (log a.front) s) = subst (λ (n : ℕ). (t ≡ 0) ⊎ (t ≡ n)) rests.tx (tx_of_act_own (open_tx c s) act) in
        let free_of : is_none (forbidden_by (open_tx c s) act) ≡ true = sym (ap (is_allowed_by_transaction c s) is) ∙ allowed in
        let turn : Turn tells c.placement s a (call (Some act)) (record { front = c.history; least = a.least }) =
        ⊎_elim (λ (x : ScheduleIsForbidden c s act refusal z). absurd (both_ways (is_none (forbidden_by (open_tx c s) act)) (ap is_none x.forbidden) free_of))
        (⊎_elim
        (λ (x : ScheduleHasNoBackend c s r act refusal z).
        turn_unserved tells c.placement s a c.history w.legal j.longer j.owes rests (call (Some act)) tx (ap (λ o. Refused o) x.refused) x.none)
        (λ (x : ScheduleHasNoRoom c s r act refusal z).
        turn_full tells c.placement s a c.history w.legal j.longer j.owes rests (call (Some act)) tx (ap (λ o. Refused o) x.refused) x.served (subst (HasNoRoomFor c.history) (sym is) (can.is_free, x.full))))
        at_once
        in
        replied tells c.placement a c z c.history s (with_one_request (session_at c s)) (call (act_of r)) a.least v f can.idle can.no_read (owes_same can.here)
        (subst (λ (o : Option Act). Turn tells c.placement s a (call o) (record { front = c.history; least = a.least })) (sym is) turn)

    -- it is refused at once
    own_refused_at_once : (refusal : Refusal) → CanSchedule c s → RefusesAtOnce s refusal → After tells a c s (Schedule s r) z (reply_given c s (Schedule s r) (Ok (moved.Refused refusal)))
    own_refused_at_once refusal can h =
        let f = follows_own c z s (refused_after s refusal h) refl (prefix_self c.history) refl with_one_request (λ x. refl) refl can.here in
        cond_both ((s == s) && is_allowed_by_transaction c s (act_of r)) (Some (Refused refusal)) None (After tells a c s (Schedule s r) z)
        (λ t. own_refused refusal can (and_parts _ _ t).1 h f)
        (λ t.
        between_follows a c z c.history s (with_one_request (session_at c s)) j f
        (λ q. seen_changed c.placement a c.history s (session_at c s) q (with_one_request (session_at c s)) can.idle refl (tried_none a.front c.history s (with_one_request (session_at c s)) can.no_read)))

    -- the log's store fails in it, which answers it
    own_faulted : (refusal : Refusal) → CanSchedule c s → ScheduleMeetsLogFault c s r act refusal z → After tells a c s (Schedule s r) z (reply_given c s (Schedule s r) (Ok (moved.Refused refusal)))
    own_faulted refusal can h =
        let n : ℕ = (session_at c s).requests + 1 in
        let ev : Event = event.LogFailed s n in
        let call : Option Act → Call = λ o. call_of_act c s r o (Refused refusal) in
        let f = follows_own c z s h.after refl (ev ∷ [], refl) refl with_one_request (λ x. refl) refl can.here in
        let rests = rested can.here can.idle in
        let t : ℕ = tx_of_act (open_tx c s) act in
        let tx : (t ≡ 0) ⊎ (t ≡ tx_of (log a.front) s) = subst (λ (k : ℕ). (t ≡ 0) ⊎ (t ≡ k)) rests.tx (tx_of_act_own (open_tx c s) act) in
        let allowed : is_allowed_by_transaction c s (act_of r) ≡ true = ap (is_allowed_by_transaction c s) is ∙ ap is_none h.allowed in
        let legal : IsLegal (c.history ++ ev ∷ []) = subst IsLegal f.history v.legal in
        let turn : Turn tells c.placement s a (call (Some act)) (record { front = c.history ++ ev ∷ []; least = a.least }) =
        turn_log_fault tells c.placement s a c.history (call (Some act)) act legal j.longer j.owes rests tx is (ap (λ o. Refused o) h.refused) can.is_free h.served h.space
        in
        let idle : is_entry_of s (open_entry_of (c.history ++ ev ∷ [])) ≡ false = ap (is_entry_of s) (opened-same c.history ev refl refl) ∙ can.idle in
        let both : ((s == s) && is_allowed_by_transaction c s (act_of r)) ≡ true = rw (eq-eqb s s refl) allowed in
        cond_both ((s == s) && is_allowed_by_transaction c s (act_of r)) (Some (Refused refusal)) None (After tells a c s (Schedule s r) z)
        (λ _.
        replied tells c.placement a c z (c.history ++ ev ∷ []) s (with_one_request (session_at c s)) (call (act_of r)) a.least v f idle can.no_read (owes_same can.here)
        (subst (λ (o : Option Act). Turn tells c.placement s a (call o) (record { front = c.history ++ ev ∷ []; least = a.least })) (sym is) turn))
        (λ t. absurd (both_ways ((s == s) && is_allowed_by_transaction c s (act_of r)) t both))

    -- it is scheduled, refused, or neither for want of memory
    own_act : (g : MoveResult) → CanSchedule c s → SchedulesAct c s r act g z → After tells a c s (Schedule s r) z (reply_given c s (Schedule s r) g)
    own_act (Ok (moved.Entry n)) can h =
        let e : Entry = next_entry c s act in
        between_follows a c z (c.history ++ event.Sched e ∷ []) s (with_one_request (session_at c s)) j (follows_own c z s h.4 refl (event.Sched e ∷ [], refl) refl with_one_request (λ x. refl) refl can.here)
        (λ q.
        seen_sched c.placement a c.history s (session_at c s) q e (with_one_request (session_at c s)) can.is_free refl (subst (HasServer c.placement c.history) (sym (request_of-act r act is)) h.1) h.2 j.longer refl can.no_read)
    own_act (Ok (moved.Refused refusal)) can h = ⊎_elim (own_refused_at_once refusal can) (own_faulted refusal can) (refuses s refusal h)
    own_act (Err NoMemory) can h = same h
    own_act _ can h = absurd h

    -- another session's request is refused
    other_request_refused : (k : ℕ) (refusal : Refusal) → s ≢ k → CanSchedule c k → RefusesSchedule c k r act refusal z → IsBetweenReplies a z s
    other_request_refused k refusal other can h =
        let rest = session_of-other with_one_request (λ x. refl) c.sessions k s other in
        ⊎_elim (λ (x : RefusesAtOnce k refusal). stays (follows_rest c z s (refused_after k refusal x) refl (prefix_self c.history) refl rest))
        (λ (x : ScheduleMeetsLogFault c k r act refusal z).
        let n : ℕ = (session_at c k).requests + 1 in
        let ev : Event = event.LogFailed k n in
        between_follows a c z (c.history ++ ev ∷ []) s (session_at c s) j (follows_rest c z s x.after refl (ev ∷ [], refl) refl rest)
        (λ q. seen_event c.placement a c.history s (session_at c s) q ev refl refl (λ i. no_fault_of_other k n s i (λ o. other (sym o))) (λ t b. refl)))
        (refuses k refusal h)

    -- another session's request
    other_act : (k : ℕ) (g : MoveResult) → s ≢ k → CanSchedule c k → SchedulesAct c k r act g z → After tells a c s (Schedule k r) z (reply_given c s (Schedule k r) g)
    other_act k (Ok (moved.Entry n)) other can h =
        let e : Entry = next_entry c k act in
        let ne : k ≢ s = λ i. other (sym i) in
        let fit : IsFitEntry (log c.history) e = fit_last c.history e (subst (λ (x : Core). IsLegal x.history) h.4 v.legal) in
        let leaves = tx_of_other (log c.history) e s (session_fit (log c.history) e fit (open_above c k w can.here)).tx ne in
        between_follows a c z (c.history ++ event.Sched e ∷ []) s (session_at c s) j (follows_rest c z s h.4 refl (event.Sched e ∷ [], refl) refl (session_of-other with_one_request (λ x. refl) c.sessions k s other))
        (λ q. seen_other c.placement a c.history s (session_at c s) q e can.is_free ne leaves)
    other_act k (Ok (moved.Refused refusal)) other can h =
        cond_both ((k == s) && is_allowed_by_transaction c s (act_of r)) (Some (Refused refusal)) None (After tells a c s (Schedule k r) z)
        (λ t. absurd (other (sym (eqb-true k s (and_parts _ _ t).0))))
        (λ t. other_request_refused k refusal other can h)
    other_act k (Err NoMemory) other can h = same h
    other_act k _ other can h = absurd h

    -- by whose request it is
    schedules_act : (k : ℕ) (g : MoveResult) → CanSchedule c k → SchedulesAct c k r act g z → After tells a c s (Schedule k r) z (reply_given c s (Schedule k r) g)
    schedules_act k g can h =
        ⊎_elim
        (λ (e : s ≡ k).
        subst (λ (n : ℕ). CanSchedule c n → SchedulesAct c n r act g z → After tells a c s (Schedule n r) z (reply_given c s (Schedule n r) g)) e (own_act g) can h)
        (λ (e : s ≡ k → ⊥). other_act k g e can h)
        (cases_eq s k)

  -- by the act of the request
  schedules : (k : ℕ) (r : Request) (g : MoveResult) → CanSchedule c k → SchedulesRequest c k r g z → After tells a c s (Schedule k r) z (reply_given c s (Schedule k r) g)
  schedules k r g can h = of (act_of r) refl h
    where
      of : (o : Option Act) → act_of r ≡ o → SchedulesAnyAct c k r o g z → After tells a c s (Schedule k r) z (reply_given c s (Schedule k r) g)
      of None is t = absurd t
      of (Some act) is t = schedules_act r act is k g can t

  -- the administrator's move is refused
  administrator_refused : (n : ℕ) (refusal : Refusal) → is_free c.history ≡ true → LacksRoomFor n c refusal z ⊎ MeetsLogFault n c refusal z → IsBetweenReplies a z s
  administrator_refused n refusal fr h =
      ⊎_elim (λ (q : LacksRoomFor n c refusal z). same q.after)
      (λ (q : MeetsLogFault n c refusal z). while_free (event.LogFailed 0 0) refl refl (λ i. no_fault_of_other 0 0 s i (λ is. omega (arith, is, some))) fr q.after) h

  -- a checkpoint is marked
  marks : (name : List ℕ) (g : MoveResult) → CanMark c name → Marks c name g z → After tells a c s (Mark name) z (reply_given c s (Mark name) g)
  marks name (Ok (moved.Marked n)) can h = while_free (event.Marker name None) refl refl (λ q. refl) can.is_free h.2
  marks name (Ok (moved.Refused r)) can h = administrator_refused 1 r can.is_free h
  marks name (Err NoMemory) can h = same h
  marks name _ can h = absurd h

  -- a dump is taken
  dumps : (b : ℕ) (name : List ℕ) (g : MoveResult) → Dumps c b name g z → After tells a c s (Dump b name) z (reply_given c s (Dump b name) g)
  dumps b name (Ok (moved.Dumped n)) h = stays (follows_rest c z s h.1 refl (prefix_self c.history) refl refl)
  dumps b name (Ok moved.Failed) h = same h
  dumps b name (Err NoMemory) h = same h
  dumps b name _ h = absurd h

  -- a dump is loaded
  loads : (b : ℕ) (name : List ℕ) (g : MoveResult) → Loads tells c b name g z → After tells a c s (Load b name) z (reply_given c s (Load b name) g)
  loads b name (Ok (moved.Loaded n)) h = stays (follows_rest c z s h.after refl (prefix_self c.history) refl refl)
  loads b name (Ok moved.Failed) h = same h
  loads b name (Ok moved.Starved) h = same h
  loads b name _ h = absurd h

  -- the administrator ends an orphan, which is no open session's transaction
  aborts : (tx : ℕ) (g : MoveResult) → CanAbort c tx → AbortsOrphan c tx g z → After tells a c s (Abort tx) z (reply_given c s (Abort tx) g)
  aborts tx (Ok (moved.Entry n)) can h =
      let e : Entry = abort_entry c tx in
      between_while_open a c z (c.history ++ event.Sched e ∷ []) s (session_at c s) j (follows_rest c z s h.2 refl (event.Sched e ∷ [], refl) refl refl)
      (λ here q. seen_other c.placement a c.history s (session_at c s) q e can.is_free (λ none. absurd (omega (arith, none, some))) (orphan_leaves c tx s can here))
  aborts tx (Ok (moved.Refused r)) can h = administrator_refused 3 r can.is_free h
  aborts tx (Err NoMemory) can h = same h
  aborts tx _ can h = absurd h

  -- ---- reads

  -- the session's own read, at backend b
  module _ (b : ℕ) (select : Select) (can : CanRead c s) where
    -- the history stays
    follows_read : (f : OpenSession → OpenSession) → ((x : OpenSession) → (f x).number ≡ x.number) → z ≡ record c { sessions = with_session c.sessions s f }
        → Follows c z c.history s (f (session_at c s))
    follows_read f keeps is = follows_own c z s is refl (prefix_self c.history) refl f keeps refl can.here

    -- the failed attempt is the next event
    follows_failed : (ev : Event) (f : OpenSession → OpenSession) → ((x : OpenSession) → (f x).number ≡ x.number) → z ≡ record c { history = c.history ++ ev ∷ []; sessions = with_session c.sessions s f }
        → Follows c z (c.history ++ ev ∷ []) s (f (session_at c s))
    follows_failed ev f keeps is = follows_own c z s is refl (ev ∷ [], refl) refl f keeps refl can.here

    -- the read is made in the transaction that the session was in
    in_own : (open_tx c s ≡ 0) ⊎ (open_tx c s ≡ tx_of (log a.front) s)
    in_own = inr (rested can.here can.idle).tx

    -- the backend answered
    reaches : (answer : Asked) → ReadIsAnswered tells c s b select answer z → After tells a c s (Read s b select) z (Some (asked_reply answer))
    reaches answer h =
        let p : ℕ = h.p in
        let stands : BackendStands c.history c.failed c.starved b (Some p) = subst (BackendStands c.history c.failed c.starved b) h.stands (w.stands b (w.hosts b h.serves.0)) in
        let call : Call = call_at c s (Read s b select) (asked_reply answer) in
        let least : (session_at c s).least ≡ a.least = owes_same can.here in
        let owed : (session_at c s).least ≤ p = h.owed in
        replied tells c.placement a c z c.history s (answered_at p (was_answered (session_at c s))) call p v (follows_read (λ x. answered_at p (was_answered x)) (λ x. refl) h.after) can.idle refl refl
        (turn_read tells c.placement s a c.history w.legal j.longer j.owes (rested can.here can.idle) call select p answer in_own refl refl h.possible h.says (λ t. (b, h.serves)) (omega arith) (stands.1 h.serves.0) stands.0)

    -- no backend serves the read
    reads_nowhere : (refusal : Refusal) → ReadHasNoBackend c s b select refusal z → After tells a c s (Read s b select) z (Some (Refused refusal))
    reads_nowhere refusal h =
        let call : Call = call_at c s (Read s b select) (Refused refusal) in
        replied tells c.placement a c z c.history s (was_answered (session_at c s)) call a.least v (follows_read was_answered (λ x. refl) h.after) can.idle refl (owes_same can.here)
        (turn_unserved tells c.placement s a c.history w.legal j.longer j.owes (rested can.here can.idle) call in_own (ap (λ o. Refused o) h.refused) h.none)

    -- the history has no room for the failed attempt
    reads_full : (refusal : Refusal) → ReadHasNoRoom c s b select refusal z → After tells a c s (Read s b select) z (Some (Refused refusal))
    reads_full refusal h =
        let call : Call = call_at c s (Read s b select) (Refused refusal) in
        let none : events_left c.history ≡ 0 = h.full in
        let full : events_left c.history < 1 = omega arith in
        replied tells c.placement a c z c.history s (was_answered (session_at c s)) call a.least v (follows_read was_answered (λ x. refl) h.after) can.idle refl (owes_same can.here)
        (turn_full tells c.placement s a c.history w.legal j.longer j.owes (rested can.here can.idle) call in_own (ap (λ o. Refused o) h.refused) (λ t. (b, h.serves)) full)

    -- each backend that serves the read failed
    reads_in_vain : (refusal : Refusal) → ReadFailedEverywhere c s b select refusal z → After tells a c s (Read s b select) z (Some (Refused refusal))
    reads_in_vain refusal h =
        let call : Call = call_at c s (Read s b select) (Refused refusal) in
        let x : OpenSession = session_at c s in
        let ev : Event = event.ReadFailed s (read_number x) b in
        let g : List Event = c.history ++ ev ∷ [] in
        let f : Follows c z g s (was_answered x) = follows_failed ev was_answered (λ y. refl) h.after in
        let idle : is_entry_of s (open_entry_of g) ≡ false = ap (is_entry_of s) (opened-same c.history ev refl refl) ∙ can.idle in
        replied tells c.placement a c z g s (was_answered x) call a.least v f idle refl (owes_same can.here)
        (turn_fault tells c.placement s a c.history b call select h.mask (tried_of x.reading) (subst IsLegal f.history v.legal) j.longer j.owes (rested can.here can.idle) in_own refl (ap (λ o. Refused o) h.refused)
        (prior a.front c.history s x (j.here can.here).reads) h.serving
        (λ k serves. with_cases (tried_of x.reading) b k (h.all k serves)) h.serves)

    -- the backend is out, or stands too early
    reads_early : (position : Option ℕ) → ReadCameTooEarly c s b select position z → IsBetweenReplies a z s
    reads_early position h =
        let x : OpenSession = session_at c s in
        let y : OpenSession = still_reading select (tried_of x.reading) x in
        between_follows a c z c.history s y j (follows_read (still_reading select (tried_of x.reading)) (λ q. refl) h.after)
        (λ q. seen_changed c.placement a c.history s x q y can.idle refl (tried_still a.front c.history s x select (tried_of x.reading) (prior a.front c.history s x q.reads)))

    -- the backend failed, and another is to be tried
    reads_again : ReadFailedHere c s b select z → IsBetweenReplies a z s
    reads_again h =
        let x : OpenSession = session_at c s in
        let ev : Event = event.ReadFailed s (read_number x) b in
        let g : List Event = c.history ++ ev ∷ [] in
        let y : OpenSession = still_reading select (tried_with c s b) x in
        let idle : is_entry_of s (open_entry_of g) ≡ false = ap (is_entry_of s) (opened-same c.history ev refl refl) ∙ can.idle in
        between_follows a c z g s y j (follows_failed ev (still_reading select (tried_with c s b)) (λ q. refl) h.after)
        (λ q.
        seen_changed c.placement a g s x (seen_event c.placement a c.history s x q ev refl refl (λ k. refl) (λ t k. refl)) y idle refl
        (tried_again a.front c.history s b x select (prefix_length a.front c.history j.longer) q.reads))

    -- any of these
    own_reads : (g : MoveResult) → AttemptsRead tells c s b select g z → After tells a c s (Read s b select) z (reply_given c s (Read s b select) g)
    own_reads (Ok (moved.Rows rows)) h = to_own s (Rows rows) (After tells a c s (Read s b select) z) (reaches (asked.Rows rows) h)
    own_reads (Ok (moved.Refused refusal)) h =
        to_own s (Refused refusal) (After tells a c s (Read s b select) z)
        (⊎_elim (reaches (asked.Refused refusal)) (⊎_elim (reads_nowhere refusal) (⊎_elim (reads_full refusal) (reads_in_vain refusal))) h)
    own_reads (Ok (moved.Behind p)) h = reads_early (Some p) h
    own_reads (Ok moved.Out) h = reads_early None h
    own_reads (Ok moved.Failed) h = reads_again h
    own_reads (Err (NotNow why)) h = same h.3
    own_reads (Err NoMemory) h = same h
    own_reads _ h = absurd h

  -- another session's read
  module _ (k b : ℕ) (select : Select) (other : s ≢ k) where
    -- the history stays
    other_read : (f : OpenSession → OpenSession) → ((x : OpenSession) → (f x).number ≡ x.number) → z ≡ record c { sessions = with_session c.sessions k f } → IsBetweenReplies a z s
    other_read f keeps is = stays (follows_rest c z s is refl (prefix_self c.history) refl (session_of-other f keeps c.sessions k s other))

    -- the failed attempt is the next event
    other_failed : (q : ℕ) (f : OpenSession → OpenSession) → ((x : OpenSession) → (f x).number ≡ x.number)
        → z ≡ record c { history = c.history ++ event.ReadFailed k q b ∷ []; sessions = with_session c.sessions k f } → IsBetweenReplies a z s
    other_failed q f keeps is =
        let ev : Event = event.ReadFailed k q b in
        between_follows a c z (c.history ++ ev ∷ []) s (session_at c s) j (follows_rest c z s is refl (ev ∷ [], refl) refl (session_of-other f keeps c.sessions k s other))
        (λ x. seen_event c.placement a c.history s (session_at c s) x ev refl refl (λ i. refl) (λ t i. refl))

    -- the backend answered
    other_reaches : (answer : Asked) → ReadIsAnswered tells c k b select answer z → IsBetweenReplies a z s
    other_reaches answer h = other_read (λ x. answered_at h.p (was_answered x)) (λ x. refl) h.after

    -- the read was refused
    other_refused : (refusal : Refusal) → AttemptsRead tells c k b select (Ok (moved.Refused refusal)) z → IsBetweenReplies a z s
    other_refused refusal h =
        ⊎_elim (other_reaches (asked.Refused refusal))
        (⊎_elim (λ (x : ReadHasNoBackend c k b select refusal z). other_read was_answered (λ y. refl) x.after)
        (⊎_elim (λ (x : ReadHasNoRoom c k b select refusal z). other_read was_answered (λ y. refl) x.after)
        (λ (x : ReadFailedEverywhere c k b select refusal z). other_failed (read_number (session_at c k)) was_answered (λ y. refl) x.after)))
        h

    -- any of these
    other_reads : (g : MoveResult) → AttemptsRead tells c k b select g z → After tells a c s (Read k b select) z (reply_given c s (Read k b select) g)
    other_reads (Ok (moved.Rows rows)) h = to_other k s (Rows rows) (After tells a c s (Read k b select) z) (λ e. other (sym e)) (other_reaches (asked.Rows rows) h)
    other_reads (Ok (moved.Refused refusal)) h = to_other k s (Refused refusal) (After tells a c s (Read k b select) z) (λ e. other (sym e)) (other_refused refusal h)
    other_reads (Ok (moved.Behind p)) h = other_read (still_reading select (tried_of (session_at c k).reading)) (λ x. refl) h.after
    other_reads (Ok moved.Out) h = other_read (still_reading select (tried_of (session_at c k).reading)) (λ x. refl) h.after
    other_reads (Ok moved.Failed) h = other_failed (read_number (session_at c k)) (still_reading select (tried_with c k b)) (λ x. refl) h.after
    other_reads (Err (NotNow why)) h = same h.3
    other_reads (Err NoMemory) h = same h
    other_reads _ h = absurd h

  -- by whose read it is, and whether it can be made
  reads : (k b : ℕ) (select : Select) (g : MoveResult) → CanRead c k → AttemptsReadOrWaits tells c k b select g z → After tells a c s (Read k b select) z (reply_given c s (Read k b select) g)
  reads k b select g can h =
      ⊎_elim (λ (x : _). subst (λ (y : MoveResult). After tells a c s (Read k b select) z (reply_given c s (Read k b select) y)) (sym x.1) (same x.2))
      (λ (x : _).
      ⊎_elim
      (λ (e : s ≡ k).
      subst (λ (n : ℕ). CanRead c n → AttemptsRead tells c n b select g z → After tells a c s (Read n b select) z (reply_given c s (Read n b select) g)) e (λ q. own_reads b select q g) can x.1)
      (λ (e : s ≡ k → ⊥). other_reads k b select e g x.1)
      (cases_eq s k))
      h

  -- ---- any move

  -- a move that can be made
  does : (m : Move) (g : MoveResult) → not_now c m ≡ None → DoesMove tells c m g z → After tells a c s m z (reply_given c s m g)
  does (Open user) g now h = opens user g h
  does (Close k) g now h = closes k g h
  does (Schedule k r) g now h = schedules k r g (can_schedule c k r now) h
  does (Abort tx) g now h = aborts tx g (can_abort c tx now) h
  does (Apply b) g now h = applies b g h
  does End g now h = ends g (can_end c now) h
  does (Read k b select) g now h = reads k b select g (can_read c k b select now) h
  does (Arm b) g now h = arms b g h
  does (Disable b) g now h = disables b g (can_disable c b now) h
  does (Replay b) g now h = replays b g h
  does (Enable b) g now h = enables b g (can_enable c b now) h
  does (Mark name) g now h = marks name g (can_mark c name now) h
  does (Dump b name) g now h = dumps b name g h
  does (Load b name) g now h = loads b name g h

  -- what a move leaves the session
  pub moves_after : (m : Move) (g : MoveResult) → MovesTo tells c m g z → After tells a c s m z (reply_given c s m g)
  moves_after m g h = by (not_now c m) refl h
    where
      by : (o : Option Why) → not_now c m ≡ o → MatchOption o (DoesMove tells c m g z) (λ why. (g ≡ Err (NotNow why)) × (z ≡ c)) → After tells a c s m z (reply_given c s m g)
      by None now t = does m g now t
      by (Some why) now t = subst (λ (x : MoveResult). After tells a c s m z (reply_given c s m x)) (sym t.0) (same t.1)
