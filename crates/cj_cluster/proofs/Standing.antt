-- Each session stands between two replies: how what moves change keeps that, whatever the backends tell.
use Rattle.std.proofs.Common.{◌≡◌, ◌≢◌, ℕ, ◌+◌, ◌<◌, ◌≤◌, Bool, true, false, List, [], ◌∷◌, ◌++◌, length, Option, option_map, None, Some, is_some, refl, ap, sym, ◌∙◌, subst, arith, ⊎_elim}
use Rattle.std.proofs.lemmas.Bool.{cases_eq, eqb-true, both_ways}
use Rattle.cj_cluster.proofs.Common.{Core, CoreInvariant, Ended, Entry, Event, HasServer, IsFitEntry, IsSoundSession, LogFailed, OpenSession, ReadFailed, Sched, Select, enabled_after_event, open_entry_of, events_left, find_session, in_mask, is_enabled, is_end_event, is_entry_of, is_free, is_log_fault, log, new_session, request_of, scheduled_entry, session_at, tx_of, with_backend, with_session}
use Rattle.cj_cluster.specs.History.Turns.{SessionView}
use Rattle.cj_cluster.specs.Moves.Moves.{is_open, happened, with_one_request, with_entry, scheduled_as, abort_entry, answered_at, still_reading, read_number, tried_of, with_read}
use Rattle.cj_cluster.specs.Moves.Runs.{seen_at, HasFailedSince, TriedSince, IsBetweenReplies, AreBetween}
use Rattle.cj_cluster.proofs.Pushed.{no_fault_of_other, prefix_self, prefix_length, opened-same, opened-free}
use Rattle.cj_cluster.proofs.Sessions.{session_at-is, found_number, found_all, found_open, session_of-same, session_of-other, is_open-with, without, session_of-without_other}
use Rattle.cj_cluster.proofs.Now.{CanAbort}
use Rattle.cj_cluster.proofs.OwnTransactions.{session_fit, tx_of_end_of, tx_of_other}
use Rattle.cj_cluster.proofs.Between.{follows_own, follows_rest, follows_opened, between_while_open, between_follows, between_fresh, between_opened, between_closed, seen_event, seen_ended, seen_other, seen_sched, seen_changed, tried_none, tried_still, tried_again, prior}

-- ---- where no session is open

-- each session has seen what has happened, and needs no position
pub between_none : (c : Core) → c.sessions ≡ [] → (s : ℕ) → IsBetweenReplies (record { front = c.history; least = 0 }) c s
between_none c none s =
    record {
      longer = prefix_self c.history;
      owes = (let le : 0 ≤ length (log c.history) = omega arith in le);
      here = λ t. absurd (both_ways (is_open c s) (ap (λ ss. is_some (find_session ss s)) none) t);
      later = λ lt. refl;
    }

pub stand_none : (c : Core) → c.sessions ≡ [] → AreBetween c
stand_none c none s some = (record { front = c.history; least = 0 }, between_none c none s)

-- ---- what changes no session

-- backends and masks change
pub stand_rest : (c : Core) (ps : List (Option ℕ)) (begun : List (List ℕ)) (f t : ℕ) → AreBetween c → AreBetween (record c { positions = ps; begun = begun; failed = f; starved = t })
stand_rest c ps begun f t between s some =
    let q = between s some in
    let z : Core = record c { positions = ps; begun = begun; failed = f; starved = t } in
    (q.0, between_follows q.0 c z c.history s (session_at c s) q.1 (follows_rest c z s refl refl (prefix_self c.history) refl refl) (λ x. x))

-- an event that schedules nothing, ends nothing and is no fault of the log's store in a session's request, and enables or disables nothing while an entry is open
pub stand_event : (c : Core) (ev : Event) → scheduled_entry ev ≡ None → is_end_event ev ≡ false → ((s q : ℕ) → 0 < s → is_log_fault s q ev ≡ false)
    → ((s : ℕ) → is_entry_of s (open_entry_of c.history) ≡ true → (b : ℕ) → enabled_after_event b (is_enabled c.history b) ev ≡ is_enabled c.history b) → AreBetween c → AreBetween (record c { history = c.history ++ ev ∷ [] })
stand_event c ev none stays no_fault same between s some =
    let q = between s some in
    let z : Core = record c { history = c.history ++ ev ∷ [] } in (
      q.0,
      between_follows q.0 c z (c.history ++ ev ∷ []) s (session_at c s) q.1
          (follows_rest c z s refl refl (ev ∷ [], refl) refl refl)
          (λ x. seen_event c.placement q.0 c.history s (session_at c s) x ev none stays (λ q. no_fault s q some) (same s)),
    )

-- ---- sessions that open and close

pub stand_opened : (c : Core) (user : List ℕ) → CoreInvariant c → AreBetween c → AreBetween (record c { sessions = c.sessions ++ new_session (c.greatest + 1) user ∷ []; greatest = c.greatest + 1 })
stand_opened c user w between s some =
    let n : ℕ = c.greatest + 1 in
    let z : Core = record c { sessions = c.sessions ++ new_session n user ∷ []; greatest = n } in
    let q = between s some in
    let stood : IsBetweenReplies q.0 z s =
    ⊎_elim
    (λ (e : s ≡ n). between_opened q.0 c z s user w q.1 e (subst (λ (k : ℕ). z ≡ record c { sessions = c.sessions ++ new_session k user ∷ []; greatest = k }) (sym e) refl))
    (λ (e : s ≡ n → ⊥). between_follows q.0 c z c.history s (session_at c s) q.1 (follows_opened c z s n user e refl refl) (λ x. x))
    (cases_eq s n)
    in
    (q.0, stood)

pub stand_closed : (c : Core) (k : ℕ) → AreBetween c → AreBetween (record c { sessions = without k c.sessions })
stand_closed c k between s some =
    let z : Core = record c { sessions = without k c.sessions } in
    let q = between s some in
    let stood : IsBetweenReplies q.0 z s =
    ⊎_elim
    (λ (e : s ≡ k). between_closed q.0 c z s q.1 (subst (λ (n : ℕ). z ≡ record c { sessions = without n c.sessions }) (sym e) refl))
    (λ (e : s ≡ k → ⊥).
    between_follows q.0 c z c.history s (session_at c s) q.1 (follows_rest c z s refl refl (prefix_self c.history) refl (session_of-without_other c.sessions k s e)) (λ x. x))
    (cases_eq s k)
    in
    (q.0, stood)

-- ---- a session changes

module _ (c z : Core) (k : ℕ) (f : OpenSession → OpenSession) (keeps : (x : OpenSession) → (f x).number ≡ x.number) (is : z.sessions ≡ with_session c.sessions k f) where
  -- what is found of it then
  found_changed : (o : Option OpenSession) → find_session c.sessions k ≡ o → find_session z.sessions k ≡ option_map f o
  found_changed o e = ap (λ ss. find_session ss k) is ∙ (session_of-same f keeps c.sessions k ∙ ap (option_map f) e)

  -- it reads nothing, where the change leaves no read open
  pub none_reading : ((x : OpenSession) → find_session c.sessions k ≡ Some x → (f x).reading ≡ None) → (session_at z k).reading ≡ None
  none_reading none = one (find_session c.sessions k) refl
    where
      one : (o : Option OpenSession) → find_session c.sessions k ≡ o → (session_at z k).reading ≡ None
      one None e = ap (λ (x : OpenSession). x.reading) (session_at-is z k None (found_changed None e))
      one (Some x) e = ap (λ (y : OpenSession). y.reading) (session_at-is z k (Some (f x)) (found_changed (Some x) e)) ∙ none x e

  -- and nothing where it read nothing before, and the change leaves its read as it is
  pub still_none : ((x : OpenSession) → (f x).reading ≡ x.reading) → (session_at c k).reading ≡ None → (session_at z k).reading ≡ None
  still_none same none = none_reading (λ x e. same x ∙ (sym (ap (λ (y : OpenSession). y.reading) (session_at-is c k (Some x) e)) ∙ none))

module _ (c : Core) (k : ℕ) (f : OpenSession → OpenSession) (keeps : (x : OpenSession) → (f x).number ≡ x.number) (between : AreBetween c) where
  -- no other session changes
  stand_with : (a : SessionView) → IsBetweenReplies a (with_read c k f) k → AreBetween (with_read c k f)
  stand_with a own s some =
      let z : Core = with_read c k f in
      ⊎_elim (λ (e : s ≡ k). subst (λ (n : ℕ). (b : SessionView) × IsBetweenReplies b z n) (sym e) (a, own))
      (λ (e : s ≡ k → ⊥).
      let q = between s some in
      (q.0, between_follows q.0 c z c.history s (session_at c s) q.1 (follows_rest c z s refl refl (prefix_self c.history) refl (session_of-other f keeps c.sessions k s e)) (λ x. x)))
      (cases_eq s k)

  -- it reads nothing then, and no entry of its own is open
  stand_fresh : CoreInvariant (with_read c k f) → is_entry_of k (open_entry_of c.history) ≡ false → (session_at (with_read c k f) k).reading ≡ None → AreBetween (with_read c k f)
  stand_fresh v idle none = stand_with (seen_at (with_read c k f) k) (between_fresh (with_read c k f) k v idle none)

  -- its read was answered
  pub stand_answered : ((x : OpenSession) → (f x).reading ≡ None) → CoreInvariant (with_read c k f) → is_entry_of k (open_entry_of c.history) ≡ false → AreBetween (with_read c k f)
  stand_answered none v idle = stand_fresh v idle (none_reading c (with_read c k f) k f keeps refl (λ x e. none x))

  -- it read nothing, and reads nothing still
  pub stand_counted : ((x : OpenSession) → (f x).reading ≡ x.reading) → (session_at c k).reading ≡ None → CoreInvariant (with_read c k f) → is_entry_of k (open_entry_of c.history) ≡ false → AreBetween (with_read c k f)
  stand_counted same none v idle = stand_fresh v idle (still_none c (with_read c k f) k f keeps refl same none)

-- The log's store failed in a request of session k, which reads nothing, or in the administrator's move, where k is 0.
pub stand_log_failed : (c : Core) (k n : ℕ) → CoreInvariant (happened c (LogFailed k n)) → is_free c.history ≡ true → (0 < k → (session_at c k).reading ≡ None) → AreBetween c → AreBetween (happened c (LogFailed k n))
stand_log_failed c k n v fr none between s some =
    let ev : Event = LogFailed k n in
    let z : Core = happened c ev in
    let idle : is_entry_of k (open_entry_of z.history) ≡ false = ap (is_entry_of k) (opened-same c.history ev refl refl ∙ opened-free c.history fr) in
    ⊎_elim
    (λ (is : s ≡ k). subst (λ (i : ℕ). (a : SessionView) × IsBetweenReplies a z i) (sym is) (seen_at z k, between_fresh z k v idle (none (omega (arith, is, some)))))
    (λ (is : s ≡ k → ⊥).
    let q = between s some in (
      q.0,
      between_follows q.0 c z (c.history ++ ev ∷ []) s (session_at c s) q.1
          (follows_rest c z s refl refl (ev ∷ [], refl) refl refl)
          (λ x. seen_event c.placement q.0 c.history s (session_at c s) x ev refl refl (λ i. no_fault_of_other k n s i (λ o. is (sym o))) (λ t b. refl)),
    ))
    (cases_eq s k)

-- an open session's number is above 0
pub open_above : (c : Core) (s : ℕ) → CoreInvariant c → is_open c s ≡ true → 0 < s
open_above c s w here =
    let found = found_open c s here in
    let sound : IsSoundSession c.history c.greatest (session_at c s) = found_all (IsSoundSession c.history c.greatest) c.sessions s (session_at c s) w.sessions found in
    subst (λ (n : ℕ). 0 < n) (found_number c.sessions s (session_at c s) found) sound.number.0

-- a session that is not open reads nothing
shut_reads : (c : Core) (s : ℕ) → is_open c s ≡ false → (session_at c s).reading ≡ None
shut_reads c s shut = one (find_session c.sessions s) refl shut
  where
    one : (o : Option OpenSession) → find_session c.sessions s ≡ o → is_some o ≡ false → (session_at c s).reading ≡ None
    one None is none = ap (λ (x : OpenSession). x.reading) (session_at-is c s None is)
    one (Some x) is none = absurd (cc none)

-- what was tried in its read has failed since what it saw last
tried_since : (c : Core) (s : ℕ) → 0 < s → AreBetween c → (a : SessionView) × IsBetweenReplies a c s × TriedSince a.front c.history s (session_at c s)
tried_since c s some between = one (is_open c s) refl
  where
    one : (o : Bool) → is_open c s ≡ o → (a : SessionView) × IsBetweenReplies a c s × TriedSince a.front c.history s (session_at c s)
    one true here = let q = between s some in (q.0, q.1, (q.1.here here).reads)
    one false shut = let q = between s some in (q.0, q.1, tried_none q.0.front c.history s (session_at c s) (shut_reads c s shut))

-- the same of the read that is made next
pub still_tried : (c : Core) (s : ℕ) → 0 < s → AreBetween c
    → (a : SessionView) × IsBetweenReplies a c s × ((b : ℕ) → in_mask (tried_of (session_at c s).reading) b ≡ true → HasFailedSince a.front c.history s (read_number (session_at c s)) b)
still_tried c s some between = let q = tried_since c s some between in (q.0, q.1, prior q.0.front c.history s (session_at c s) q.2)

-- and of one backend more, which has just failed
pub tried_more : (c : Core) (s b n : ℕ) (select : Select) → 0 < s → n ≡ read_number (session_at c s) → AreBetween c
    → (a : SessionView) × IsBetweenReplies a (record c { history = c.history ++ ReadFailed s n b ∷ [] }) s
    × ((k : ℕ) → in_mask (with_backend (tried_of (session_at c s).reading) b) k ≡ true → HasFailedSince a.front (c.history ++ ReadFailed s n b ∷ []) s (read_number (session_at c s)) k)
tried_more c s b n select some is between =
    let ev : Event = ReadFailed s n b in
    let g : List Event = c.history ++ ev ∷ [] in
    let z : Core = record c { history = g } in
    let x : OpenSession = session_at c s in
    let mask : ℕ = with_backend (tried_of x.reading) b in
    let q = tried_since c s some between in
    let more = tried_again q.0.front c.history s b x select (prefix_length q.0.front c.history q.1.longer) q.2 in (
      q.0,
      between_follows q.0 c z g s x q.1
          (follows_rest c z s refl refl (ev ∷ [], refl) refl refl)
          (λ y. seen_event c.placement q.0 c.history s x y ev refl refl (λ i. refl) (λ t i. refl)),
      λ k t. subst (λ (m : ℕ). HasFailedSince q.0.front (c.history ++ ReadFailed s m b ∷ []) s (read_number x) k) (sym is) (more (record { select = select; tried = mask }) k refl t),
    )

-- its read stays open, and each backend that was tried in it has failed since what the session has seen
pub stand_reading : (c : Core) (k : ℕ) (select : Select) (tried : ℕ) → AreBetween c → is_entry_of k (open_entry_of c.history) ≡ false → (a : SessionView) → IsBetweenReplies a c k
    → ((b : ℕ) → in_mask tried b ≡ true → HasFailedSince a.front c.history k (read_number (session_at c k)) b) → AreBetween (with_read c k (still_reading select tried))
stand_reading c k select tried between idle a j each =
    stand_with c k f (λ x. refl) between a (one (is_open c k) refl)
  where
    f : OpenSession → OpenSession
    f = still_reading select tried

    z : Core
    z = with_read c k f

    one : (b : Bool) → is_open c k ≡ b → IsBetweenReplies a z k
    one true here =
        between_follows a c z c.history k (f (session_at c k)) j
        (follows_own c z k refl refl (prefix_self c.history) refl f (λ x. refl) refl here)
        (λ q. seen_changed c.placement a c.history k (session_at c k) q (f (session_at c k)) idle refl (tried_still a.front c.history k (session_at c k) select tried each))
    one false shut =
        record {
          longer = j.longer;
          owes = j.owes;
          here = λ t. absurd (both_ways (is_open z k) (is_open-with f (λ x. refl) c.sessions k k ∙ shut) t);
          later = j.later;
        }

-- ---- entries

-- an entry of a session is scheduled, which reads nothing
pub stand_sched : (c : Core) (k : ℕ) (e : Entry) → CoreInvariant c → is_free c.history ≡ true → IsFitEntry (log c.history) e → e.session ≡ k → is_open c k ≡ true → (session_at c k).reading ≡ None
    → HasServer c.placement c.history (request_of e.act) → 3 ≤ events_left c.history → AreBetween c → AreBetween (scheduled_as c k e)
stand_sched c k e w fr fit own here none served space between s some =
    let g : List Event = c.history ++ Sched e ∷ [] in
    let z : Core = scheduled_as c k e in
    let q = between s some in
    let above : 0 < k = open_above c k w here in
    ⊎_elim
    (λ (is : s ≡ k).
    subst (λ (n : ℕ). (b : SessionView) × IsBetweenReplies b z n) (sym is) (
    let mine = between k above in (
      mine.0,
      between_follows mine.0 c z g k (with_one_request (session_at c k)) mine.1 (follows_own c z k refl refl (Sched e ∷ [], refl) refl with_one_request (λ x. refl) refl here)
          (λ x. seen_sched c.placement mine.0 c.history k (session_at c k) x e (with_one_request (session_at c k)) fr own served space mine.1.longer refl none),
    )
    ))
    (λ (is : s ≡ k → ⊥). (
      q.0,
      between_follows q.0 c z g s (session_at c s) q.1 (follows_rest c z s refl refl (Sched e ∷ [], refl) refl (session_of-other with_one_request (λ x. refl) c.sessions k s is))
          (λ x.
          let other : e.session ≢ s = λ i. is (sym i ∙ own) in
          seen_other c.placement q.0 c.history s (session_at c s) x e fr other (tx_of_other (log c.history) e s (session_fit (log c.history) e fit (omega (arith, own, above))).tx other)),
    ))
    (cases_eq s k)

-- the administrator's end of an orphan leaves the transaction of each session that is open
pub orphan_leaves : (c : Core) (tx s : ℕ) → CanAbort c tx → is_open c s ≡ true → tx_of (log c.history ++ abort_entry c tx ∷ []) s ≡ tx_of (log c.history) s
orphan_leaves c tx s can here =
    tx_of_end_of (log c.history) (abort_entry c tx) can.begin.session s refl can.some (sym can.of_session) (λ same. both_ways (is_open c can.begin.session) can.gone (ap (is_open c) same ∙ here))

-- the end of an orphan is scheduled
pub stand_aborted : (c : Core) (tx : ℕ) → CanAbort c tx → AreBetween c → AreBetween (with_entry c (abort_entry c tx))
stand_aborted c tx can between s some =
    let e : Entry = abort_entry c tx in
    let z : Core = with_entry c e in
    let q = between s some in (
      q.0,
      between_while_open q.0 c z (c.history ++ Sched e ∷ []) s (session_at c s) q.1 (follows_rest c z s refl refl (Sched e ∷ [], refl) refl refl)
          (λ here x. seen_other c.placement q.0 c.history s (session_at c s) x e can.is_free (λ none. absurd (omega (arith, none, some))) (orphan_leaves c tx s can here)),
    )

-- The open entry ends, and its session is answered, where it has one.
pub stand_ended : (c z : Core) (k n f t : ℕ) → z ≡ record c { history = c.history ++ Ended f t ∷ []; failed = 0; starved = 0; sessions = with_session c.sessions k (answered_at n) }
    → CoreInvariant z → is_entry_of k (open_entry_of c.history) ≡ true → open_entry_of (c.history ++ Ended f t ∷ []) ≡ None → AreBetween c → AreBetween z
stand_ended c z k n f t is v waiting none between s some = one (is_entry_of s (open_entry_of c.history)) refl
  where
    g : List Event
    g = c.history ++ Ended f t ∷ []

    alone : (o : Option Entry) → is_entry_of s o ≡ true → is_entry_of k o ≡ true → s ≡ k
    alone None a b = absurd (cc a)
    alone (Some e) a b = sym (eqb-true e.session s a) ∙ eqb-true e.session k b

    reads_none : (b : Bool) → is_open c s ≡ b → is_entry_of s (open_entry_of c.history) ≡ true → (session_at c s).reading ≡ None
    reads_none true here own = (((between s some).1.here here).waits own).1
    reads_none false shut own = shut_reads c s shut

    one : (b : Bool) → is_entry_of s (open_entry_of c.history) ≡ b → (a : SessionView) × IsBetweenReplies a z s
    one true own =
        let same : s ≡ k = alone (open_entry_of c.history) own waiting in
        let ended_now : is_entry_of s (open_entry_of z.history) ≡ false = ap (λ (x : Core). is_entry_of s (open_entry_of x.history)) is ∙ ap (is_entry_of s) none in
        let changed : z.sessions ≡ with_session c.sessions s (answered_at n) = ap (λ (x : Core). x.sessions) is ∙ ap (λ (i : ℕ). with_session c.sessions i (answered_at n)) (sym same) in
        (seen_at z s, between_fresh z s v ended_now (still_none c z s (answered_at n) (λ x. refl) changed (λ x. refl) (reads_none (is_open c s) refl own)))
    one false other =
        let q = between s some in
        let differs : s ≡ k → ⊥ = λ e. both_ways (is_entry_of s (open_entry_of c.history)) other (subst (λ (i : ℕ). is_entry_of i (open_entry_of c.history) ≡ true) (sym e) waiting) in (
          q.0,
          between_follows q.0 c z g s (session_at c s) q.1
              (follows_rest c z s is refl (Ended f t ∷ [], refl) refl (session_of-other (answered_at n) (λ x. refl) c.sessions k s differs))
              (λ x. seen_ended c.placement q.0 c.history s (session_at c s) x f t other none),
        )
