-- What stands between two replies to a session, over the moves that do not answer it.
use Rattle.std.proofs.Common.{◌≡◌, ◌≢◌, ℕ, ◌+◌, ◌<◌, ◌≤◌, ◌==◌, ◌⊎◌, inl, inr, true, false, cond, List, [], ◌∷◌, ◌++◌, length, take, count_by, All, Option, None, Some, is_some, refl, ap, sym, ◌∙◌, subst, arith, ⊎_elim, length-append}
use mathlib.Core.List.{IsPrefix}
use Rattle.std.proofs.lemmas.Bool.{cases_eq, eqb-true, eq-eqb, ne_eqb, both_ways}
use Rattle.std.proofs.lemmas.List.{take-append-le}
use Rattle.std.proofs.lemmas.List.Elements.{All-head, All-tail, All-get_or, All-weaker}
use Rattle.cj_cluster.proofs.Common.{Core, CoreInvariant, Ended, Entry, Event, HasServer, IsSoundSession, OpenRead, OpenSession, Placement, ReadFailed, Sched, Select, enabled_after_event, ended_count, open_entry_of, events_left, find_session, get_or_from_slice_get, in_mask, is_enabled, is_end_event, is_entry_of, is_free, is_log_fault, log, log_faults_of, new_session, request_of, scheduled_entry, session_at, slice_get_within, take-append_seam, tx_of, with_backend, with_session}
use Rattle.cj_cluster.specs.History.Turns.{SessionView, entry_count_of}
use Rattle.cj_cluster.specs.Moves.Moves.{is_open, read_number, tried_of, still_reading}
use Rattle.cj_cluster.specs.Moves.Runs.{seen_at, AwaitsEnd, HasFailedSince, TriedSince, StandsSince, IsBetweenReplies}
use Rattle.cj_cluster.proofs.Pushed.{log_faults-stay, log_faults-begin, all_begin, get_seam, get_left, prefix_self, prefix_trans, prefix_length, enabled-push, log-sched, log-same, done-same, opened-sched, opened-same, opened-free}
use Rattle.cj_model.proofs.Masks.{has-zero, has-with_other}
use Rattle.cj_cluster.proofs.Sessions.{session_at-is, found_all, found_none, session_of-push_same, session_of-push_other, without, session_of-without_same, session_at-same, session_at-other}
use Rattle.cj_cluster.proofs.OwnTransactions.{tx_of_unknown, tx_of_unknown_begin}
use Rattle.cj_cluster.proofs.TurnCases.{entries-same, entries-sched}

-- ---- a read's failed attempts

-- what failed has failed after one more event
failed_push : (front h : List Event) (ev : Event) (s q b : ℕ) → HasFailedSince front h s q b → HasFailedSince front (h ++ ev ∷ []) s q b
failed_push front h ev s q b x =
    let high : x.k < length h = x.high in
    let many : length (h ++ ev ∷ []) ≡ length h + 1 = length-append h (ev ∷ []) in
    record { k = x.k; low = x.low; high = omega arith; is = get_left h (ev ∷ []) x.k (ReadFailed s q b) x.is }

-- and so has all that was tried
tried_push : (front h : List Event) (ev : Event) (s : ℕ) (x : OpenSession) → TriedSince front h s x → TriedSince front (h ++ ev ∷ []) s x
tried_push front h ev s x tried r b is t = failed_push front h ev s x.requests b (tried r b is t)

-- where no read is open, none was tried
pub tried_none : (front h : List Event) (s : ℕ) (x : OpenSession) → x.reading ≡ None → TriedSince front h s x
tried_none front h s x none r b is t = absurd (cc (none, is))

-- by whether a read is open
prior_in : (front h : List Event) (s : ℕ) (x : OpenSession) → TriedSince front h s x → (o : Option OpenRead) → x.reading ≡ o → (b : ℕ) → in_mask (tried_of o) b ≡ true
    → HasFailedSince front h s (cond (is_some o) x.requests (x.requests + 1)) b
prior_in front h s x tried None is b t = absurd (both_ways (in_mask 0 b) (has-zero b) t)
prior_in front h s x tried (Some r) is b t = tried r b is t

-- what was tried has failed in the read that is made next, be it open or new
pub prior : (front h : List Event) (s : ℕ) (x : OpenSession) → TriedSince front h s x → (b : ℕ) → in_mask (tried_of x.reading) b ≡ true → HasFailedSince front h s (read_number x) b
prior front h s x tried b t = prior_in front h s x tried x.reading refl b t

-- a read that stays open has those tried that were
pub tried_still : (front h : List Event) (s : ℕ) (x : OpenSession) (select : Select) (mask : ℕ) → ((b : ℕ) → in_mask mask b ≡ true → HasFailedSince front h s (read_number x) b)
    → TriedSince front h s (still_reading select mask x)
tried_still front h s x select mask each r b is t =
    let same : r.tried ≡ mask = ap (λ o. tried_of o) (sym is) in
    each b (subst (λ (m : ℕ). in_mask m b ≡ true) same t)

-- ---- an open session, as the history grows and as it changes itself

-- an event that is no fault of the log's store leaves their number as it was in the front
faults_push : (front h : List Event) (ev : Event) (s : ℕ) → ((q : ℕ) → is_log_fault s q ev ≡ false) → ((q : ℕ) → log_faults_of s q h ≡ log_faults_of s q front)
    → (q : ℕ) → log_faults_of s q (h ++ ev ∷ []) ≡ log_faults_of s q front
faults_push front h ev s none was q = log_faults-stay h ev s q (none q) ∙ was q

-- Of session s there are the entries that there were in the front, and it is in the same transaction.
abbrev IsAsIn : List Event → List Event → ℕ → Type 0
IsAsIn front h s = (entry_count_of s h ≡ entry_count_of s front) × (tx_of (log h) s ≡ tx_of (log front) s)

-- an event that schedules nothing leaves that
as_in_push : (front h : List Event) (ev : Event) (s : ℕ) → scheduled_entry ev ≡ None → IsAsIn front h s → IsAsIn front (h ++ ev ∷ []) s
as_in_push front h ev s none was =
    let same : log (h ++ ev ∷ []) ≡ log h = log-same h ev none in
    (entries-same s h (h ++ ev ∷ []) same ∙ was.0, ap (λ l. tx_of l s) same ∙ was.1)

-- an event that schedules nothing, ends nothing, and enables or disables nothing
unanswered_push : (p : Placement) (front h : List Event) (ev : Event) (s : ℕ) → scheduled_entry ev ≡ None → is_end_event ev ≡ false → ((b : ℕ) → enabled_after_event b (is_enabled h b) ev ≡ is_enabled h b)
    → AwaitsEnd p front h s → AwaitsEnd p front (h ++ ev ∷ []) s
unanswered_push p front h ev s none stays same o =
    let high : o.m < length h = o.high in
    let many : length (h ++ ev ∷ []) ≡ length h + 1 = length-append h (ev ∷ []) in
    let part : take o.m (h ++ ev ∷ []) ≡ take o.m h = take-append-le o.m h (ev ∷ []) (omega arith) in
    record {
      e = o.e;
      is = opened-same h ev none stays ∙ o.is;
      m = o.m;
      low = o.low;
      high = omega arith;
      was_free = ap is_free part ∙ o.was_free;
      served = subst (λ (x : List Event). HasServer p x (request_of o.e.act)) (sym part) o.served;
      space = subst (λ (x : List Event). 3 ≤ events_left x) (sym part) o.space;
      next = get_left h (ev ∷ []) o.m (Sched o.e) o.next;
      number = ap (λ x. length (log x)) part ∙ (o.number ∙ sym (done-same h ev stays));
      same = λ b. ap (λ x. is_enabled x b) part ∙ (o.same b ∙ (sym (same b) ∙ sym (enabled-push h ev b)));
      entries = entries-same s h (h ++ ev ∷ []) (log-same h ev none) ∙ o.entries;
      in_tx = ap (λ x. tx_of (log x) s) part ∙ o.in_tx;
    }

module _ (p : Placement) (a : SessionView) (h : List Event) (s : ℕ) (x : OpenSession) (w : StandsSince p a h s x) where
  -- such an event, or one that enables or disables while the session's entry is not open, if it is no fault of the log's store in the session's requests
  pub seen_event : (ev : Event) → scheduled_entry ev ≡ None → is_end_event ev ≡ false → ((q : ℕ) → is_log_fault s q ev ≡ false) → (is_entry_of s (open_entry_of h) ≡ true → (b : ℕ) → enabled_after_event b (is_enabled h b) ev ≡ is_enabled h b)
      → StandsSince p a (h ++ ev ∷ []) s x
  seen_event ev none stays no_fault same =
      let op : open_entry_of (h ++ ev ∷ []) ≡ open_entry_of h = opened-same h ev none stays in
      record {
        least = w.least;
        waits =
            λ t.
            let was : is_entry_of s (open_entry_of h) ≡ true = ap (is_entry_of s) (sym op) ∙ t in
            let q = w.waits was in
            (unanswered_push p a.front h ev s none stays (same was) q.0, q.1);
        rests = λ t. as_in_push a.front h ev s none (w.rests (ap (is_entry_of s) (sym op) ∙ t));
        reads = tried_push a.front h ev s x w.reads;
        log_faults = faults_push a.front h ev s no_fault w.log_faults;
      }

  -- the end of another session's entry
  pub seen_ended : (failed starved : ℕ) → is_entry_of s (open_entry_of h) ≡ false → open_entry_of (h ++ Ended failed starved ∷ []) ≡ None → StandsSince p a (h ++ Ended failed starved ∷ []) s x
  seen_ended failed starved other none =
      let ev : Event = Ended failed starved in
      record {
        least = w.least;
        waits = λ t. absurd (both_ways (is_entry_of s (open_entry_of (h ++ ev ∷ []))) (ap (is_entry_of s) none) t);
        rests = λ t. as_in_push a.front h ev s refl (w.rests other);
        reads = tried_push a.front h ev s x w.reads;
        log_faults = faults_push a.front h ev s (λ q. refl) w.log_faults;
      }

  -- an entry that is not the session's, and leaves its transaction
  pub seen_other : (e : Entry) → is_free h ≡ true → e.session ≢ s → tx_of (log h ++ e ∷ []) s ≡ tx_of (log h) s → StandsSince p a (h ++ Sched e ∷ []) s x
  seen_other e fr other leaves =
      let not_own : (e.session == s) ≡ false = ne_eqb e.session s other in
      let op : is_entry_of s (open_entry_of (h ++ Sched e ∷ [])) ≡ false = ap (is_entry_of s) (opened-sched h e fr) ∙ not_own in
      let was : IsAsIn a.front h s = w.rests (ap (is_entry_of s) (opened-free h fr)) in
      let more : entry_count_of s (h ++ Sched e ∷ []) ≡ entry_count_of s h + 0 = entries-sched s h e ∙ rw not_own refl in
      record {
        least = w.least;
        waits = λ t. absurd (both_ways (is_entry_of s (open_entry_of (h ++ Sched e ∷ []))) op t);
        rests = λ t. ((let n = was.0 in omega (arith, more, n)), ap (λ l. tx_of l s) (log-sched h e) ∙ (leaves ∙ was.1));
        reads = tried_push a.front h (Sched e) s x w.reads;
        log_faults = faults_push a.front h (Sched e) s (λ q. refl) w.log_faults;
      }

  -- the session's own entry
  pub seen_sched : (e : Entry) (y : OpenSession) → is_free h ≡ true → e.session ≡ s → HasServer p h (request_of e.act) → 3 ≤ events_left h → IsPrefix a.front h
      → y.least ≡ x.least → y.reading ≡ None → StandsSince p a (h ++ Sched e ∷ []) s y
  seen_sched e y fr own served space longer least none =
      let g : List Event = h ++ Sched e ∷ [] in
      let its : (e.session == s) ≡ true = eq-eqb e.session s own in
      let op : is_entry_of s (open_entry_of g) ≡ true = ap (is_entry_of s) (opened-sched h e fr) ∙ its in
      let was : IsAsIn a.front h s = w.rests (ap (is_entry_of s) (opened-free h fr)) in
      let more : entry_count_of s g ≡ entry_count_of s h + 1 = entries-sched s h e ∙ rw its refl in
      let low : length a.front ≤ length h = prefix_length a.front h longer in
      let many : length g ≡ length h + 1 = length-append h (Sched e ∷ []) in
      let part : take (length h) g ≡ h = take-append_seam h (Sched e ∷ []) in
      record {
        least = least ∙ w.least;
        waits =
            λ t. (
              record {
                e = e;
                is = opened-sched h e fr;
                m = length h;
                low = low;
                high = omega arith;
                was_free = ap is_free part ∙ fr;
                served = subst (λ (z : List Event). HasServer p z (request_of e.act)) (sym part) served;
                space = subst (λ (z : List Event). 3 ≤ events_left z) (sym part) space;
                next = get_seam h [] (Sched e);
                number = ap (λ z. length (log z)) part ∙ (sym (eqb-true _ _ fr) ∙ sym (done-same h (Sched e) refl));
                same = λ b. ap (λ z. is_enabled z b) part ∙ sym (enabled-push h (Sched e) b);
                entries = (let n = was.0 in omega (arith, more, n));
                in_tx = ap (λ z. tx_of (log z) s) part ∙ was.1;
              },
              none,
            );
        rests = λ t. absurd (both_ways (is_entry_of s (open_entry_of g)) t op);
        reads = tried_none a.front g s y none;
        log_faults = faults_push a.front h (Sched e) s (λ q. refl) w.log_faults;
      }

  -- the session changes while no entry of it is open
  pub seen_changed : (y : OpenSession) → is_entry_of s (open_entry_of h) ≡ false → y.least ≡ x.least → TriedSince a.front h s y → StandsSince p a h s y
  seen_changed y idle least tried =
      record {
        least = least ∙ w.least;
        waits = λ t. absurd (both_ways (is_entry_of s (open_entry_of h)) idle t);
        rests = w.rests;
        reads = tried;
        log_faults = w.log_faults;
      }

-- a session that was answered has seen all
pub seen_fresh : (p : Placement) (h : List Event) (s : ℕ) (x : OpenSession) → is_entry_of s (open_entry_of h) ≡ false → x.reading ≡ None → StandsSince p (record { front = h; least = x.least }) h s x
seen_fresh p h s x idle none =
    record {
      least = refl;
      waits = λ t. absurd (both_ways (is_entry_of s (open_entry_of h)) idle t);
      rests = λ t. (refl, refl);
      reads = tried_none h h s x none;
      log_faults = λ q. refl;
    }

-- a mask with one backend more
pub with_cases : (m b k : ℕ) → in_mask (with_backend m b) k ≡ true → (k ≡ b) ⊎ (in_mask m k ≡ true)
with_cases m b k t = ⊎_elim (λ (e : k ≡ b). inl e) (λ (e : k ≡ b → ⊥). inr (sym (has-with_other m b k e) ∙ t)) (cases_eq k b)

-- a read that fails at one backend more, and stays open
pub tried_again : (front h : List Event) (s b : ℕ) (x : OpenSession) (select : Select) → length front ≤ length h → TriedSince front h s x
    → TriedSince front (h ++ ReadFailed s (read_number x) b ∷ []) s (still_reading select (with_backend (tried_of x.reading) b) x)
tried_again front h s b x select low tried =
    let ev : Event = ReadFailed s (read_number x) b in
    let many : length (h ++ ev ∷ []) ≡ length h + 1 = length-append h (ev ∷ []) in
    let now : HasFailedSince front (h ++ ev ∷ []) s (read_number x) b = record { k = length h; low = low; high = omega arith; is = get_seam h [] ev } in
    tried_still front (h ++ ev ∷ []) s x select (with_backend (tried_of x.reading) b)
    (λ k t.
    ⊎_elim (λ (e : k ≡ b). subst (λ (i : ℕ). HasFailedSince front (h ++ ev ∷ []) s (read_number x) i) (sym e) now)
    (λ (was : in_mask (tried_of x.reading) k ≡ true). failed_push front h ev s (read_number x) k (prior front h s x tried k was))
    (with_cases (tried_of x.reading) b k t))

-- ---- from one state to the next

-- In z the history is h, and session s stands as x.
pub record Follows (c z : Core) (h : List Event) (s : ℕ) (x : OpenSession) : Type 0 where
  pub placement : z.placement ≡ c.placement
  pub history : z.history ≡ h
  pub longer : IsPrefix c.history h
  pub greatest : c.greatest ≤ z.greatest
  pub was_open : is_open z s ≡ true → is_open c s ≡ true
  pub session : session_at z s ≡ x

-- z is y, a state that goes on from c
module _ (c z : Core) {y : Core} (s : ℕ) (is : z ≡ y) (placement : y.placement ≡ c.placement) (longer : IsPrefix c.history y.history) (greatest : y.greatest ≡ c.greatest) where
  -- the greatest number given is as before
  no_less : c.greatest ≤ z.greatest
  no_less = let n : z.greatest ≡ c.greatest = ap (λ (x : Core). x.greatest) is ∙ greatest in omega arith

  -- the session itself changes
  pub follows_own : (f : OpenSession → OpenSession) → ((x : OpenSession) → (f x).number ≡ x.number) → y.sessions ≡ with_session c.sessions s f → is_open c s ≡ true
      → Follows c z y.history s (f (session_at c s))
  follows_own f keeps changed here =
      record {
        placement = ap (λ (x : Core). x.placement) is ∙ placement;
        history = ap (λ (x : Core). x.history) is;
        longer = longer;
        greatest = no_less;
        was_open = λ t. here;
        session = session_at-same c z s f keeps (ap (λ (x : Core). x.sessions) is ∙ changed) here;
      }

  -- it is found as before
  pub follows_rest : find_session y.sessions s ≡ find_session c.sessions s → Follows c z y.history s (session_at c s)
  follows_rest same =
      let found : find_session z.sessions s ≡ find_session c.sessions s = ap (λ (x : Core). find_session x.sessions s) is ∙ same in
      record {
        placement = ap (λ (x : Core). x.placement) is ∙ placement;
        history = ap (λ (x : Core). x.history) is;
        longer = longer;
        greatest = no_less;
        was_open = λ t. sym (ap is_some found) ∙ t;
        session = session_at-other c z s found;
      }

-- what stood between two replies stands still, where it does over what changes while the session is open
pub between_while_open : (a : SessionView) (c z : Core) (h : List Event) (s : ℕ) (x : OpenSession) → IsBetweenReplies a c s → Follows c z h s x
    → (is_open c s ≡ true → StandsSince c.placement a c.history s (session_at c s) → StandsSince c.placement a h s x) → IsBetweenReplies a z s
between_while_open a c z h s x j f step =
    let n : c.greatest ≤ z.greatest = f.greatest in
    record {
      longer = prefix_trans a.front c.history z.history j.longer (subst (λ (g : List Event). IsPrefix c.history g) (sym f.history) f.longer);
      owes = j.owes;
      here =
          λ t.
          subst (λ (p : Placement). StandsSince p a z.history s (session_at z s)) (sym f.placement)
          (subst (λ (g : List Event). StandsSince c.placement a g s (session_at z s)) (sym f.history)
          (subst (λ (y : OpenSession). StandsSince c.placement a h s y) (sym f.session) (step (f.was_open t) (j.here (f.was_open t)))));
      later = λ lt. j.later (omega arith);
    }

-- and where it does over what changes in any case
pub between_follows : (a : SessionView) (c z : Core) (h : List Event) (s : ℕ) (x : OpenSession) → IsBetweenReplies a c s → Follows c z h s x
    → (StandsSince c.placement a c.history s (session_at c s) → StandsSince c.placement a h s x) → IsBetweenReplies a z s
between_follows a c z h s x j f step = between_while_open a c z h s x j f (λ here. step)

-- ---- after a reply

-- what holds of a fresh session, and of an open one, holds of each
session_cases : (c : Core) (s : ℕ) (P : OpenSession → Type 0) → P (new_session s []) → ((x : OpenSession) → find_session c.sessions s ≡ Some x → P x) → P (session_at c s)
session_cases c s P new old = one (find_session c.sessions s) refl
  where
    one : (o : Option OpenSession) → find_session c.sessions s ≡ o → P (session_at c s)
    one None is = subst P (sym (session_at-is c s None is)) new
    one (Some x) is = subst P (sym (session_at-is c s (Some x) is)) (old x is)

-- a session needs no position beyond the log
pub session_owes : (c : Core) (s : ℕ) → CoreInvariant c → (session_at c s).least ≤ length (log c.history)
session_owes c s w =
    session_cases c s (λ (x : OpenSession). x.least ≤ length (log c.history)) (let le : 0 ≤ length (log c.history) = omega arith in le)
    (λ x is. (found_all (IsSoundSession c.history c.greatest) c.sessions s x w.sessions is).owes)

-- a session that has no number yet is not open
new_unknown : (c : Core) (s : ℕ) → CoreInvariant c → c.greatest < s → find_session c.sessions s ≡ None
new_unknown c s w lt =
    found_none c.sessions s (All-weaker (IsSoundSession c.history c.greatest) (λ (x : OpenSession). x.number ≢ s) (λ x q. let le : x.number ≤ c.greatest = q.number.1 in omega arith) c.sessions w.sessions)

-- a session that was answered has seen the whole history
pub between_fresh : (z : Core) (s : ℕ) → CoreInvariant z → is_entry_of s (open_entry_of z.history) ≡ false → (session_at z s).reading ≡ None → IsBetweenReplies (seen_at z s) z s
between_fresh z s w idle none =
    record {
      longer = prefix_self z.history;
      owes = session_owes z s w;
      here = λ t. seen_fresh z.placement z.history s (session_at z s) idle none;
      later = λ lt. ap (λ (x : OpenSession). x.least) (session_at-is z s None (new_unknown z s w lt));
    }

-- ---- sessions that open and close

-- no entry is by a session that has no number yet
entries_none : (s : ℕ) (entries : List Entry) → All (λ (e : Entry). e.session < s) entries → count_by (λ (e : Entry). e.session == s) entries ≡ 0
entries_none s [] all = refl
entries_none s (e ∷ es) all =
    let lt : e.session < s = All-head (λ (x : Entry). x.session < s) e es all in
    rw (ne_eqb e.session s (omega arith)) (entries_none s es (All-tail (λ (x : Entry). x.session < s) e es all))

-- nor in what the history began as
entries_begin : (s : ℕ) (front h : List Event) → IsPrefix front h → All (λ (e : Entry). e.session < s) (log h) → entry_count_of s front ≡ 0
entries_begin s front h longer all = entries_none s (log front) (all_begin (λ (e : Entry). e.session < s) front h longer all)

-- what holds of each entry holds of the open one
pub opened_all : (P : Entry → Type 0) (h : List Event) (e : Entry) → All P (log h) → open_entry_of h ≡ Some e → P e
opened_all P h e all is = subst P (get_or_from_slice_get (log h) (ended_count h) e e is) (All-get_or P (log h) (ended_count h) e (slice_get_within (log h) (ended_count h) e is) all)

-- nor is the open entry by it
idle_new : (s : ℕ) (h : List Event) → All (λ (e : Entry). e.session < s) (log h) → is_entry_of s (open_entry_of h) ≡ false
idle_new s h all = one (open_entry_of h) refl
  where
    one : (o : Option Entry) → open_entry_of h ≡ o → is_entry_of s o ≡ false
    one None is = refl
    one (Some e) is = let lt : e.session < s = opened_all (λ (x : Entry). x.session < s) h e all is in ne_eqb e.session s (omega arith)

-- a session that opens has seen what it is to have seen
pub between_opened : (a : SessionView) (c z : Core) (s : ℕ) (user : List ℕ) → CoreInvariant c → IsBetweenReplies a c s → s ≡ c.greatest + 1
    → z ≡ record c { sessions = c.sessions ++ new_session s user ∷ []; greatest = s } → IsBetweenReplies a z s
between_opened a c z s user w j new is =
    let x : OpenSession = new_session s user in
    let younger : All (λ (e : Entry). e.session < s) (log c.history) = All-weaker (λ (e : Entry). e.session ≤ c.greatest) (λ (e : Entry). e.session < s) (λ e le. omega arith) (log c.history) w.known in
    let below : All (λ (y : OpenSession). y.number < s) c.sessions =
    All-weaker (IsSoundSession c.history c.greatest) (λ (y : OpenSession). y.number < s) (λ y q. let le : y.number ≤ c.greatest = q.number.1 in omega arith) c.sessions w.sessions
    in
    let found : find_session (c.sessions ++ x ∷ []) s ≡ Some x = session_of-push_same c.sessions x below in
    let hist : z.history ≡ c.history = ap (λ (y : Core). y.history) is in
    let here : session_at z s ≡ x = session_at-is z s (Some x) (ap (λ (y : Core). find_session y.sessions s) is ∙ found) in
    let n : z.greatest ≡ s = ap (λ (y : Core). y.greatest) is in
    let idle : is_entry_of s (open_entry_of c.history) ≡ false = idle_new s c.history younger in
    let owes : a.least ≡ 0 = j.later (omega arith) in
    let begun : StandsSince z.placement a c.history s x =
    record {
      least = sym owes;
      waits = λ t. absurd (both_ways (is_entry_of s (open_entry_of c.history)) idle t);
      rests =
          λ t. (
            entries_none s (log c.history) younger ∙ sym (entries_begin s a.front c.history j.longer younger),
            tx_of_unknown s (log c.history) younger ∙ sym (tx_of_unknown_begin s a.front c.history j.longer younger),
          );
      reads = tried_none a.front c.history s x refl;
      log_faults = λ q. let none = w.log_faults s q (omega arith) in none ∙ sym (log_faults-begin a.front c.history s q j.longer none);
    }
    in
    record {
      longer = subst (λ (g : List Event). IsPrefix a.front g) (sym hist) j.longer;
      owes = j.owes;
      here = λ t. subst (λ (g : List Event). StandsSince z.placement a g s (session_at z s)) (sym hist) (subst (StandsSince z.placement a c.history s) (sym here) begun);
      later = λ lt. absurd (omega arith);
    }

-- another one opens
pub follows_opened : (c z : Core) (s n : ℕ) (user : List ℕ) → s ≢ n → n ≡ c.greatest + 1 → z ≡ record c { sessions = c.sessions ++ new_session n user ∷ []; greatest = n }
    → Follows c z c.history s (session_at c s)
follows_opened c z s n user other new is =
    let g : z.greatest ≡ n = ap (λ (y : Core). y.greatest) is in
    let found : find_session z.sessions s ≡ find_session c.sessions s = ap (λ (y : Core). find_session y.sessions s) is ∙ session_of-push_other c.sessions (new_session n user) s other in
    record {
      placement = ap (λ (y : Core). y.placement) is;
      history = ap (λ (y : Core). y.history) is;
      longer = prefix_self c.history;
      greatest = omega arith;
      was_open = λ t. sym (ap is_some found) ∙ t;
      session = session_at-other c z s found;
    }

-- a session that closes, which is answered no more
pub between_closed : (a : SessionView) (c z : Core) (s : ℕ) → IsBetweenReplies a c s → z ≡ record c { sessions = without s c.sessions } → IsBetweenReplies a z s
between_closed a c z s j is =
    let hist : z.history ≡ c.history = ap (λ (y : Core). y.history) is in
    let n : z.greatest ≡ c.greatest = ap (λ (y : Core). y.greatest) is in
    let gone : is_open z s ≡ false = ap is_some (ap (λ (y : Core). find_session y.sessions s) is ∙ session_of-without_same c.sessions s) in
    record {
      longer = subst (λ (g : List Event). IsPrefix a.front g) (sym hist) j.longer;
      owes = j.owes;
      here = λ t. absurd (both_ways (is_open z s) gone t);
      later = λ lt. j.later (omega arith);
    }
