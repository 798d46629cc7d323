-- Transactions are ended in a start, one after another.
use Rattle.std.proofs.Common.{◌≡◌, ◌≢◌, inl, inr, ℕ, ◌+◌, ◌-◌, ◌<◌, ◌≤◌, ◌==◌, ◌&&◌, ◌||◌, not, Bool, true, false, cond, List, [], ◌∷◌, ◌++◌, length, get_or, slice_get, Option, None, Some, is_some, refl, ap, sym, ◌∙◌, subst, arith, append_assoc, append-nil, length-append, ⊎_elim}
use Rattle.cj_start.proofs.Common.{abort_entry, AbortsEach, all_at_end, AllStand, answered_at, AreStanding, cases_eq, cond-false, Core, enabled-push, Ended, ended_for, EndedTo, EndedWhere, Entry, open_entry_of, entry_numbered, Event}
use Rattle.cj_start.proofs.Common.{faults_of, filter, filter_map-append, filter_of_map_range_with_len_more, find_session, first_lagging, free-ended, free-sched, get_left, has-zero, in_mask, is_enabled, is_entry_of, is_free, is_open, is_orphan}
use Rattle.cj_start.proofs.Common.{is_orphan_of, is_there, is_waiting, IsSameWorldButLog, IsSameCluster, IsWorld, last_number, log, log-same, log-sched, map-id, ne_eqb, OnlyTakes, opened-sched, OpenSession, position_at, range_with_len, Sched, scheduled_entry, slice_get-get_or}
use Rattle.cj_start.proofs.Common.{StandsAfterStart, StandsBefore, StandsBehind, TakesPast, TransactionEnded, tx_of, tx_of_end, tx_of_end_other, with_abort, with_core, with_entry, with_session, WorldState}

-- ---- one transaction

module _ (tx : ℕ) (old sched : WorldState) (came : IsSameWorldButLog (with_core old (with_entry old.core (abort_entry old.core tx))) sched) where
  abbrev entry : Entry
  entry = abort_entry old.core tx

  core_then : sched.core ≡ with_entry old.core entry
  core_then = ap (λ (w : WorldState). w.core) came

  history_then : sched.core.history ≡ old.core.history ++ Sched entry ∷ []
  history_then = ap (λ (c : Core). c.history) core_then

  pub scheduled_open : is_free old.core.history ≡ true → is_free sched.core.history ≡ false
  scheduled_open idle = ap (λ (h : List Event). is_free h) history_then ∙ free-sched old.core.history entry idle

  on_then : (b : ℕ) → is_enabled sched.core.history b ≡ is_enabled old.core.history b
  on_then b = ap (λ (h : List Event). is_enabled h b) history_then ∙ enabled-push old.core.history (Sched entry) b

  position_then : (b : ℕ) → position_at sched.core b ≡ position_at old.core b
  position_then b = ap (λ (c : Core). position_at c b) core_then

  last_then : last_number sched.core ≡ last_number old.core + 1
  last_then = ap (λ (h : List Event). length (log h)) history_then ∙ (ap (λ (entries : List Entry). length entries) (log-sched old.core.history entry) ∙ length-append (log old.core.history) (entry ∷ []))

  unmasked_then : (b : ℕ) → in_mask sched.core.failed b ≡ false
  unmasked_then b = ap (λ (c : Core). in_mask c.failed b) core_then ∙ has-zero b

  counted_then : (b : ℕ) → slice_get (faults_of sched.cells) b ≡ slice_get (faults_of old.cells) b
  counted_then b = ap (λ (w : WorldState). slice_get (faults_of w.cells) b) came

  -- each backend that stands as after a start, stands before the entry
  before_it : (faults : List ℕ) (b : ℕ) → StandsAfterStart faults old b → StandsBefore faults sched b
  before_it faults b (inl there) =
      inl
      (record {
        on = on_then b ∙ there.0;
        p = last_number old.core;
        taken = record { position = position_then b ∙ there.1; counted = counted_then b ∙ there.2 };
        next = last_then;
        unmasked = unmasked_then b;
      })
  before_it faults b (inr out) =
      inr (record { off = on_then b ∙ out.0; out = record { position = position_then b ∙ out.1; counted = counted_then b ∙ out.2 }; unmasked = unmasked_then b })

  module _ (mid : WorldState) (only : OnlyTakes sched mid) (all : (b : ℕ) → b < sched.core.placement.backends → TakesPast sched mid b) (starved : mid.core.starved ≡ sched.core.starved) where
    -- and behind it
    behind_it : (faults : List ℕ) → AllStand faults old → (b : ℕ) → b < old.core.placement.backends → StandsBehind faults mid b
    behind_it faults stands b lt = all b (subst (λ p. b < p) (sym (ap (λ (c : Core). c.placement.backends) core_then)) lt) faults (before_it faults b (stands b lt))

    history_mid : mid.core.history ≡ old.core.history ++ Sched entry ∷ []
    history_mid = ap (λ (c : Core). c.history) only.core ∙ history_then

    backends_mid : mid.core.placement.backends ≡ old.core.placement.backends
    backends_mid = ap (λ (c : Core). c.placement.backends) only.core ∙ ap (λ (c : Core). c.placement.backends) core_then

    pub taken_open : is_free old.core.history ≡ true → is_free mid.core.history ≡ false
    taken_open idle = ap (λ (c : Core). is_free c.history) only.core ∙ scheduled_open idle

    -- the administrator waits for it
    pub taken_waits : is_free old.core.history ≡ true → is_waiting mid.core 0 ≡ true
    taken_waits idle = ap (λ (h : List Event). is_entry_of 0 (open_entry_of h)) history_mid ∙ ap (λ (o : Option Entry). is_entry_of 0 o) (opened-sched old.core.history entry idle)

    at_end : (faults : List ℕ) (b q : ℕ) → position_at mid.core b ≡ Some q → StandsBehind faults mid b → q ≡ last_number mid.core
    at_end faults b q at (inl done) = cc (at, done.taken.position)
    at_end faults b q at (inr (inl failed)) = absurd (cc (at, failed.out.position))
    at_end faults b q at (inr (inr was)) = absurd (cc (at, was.out.position))

    -- and no backend lags
    pub taken_by_all : (tells : Bool) → IsWorld tells mid → AreStanding old → first_lagging mid.core.history 0 mid.core.positions ≡ None
    taken_by_all tells world standing =
        all_at_end mid.core.history 0 mid.core.positions
        (λ b q at on.
        let there : b < length mid.core.positions = is_there mid.core.positions b q at in
        let cells : length mid.core.positions ≡ mid.core.placement.backends = world.sound.cells in
        let same : mid.core.placement.backends ≡ old.core.placement.backends = backends_mid in
        let within : b < old.core.placement.backends = omega arith in
        at_end standing.0 b q at (behind_it standing.0 standing.1 b within))

    -- the world behind the entry's end
    abbrev closed : WorldState
    closed = with_core mid (ended_for mid.core 0)

    none_starved : mid.core.starved ≡ 0
    none_starved = starved ∙ ap (λ (c : Core). c.starved) core_then

    history_whole : closed.core.history ≡ with_abort old.core.history tx mid.core.failed
    history_whole =
        ap (λ (h : List Event). h ++ Ended mid.core.failed mid.core.starved ∷ []) history_mid
        ∙ (append_assoc old.core.history (Sched entry ∷ []) (Ended mid.core.failed mid.core.starved ∷ []) ∙ ap (λ (s : ℕ). old.core.history ++ Sched entry ∷ Ended mid.core.failed s ∷ []) none_starved)

    last_new : last_number closed.core ≡ last_number mid.core
    last_new = ap (λ (entries : List Entry). length entries) (log-same mid.core.history (Ended mid.core.failed mid.core.starved) refl)

    on_new : (b : ℕ) (on failed : Bool) → is_enabled mid.core.history b ≡ on → in_mask mid.core.failed b ≡ failed → is_enabled closed.core.history b ≡ (on && not (failed || false))
    on_new b on failed is masked =
        enabled-push mid.core.history (Ended mid.core.failed mid.core.starved) b
        ∙ (ap (λ (o : Bool). o && not (in_mask mid.core.failed b || in_mask mid.core.starved b)) is
        ∙ (ap (λ (f : Bool). on && not (f || in_mask mid.core.starved b)) masked
        ∙ ap (λ (s : Bool). on && not (failed || s)) (ap (λ (m : ℕ). in_mask m b) none_starved ∙ has-zero b)))

    -- each backend stands as after a start again
    after_it : (faults : List ℕ) (b : ℕ) → StandsBehind faults mid b → StandsAfterStart faults closed b
    after_it faults b (inl done) = inl (on_new b true false done.on done.unmasked, done.taken.position ∙ ap (λ (n : ℕ). Some n) (sym last_new), done.taken.counted)
    after_it faults b (inr (inl failed)) = inr (on_new b true true failed.on failed.masked, failed.out.position, failed.out.counted)
    after_it faults b (inr (inr was)) = inr (on_new b false false was.off was.unmasked, was.out.position, was.out.counted)

    sessions_mid : mid.core.sessions ≡ old.core.sessions
    sessions_mid = ap (λ (c : Core). c.sessions) only.core ∙ ap (λ (c : Core). c.sessions) core_then

    -- the transaction was ended
    pub transaction_ended : (now : WorldState) → now ≡ with_core mid (ended_for mid.core 0) → (tells : Bool) → IsWorld tells mid → is_free old.core.history ≡ true → old.core.sessions ≡ [] → TransactionEnded tx old now
    transaction_ended now is tells world idle alone =
        let one = world.sound.one_open in
        subst (TransactionEnded tx old) (sym is)
        (record {
          failed = mid.core.failed;
          history = history_whole;
          idle = free-ended mid.core.history mid.core.failed mid.core.starved (taken_open idle) one.0 one.1;
          same =
              record {
                placement = ap (λ (c : Core). c.placement) only.core ∙ ap (λ (c : Core). c.placement) core_then;
                sessions = ap (λ (ss : List OpenSession). with_session ss 0 (answered_at (last_number mid.core))) (sessions_mid ∙ alone) ∙ sym alone;
                greatest = ap (λ (c : Core). c.greatest) only.core ∙ ap (λ (c : Core). c.greatest) core_then;
                dumps = ap (λ (c : Core). c.dumps) only.core ∙ ap (λ (c : Core). c.dumps) core_then;
                setup = only.setup ∙ ap (λ (w : WorldState). w.setup) came;
                cache = only.cache ∙ ap (λ (w : WorldState). w.cache) came;
                balance = only.balance ∙ ap (λ (w : WorldState). w.balance) came;
              };
          stands = λ faults stands b lt. after_it faults b (behind_it faults stands b (subst (λ p. b < p) backends_mid lt));
        })

-- ---- which are open

-- the entries of before keep their numbers
numbered_still : (entries : List Entry) (e : Entry) (n : ℕ) → 0 < n → n ≤ length entries → entry_numbered (entries ++ e ∷ []) n ≡ entry_numbered entries n
numbered_still entries e n some most =
    let ne : n ≢ 0 = λ z. absurd (omega (arith, z)) in
    let lt : n - 1 < length entries = omega arith in
    let there : slice_get entries (n - 1) ≡ Some (get_or entries (n - 1) e) = slice_get-get_or entries (n - 1) e lt in
    cond-false (n == 0) None (slice_get (entries ++ e ∷ []) (n - 1)) (ne_eqb n 0 ne)
    ∙ (get_left entries (e ∷ []) (n - 1) (get_or entries (n - 1) e) there ∙ (sym there ∙ sym (cond-false (n == 0) None (slice_get entries (n - 1)) (ne_eqb n 0 ne))))

-- an entry's transaction is open as before, where it is its session's as before and the sessions are the same
pub orphan_of_same : (c d : Core) (t : ℕ) (o : Option Entry) → c.sessions ≡ d.sessions → ((s : ℕ) → (tx_of (log c.history) s == t) ≡ (tx_of (log d.history) s == t)) → is_orphan_of c t o ≡ is_orphan_of d t o
orphan_of_same c d t None sessions same = refl
orphan_of_same c d t (Some begin) sessions same =
    ap (λ (own : Bool). own && not (is_open c begin.session)) (same begin.session)
    ∙ ap (λ (ss : List OpenSession). (tx_of (log d.history) begin.session == t) && not (is_some (find_session ss begin.session))) sessions

module _ (old new : WorldState) (tx failed : ℕ) (history : new.core.history ≡ with_abort old.core.history tx failed) (sessions : new.core.sessions ≡ old.core.sessions) where
  abbrev last : Entry
  last = abort_entry old.core tx

  entries_grown : log new.core.history ≡ log old.core.history ++ last ∷ []
  entries_grown = ap (λ (h : List Event). log h) history ∙ filter_map-append scheduled_entry old.core.history (Sched last ∷ Ended failed 0 ∷ [])

  pub longer_by_one : last_number new.core ≡ last_number old.core + 1
  longer_by_one = ap (λ (entries : List Entry). length entries) entries_grown ∙ length-append (log old.core.history) (last ∷ [])

  -- a session's transaction, if it isn't this one, stays open
  same_tx : (s t : ℕ) → t ≢ tx → 0 < t → (tx_of (log new.core.history) s == t) ≡ (tx_of (log old.core.history) s == t)
  same_tx s t ne some =
      ⊎_elim
      (λ (its : tx ≡ tx_of (log old.core.history) s).
      let none : tx_of (log new.core.history) s ≡ 0 = ap (λ (entries : List Entry). tx_of entries s) entries_grown ∙ tx_of_end (log old.core.history) last s refl its in
      let zero : tx_of (log new.core.history) s ≢ t = λ e. absurd (omega (arith, e, none)) in
      let other : tx_of (log old.core.history) s ≢ t = λ e. ne (sym (its ∙ e)) in
      ne_eqb (tx_of (log new.core.history) s) t zero ∙ sym (ne_eqb (tx_of (log old.core.history) s) t other))
      (λ (others : tx ≡ tx_of (log old.core.history) s → ⊥).
      ap (λ (n : ℕ). n == t) (ap (λ (entries : List Entry). tx_of entries s) entries_grown ∙ tx_of_end_other (log old.core.history) last s refl others))
      (cases_eq tx (tx_of (log old.core.history) s))

  -- the others are open as before
  pub orphan_still : (t : ℕ) → t ≢ tx → 0 < t → t ≤ last_number old.core → is_orphan new.core t ≡ is_orphan old.core t
  orphan_still t ne some most =
      ap (λ (o : Option Entry). is_orphan_of new.core t o) (ap (λ (entries : List Entry). entry_numbered entries t) entries_grown ∙ numbered_still (log old.core.history) last t some most)
      ∙ orphan_of_same new.core old.core t (entry_numbered (log old.core.history) t) sessions (λ s. same_tx s t ne some)

-- ---- all of them

aborts_then : (h : List Event) (txs : List ℕ) (mid : List Event) (tx failed : ℕ) (z : List Event) → AbortsEach h txs mid → z ≡ with_abort mid tx failed → AbortsEach h (txs ++ tx ∷ []) z
aborts_then h [] mid tx failed z aborts is = (failed, is ∙ ap (λ (g : List Event). with_abort g tx failed) aborts)
aborts_then h (t ∷ txs) mid tx failed z aborts is = (aborts.0, aborts_then (with_abort h t aborts.0) txs mid tx failed z aborts.1 is)

-- those up to the next number that pass a test
passing_next : (p : ℕ → Bool) (i : ℕ) → filter p (range_with_len 1 (i + 1)) ≡ filter p (range_with_len 1 i) ++ cond (p (i + 1)) ((i + 1) ∷ []) []
passing_next p i =
    let next : 1 + i ≡ i + 1 = omega arith in
    sym (ap (filter p) (map-id (range_with_len 1 (i + 1)))) ∙ (filter_of_map_range_with_len_more p (λ n. n) 1 i (i + 1) next ∙ ap (λ (ns : List ℕ). filter p ns ++ cond (p (i + 1)) ((i + 1) ∷ []) []) (map-id (range_with_len 1 i)))

cluster_then : (old mid new : WorldState) → IsSameCluster old mid → IsSameCluster mid new → IsSameCluster old new
cluster_then old mid new x y =
    record {
      placement = y.placement ∙ x.placement;
      sessions = y.sessions ∙ x.sessions;
      greatest = y.greatest ∙ x.greatest;
      dumps = y.dumps ∙ x.dumps;
      setup = y.setup ∙ x.setup;
      cache = y.cache ∙ x.cache;
      balance = y.balance ∙ x.balance;
    }

module _ (old now new : WorldState) (i : ℕ) (to : EndedTo old now i) (within : i < last_number old.core) where
  was_open : is_orphan now.core (i + 1) ≡ is_orphan old.core (i + 1)
  was_open =
      let lt : i < i + 1 = omega arith in
      let most : i + 1 ≤ last_number old.core = omega arith in
      to.later (i + 1) lt most

  passing : (o : Bool) → is_orphan now.core (i + 1) ≡ o → filter (is_orphan old.core) (range_with_len 1 (i + 1)) ≡ filter (is_orphan old.core) (range_with_len 1 i) ++ cond o ((i + 1) ∷ []) []
  passing o is = passing_next (is_orphan old.core) i ∙ ap (λ (b : Bool). filter (is_orphan old.core) (range_with_len 1 i) ++ cond b ((i + 1) ∷ []) []) (sym was_open ∙ is)

  ended_this : is_orphan now.core (i + 1) ≡ true → TransactionEnded (i + 1) now new → EndedTo old new (i + 1)
  ended_this open_now ends =
      let longer : last_number old.core ≤ last_number now.core = to.longer in
      let more : last_number new.core ≡ last_number now.core + 1 = longer_by_one now new (i + 1) ends.failed ends.history ends.same.sessions in
      record {
        history =
            subst (λ (txs : List ℕ). AbortsEach old.core.history txs new.core.history) (sym (passing true open_now))
            (aborts_then old.core.history (filter (is_orphan old.core) (range_with_len 1 i)) now.core.history (i + 1) ends.failed new.core.history to.history ends.history);
        later =
            λ tx lt most.
            let ne : tx ≢ i + 1 = λ e. absurd (omega (arith, e)) in
            let some : 0 < tx = omega arith in
            let there : tx ≤ last_number now.core = omega arith in
            let before : i < tx = omega arith in
            orphan_still now new (i + 1) ends.failed ends.history ends.same.sessions tx ne some there ∙ to.later tx before most;
        longer = omega arith;
        idle = ends.idle;
        same = cluster_then old now new to.same ends.same;
        stands = λ faults stands. ends.stands faults (to.stands faults stands);
        uncalled = λ none. absurd (omega (arith, none));
      }

  left_closed : is_orphan now.core (i + 1) ≡ false → EndedTo old now (i + 1)
  left_closed closed =
      record {
        history =
            subst (λ (txs : List ℕ). AbortsEach old.core.history txs now.core.history) (sym (passing false closed ∙ append-nil (filter (is_orphan old.core) (range_with_len 1 i)))) to.history;
        later = λ tx lt most. let before : i < tx = omega arith in to.later tx before most;
        longer = to.longer;
        idle = to.idle;
        same = to.same;
        stands = to.stands;
        uncalled = to.uncalled;
      }

  ended_where : (o : Bool) → is_orphan now.core (i + 1) ≡ o → EndedWhere o (i + 1) now new → EndedTo old new (i + 1)
  ended_where true is ends = ended_this is ends
  ended_where false is ends = subst (λ (w : WorldState). EndedTo old w (i + 1)) (sym ends) (left_closed is)

  -- and so was this one, if it was open
  pub ended_next : EndedWhere (is_orphan now.core (i + 1)) (i + 1) now new → EndedTo old new (i + 1)
  ended_next ends = ended_where (is_orphan now.core (i + 1)) refl ends
