-- A session's calls over a whole world are turns of its desk.
use Rattle.std.proofs.Common.{◌≡◌, ℕ, ◌+◌, ◌<◌, ◌≤◌, Bool, true, false, cond, List, [], ◌∷◌, ◌++◌, length, map, slice_get, Option, None, Some, Ok, Err, refl, ap, sym, ◌∙◌, subst, arith, append_assoc, length-append}
use Rattle.cj_calls.proofs.Common.{AnswersEntry, append-nil, between_follows, between_fresh, Call, call_of_entry, Core, CoreInvariant, enabled-push, End, Ended, ended_count, ended_for, EndsEntry, entries-same, entries-sched, Entry, entry_count_of, open_entry_of}
use Rattle.cj_calls.proofs.Common.{EntryTaken, eq-eqb, Event, events_left, first_lagging, FitsTx, follows_own, follows_rest, free-same, get_left, get_seam, HasFailedSince, HasServer, is_enabled, is_entry_of, is_free, is_open, is_waiting, IsBetweenReplies, log}
use Rattle.cj_calls.proofs.Common.{log-same, log-sched, log_failure_of, LogFailed, MatchOption, MovesTo, not_now, NotNow, opened-free, prefix_self, ReadFailed, Replied, Reply, reply_given, request_of, Sched, scheduled_as, seen_at, seen_sched}
use Rattle.cj_calls.proofs.Common.{cond_both, session_at, SessionView, StandsBetweenCalls, tells_log_failure, Turn, tx_after_entry, tx_of, tx_of_own, with_end, with_one_request, with_request_counted, WorldState}
use Rattle.cj_cluster.specs.declared.moves.Why.{Why}
use Rattle.cj_cluster.proofs.Answered.{After, moves_after}

-- ---- each call steps as every desk does, and what it does besides

-- between its calls no entry of the session is open
pub stands_idle : (c : Core) (s : ℕ) → StandsBetweenCalls c s → is_waiting c s ≡ false
stands_idle c s stands = ap (is_entry_of s) (opened-free c.history stands.idle)

-- a request counted leaves all but the count of the session
pub counted_session : (c : Core) (s : ℕ) → is_open c s ≡ true → session_at (with_request_counted c s) s ≡ with_one_request (session_at c s)
counted_session c s here = (follows_own c (with_request_counted c s) s refl refl (prefix_self c.history) refl with_one_request (λ x. refl) refl here).session

-- ---- a write

-- its entry is scheduled
pub between_scheduled : (c z : Core) (s : ℕ) (e : Entry) → CoreInvariant c → StandsBetweenCalls c s → e.session ≡ s → HasServer c.placement c.history (request_of e.act) → 3 ≤ events_left c.history → z ≡ scheduled_as c s e
    → IsBetweenReplies (seen_at c s) z s
between_scheduled c z s e w stands own served space is =
    let idle : is_entry_of s (open_entry_of c.history) ≡ false = stands_idle c s stands in
    between_follows (seen_at c s) c z (c.history ++ Sched e ∷ []) s (with_one_request (session_at c s)) (between_fresh c s w idle stands.no_read)
    (follows_own c z s is refl (Sched e ∷ [], refl) refl with_one_request (λ x. refl) refl stands.here)
    (λ q. seen_sched c.placement (seen_at c s) c.history s (session_at c s) q e (with_one_request (session_at c s)) stands.idle own served space (prefix_self c.history) refl stands.no_read)

-- backends take it
pub between_taken : (a : SessionView) (old mid : WorldState) (s : ℕ) (user : List ℕ) → EntryTaken user old mid → IsBetweenReplies a old.core s → IsBetweenReplies a mid.core s
between_taken a old mid s user t j =
    between_follows a old.core mid.core old.core.history s (session_at old.core s) j (follows_rest old.core mid.core s t.core refl (prefix_self old.core.history) refl refl) (λ x. x)

-- and it ends, which is the turn
pub turn_ended : (tells : Bool) (a : SessionView) (c z : Core) (s : ℕ) (e : Entry) (reply : Reply) → 0 < s → CoreInvariant c → CoreInvariant z → IsBetweenReplies a c s → is_free c.history ≡ false
    → first_lagging c.history 0 c.positions ≡ None → open_entry_of c.history ≡ Some e → e.session ≡ s → AnswersEntry tells c.placement c.history (with_end c) (ended_count c.history) e reply → z ≡ ended_for c s
    → Turn tells c.placement s a (call_of_entry (Some e) reply) (seen_at z s)
turn_ended tells a c z s e reply some w v j running everywhere is own answer after =
    let now : not_now c End ≡ None = rw (running, everywhere) refl in
    let ends : MovesTo tells c End (Ok (Replied s reply)) z =
    subst (λ (o : Option Why). MatchOption o (EndsEntry tells c (Ok (Replied s reply)) z) (λ (why : Why). (Ok (Replied s reply) ≡ Err (NotNow why)) × (z ≡ c))) (sym now) (e, is, sym own, answer, after)
    in
    let given : reply_given c s End (Ok (Replied s reply)) ≡ Some reply = rw (eq-eqb s s refl) refl in
    let left : After tells a c s End z (Some reply) = subst (After tells a c s End z) given (moves_after tells a c z s some w v j End (Ok (Replied s reply)) ends) in
    subst (λ (o : Option Entry). Turn tells c.placement s a (call_of_entry o reply) (seen_at z s)) is left.0

-- what the history is then
module _ (s : ℕ) (h g : List Event) (e : Entry) (failed starved : ℕ) (own : e.session ≡ s) (is : g ≡ h ++ Sched e ∷ Ended failed starved ∷ []) where
  pub log_ended : log g ≡ log h ++ e ∷ []
  log_ended = ap log (is ∙ sym (append_assoc h (Sched e ∷ []) (Ended failed starved ∷ []))) ∙ (log-same (h ++ Sched e ∷ []) (Ended failed starved) refl ∙ log-sched h e)

  -- the entry is the log's next
  pub entry_there : slice_get (log g) (length (log h)) ≡ Some e
  entry_there = ap (λ (l : List Entry). slice_get l (length (log h))) log_ended ∙ get_seam (log h) [] e

  -- the session has one entry more
  pub one_more_entry : entry_count_of s g ≡ entry_count_of s h + 1
  one_more_entry = entries-same s (h ++ Sched e ∷ []) g (log_ended ∙ sym (log-sched h e)) ∙ (entries-sched s h e ∙ ap (λ (t : Bool). entry_count_of s h + cond t 1 0) (eq-eqb e.session s own))

  -- and is in the transaction that it leaves it in
  pub tx_ended : FitsTx (tx_of (log h) s) e.tx e.act → tx_of (log g) s ≡ tx_after_entry (length (log h) + 1) (tx_of (log h) s) e.act
  tx_ended fits =
      subst (λ (k : ℕ). FitsTx (tx_of (log h) k) e.tx e.act → tx_of (log g) k ≡ tx_after_entry (length (log h) + 1) (tx_of (log h) k) e.act) own
      (λ f. ap (λ (l : List Entry). tx_of l e.session) log_ended ∙ tx_of_own (log h) e f) fits

-- ---- a read

-- the failures of a read of session s leave what each one of them leaves
pub failures_keep : {T : Type 0} (part : List Event → T) (s q : ℕ) → ((h : List Event) (b : ℕ) → part (h ++ ReadFailed s q b ∷ []) ≡ part h) → (h : List Event) (failed : List ℕ) → part (h ++ map (ReadFailed s q) failed) ≡ part h
failures_keep part s q each h [] = ap part (append-nil h)
failures_keep part s q each h (b ∷ failed) =
    ap part (sym (append_assoc h (ReadFailed s q b ∷ []) (map (ReadFailed s q) failed))) ∙ (failures_keep part s q each (h ++ ReadFailed s q b ∷ []) failed ∙ each h b)

-- the log
pub log_failures : (s q : ℕ) (h : List Event) (failed : List ℕ) → log (h ++ map (ReadFailed s q) failed) ≡ log h
log_failures s q h failed = failures_keep log s q (λ g b. log-same g (ReadFailed s q b) refl) h failed

-- whether an entry is open
pub idle_failures : (s q : ℕ) (h : List Event) (failed : List ℕ) → is_free (h ++ map (ReadFailed s q) failed) ≡ is_free h
idle_failures s q h failed = failures_keep is_free s q (λ g b. free-same g (ReadFailed s q b) refl refl) h failed

-- which backends are enabled
pub enabled_failures : (s q : ℕ) (h : List Event) (failed : List ℕ) (k : ℕ) → is_enabled (h ++ map (ReadFailed s q) failed) k ≡ is_enabled h k
enabled_failures s q h failed k = failures_keep (λ (g : List Event). is_enabled g k) s q (λ g b. enabled-push g (ReadFailed s q b) k) h failed

-- what failed has failed after one more failure
pub failed_before : (front h : List Event) (s q b k : ℕ) → HasFailedSince front h s q k → HasFailedSince front (h ++ ReadFailed s q b ∷ []) s q k
failed_before front h s q b k x =
    let high : x.k < length h = x.high in
    let many : length (h ++ ReadFailed s q b ∷ []) ≡ length h + 1 = length-append h (ReadFailed s q b ∷ []) in
    record { k = x.k; low = x.low; high = omega arith; is = get_left h (ReadFailed s q b ∷ []) x.k (ReadFailed s q k) x.is }

-- and so has the one that failed now
pub failed_now : (front h : List Event) (s q b : ℕ) → length front ≤ length h → HasFailedSince front (h ++ ReadFailed s q b ∷ []) s q b
failed_now front h s q b low =
    let many : length (h ++ ReadFailed s q b ∷ []) ≡ length h + 1 = length-append h (ReadFailed s q b ∷ []) in
    record { k = length h; low = low; high = omega arith; is = get_seam h [] (ReadFailed s q b) }

-- ---- what a desk says of a write

-- a refused one leaves what a failure of the log's store leaves
pub refused_keeps : {T : Type 0} (part : List Event → T) (s : ℕ) (c : Call) → ((h : List Event) → part (h ++ LogFailed s c.number ∷ []) ≡ part h) → (h g : List Event) → g ≡ h ++ log_failure_of s c → part g ≡ part h
refused_keeps part s c same h g is =
    ap part is ∙ cond_both (tells_log_failure c.reply) (LogFailed s c.number ∷ []) [] (λ (es : List Event). part (h ++ es) ≡ part h) (λ _. same h) (λ _. ap part (append-nil h))

-- the log among it
pub log_refused : (s : ℕ) (c : Call) (h g : List Event) → g ≡ h ++ log_failure_of s c → log g ≡ log h
log_refused s c h g is = refused_keeps log s c (λ k. log-same k (LogFailed s c.number) refl) h g is
