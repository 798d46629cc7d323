-- The turn of each kind of reply, over plain values.
use Rattle.std.proofs.Common.{◌≡◌, ◌≢◌, ℕ, ◌+◌, ◌<◌, ◌≤◌, ◌==◌, ◌||◌, ◌⊎◌, inl, inr, Bool, true, false, cond, List, [], ◌∷◌, ◌++◌, length, take, slice_get, Some, refl, ap, sym, ◌∙◌, subst, arith, ⊎_elim, length-append}
use mathlib.Core.List.{IsPrefix}
use Rattle.std.proofs.lemmas.Bool.{both_ways}
use Rattle.std.proofs.lemmas.List.{take-append-le, take_at, take_more}
use Rattle.cj_cluster.proofs.Common.{Act, Asked, Ended, Entry, Event, FitsTx, IsAllowedEvent, IsFitEntry, IsLegal, LogFailed, ReadFailed, Reply, Sched, Select, act_of, asked_reply, database_after, ended_count, open_entry_of, events_left, fold-append, get_or_from_slice_get, in_mask, is_enabled, is_free, list_any-append, log, log_faults_of, request_of, slice_get_within, take-append_seam, tx_of}
use Rattle.cj_model.specs.declared.request.Request.TheVariants as request
use Rattle.cj_model.specs.declared.request.Act.TheVariants as act
use Rattle.cj_model.specs.declared.answer.Reply.TheVariants.{Refused}
use Rattle.cj_model.specs.declared.codes.TheConstants.{NO_BACKEND, READ_FAULT, LOG_FAULT, NO_MEMORY, HISTORY_FULL}
use Rattle.cj_model.specs.Database.Inserts.{refusal_of_code}
use Rattle.cj_model.specs.Database.Queries.{ask}
use Rattle.cj_model.specs.Cluster.Placements.{Placement, writes_at, wrote_at, concerns}
use Rattle.cj_model.specs.Database.Outcomes.{IsAsked}
use Rattle.cj_cluster.specs.History.Answering.{CanServe, HasServer, HasNoServer, IsTarget, Finished, Unfinished, AnswersEntry}
use Rattle.cj_cluster.specs.History.Turns.{SessionView, Call, IsMomentBetween, HasNoRoomFor, scheduled, no_backend, read, read_fault, log_fault, full, starved, entry_count_of, tx_after_entry, Turn}
use Rattle.cj_cluster.specs.Moves.Runs.{AwaitsEnd, HasFailedSince, call_of_entry}
use Rattle.cj_model.proofs.Masks.{has-zero}
use Rattle.cj_cluster.proofs.OwnTransactions.{session_fit, own_tx, tx_of_own}
use Rattle.cj_cluster.proofs.Pushed.{get_seam, get_left, prefix_self, prefix_push, prefix_take, prefix_length, take_whole, log-prefix, enabled-push, log-sched, log-same, log_faults-same, log_faults-more}

-- ---- requests and acts

-- the act of a request that comes from an act
pub act_of_request : (a : Act) → act_of (request_of a) ≡ Some a
act_of_request act.Begin = refl
act_of_request (act.Write w) = refl
act_of_request (act.Create c) = refl
act_of_request (act.Drop table) = refl
act_of_request act.Commit = refl
act_of_request act.Abort = refl

-- an entry that the transaction does not write in leaves whether it wrote at a backend
wrote_at-push : (p : Placement) (b tx : ℕ) (before : List Entry) (e : Entry) → writes_at p b tx e.tx e.act ≡ false → wrote_at p b tx (before ++ e ∷ []) ≡ wrote_at p b tx before
wrote_at-push p b tx before e none =
    list_any-append (λ (x : Entry). writes_at p b tx x.tx x.act) before (e ∷ []) ∙ rw none (or_false (wrote_at p b tx before))
  where
    or_false : (o : Bool) → (o || false) ≡ o
    or_false true = refl
    or_false false = refl

-- An entry that ends a transaction writes nothing, and what it concerns hangs on the writes before it: so it concerns the same backends with itself in the log.
concerns-push : (p : Placement) (b : ℕ) (before : List Entry) (e : Entry) (a : Act) → e.act ≡ a → concerns p b (before ++ e ∷ []) e.tx a ≡ concerns p b before e.tx a
concerns-push p b before e act.Begin is = refl
concerns-push p b before e (act.Write w) is = refl
concerns-push p b before e (act.Create c) is = refl
concerns-push p b before e (act.Drop table) is = refl
concerns-push p b before e act.Commit is = wrote_at-push p b e.tx before e (ap (writes_at p b e.tx e.tx) is)
concerns-push p b before e act.Abort is = wrote_at-push p b e.tx before e (ap (writes_at p b e.tx e.tx) is)

-- so its targets are the same at the history with it as at that before it, if the same backends are enabled
targets_then : (p : Placement) (g h : List Event) (e : Entry) → log h ≡ log g ++ e ∷ [] → ((b : ℕ) → is_enabled g b ≡ is_enabled h b) → (b : ℕ) → (IsTarget p g e b → IsTarget p h e b) × (IsTarget p h e b → IsTarget p g e b)
targets_then p g h e more same b =
    let alike : concerns p b (log h) e.tx e.act ≡ concerns p b (log g) e.tx e.act = ap (λ (l : List Entry). concerns p b l e.tx e.act) more ∙ concerns-push p b (log g) e e.act refl in
    ((λ t. (sym (same b) ∙ t.0, alike ∙ t.1)), λ t. (same b ∙ t.0, sym alike ∙ t.1))

-- and it is answered so
answers_then : (tells : Bool) (p : Placement) (g h now : List Event) (i : ℕ) (e : Entry) (r : Reply) → log h ≡ log g ++ e ∷ [] → ((b : ℕ) → is_enabled g b ≡ is_enabled h b)
    → AnswersEntry tells p h now i e r → AnswersEntry tells p g now i e r
answers_then tells p g h now i e r more same answer =
    let forth : (b : ℕ) → IsTarget p g e b → IsTarget p h e b = λ b. (targets_then p g h e more same b).0 in
    let back : (b : ℕ) → IsTarget p h e b → IsTarget p g e b = λ b. (targets_then p g h e more same b).1 in
    ⊎_elim
    (λ (x : Finished tells p h now i e r).
    inl record {
      failed = x.failed;
      starved = x.starved;
      masks = x.masks;
      some = ⊎_elim (λ (none : (b : ℕ) → IsTarget p h e b → ⊥). inl (λ b t. none b (forth b t))) (λ (q : _). inr (q.0, back q.0 q.1, q.2, q.3)) x.some;
      outcome = x.outcome;
      possible = x.possible;
      says = x.says;
      replied = x.replied;
    })
    (λ (x : Unfinished p h now i e r).
    inr record {
      failed = x.failed;
      starved = x.starved;
      masks = x.masks;
      some = (x.some.0, back x.some.0 x.some.1);
      all = λ b t. x.all b (forth b t);
      replied = x.replied;
    })
    answer

-- ---- the log since an entry was scheduled

-- a beginning that is as long as the list is the list
prefix_whole : {A : Type 0} (xs ys : List A) → IsPrefix xs ys → length xs ≡ length ys → xs ≡ ys
prefix_whole xs ys p same = sym (take_whole xs ys p) ∙ (ap (λ n. take n ys) same ∙ take_whole ys ys (prefix_self ys))

-- the log behind an entry that was scheduled as the last one
log_since : (h : List Event) (m : ℕ) (e : Entry) → slice_get h m ≡ Some (Sched e) → length (log h) ≡ length (log (take m h)) + 1 → log h ≡ log (take m h) ++ e ∷ []
log_since h m e next one_more =
    let then : log (take (m + 1) h) ≡ log (take m h) ++ e ∷ [] =
    ap log (take_more h m (Sched e) (slice_get_within h m (Sched e) next) ∙ ap (λ (x : Event). take m h ++ x ∷ []) (get_or_from_slice_get h m (Sched e) (Sched e) next)) ∙ log-sched (take m h) e
    in
    let many : length (log (take (m + 1) h)) ≡ length (log (take m h)) + 1 = ap length then ∙ length-append (log (take m h)) (e ∷ []) in
    sym (prefix_whole (log (take (m + 1) h)) (log h) (log-prefix (take (m + 1) h) h (prefix_take (m + 1) h)) (omega arith)) ∙ then

-- an entry of a legal history is fit behind the log before it
fit_then : (h : List Event) (m : ℕ) (e : Entry) → IsLegal h → slice_get h m ≡ Some (Sched e) → IsFitEntry (log (take m h)) e
fit_then h m e legal next =
    (subst (IsAllowedEvent (take m h)) (get_or_from_slice_get h m (Sched e) (Sched e) next) (legal.each m (Sched e) (slice_get_within h m (Sched e) next))).1

-- and so is the last one behind all before it
pub fit_last : (h : List Event) (e : Entry) → IsLegal (h ++ Sched e ∷ []) → IsFitEntry (log h) e
fit_last h e legal = subst (λ (x : List Event). IsFitEntry (log x) e) (take-append_seam h (Sched e ∷ [])) (fit_then (h ++ Sched e ∷ []) (length h) e legal (get_seam h [] (Sched e)))

-- ---- the number of a session's entries

-- an event that leaves the log leaves the number
pub entries-same : (s : ℕ) (h g : List Event) → log g ≡ log h → entry_count_of s g ≡ entry_count_of s h
entries-same s h g same = rw same refl

-- an entry counts for its session
pub entries-sched : (s : ℕ) (h : List Event) (e : Entry) → entry_count_of s (h ++ Sched e ∷ []) ≡ entry_count_of s h + cond (e.session == s) 1 0
entries-sched s h e = rw (log-sched h e) (fold-append (λ (n : ℕ) (x : Entry). n + cond (x.session == s) 1 0) 0 (log h) (e ∷ []))

-- ---- turns

-- Since session s saw a it scheduled nothing, its transaction is as it was, and the log's store failed in none of its requests.
pub record Rests (s : ℕ) (a : SessionView) (h : List Event) : Type 0 where
  pub entries : entry_count_of s h ≡ entry_count_of s a.front
  pub tx : tx_of (log h) s ≡ tx_of (log a.front) s
  pub log_faults : (q : ℕ) → log_faults_of s q h ≡ log_faults_of s q a.front

-- the end of an entry answers its session
pub turn_end : (tells : Bool) (p : Placement) (a : SessionView) (h : List Event) (failed starving : ℕ) (e : Entry) (r : Reply)
    → IsLegal (h ++ Ended failed starving ∷ []) → IsPrefix a.front h → a.least ≤ length (log a.front) → AwaitsEnd p a.front h e.session
    → open_entry_of h ≡ Some e → 0 < e.session → length (log h) ≡ ended_count h + 1
    → ((q : ℕ) → log_faults_of e.session q h ≡ log_faults_of e.session q a.front)
    → AnswersEntry tells p h (h ++ Ended failed starving ∷ []) (ended_count h) e r
    → Turn tells p e.session a (call_of_entry (Some e) r) (record { front = h ++ Ended failed starving ∷ []; least = length (log h) })
turn_end tells p a h failed starving e r legal longer owes o is some one_open faults answer =
    let ev : Event = Ended failed starving in
    let g : List Event = h ++ ev ∷ [] in
    let m : ℕ = o.m in
    let high : m < length h = o.high in
    let its : o.e ≡ e = cc (o.is, is) in
    let part : take m g ≡ take m h = take-append-le m h (ev ∷ []) (omega arith) in
    let number : length (log (take m g)) ≡ ended_count h = ap (λ x. length (log x)) part ∙ o.number in
    let was_next : slice_get h m ≡ Some (Sched e) = o.next ∙ ap (λ x. Some (Sched x)) its in
    let next : slice_get g m ≡ Some (Sched e) = get_left h (ev ∷ []) m (Sched e) was_next in
    let many : length g ≡ length h + 1 = length-append h (ev ∷ []) in
    let low : length a.front ≤ m = o.low in
    let same_log : log g ≡ log h = log-same h ev refl in
    let served : HasServer p (take m h) (request_of e.act) = subst (λ (x : Entry). HasServer p (take m h) (request_of x.act)) its o.served in
    let then : List Entry = log (take m h) in
    let more : log h ≡ then ++ e ∷ [] = log_since h m e was_next (one_open ∙ ap (λ n. n + 1) (sym o.number)) in
    let fits : FitsTx (tx_of then e.session) e.tx e.act = subst (λ (x : List Event). FitsTx (tx_of (log x) e.session) e.tx e.act) part (session_fit (log (take m g)) e (fit_then g m e legal next) some).tx in
    record {
      legal = legal;
      longer = prefix_push a.front h ev longer;
      owes = owes;
      tx = ⊎_elim (λ (x : e.tx ≡ 0). inl x) (λ (x : e.tx ≡ tx_of then e.session). inr (x ∙ o.in_tx)) (own_tx (tx_of then e.session) e.tx e.act fits);
      case =
          scheduled
          record {
            m = m;
            moment = record { low = low; high = omega arith };
            act = e.act;
            is = act_of_request e.act;
            was_free = ap is_free part ∙ o.was_free;
            served = subst (λ (x : List Event). HasServer p x (request_of e.act)) (sym part) served;
            space = subst (λ (x : List Event). 3 ≤ events_left x) (sym part) o.space;
            next = next;
            answer =
                subst (λ (i : ℕ). AnswersEntry tells p (take m g) g i e r) (sym number)
                (subst (λ (x : List Event). AnswersEntry tells p x g (ended_count h) e r) (sym part) (answers_then tells p (take m h) h g (ended_count h) e r more o.same answer));
            least = one_open ∙ ap (λ n. n + 1) (sym number);
          };
      entries = entries-same e.session h g same_log ∙ o.entries;
      tx_after =
          ap (λ (l : List Entry). tx_of l e.session) (same_log ∙ more)
          ∙ (tx_of_own then e fits ∙ (ap (λ (x : List Event). tx_after_entry (length (log x) + 1) (tx_of then e.session) e.act) (sym part) ∙ ap (λ t. tx_after_entry (length (log (take m g)) + 1) t e.act) o.in_tx));
      log_faults = let n = log_faults-same h ev (λ t q. refl) e.session e.seq ∙ faults e.seq in omega (arith, n);
    }

-- the moment is now, and nothing was scheduled since the session saw a
module _ (tells : Bool) (p : Placement) (s : ℕ) (a : SessionView) (h : List Event) (legal : IsLegal h) (longer : IsPrefix a.front h) (owes : a.least ≤ length (log a.front)) (rests : Rests s a h) where
  -- this moment
  now : IsMomentBetween a.front h (length h)
  now = let n : length a.front ≤ length h = prefix_length a.front h longer in record { low = n; high = omega arith }

  -- the history up to now
  whole : take (length h) h ≡ h
  whole = take_whole h h (prefix_self h)

  -- no entry came
  none_more : entry_count_of s h ≡ entry_count_of s a.front + 0
  none_more = let n = rests.entries in omega (arith, n)

  -- and no fault of the log's store
  no_fault : (q : ℕ) → log_faults_of s q h ≡ log_faults_of s q a.front + 0
  no_fault q = let n = rests.log_faults q in omega (arith, n)

  -- no backend serves the request
  pub turn_unserved : (c : Call) → (c.tx ≡ 0) ⊎ (c.tx ≡ tx_of (log a.front) s) → c.reply ≡ Refused (refusal_of_code NO_BACKEND) → HasNoServer p h c.request → Turn tells p s a c (record { front = h; least = a.least })
  turn_unserved c tx replied none =
      record {
        legal = legal;
        longer = longer;
        owes = owes;
        tx = tx;
        case = no_backend record { m = length h; moment = now; none = subst (λ (x : List Event). HasNoServer p x c.request) (sym (whole)) none; replied = replied; least = refl };
        entries = none_more;
        tx_after = rests.tx;
        log_faults = no_fault c.number;
      }

  -- the history has no room
  pub turn_full : (c : Call) → (c.tx ≡ 0) ⊎ (c.tx ≡ tx_of (log a.front) s) → c.reply ≡ Refused (record { code = HISTORY_FULL; a = length h; b = 0 }) → HasServer p h c.request → HasNoRoomFor h (act_of c.request)
      → Turn tells p s a c (record { front = h; least = a.least })
  turn_full c tx replied served small =
      record {
        legal = legal;
        longer = longer;
        owes = owes;
        tx = tx;
        case =
            full
            record {
              m = length h;
              moment = now;
              served = subst (λ (x : List Event). HasServer p x c.request) (sym (whole)) served;
              full = subst (λ (x : List Event). HasNoRoomFor x (act_of c.request)) (sym (whole)) small;
              replied = replied;
              least = refl;
            };
        entries = none_more;
        tx_after = rests.tx;
        log_faults = no_fault c.number;
      }

  -- a read that was answered at a position that the session owes and that no ended entry is past
  pub turn_read : (c : Call) (select : Select) (n : ℕ) (answer : Asked) → (c.tx ≡ 0) ⊎ (c.tx ≡ tx_of (log a.front) s) → c.request ≡ request.Select select → c.reply ≡ asked_reply answer
      → IsAsked answer → (tells ≡ true → answer ≡ ask (database_after (log h) n) c.tx select) → HasServer p h c.request → a.least ≤ n → ended_count h ≤ n → n ≤ length (log h) → Turn tells p s a c (record { front = h; least = n })
  turn_read c select n answer tx is replied possible says served owed past within =
      record {
        legal = legal;
        longer = longer;
        owes = owes;
        tx = tx;
        case =
            read
            record {
              m = length h;
              moment = now;
              select = select;
              is = is;
              served = subst (λ (x : List Event). HasServer p x c.request) (sym (whole)) served;
              owed = owed;
              past = subst (λ (x : List Event). ended_count x ≤ n) (sym (whole)) past;
              within = within;
              answer = answer;
              possible = possible;
              says = says;
              replied = replied;
            };
        entries = none_more;
        tx_after = rests.tx;
        log_faults = no_fault c.number;
      }

  -- memory is wanting
  pub turn_starved : (c : Call) → (c.tx ≡ 0) ⊎ (c.tx ≡ tx_of (log a.front) s) → c.reply ≡ Refused (refusal_of_code NO_MEMORY) → Turn tells p s a c (record { front = h; least = a.least })
  turn_starved c tx replied =
      record {
        legal = legal;
        longer = longer;
        owes = owes;
        tx = tx;
        case = starved record { replied = replied; least = refl };
        entries = none_more;
        tx_after = rests.tx;
        log_faults = no_fault c.number;
      }

  -- a read in which each backend that serves it has failed since the session saw a
  pub turn_in_vain : (c : Call) (select : Select) (mask : ℕ) → (c.tx ≡ 0) ⊎ (c.tx ≡ tx_of (log a.front) s) → c.request ≡ request.Select select → c.reply ≡ Refused (record { code = READ_FAULT; a = mask; b = 0 }) → mask ≢ 0
      → ((k : ℕ) → (CanServe p h c.request k → in_mask mask k ≡ true) × (in_mask mask k ≡ true → CanServe p h c.request k)) → ((k : ℕ) → in_mask mask k ≡ true → HasFailedSince a.front h s c.number k)
      → Turn tells p s a c (record { front = h; least = a.least })
  turn_in_vain c select mask tx is replied some serving failed =
      record {
        legal = legal;
        longer = longer;
        owes = owes;
        tx = tx;
        case =
            read_fault
            record {
              m = length h;
              moment = now;
              select = select;
              is = is;
              mask = mask;
              some = some;
              all = λ k. subst (λ (x : List Event). (CanServe p x c.request k → in_mask mask k ≡ true) × (in_mask mask k ≡ true → CanServe p x c.request k)) (sym (whole)) (serving k);
              failed = λ k t. let x = failed k t in (x.k, x.low, x.high, x.is);
              replied = replied;
              least = refl;
            };
        entries = none_more;
        tx_after = rests.tx;
        log_faults = no_fault c.number;
      }

-- a read in which the last backend that serves it failed now, and the others since the session saw a
pub turn_fault : (tells : Bool) (p : Placement) (s : ℕ) (a : SessionView) (h : List Event) (b : ℕ) (c : Call) (select : Select) (mask tried : ℕ)
    → IsLegal (h ++ ReadFailed s c.number b ∷ []) → IsPrefix a.front h → a.least ≤ length (log a.front) → Rests s a h
    → (c.tx ≡ 0) ⊎ (c.tx ≡ tx_of (log a.front) s) → c.request ≡ request.Select select → c.reply ≡ Refused (record { code = READ_FAULT; a = mask; b = 0 })
    → ((k : ℕ) → in_mask tried k ≡ true → HasFailedSince a.front h s c.number k)
    → ((k : ℕ) → (CanServe p h c.request k → in_mask mask k ≡ true) × (in_mask mask k ≡ true → CanServe p h c.request k))
    → ((k : ℕ) → CanServe p h c.request k → (k ≡ b) ⊎ (in_mask tried k ≡ true)) → CanServe p h c.request b
    → Turn tells p s a c (record { front = h ++ ReadFailed s c.number b ∷ []; least = a.least })
turn_fault tells p s a h b c select mask tried legal longer owes rests tx is replied prior serving all serves =
    let ev : Event = ReadFailed s c.number b in
    let g : List Event = h ++ ev ∷ [] in
    let low : length a.front ≤ length h = prefix_length a.front h longer in
    let many : length g ≡ length h + 1 = length-append h (ev ∷ []) in
    let same_log : log g ≡ log h = log-same h ev refl in
    let whole : take (length g) g ≡ g = take_whole g g (prefix_self g) in
    let same : (k : ℕ) → is_enabled (take (length g) g) k ≡ is_enabled h k = λ k. ap (λ x. is_enabled x k) whole ∙ enabled-push h ev k in
    let now : HasFailedSince a.front g s c.number b = record { k = length h; low = low; high = omega arith; is = get_seam h [] ev } in
    let before : (k : ℕ) → in_mask tried k ≡ true → HasFailedSince a.front g s c.number k =
    λ k t. let x = prior k t in let lt : x.k < length h = x.high in record { k = x.k; low = x.low; high = omega arith; is = get_left h (ev ∷ []) x.k (ReadFailed s c.number k) x.is }
    in
    let each : (k : ℕ) → in_mask mask k ≡ true → HasFailedSince a.front g s c.number k =
    λ k t. ⊎_elim (λ (e : k ≡ b). subst (λ (i : ℕ). HasFailedSince a.front g s c.number i) (sym e) now) (λ (t : in_mask tried k ≡ true). before k t) (all k ((serving k).1 t))
    in
    record {
      legal = legal;
      longer = prefix_push a.front h ev longer;
      owes = owes;
      tx = tx;
      case =
          read_fault
          record {
            m = length g;
            moment = record { low = omega arith; high = omega arith };
            select = select;
            is = is;
            mask = mask;
            some = λ zero_mask. both_ways (in_mask mask b) (ap (λ m. in_mask m b) zero_mask ∙ has-zero b) ((serving b).0 serves);
            all = λ k. ((λ t. (serving k).0 (sym (same k) ∙ t.0, t.1)), λ t. let q = (serving k).1 t in (same k ∙ q.0, q.1));
            failed = λ k t. let x = each k t in (x.k, x.low, x.high, x.is);
            replied = replied;
            least = refl;
          };
      entries = let n = entries-same s h g same_log ∙ rests.entries in omega (arith, n);
      tx_after = ap (λ (l : List Entry). tx_of l s) same_log ∙ rests.tx;
      log_faults = let n = log_faults-same h ev (λ t q. refl) s c.number ∙ rests.log_faults c.number in omega (arith, n);
    }

-- the log's store failed now, and nothing was scheduled since the session saw a
pub turn_log_fault : (tells : Bool) (p : Placement) (s : ℕ) (a : SessionView) (h : List Event) (c : Call) (act : Act)
    → IsLegal (h ++ LogFailed s c.number ∷ []) → IsPrefix a.front h → a.least ≤ length (log a.front) → Rests s a h
    → (c.tx ≡ 0) ⊎ (c.tx ≡ tx_of (log a.front) s) → act_of c.request ≡ Some act → c.reply ≡ Refused (refusal_of_code LOG_FAULT)
    → is_free h ≡ true → HasServer p h c.request → 3 ≤ events_left h
    → Turn tells p s a c (record { front = h ++ LogFailed s c.number ∷ []; least = a.least })
turn_log_fault tells p s a h c act legal longer owes rests tx is replied fr served space =
    let ev : Event = LogFailed s c.number in
    let g : List Event = h ++ ev ∷ [] in
    let low : length a.front ≤ length h = prefix_length a.front h longer in
    let many : length g ≡ length h + 1 = length-append h (ev ∷ []) in
    let same_log : log g ≡ log h = log-same h ev refl in
    let part : take (length h) g ≡ h = take_at h (ev ∷ []) (length h) refl in
    record {
      legal = legal;
      longer = prefix_push a.front h ev longer;
      owes = owes;
      tx = tx;
      case =
          log_fault
          record {
            m = length h;
            moment = record { low = low; high = omega arith };
            act = act;
            is = is;
            was_free = ap is_free part ∙ fr;
            served = subst (λ (x : List Event). HasServer p x c.request) (sym part) served;
            space = subst (λ (x : List Event). 3 ≤ events_left x) (sym part) space;
            next = get_seam h [] ev;
            replied = replied;
            least = refl;
          };
      entries = let n = entries-same s h g same_log ∙ rests.entries in omega (arith, n);
      tx_after = ap (λ (l : List Entry). tx_of l s) same_log ∙ rests.tx;
      log_faults = let n = log_faults-more h s c.number in let q = rests.log_faults c.number in omega (arith, n, q);
    }
