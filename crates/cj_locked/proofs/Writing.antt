-- The turn of a write.
use Rattle.std.proofs.Common.{◌≡◌, ◌⊎◌, ℕ, ◌+◌, ◌<◌, ◌≤◌, ◌==◌, Bool, cond, List, [], ◌∷◌, ◌++◌, length, take, Some, refl, ap, sym, ◌∙◌, subst, arith, length-append, eqb-true, eq-eqb}
use mathlib.Core.List.{IsPrefix}
use Rattle.std.proofs.lemmas.List.Elements.{All-push, All-weaker}
use Rattle.cj_model.specs.declared.request.Entry.{Entry}
use Rattle.cj_model.specs.declared.answer.Reply.{Reply}
use Rattle.cj_model.specs.declared.answer.Reply.TheVariants.{Refused}
use Rattle.cj_model.specs.declared.codes.TheConstants.{HISTORY_FULL}
use Rattle.cj_model.specs.Cluster.Placements.{Placement}
use Rattle.cj_model.specs.Sql.PlainRequests.{request_of}
use Rattle.cj_cluster.specs.declared.event.Event.{Event}
use Rattle.cj_cluster.specs.declared.event.Event.TheVariants.{Sched, Ended, LogFailed}
use Rattle.cj_cluster.specs.History.Answering.{AnswersEntry, HasServer}
use Rattle.cj_cluster.specs.History.Histories.{ended_count, events_left, is_enabled, is_free, log, tx_of}
use Rattle.cj_cluster.specs.History.Legality.{FitsTx, IsLegal, IsSessionEntry}
use Rattle.cj_cluster.specs.History.Turns.{SessionView, Call, HasNoRoomFor, Turn, entry_count_of, tx_after_entry}
use Rattle.cj_cluster.specs.Moves.Runs.{AwaitsEnd, call_of_entry}
use Rattle.cj_cluster.proofs.OwnTransactions.{own_tx, session_fit, tx_of_own}
use Rattle.cj_cluster.proofs.Pushed.{done-same, enabled-push, free-sched, get_seam, legal_prefix, log-same, log-sched, log_faults-same, prefix_get, prefix_length, prefix_trans, take_whole}
use Rattle.cj_cluster.proofs.TurnCases.{act_of_request, entries-same, entries-sched, fit_last, turn_end, turn_full, turn_log_fault, turn_starved, turn_unserved, Rests}
use Rattle.cj_board.specs.declared.view.SeatView.{SeatView}
use Rattle.cj_board.specs.Counting.{event_count_of}
use Rattle.cj_board.proofs.Counts.{counts_of_prefix}
use Rattle.cj_board.proofs.OpenEntry.{still_enabled}
use Rattle.cj_board.proofs.OwnStays.{newer_stays, own_stays, OwnStays}
use Rattle.cj_book.specs.declared.error.BookError.{BookError}
use Rattle.cj_book.specs.declared.error.BookError.TheVariants.{InProgress, NoBackend, HistoryFull, LogFault, NoMemory}
use Rattle.cj_pass.specs.Passes.{HasSeenMore}
use Rattle.cj_locked.specs.Writing.{refusal_for, AreUpTo, EndsSince, RefusesAt, RefusesSince, SchedulesSince, WritesTurn}
use Rattle.cj_locked.proofs.Ending.{entry_there, scheduled_on}

-- ---- the turn

abbrev pub view : List Event → ℕ → SessionView
view front least = record { front = front; least = least }

module _ (tells : Bool) (p : Placement) (F : List Event) (least : ℕ) (e : Entry) (fit : IsSessionEntry (log F) e) (owes : least ≤ length (log F)) where
  some : 0 < e.session
  some = fit.session.0

  before : AreUpTo e.session e.seq (log F)
  before = All-weaker (λ (d : Entry). d.session ≡ e.session → d.seq < e.seq) (λ (d : Entry). d.session ≡ e.session → d.seq ≤ e.seq) (λ d lt same. (let l : d.seq < e.seq = lt same in omega arith)) (log F) fit.newer

  tx_allowed : (e.tx ≡ 0) ⊎ (e.tx ≡ tx_of (log F) e.session)
  tx_allowed = own_tx (tx_of (log F) e.session) e.tx e.act fit.tx

  -- the entry was scheduled, and has ended
  module _ (G H : List Event) (n : ℕ) (reply : Reply) (since : SchedulesSince p F G n e) (ends : EndsSince tells p G n e reply H) (legal : IsLegal H) (few : event_count_of e.session H ≤ event_count_of e.session G) where
    abbrev s : ℕ
    s = e.session

    abbrev m : List Event
    m = since.at.m

    abbrev h : List Event
    h = ends.h

    legal_end : IsLegal (h ++ Ended ends.failed ends.starved ∷ [])
    legal_end = subst IsLegal ends.is legal

    legal_h : IsLegal h
    legal_h = legal_prefix h (h ++ Ended ends.failed ends.starved ∷ []) (Ended ends.failed ends.starved ∷ [], refl) legal_end

    h_in_H : IsPrefix h H
    h_in_H = (Ended ends.failed ends.starved ∷ [], sym ends.is)

    begun : IsPrefix (m ++ Sched e ∷ []) h
    begun = subst (λ (x : List Event). IsPrefix x h) since.is ends.longer

    m_in_h : IsPrefix m h
    m_in_h = prefix_trans m (m ++ Sched e ∷ []) h (Sched e ∷ [], refl) begun

    legal_m : IsLegal m
    legal_m = legal_prefix m h m_in_h legal_h

    legal_sched : IsLegal (m ++ Sched e ∷ [])
    legal_sched = legal_prefix (m ++ Sched e ∷ []) h begun legal_h

    stays_before : OwnStays s F m
    stays_before = own_stays s some F m since.longer legal_m (let q : event_count_of s m ≡ event_count_of s F = since.quiet in omega arith)

    stays_while : OwnStays s (m ++ Sched e ∷ []) h
    stays_while = own_stays s some (m ++ Sched e ∷ []) h begun legal_h (let a = counts_of_prefix s h H h_in_H in let b : event_count_of s G ≡ event_count_of s (m ++ Sched e ∷ []) = ap (event_count_of s) since.is in omega arith)

    stays_all : OwnStays s (m ++ Sched e ∷ []) H
    stays_all = own_stays s some (m ++ Sched e ∷ []) H (prefix_trans (m ++ Sched e ∷ []) h H begun h_in_H) legal (let b : event_count_of s G ≡ event_count_of s (m ++ Sched e ∷ []) = ap (event_count_of s) since.is in omega arith)

    cut : take (length m) h ≡ m
    cut = take_whole m h m_in_h

    one_more : entry_count_of s (m ++ Sched e ∷ []) ≡ entry_count_of s F + 1
    one_more =
        let a = entries-sched s m e in
        let b : cond {A = ℕ} (e.session == s) 1 0 ≡ 1 = ap (λ (t : Bool). cond {A = ℕ} t 1 0) (eq-eqb s s refl) in
        let c = stays_before.entries in omega (arith, a, b, c)

    idle : ended_count m ≡ length (log m)
    idle = eqb-true (ended_count m) (length (log m)) since.at.was_free

    ends_same : ended_count h ≡ ended_count (m ++ Sched e ∷ [])
    ends_same =
        let a : ended_count (m ++ Sched e ∷ []) ≡ ended_count m = done-same m (Sched e) refl in
        let b : n ≡ length (log m) + 1 = since.at.number in
        let c : n ≡ ended_count h + 1 = ends.last.1 in
        let d = idle in omega (arith, a, b, c, d)

    awaits : AwaitsEnd p F h s
    awaits =
        let lo : length F ≤ length m = prefix_length F m since.longer in
        let len : length (m ++ Sched e ∷ []) ≡ length m + 1 = length-append m (Sched e ∷ []) in
        let hi : length (m ++ Sched e ∷ []) ≤ length h = prefix_length (m ++ Sched e ∷ []) h begun in
        let number : length (log m) ≡ ended_count h = (let b : n ≡ length (log m) + 1 = since.at.number in let c : n ≡ ended_count h + 1 = ends.last.1 in omega arith) in
        record {
          e = e;
          is = ends.open_now;
          m = length m;
          low = lo;
          high = omega arith;
          was_free = ap is_free cut ∙ since.at.was_free;
          served = subst (λ (x : List Event). HasServer p x (request_of e.act)) (sym cut) since.at.served;
          space = subst (λ (x : List Event). 3 ≤ events_left x) (sym cut) since.at.space;
          next = prefix_get (m ++ Sched e ∷ []) h (length m) (Sched e) begun (get_seam m [] (Sched e));
          number = ap (λ (x : List Event). length (log x)) cut ∙ number;
          same = λ b. ap (λ (x : List Event). is_enabled x b) cut ∙ sym (still_enabled (m ++ Sched e ∷ []) h begun legal_h (free-sched m e since.at.was_free) ends_same b ∙ enabled-push m (Sched e) b);
          entries = stays_while.entries ∙ one_more;
          in_tx = ap (λ (x : List Event). tx_of (log x) s) cut ∙ stays_before.tx;
        }

    turn : Turn tells p s (view F least) (call_of_entry (Some e) reply) (view H n)
    turn =
        subst (λ (x : List Event × ℕ). Turn tells p s (view F least) (call_of_entry (Some e) reply) (view x.0 x.1)) (λ i. (sym ends.is i, ends.last.0 i))
        (turn_end tells p (view F least) h ends.failed ends.starved e reply legal_end (prefix_trans F m h since.longer m_in_h) owes awaits ends.open_now some
        (ends.last.0 ∙ ends.last.1) (λ q. stays_while.log_faults q ∙ (log_faults-same m (Sched e) (λ t k. refl) s q ∙ stays_before.log_faults q))
        (subst (λ (x : List Event). AnswersEntry tells p h x (ended_count h) e reply) ends.is ends.answer))

    tx_then : tx_of (log H) s ≡ tx_after_entry n (tx_of (log F) s) e.act
    tx_then =
        let fits : FitsTx (tx_of (log m) s) e.tx e.act = (session_fit (log m) e (fit_last m e legal_sched) some).tx in
        stays_all.tx ∙ (ap (λ (l : List Entry). tx_of l s) (log-sched m e) ∙ (tx_of_own (log m) e fits ∙ (ap (λ k. tx_after_entry k (tx_of (log m) s) e.act) (sym since.at.number) ∙ ap (λ t. tx_after_entry n t e.act) stays_before.tx)))

    pub turn_written : WritesTurn tells p e.session (view F least) e n reply (view H n)
    turn_written =
        record {
          turn = turn;
          none = λ zero_number. (let k : n ≡ length (log m) + 1 = since.at.number in absurd (omega arith));
          one = λ positive. (
            entry_there p H n e (scheduled_on p G n e since.at H (prefix_trans G h H ends.longer h_in_H)),
            stays_all.entries ∙ one_more,
            tx_then,
          );
          newer = newer_stays s e.seq (m ++ Sched e ∷ []) H stays_all (subst (AreUpTo s e.seq) (sym (log-sched m e)) (up_to_push m (newer_stays s e.seq F m stays_before before)));
        }
      where
        up_to_push : (g : List Event) → AreUpTo s e.seq (log g) → AreUpTo s e.seq (log g ++ e ∷ [])
        up_to_push g all = All-push (λ (d : Entry). d.session ≡ s → d.seq ≤ e.seq) (log g) e all (λ same. omega arith)

  -- the entry was refused
  module _ (G : List Event) (error : BookError) (since : RefusesSince p F G e error) (legal : IsLegal G) where
    abbrev call : Call
    call = call_of_entry (Some e) (Refused (refusal_for error))

    abbrev Comes : List Event → Type 0
    Comes g = WritesTurn tells p e.session (view F least) e 0 (Refused (refusal_for error)) (view g least)

    rests : (g : List Event) → OwnStays e.session F g → Rests e.session (view F least) g
    rests g q = record { entries = q.entries; tx = q.tx; log_faults = q.log_faults }

    -- with nothing of the session between
    comes : (g : List Event) → OwnStays e.session F g → Turn tells p e.session (view F least) call (view g least) → Comes g
    comes g q turn = record { turn = turn; none = λ is. (q.entries, q.tx); one = λ positive. absurd (omega arith); newer = newer_stays e.session e.seq F g q before }

    module _ (legal_m : IsLegal since.m) where
      stays_m : OwnStays e.session F since.m
      stays_m = own_stays e.session some F since.m since.longer legal_m (let q : event_count_of e.session since.m ≡ event_count_of e.session F = since.quiet in omega arith)

    by : (x : BookError) → error ≡ x → RefusesAt p since.m e x G → Comes G
    by (InProgress n) is why = absurd why
    by NoBackend is why =
        let lm : IsLegal since.m = subst IsLegal why.0 legal in
        let q = stays_m lm in
        subst Comes (sym why.0) (comes since.m q (turn_unserved tells p e.session (view F least) since.m lm since.longer owes (rests since.m q) call tx_allowed (ap (λ x. Refused (refusal_for x)) is) why.1))
    by (HistoryFull n) is why =
        let lm : IsLegal since.m = subst IsLegal why.0 legal in
        let q = stays_m lm in
        subst Comes (sym why.0)
        (comes since.m q (turn_full tells p e.session (view F least) since.m lm since.longer owes (rests since.m q) call tx_allowed
        (ap (λ x. Refused (refusal_for x)) is ∙ ap (λ k. Refused (record { code = HISTORY_FULL; a = k; b = 0 })) why.1) why.3 (subst (HasNoRoomFor since.m) (sym (act_of_request e.act)) (why.2, why.4))))
    by LogFault is why =
        let lf : IsLegal (since.m ++ LogFailed e.session e.seq ∷ []) = subst IsLegal why.0 legal in
        let lm : IsLegal since.m = legal_prefix since.m (since.m ++ LogFailed e.session e.seq ∷ []) (LogFailed e.session e.seq ∷ [], refl) lf in
        let q = stays_m lm in
        let g : List Event = since.m ++ LogFailed e.session e.seq ∷ [] in
        let same : log g ≡ log since.m = log-same since.m (LogFailed e.session e.seq) refl in
        subst Comes (sym why.0)
        (record {
          turn = turn_log_fault tells p e.session (view F least) since.m call e.act lf since.longer owes (rests since.m q) tx_allowed (act_of_request e.act) (ap (λ x. Refused (refusal_for x)) is) why.1 why.2 why.3;
          none = λ z. (entries-same e.session since.m g same ∙ q.entries, ap (λ (l : List Entry). tx_of l e.session) same ∙ q.tx);
          one = λ positive. absurd (omega arith);
          newer = subst (AreUpTo e.session e.seq) (sym same) (newer_stays e.session e.seq F since.m q before);
        })
    by NoMemory is why =
        let lm : IsLegal since.m = subst IsLegal why legal in
        let q = stays_m lm in
        subst Comes (sym why) (comes since.m q (turn_starved tells p e.session (view F least) since.m lm since.longer owes (rests since.m q) call tx_allowed (ap (λ x. Refused (refusal_for x)) is)))

    pub turn_refused : WritesTurn tells p e.session (view F least) e 0 (Refused (refusal_for error)) (view G least)
    turn_refused = by error refl since.why

-- a pass that was told more, and whose count was looked at
pub still_counted : (s : ℕ) (v w u : SeatView) → HasSeenMore v w → u ≡ w → v.own_session ≡ s → 0 < s → event_count_of s v.front ≡ v.count → (0 < w.own_session → event_count_of w.own_session w.front ≤ w.count)
    → (event_count_of s u.front ≡ event_count_of s v.front) × (event_count_of s u.front ≡ u.count) × IsPrefix v.front u.front
still_counted s v w u more same own some counted looked =
    let its : w.own_session ≡ s = more.own ∙ own in
    let few : event_count_of s w.front ≤ w.count = subst (λ k. event_count_of k w.front ≤ w.count) its (looked (subst (λ k. 0 < k) (sym its) some)) in
    let up = counts_of_prefix s v.front w.front more.front in
    let count : w.count ≡ v.count = more.count in
    let all : event_count_of s w.front ≡ event_count_of s v.front = omega arith in
    let kept : event_count_of s w.front ≡ w.count = omega arith in
    subst (λ (z : SeatView). (event_count_of s z.front ≡ event_count_of s v.front) × (event_count_of s z.front ≡ z.count) × IsPrefix v.front z.front) (sym same) (all, kept, more.front)
