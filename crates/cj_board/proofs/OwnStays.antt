-- A session of which no event came is as it was.
use Rattle.std.proofs.Common.{◌≡◌, ◌≢◌, ℕ, ◌+◌, ◌<◌, ◌≤◌, ◌==◌, Bool, false, cond, List, [], ◌∷◌, ◌++◌, get_or, All, Contains, None, refl, ap, sym, ◌∙◌, subst, arith, inl, ⊎_elim, append_assoc, append-nil, eq-eqb, ne_eqb}
use mathlib.Core.List.{IsPrefix}
use Rattle.std.proofs.lemmas.List.Elements.{All-contains, All-contains_itself, All-push}
use Rattle.cj_board.proofs.Common.{Disabled, Enabled, Ended, Entry, Event, IsFitEntry, IsLegal, LogFailed, Marker, ReadFailed, Sched, event_count_of, log}
use Rattle.cj_cluster.specs.History.Histories.{is_log_fault, log_faults_of, scheduled_entry, tx_of}
use Rattle.cj_cluster.specs.History.Legality.{FitsTx, IsAdministratorEntry, IsSessionEntry}
use Rattle.cj_cluster.specs.History.Transactions.{is_end}
use Rattle.cj_cluster.specs.History.Turns.{entry_count_of}
use Rattle.cj_cluster.proofs.OwnTransactions.{session_fit, tx_of_end_of, tx_of_other}
use Rattle.cj_cluster.proofs.Pushed.{legal_prefix, log-same, log-sched, log_faults-same, log_faults-stay, no_fault_of_other}
use Rattle.cj_cluster.proofs.TurnCases.{entries-same, entries-sched}
use Rattle.cj_board.proofs.Counts.{counts_of_prefix}
use Rattle.cj_board.proofs.EventCounts.{end_counts, entry_counts, failure_counts}
use Rattle.cj_board.proofs.Histories.{last_allowed}

-- each of session s's entries is one of these
abbrev pub HasOwnIn : ℕ → List Entry → List Entry → Type 0
HasOwnIn s these entries = All (λ (d : Entry). d.session ≡ s → Contains these d) entries

-- session s has in h what it had in g, and no more
pub record OwnStays (s : ℕ) (g h : List Event) : Type 0 where
  pub entries : entry_count_of s h ≡ entry_count_of s g
  pub own : HasOwnIn s (log g) (log h)
  pub tx : tx_of (log h) s ≡ tx_of (log g) s
  pub log_faults : (q : ℕ) → log_faults_of s q h ≡ log_faults_of s q g

-- what holds of each entry of the session before still holds of each
pub each_stays : (s : ℕ) (P : Entry → Type 0) (these entries : List Entry) → HasOwnIn s these entries → All (λ (d : Entry). d.session ≡ s → P d) these → All (λ (d : Entry). d.session ≡ s → P d) entries
each_stays s P these entries own all k d lt = λ same. All-contains (λ (x : Entry). x.session ≡ s → P x) these (get_or entries k d) all (own k d lt same) same

own_itself : (s : ℕ) (entries : List Entry) → HasOwnIn s entries entries
own_itself s entries k d lt = λ same. All-contains_itself entries k d lt

stays_self : (s : ℕ) (g : List Event) → OwnStays s g g
stays_self s g = record { entries = refl; own = own_itself s (log g); tx = refl; log_faults = λ q. refl }

stays_then : (s : ℕ) (f g h : List Event) → OwnStays s f g → OwnStays s g h → OwnStays s f h
stays_then s f g h p q = record {
  entries = q.entries ∙ p.entries;
  own = each_stays s (Contains (log f)) (log g) (log h) q.own p.own;
  tx = q.tx ∙ p.tx;
  log_faults = λ n. q.log_faults n ∙ p.log_faults n;
}

-- an event that schedules nothing and is no failure of the log's store
stays_else : (s : ℕ) (h : List Event) (x : Event) → scheduled_entry x ≡ None → ((t q : ℕ) → is_log_fault t q x ≡ false) → OwnStays s h (h ++ x ∷ [])
stays_else s h x none no_fault =
    record {
      entries = entries-same s h (h ++ x ∷ []) (log-same h x none);
      tx = ap (λ (l : List Entry). tx_of l s) (log-same h x none);
      log_faults = λ q. log_faults-same h x no_fault s q;
      own = subst (HasOwnIn s (log h)) (sym (log-same h x none)) (own_itself s (log h));
    }

-- an entry of no session s that leaves its transaction
stays_entry : (s : ℕ) (h : List Event) (e : Entry) → e.session ≢ s → tx_of (log h ++ e ∷ []) s ≡ tx_of (log h) s → OwnStays s h (h ++ Sched e ∷ [])
stays_entry s h e other same =
    record {
      entries = (let n = entries-sched s h e in let z : cond {A = ℕ} (e.session == s) 1 0 ≡ 0 = ap (λ (t : Bool). cond {A = ℕ} t 1 0) (ne_eqb e.session s other) in omega (arith, n, z));
      tx = ap (λ (l : List Entry). tx_of l s) (log-sched h e) ∙ same;
      log_faults = λ q. log_faults-same h (Sched e) (λ t n. refl) s q;
      own = subst (HasOwnIn s (log h)) (sym (log-sched h e)) (All-push (λ (d : Entry). d.session ≡ s → Contains (log h) d) (log h) e (own_itself s (log h)) (λ same. absurd (other same)));
    }

stays_push : (s : ℕ) → 0 < s → (h : List Event) (x : Event) → IsLegal (h ++ x ∷ []) → event_count_of s (h ++ x ∷ []) ≡ event_count_of s h → OwnStays s h (h ++ x ∷ [])
stays_push s some h (Sched e) legal same =
    let before : IsLegal h = legal_prefix h (h ++ Sched e ∷ []) (Sched e ∷ [], refl) legal in
    let fit = (last_allowed h (Sched e) legal).1 in
    ⊎_elim
    (λ (x : IsSessionEntry (log h) e).
    let counts = entry_counts s h e before x.session.0 in
    let other : e.session ≢ s = λ is. (let one : cond {A = ℕ} (e.session == s) 1 0 ≡ 1 = ap (λ (t : Bool). cond {A = ℕ} t 1 0) (eq-eqb e.session s is) in absurd (omega (arith, counts, one, same))) in
    stays_entry s h e other (tx_of_other (log h) e s x.tx other))
    (λ (x : IsAdministratorEntry (log h) e).
    let zero : e.session ≡ 0 = x.session in
    let other : e.session ≢ s = λ is. absurd (omega arith) in
    let its : x.begin.session ≢ s = λ is. (let more = end_counts s h e some x is in absurd (omega (arith, more, same))) in
    let positive : e.tx ≢ 0 = let n : e.tx ≡ x.at + 1 = x.tx in omega arith in
    stays_entry s h e other (tx_of_end_of (log h) e x.begin.session s (ap is_end x.aborts) positive (sym x.is_open) its))
    fit.by
stays_push s some h (Ended f t) legal same = stays_else s h (Ended f t) refl (λ u q. refl)
stays_push s some h (ReadFailed t q b) legal same = stays_else s h (ReadFailed t q b) refl (λ u n. refl)
stays_push s some h (LogFailed t q) legal same =
    let counts = failure_counts s h t q in
    let other : t ≢ s = λ is. (let one : cond {A = ℕ} (t == s) 1 0 ≡ 1 = ap (λ (z : Bool). cond {A = ℕ} z 1 0) (eq-eqb t s is) in absurd (omega (arith, counts, one, same))) in
    record {
      entries = entries-same s h (h ++ LogFailed t q ∷ []) (log-same h (LogFailed t q) refl);
      tx = ap (λ (l : List Entry). tx_of l s) (log-same h (LogFailed t q) refl);
      log_faults = λ n. log_faults-stay h (LogFailed t q) s n (no_fault_of_other t q s n other);
      own = subst (HasOwnIn s (log h)) (sym (log-same h (LogFailed t q) refl)) (own_itself s (log h));
    }
stays_push s some h (Disabled b) legal same = stays_else s h (Disabled b) refl (λ u q. refl)
stays_push s some h (Enabled b) legal same = stays_else s h (Enabled b) refl (λ u q. refl)
stays_push s some h (Marker name b) legal same = stays_else s h (Marker name b) refl (λ u q. refl)

stays_from : (s : ℕ) → 0 < s → (g rest : List Event) → IsLegal (g ++ rest) → event_count_of s (g ++ rest) ≤ event_count_of s g → OwnStays s g (g ++ rest)
stays_from s some g [] legal few = subst (OwnStays s g) (sym (append-nil g)) (stays_self s g)
stays_from s some g (x ∷ rest) legal few =
    let split : (g ++ x ∷ []) ++ rest ≡ g ++ x ∷ rest = append_assoc g (x ∷ []) rest in
    let whole : IsLegal ((g ++ x ∷ []) ++ rest) = subst IsLegal (sym split) legal in
    let lo : event_count_of s g ≤ event_count_of s (g ++ x ∷ []) = counts_of_prefix s g (g ++ x ∷ []) (x ∷ [], refl) in
    let hi : event_count_of s (g ++ x ∷ []) ≤ event_count_of s ((g ++ x ∷ []) ++ rest) = counts_of_prefix s (g ++ x ∷ []) ((g ++ x ∷ []) ++ rest) (rest, refl) in
    let all : event_count_of s ((g ++ x ∷ []) ++ rest) ≡ event_count_of s (g ++ x ∷ rest) = ap (event_count_of s) split in
    let one = stays_push s some g x (legal_prefix (g ++ x ∷ []) ((g ++ x ∷ []) ++ rest) (rest, refl) whole) (omega (arith, lo, hi, all, few)) in
    subst (OwnStays s g) split (stays_then s g (g ++ x ∷ []) ((g ++ x ∷ []) ++ rest) one (stays_from s some (g ++ x ∷ []) rest whole (omega (arith, lo, hi, all, few))))

-- where a legal history is longer and has no more events of the session
pub own_stays : (s : ℕ) → 0 < s → (g h : List Event) → IsPrefix g h → IsLegal h → event_count_of s h ≤ event_count_of s g → OwnStays s g h
own_stays s some g h p legal few = subst (OwnStays s g) p.1 (stays_from s some g p.0 (subst IsLegal (sym p.1) legal) (subst (λ (x : List Event). event_count_of s x ≤ event_count_of s g) (sym p.1) few))

-- no entry of the session is newer than before
pub newer_stays : (s q : ℕ) (g h : List Event) → OwnStays s g h → All (λ (d : Entry). d.session ≡ s → d.seq ≤ q) (log g) → All (λ (d : Entry). d.session ≡ s → d.seq ≤ q) (log h)
newer_stays s q g h stays all = each_stays s (λ (d : Entry). d.seq ≤ q) (log g) (log h) stays.own all

-- an entry of the session that could come next still can
pub fit_stays : (s : ℕ) → 0 < s → (g h : List Event) (e : Entry) → OwnStays s g h → e.session ≡ s → IsFitEntry (log g) e → IsFitEntry (log h) e
fit_stays s some g h e stays its fit =
    let own : IsSessionEntry (log g) e = session_fit (log g) e fit (subst (λ n. 0 < n) (sym its) some) in
    record {
      written = fit.written;
      user = fit.user;
      by = inl (record {
        session = own.session;
        limit = own.limit;
        newer = subst (λ n. All (λ (d : Entry). d.session ≡ n → d.seq < e.seq) (log h)) (sym its)
            (each_stays s (λ (d : Entry). d.seq < e.seq) (log g) (log h) stays.own (subst (λ n. All (λ (d : Entry). d.session ≡ n → d.seq < e.seq) (log g)) its own.newer));
        tx = subst (λ t. FitsTx t e.tx e.act) (sym (ap (tx_of (log h)) its ∙ (stays.tx ∙ sym (ap (tx_of (log g)) its)))) own.tx;
      });
    }
