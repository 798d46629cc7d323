-- How many events a session has behind one more event.
use Rattle.std.proofs.Common.{◌≡◌, ◌≢◌, ℕ, ◌+◌, ◌-◌, ◌<◌, ◌==◌, ◌&&◌, Bool, true, cond, List, [], ◌∷◌, ◌++◌, count_by, slice_get, None, Some, refl, ap, sym, ◌∙◌, subst, arith, ⊎_elim, append_assoc, append-nil, eq-eqb, ne_eqb}
use mathlib.Core.List.{IsPrefix}
use Rattle.std.proofs.lemmas.List.Elements.{filter_map-append}
use Rattle.std.proofs.lemmas.List.Sums.{sum_by-append, sum_by-cons}
use Rattle.cj_board.proofs.Common.{Disabled, Enabled, Ended, Entry, Event, IsFitEntry, IsLegal, LogFailed, Marker, ReadFailed, Sched, event_count_of, log}
use Rattle.cj_cluster.specs.History.Legality.{IsAdministratorEntry, IsSessionEntry}
use Rattle.cj_cluster.specs.History.Transactions.{AreFitBehind}
use Rattle.cj_cluster.specs.Moves.Cores.{is_entry_of}
use Rattle.cj_cluster.specs.Moves.Moves.{entry_numbered}
use Rattle.cj_cluster.proofs.Pushed.{log-same, log-sched, prefix_get, prefix_trans}
use Rattle.cj_cluster.proofs.TransactionLaws.{legal_fit}
use Rattle.cj_board.specs.Counting.{ends_transaction_of, log_failure_session, log_failure_sessions}
use Rattle.cj_board.proofs.Counts.{and_weaker, count_weaker, entry_of_prefix}

-- entry i has the number i + 1
pub numbered_entry : (entries : List Entry) (i : ℕ) → entry_numbered entries (i + 1) ≡ slice_get entries i
numbered_entry entries i =
    let ne : i + 1 ≢ 0 = omega arith in
    let e : i + 1 - 1 ≡ i = omega arith in
    ap (λ (t : Bool). cond t None (slice_get entries (i + 1 - 1))) (ne_eqb (i + 1) 0 ne) ∙ ap (λ n. slice_get entries n) e

pub failures_same : (h : List Event) (e : Event) → log_failure_session e ≡ None → log_failure_sessions (h ++ e ∷ []) ≡ log_failure_sessions h
failures_same h (Sched e) is = filter_map-append log_failure_session h (Sched e ∷ []) ∙ append-nil (log_failure_sessions h)
failures_same h (Ended f s) is = filter_map-append log_failure_session h (Ended f s ∷ []) ∙ append-nil (log_failure_sessions h)
failures_same h (ReadFailed s q b) is = filter_map-append log_failure_session h (ReadFailed s q b ∷ []) ∙ append-nil (log_failure_sessions h)
failures_same h (LogFailed s q) is = absurd (cc is)
failures_same h (Disabled b) is = filter_map-append log_failure_session h (Disabled b ∷ []) ∙ append-nil (log_failure_sessions h)
failures_same h (Enabled b) is = filter_map-append log_failure_session h (Enabled b ∷ []) ∙ append-nil (log_failure_sessions h)
failures_same h (Marker name b) is = filter_map-append log_failure_session h (Marker name b ∷ []) ∙ append-nil (log_failure_sessions h)

-- whose transaction an entry ends is known from the entries before it
module _ (s : ℕ) (l m : List Entry) where
  ends_same : (before : List Entry) (x : Entry) → IsPrefix before l → IsPrefix before m → IsFitEntry before x → ends_transaction_of s l x ≡ ends_transaction_of s m x
  ends_same before x p q fit = ⊎_elim
      (λ (f : IsSessionEntry before x). let some = f.session.0 in let other : x.session ≢ 0 = omega arith in let no = ne_eqb x.session 0 other in
      ap (λ t. t && is_entry_of s (entry_numbered l x.tx)) no ∙ sym (ap (λ t. t && is_entry_of s (entry_numbered m x.tx)) no))
      (λ (a : IsAdministratorEntry before x).
      let found : (n : List Entry) → IsPrefix before n → entry_numbered n x.tx ≡ Some a.begin = λ n r. ap (entry_numbered n) a.tx ∙ (numbered_entry n a.at ∙ prefix_get before n a.at a.begin r a.began) in
      ap (λ o. x.session == 0 && is_entry_of s o) (found l p ∙ sym (found m q)))
      fit.by

  ended_same : (before rest : List Entry) → AreFitBehind before rest → IsPrefix (before ++ rest) l → IsPrefix (before ++ rest) m → count_by (ends_transaction_of s l) rest ≡ count_by (ends_transaction_of s m) rest
  ended_same before [] fits p q = refl
  ended_same before (x ∷ rest) fits p q =
      let begins : IsPrefix before (before ++ x ∷ rest) = (x ∷ rest, refl) in
      let here = ends_same before x (prefix_trans before (before ++ x ∷ rest) l begins p) (prefix_trans before (before ++ x ∷ rest) m begins q) fits.0 in
      let split : (before ++ x ∷ []) ++ rest ≡ before ++ x ∷ rest = append_assoc before (x ∷ []) rest in
      let more = ended_same (before ++ x ∷ []) rest fits.1 (subst (λ w. IsPrefix w l) (sym split) p) (subst (λ w. IsPrefix w m) (sym split) q) in
      let a = ap (λ b. cond {A = ℕ} b 1 0) here in
      let b : count_by (ends_transaction_of s l) (x ∷ rest) ≡ cond {A = ℕ} (ends_transaction_of s l x) 1 0 + count_by (ends_transaction_of s l) rest = sum_by-cons (λ e. cond (ends_transaction_of s l e) 1 0) x rest in
      let c : count_by (ends_transaction_of s m) (x ∷ rest) ≡ cond {A = ℕ} (ends_transaction_of s m x) 1 0 + count_by (ends_transaction_of s m) rest = sum_by-cons (λ e. cond (ends_transaction_of s m e) 1 0) x rest in
      omega (arith, a, b, c, more)

pub count_one : {A : Type 0} (p : A → Bool) (xs : List A) (x : A) → count_by p (xs ++ x ∷ []) ≡ count_by p xs + cond (p x) 1 0
count_one p xs x =
    let a : count_by p (xs ++ x ∷ []) ≡ count_by p xs + count_by p (x ∷ []) = sum_by-append (λ y. cond (p y) 1 0) xs (x ∷ []) in
    let b : count_by p (x ∷ []) ≡ cond {A = ℕ} (p x) 1 0 + count_by p [] = sum_by-cons (λ y. cond (p y) 1 0) x [] in
    let c : count_by p [] ≡ 0 = refl in
    omega (arith, a, b, c)

module _ (t : ℕ) (h : List Event) where
  pub entry_counts : (e : Entry) → IsLegal h → 0 < e.session → event_count_of t (h ++ Sched e ∷ []) ≡ event_count_of t h + cond (e.session == t) 1 0
  entry_counts e legal some =
      let l = log h in
      let m : List Entry = l ++ e ∷ [] in
      let own = count_one (λ (x : Entry). x.session == t) l e in
      let ends = count_one (ends_transaction_of t m) l e in
      let same = ended_same t l m [] l (legal_fit h legal) ([], append-nil l) (e ∷ [], refl) in
      let other : e.session ≢ 0 = omega arith in
      let none : cond {A = ℕ} (ends_transaction_of t m e) 1 0 ≡ 0 = ap (λ b. cond {A = ℕ} (b && is_entry_of t (entry_numbered m e.tx)) 1 0) (ne_eqb e.session 0 other) in
      rw (log-sched h e, failures_same h (Sched e) refl) (omega (arith, own, ends, same, none))

  pub failure_counts : (s q : ℕ) → event_count_of t (h ++ LogFailed s q ∷ []) ≡ event_count_of t h + cond (s == t) 1 0
  failure_counts s q =
      let more = ap (count_by (λ x. x == t)) (filter_map-append log_failure_session h (LogFailed s q ∷ [])) ∙ count_one (λ x. x == t) (log_failure_sessions h) s in
      rw (log-same h (LogFailed s q) refl) (omega (arith, more))

-- the administrator's end of a transaction is an event of the session that began it
pub end_counts : (s : ℕ) (h : List Event) (e : Entry) → 0 < s → (a : IsAdministratorEntry (log h) e) → a.begin.session ≡ s → event_count_of s h < event_count_of s (h ++ Sched e ∷ [])
end_counts s h e some a its =
    let l : List Entry = log h in
    let m : List Entry = l ++ e ∷ [] in
    let longer : IsPrefix l m = (e ∷ [], refl) in
    let split : (p : Entry → Bool) → count_by p m ≡ count_by p l + cond {A = ℕ} (p e) 1 0 = λ p. count_one p l e in
    let own = split (λ (x : Entry). x.session == s) in
    let ends = split (ends_transaction_of s m) in
    let weaker = count_weaker (ends_transaction_of s l) (ends_transaction_of s m) l (λ d. and_weaker (d.session == 0) (is_entry_of s (entry_numbered l d.tx)) (is_entry_of s (entry_numbered m d.tx)) (entry_of_prefix s d.tx l m longer)) in
    let found : slice_get m a.at ≡ Some a.begin = prefix_get l m a.at a.begin longer a.began in
    let positive : e.tx ≢ 0 = let n : e.tx ≡ a.at + 1 = a.tx in omega arith in
    let place : e.tx - 1 ≡ a.at = let n : e.tx ≡ a.at + 1 = a.tx in omega arith in
    let numbered : is_entry_of s (entry_numbered m e.tx) ≡ true =
    ap (λ (t : Bool). is_entry_of s (cond t None (slice_get m (e.tx - 1)))) (ne_eqb e.tx 0 positive) ∙ (ap (λ i. is_entry_of s (slice_get m i)) place ∙ (ap (is_entry_of s) found ∙ eq-eqb a.begin.session s its))
    in
    let one : ends_transaction_of s m e ≡ true = ap (λ (t : Bool). t && is_entry_of s (entry_numbered m e.tx)) (eq-eqb e.session 0 a.session) ∙ numbered in
    let counted : cond {A = ℕ} (ends_transaction_of s m e) 1 0 ≡ 1 = ap (λ (t : Bool). cond {A = ℕ} t 1 0) one in
    rw (log-sched h e, failures_same h (Sched e) refl) (omega (arith, own, ends, weaker, counted))
