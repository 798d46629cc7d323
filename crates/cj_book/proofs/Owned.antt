-- Sessions that have an own pass: what one more event counts, and the number of the next session.
use Rattle.std.proofs.Common.{◌≡◌, ◌≢◌, ℕ, ◌+◌, ◌<◌, ◌≤◌, ◌==◌, length, length-append, ◌&&◌, not, max, Bool, true, false, cond, List, [], ◌∷◌, ◌++◌, map, filter, fold, count_by, All, Contains, Option, None, Some, Result, Ok, Err, OnOk, OnErr, IsErrOf, refl, ap, sym, ◌∙◌, subst, arith, ne_eqb, eqb-true, append_assoc, ⊎_elim}
use mathlib.Core.List.{IsPrefix}
use Rattle.std.proofs.lemmas.List.{append-nil, map-append}
use Rattle.std.proofs.lemmas.List.Elements.{filter_map-append, All-cons, All-contains, All-nil, Contains-append_right}
use Rattle.std.proofs.lemmas.List.Sums.{sum_by-cons, sum_by-append}
use Rattle.std.proofs.Math.Nat.{le-max_left}
use Rattle.std.proofs.lemmas.Result.{on_err_weaker, on_ok_weaker}
use Rattle.cj_book.proofs.Common.{book_after, BookError, CanCount, Entry, entry_numbered, eqb-false, Event, greatest_session, HasCountNotes, hearing, HistoryFull, InProgress, IsAdministratorEntry, IsFitEntry, IsLegal, IsOpening, IsErrAnd, IsSessionEntry, le-leb, legal_fit, log, LogError, LogFailed, LogFault, Marker, NoBackend, NoMemory, pass_after, Sched, scheduled_entry, SeatView}
use Rattle.cj_cluster.specs.History.Transactions.{AreFitBehind}
use Rattle.cj_cluster.specs.Moves.Cores.{is_entry_of}
use Rattle.cj_cluster.proofs.Pushed.{log-same, log-sched, prefix_get, prefix_trans}
use Rattle.cj_board.specs.Counting.{ends_transaction_of, event_count_of, greatest_of, log_failure_session, log_failure_sessions, session_after, sessions_in}
use Rattle.cj_board.specs.Views.{count_note_of, next_session}
use Rattle.cj_book.specs.Books.{BookState, with_event}
use Rattle.cj_book.specs.Events.{entry_finished}
use Rattle.cj_log.specs.declared.error.LogError.TheVariants as log_errors
use Rattle.cj_board.specs.Steps.{after_append}
use Rattle.cj_book.specs.Seated.{event_or_fault, own_book_after, own_opened, own_pass_after, view_after, SeatedBook}
use Rattle.cj_book.proofs.Announcing.{failures_same}
use Rattle.cj_book.proofs.Counted.{opening_unfailed}
use Rattle.cj_transactions.proofs.TransactionSteps.{numbered_entry}

-- ---- one event more of a session

-- whose transaction an entry ends is known from the entries before it
module _ (s : ℕ) (l m : List Entry) where
  ends_same : (before : List Entry) (x : Entry) → IsPrefix before l → IsPrefix before m → IsFitEntry before x → ends_transaction_of s l x ≡ ends_transaction_of s m x
  ends_same before x p q fit = ⊎_elim
      (λ (f : IsSessionEntry before x). let some = f.session.0 in let other : x.session ≢ 0 = omega arith in let no = ne_eqb x.session 0 other in
      ap (λ t. t && is_entry_of s (entry_numbered l x.tx)) no ∙ sym (ap (λ t. t && is_entry_of s (entry_numbered m x.tx)) no))
      (λ (a : IsAdministratorEntry before x).
      let found : (n : List Entry) → IsPrefix before n → entry_numbered n x.tx ≡ Some a.begin = λ n r. ap (entry_numbered n) a.tx ∙ (numbered_entry n a.at ∙ prefix_get before n a.at a.begin r a.began) in
      ap (λ o. x.session == 0 && is_entry_of s o) (found l p ∙ sym (found m q)))
      fit.by

  ended_same : (before rest : List Entry) → AreFitBehind before rest → IsPrefix (before ++ rest) l → IsPrefix (before ++ rest) m → count_by (ends_transaction_of s l) rest ≡ count_by (ends_transaction_of s m) rest
  ended_same before [] fits p q = refl
  ended_same before (x ∷ rest) fits p q =
      let begins : IsPrefix before (before ++ x ∷ rest) = (x ∷ rest, refl) in
      let here = ends_same before x (prefix_trans before (before ++ x ∷ rest) l begins p) (prefix_trans before (before ++ x ∷ rest) m begins q) fits.0 in
      let split : (before ++ x ∷ []) ++ rest ≡ before ++ x ∷ rest = append_assoc before (x ∷ []) rest in
      let more = ended_same (before ++ x ∷ []) rest fits.1 (subst (λ w. IsPrefix w l) (sym split) p) (subst (λ w. IsPrefix w m) (sym split) q) in
      let a = ap (λ b. cond {A = ℕ} b 1 0) here in
      let b : count_by (ends_transaction_of s l) (x ∷ rest) ≡ cond {A = ℕ} (ends_transaction_of s l x) 1 0 + count_by (ends_transaction_of s l) rest = sum_by-cons (λ e. cond (ends_transaction_of s l e) 1 0) x rest in
      let c : count_by (ends_transaction_of s m) (x ∷ rest) ≡ cond {A = ℕ} (ends_transaction_of s m x) 1 0 + count_by (ends_transaction_of s m) rest = sum_by-cons (λ e. cond (ends_transaction_of s m e) 1 0) x rest in
      omega (arith, a, b, c, more)

count_one : {A : Type 0} (p : A → Bool) (xs : List A) (x : A) → count_by p (xs ++ x ∷ []) ≡ count_by p xs + cond (p x) 1 0
count_one p xs x =
    let a : count_by p (xs ++ x ∷ []) ≡ count_by p xs + count_by p (x ∷ []) = sum_by-append (λ y. cond (p y) 1 0) xs (x ∷ []) in
    let b : count_by p (x ∷ []) ≡ cond {A = ℕ} (p x) 1 0 + count_by p [] = sum_by-cons (λ y. cond (p y) 1 0) x [] in
    let c : count_by p [] ≡ 0 = refl in
    omega (arith, a, b, c)

module _ (t : ℕ) (h : List Event) where
  pub counts_more : (e : Entry) → IsLegal h → event_count_of t (h ++ Sched e ∷ []) ≡ event_count_of t h + cond (e.session == t) 1 0 + cond (ends_transaction_of t (log h ++ e ∷ []) e) 1 0
  counts_more e legal =
      let l = log h in
      let m : List Entry = l ++ e ∷ [] in
      let own = count_one (λ (x : Entry). x.session == t) l e in
      let ends = count_one (ends_transaction_of t m) l e in
      let same = ended_same t l m [] l (legal_fit h legal) ([], append-nil l) (e ∷ [], refl) in
      rw (log-sched h e, failures_same h (Sched e) refl) (omega (arith, own, ends, same))

  pub entry_counts : (e : Entry) → IsLegal h → 0 < e.session → event_count_of t (h ++ Sched e ∷ []) ≡ event_count_of t h + cond (e.session == t) 1 0
  entry_counts e legal some =
      let m : List Entry = log h ++ e ∷ [] in
      let other : e.session ≢ 0 = omega arith in
      let none : cond {A = ℕ} (ends_transaction_of t m e) 1 0 ≡ 0 = ap (λ b. cond {A = ℕ} (b && is_entry_of t (entry_numbered m e.tx)) 1 0) (ne_eqb e.session 0 other) in
      let more = counts_more e legal in
      omega (arith, more, none)

  pub failure_counts : (s q : ℕ) → event_count_of t (h ++ LogFailed s q ∷ []) ≡ event_count_of t h + cond (s == t) 1 0
  failure_counts s q =
      let more = ap (count_by (λ x. x == t)) (filter_map-append log_failure_session h (LogFailed s q ∷ [])) ∙ count_one (λ x. x == t) (log_failure_sessions h) s in
      rw (log-same h (LogFailed s q) refl) (omega (arith, more))

-- the session's pass had counted all others, and counted this one
own_counted : (given : List ℕ) (h : List Event) (notes : List (ℕ × ℕ)) (x : Event) (s n : ℕ) → ((t : ℕ) → event_count_of t (h ++ x ∷ []) ≡ event_count_of t h + cond (s == t) 1 0) → event_count_of s h ≤ n → Contains notes (s, n + 1) → HasCountNotes given h notes x
own_counted given h notes x s n counts few noted = λ t here more. by_test (s == t) t refl (counts t) more
  where
    by_test : (b : Bool) (t : ℕ) → (s == t) ≡ b → event_count_of t (h ++ x ∷ []) ≡ event_count_of t h + cond b 1 0 → event_count_of t h < event_count_of t (h ++ x ∷ []) → (k : ℕ) × Contains notes (t, k) × (event_count_of t (h ++ x ∷ []) ≤ k)
    by_test true t is counts more = let same : s ≡ t = eqb-true s t is in let all : event_count_of t h ≤ n = subst (λ z. event_count_of z h ≤ n) same few in (n + 1, subst (λ z. Contains notes (z, n + 1)) same noted, omega arith)
    by_test false t is counts more = absurd (omega arith)

-- ---- the number of the next session

greatest-append : (xs ys : List ℕ) → greatest_of (xs ++ ys) ≡ max (greatest_of xs) (greatest_of ys)
greatest-append [] ys = omega arith
greatest-append (x ∷ xs) ys = let i = greatest-append xs ys in omega arith

sessions_more : (g h : List Event) → greatest_of (sessions_in (g ++ h)) ≡ max (greatest_of (sessions_in g)) (greatest_of (sessions_in h))
sessions_more g h =
    let number : Entry → ℕ = λ e. e.session in
    let entries : map number (log (g ++ h)) ≡ map number (log g) ++ map number (log h) = ap (map number) (filter_map-append scheduled_entry g h) ∙ map-append number (log g) (log h) in
    let all = ap greatest_of (ap (λ xs. xs ++ log_failure_sessions (g ++ h)) entries ∙ ap (λ xs. (map number (log g) ++ map number (log h)) ++ xs) (filter_map-append log_failure_session g h)) in
    let a = greatest-append (map number (log g) ++ map number (log h)) (log_failure_sessions g ++ log_failure_sessions h) in
    let b = greatest-append (map number (log g)) (map number (log h)) in
    let c = greatest-append (log_failure_sessions g) (log_failure_sessions h) in
    let d = greatest-append (map number (log g)) (log_failure_sessions g) in
    let e = greatest-append (map number (log h)) (log_failure_sessions h) in
    omega (arith, all, a, b, c, d, e)

-- it stays where events come of no greater session than was given
pub next_stays : (greatest last : ℕ) (g h : List Event) → greatest + 1 ≡ session_after last g → greatest_of (sessions_in h) ≤ greatest → greatest + 1 ≡ session_after last (g ++ h)
next_stays greatest last g h is low = let all = sessions_more g h in omega (arith, all)

-- after an event of no session
pub next_after : (greatest : ℕ) (v : SeatView) (x : Event) → greatest_of (sessions_in (x ∷ [])) ≡ 0 → greatest + 1 ≡ next_session v → greatest + 1 ≡ next_session (after_append x v)
next_after greatest v x none gives = next_stays greatest v.last_given v.front (x ∷ []) gives (omega (arith, none))

-- the last that was given an own pass
pub given_low : (greatest : ℕ) (v : SeatView) → greatest + 1 ≡ next_session v → v.last_given ≤ greatest
given_low greatest v gives =
    let next : next_session v ≡ max v.last_given (greatest_of (sessions_in v.front)) + 1 = omega arith in
    let low = le-max_left v.last_given (greatest_of (sessions_in v.front)) in
    omega (arith, gives, next, low)

-- or one that came or didn't, of a session that was given
pub came_gives : (greatest : ℕ) (v : SeatView) (o : Option Event) → ((x : Event) → o ≡ Some x → greatest_of (sessions_in (x ∷ [])) ≤ greatest) → greatest + 1 ≡ next_session v → greatest + 1 ≡ next_session (view_after o v)
came_gives greatest v None low gives = gives
came_gives greatest v (Some e) low gives = next_stays greatest v.last_given v.front (e ∷ []) gives (low e refl)

-- and is the next of a book that was just opened
folded : (n : ℕ) (entries : List Entry) → fold (λ k (e : Entry). max k e.session) n entries ≡ max n (greatest_of (map (λ (e : Entry). e.session) entries))
folded n [] = omega arith
folded n (e ∷ entries) = let i = folded (max n e.session) entries in omega (arith, i)

pub opening_gives : (h : List Event) (greatest : ℕ) (v : SeatView) → IsOpening h → v.front ≡ h → v.last_given ≡ 0 → greatest ≡ greatest_session (log h) → greatest + 1 ≡ next_session v
opening_gives h greatest v o seen none is =
    let number : Entry → ℕ = λ e. e.session in
    let a : greatest_session (log h) ≡ max 0 (greatest_of (map number (log h))) = folded 0 (log h) in
    let b = greatest-append (map number (log h)) (log_failure_sessions h) in
    let c = ap greatest_of (opening_unfailed h o) in
    let d = ap (λ (g : List Event). greatest_of (sessions_in g)) seen in
    omega (arith, a, b, c, d)

-- ---- an entry of a session with an own pass

or_fault : {T : Type 0} (P : Event → Type 0) (e fault : Event) (result : Result T BookError) → P e → P fault → (x : Event) → event_or_fault e fault result ≡ Some x → P x
or_fault P e fault (Ok y) here failed x is = let same : e ≡ x = cc is in subst P same here
or_fault P e fault (Err (InProgress n)) here failed x is = absurd (cc is)
or_fault P e fault (Err NoBackend) here failed x is = absurd (cc is)
or_fault P e fault (Err (HistoryFull n)) here failed x is = absurd (cc is)
or_fault P e fault (Err LogFault) here failed x is = let same : fault ≡ x = cc is in subst P same failed
or_fault P e fault (Err NoMemory) here failed x is = absurd (cc is)

-- what a call leaves that may bring an event with its item in the log
by_result : {T : Type 0} (P : Type 0) (result : Result T BookError) → OnOk result P → (IsErrOf result LogFault → P) → OnErr result (¬ IsErrOf result LogFault → P) → P
by_result P (Ok x) ok failed same = ok
by_result P (Err (InProgress n)) ok failed same = same (λ is. absurd (cc is))
by_result P (Err NoBackend) ok failed same = same (λ is. absurd (cc is))
by_result P (Err (HistoryFull n)) ok failed same = same (λ is. absurd (cc is))
by_result P (Err LogFault) ok failed same = failed refl
by_result P (Err NoMemory) ok failed same = same (λ is. absurd (cc is))

pub noted_own : (own s k : ℕ) → own ≡ s → 0 < s → count_note_of own k ≡ (s, k) ∷ []
noted_own own s k is some = let other : own ≢ 0 = omega arith in ap (λ b. cond b [] ((own, k) ∷ [])) (ne_eqb own 0 other) ∙ ap (λ z. (z, k) ∷ []) is

own_noted : (own s k : ℕ) → own ≡ s → 0 < s → Contains (count_note_of own k) (s, k)
own_noted own s k is some = subst (λ (ns : List (ℕ × ℕ)). Contains ns (s, k)) (sym (noted_own own s k is some)) (0, omega arith, refl)

-- the book that gave a session its own pass has a note of it
pub opened_note : (v : SeatView) (s : ℕ) → next_session v ≡ s → 0 < s → Contains (own_opened v).count_notes (s, 0)
opened_note v s is some =
    let notes = v.count_notes ++ count_note_of v.own_session v.count in
    Contains-append_right v.count_notes (notes ++ count_note_of (next_session v) 0) (s, 0) (Contains-append_right notes (count_note_of (next_session v) 0) (s, 0) (own_noted (next_session v) s 0 is some))

-- the book that learned from the pass how far that counts may hear of an event of the session
pub own_can_count : (book : SeatedBook) (w : SeatView) (x : Event) (s : ℕ) → w.own_session ≡ s → 0 < s → event_count_of s book.state.history ≤ w.count
    → ((t : ℕ) → event_count_of t (book.state.history ++ x ∷ []) ≡ event_count_of t book.state.history + cond (s == t) 1 0) → CanCount book (Some w) x
own_can_count book w x s own some few counts =
    let note = own_noted w.own_session s (w.count + 1) own some in
    let noted = Contains-append_right book.view.count_notes (w.count_notes ++ count_note_of w.own_session (w.count + 1)) (s, w.count + 1) (Contains-append_right w.count_notes (count_note_of w.own_session (w.count + 1)) (s, w.count + 1) note) in
    own_counted book.view.given book.state.history (hearing (Some w) book.view).count_notes x s w.count counts few noted

-- ---- after an event that came, or none

module _ (v w : SeatView) where
  pub own_same : (o : Option Event) → (own_pass_after o v w).own_session ≡ w.own_session
  own_same None = refl
  own_same (Some e) = refl

  -- the pass that had seen the history has seen it
  pub own_front : (o : Option Event) → w.front ≡ v.front → (own_pass_after o v w).front ≡ (own_book_after o v w).front
  own_front None told = told
  own_front (Some e) told =
      let more = length-append v.front (e ∷ []) in
      let same = ap (λ (l : List Event). length l) told in
      ap (λ b. cond b (v.front ++ e ∷ []) w.front) (le-leb (length w.front) (length (v.front ++ e ∷ [])) (omega (arith, more, same)))

  pub own_gives : (greatest : ℕ) (o : Option Event) → ((x : Event) → o ≡ Some x → greatest_of (sessions_in (x ∷ [])) ≤ greatest) → greatest + 1 ≡ next_session v → greatest + 1 ≡ next_session (own_book_after o v w)
  own_gives greatest None low gives = gives
  own_gives greatest (Some e) low gives = next_stays greatest v.last_given v.front (e ∷ []) gives (low e refl)

-- a call that took the pass, and put it back
pub finished_own : (v w u x : SeatView) (own after : Option SeatView) (o : Option Event) → own ≡ Some w → u ≡ book_after o own v → after ≡ pass_after o own v → after ≡ Some x → (u ≡ own_book_after o v w) × (x ≡ own_pass_after o v w)
finished_own v w u x own after o taken seat passed back =
    let same : Some x ≡ Some (own_pass_after o v w) = sym back ∙ (passed ∙ ap (λ (z : Option SeatView). pass_after o z v) taken) in
    (seat ∙ ap (λ (z : Option SeatView). book_after o z v) taken, cc same)

-- a call that was refused before the log was asked brings none
pub none_came : {T U : Type 0} (r : Result U BookError) (d : BookError) (e fault : Event) → IsErrAnd r (λ x. x ≡ d) → ¬ IsErrOf {T = T} (Err d) LogFault → event_or_fault e fault r ≡ None
none_came (Ok x) d e fault is well = absurd is
none_came (Err (InProgress n)) d e fault is well = refl
none_came (Err NoBackend) d e fault is well = refl
none_came (Err (HistoryFull n)) d e fault is well = refl
none_came (Err LogFault) d e fault is well = absurd (well (ap (λ (x : BookError). Err x) (sym is)))
none_came (Err NoMemory) d e fault is well = refl

pub finished_greatest : (old : BookState) (e : Entry) (appended : Result Unit LogError) (new : BookState) → new ≡ entry_finished old e appended → new.greatest ≡ old.greatest
finished_greatest old e (Ok u) new is = ap (λ (b : BookState). b.greatest) is
finished_greatest old e (Err log_errors.Failed) new is = ap (λ (b : BookState). b.greatest) is
finished_greatest old e (Err log_errors.NoMemory) new is = ap (λ (b : BookState). b.greatest) is

-- what was seen before is a beginning of what is seen then
pub finished_longer : (old : BookState) (e : Entry) (appended : Result Unit LogError) (new : BookState) → new ≡ entry_finished old e appended → IsPrefix old.history new.history
finished_longer old e (Ok u) new is = (Sched e ∷ [], sym (ap (λ (b : BookState). b.history) is))
finished_longer old e (Err log_errors.Failed) new is = (LogFailed e.session e.seq ∷ [], sym (ap (λ (b : BookState). b.history) is))
finished_longer old e (Err log_errors.NoMemory) new is = ([], append-nil old.history ∙ sym (ap (λ (b : BookState). b.history) is))

pub still_own : {own after : Option SeatView} {w : SeatView} (o : Option Event) (v : SeatView) → own ≡ Some w → after ≡ pass_after o own v → after ≢ None
still_own {w = w} o v own is none = let some : None ≡ Some (own_pass_after o v w) = sym none ∙ (is ∙ ap (λ (z : Option SeatView). pass_after o z v) own) in absurd (cc some)

pub low_sessions : {T : Type 0} (greatest : ℕ) (e : Entry) (result : Result T BookError) → e.session ≤ greatest → (x : Event) → event_or_fault (Sched e) (LogFailed e.session e.seq) result ≡ Some x → greatest_of (sessions_in (x ∷ [])) ≤ greatest
low_sessions greatest e result low =
    let one : greatest_of (sessions_in (Sched e ∷ [])) ≡ max e.session 0 = refl in
    let other : greatest_of (sessions_in (LogFailed e.session e.seq ∷ [])) ≡ max e.session 0 = refl in
    or_fault (λ x. greatest_of (sessions_in (x ∷ [])) ≤ greatest) (Sched e) (LogFailed e.session e.seq) result (omega arith) (omega arith)

pub marks_greatest : (old : BookState) (name : List ℕ) (b : Option ℕ) (result : Result ℕ BookError) (new : BookState) → OnOk result (new ≡ with_event old (Marker name b)) → (IsErrOf result LogFault → new ≡ with_event old (LogFailed 0 0))
    → OnErr result (¬ IsErrOf result LogFault → new ≡ old) → new.greatest ≡ old.greatest
marks_greatest old name b result new ok failed same = by_result (new.greatest ≡ old.greatest) result
    (on_ok_weaker result (λ is. ap (λ (b : BookState). b.greatest) is) ok)
    (λ is. ap (λ (b : BookState). b.greatest) (failed is))
    (on_err_weaker result (λ well no_fault. ap (λ (b : BookState). b.greatest) (well no_fault)) same)

pub mark_sessions : {T : Type 0} (greatest : ℕ) (name : List ℕ) (b : Option ℕ) (result : Result T BookError) → (x : Event) → event_or_fault (Marker name b) (LogFailed 0 0) result ≡ Some x → greatest_of (sessions_in (x ∷ [])) ≤ greatest
mark_sessions greatest name b result =
    let one : greatest_of (sessions_in (Marker name b ∷ [])) ≡ 0 = refl in
    let other : greatest_of (sessions_in (LogFailed 0 0 ∷ [])) ≡ 0 = refl in
    or_fault (λ x. greatest_of (sessions_in (x ∷ [])) ≤ greatest) (Marker name b) (LogFailed 0 0) result (omega arith) (omega arith)

-- a session that was closed has no own pass
pub closed_out : (s : ℕ) (given : List ℕ) → ¬ Contains (filter (λ t. not (t == s)) given) s
closed_out s given here =
    let P : ℕ → Type 0 = λ t. t ≢ s in
    All-contains P (filter (λ t. not (t == s)) given) s (others given) here refl
  where
    by_test : (b : Bool) (t : ℕ) (ts : List ℕ) → (t == s) ≡ b → All (λ z. z ≢ s) ts → All (λ z. z ≢ s) (cond (not b) (t ∷ ts) ts)
    by_test true t ts is all = all
    by_test false t ts is all = All-cons (λ z. z ≢ s) t ts (eqb-false t s is) all

    others : (ts : List ℕ) → All (λ z. z ≢ s) (filter (λ t. not (t == s)) ts)
    others [] = All-nil (λ z. z ≢ s)
    others (t ∷ ts) = by_test (t == s) t (filter (λ z. not (z == s)) ts) refl (others ts)
