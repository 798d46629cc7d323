-- Sessions that have an own pass are open: so an event of nobody's session, or of an orphan's, is counted by no pass.
use Rattle.std.proofs.Common.{◌≡◌, ◌≢◌, ℕ, ◌+◌, ◌-◌, ◌<◌, ◌==◌, ◌&&◌, ◌||◌, not, Bool, true, false, cond, List, [], ◌∷◌, ◌++◌, map, filter, All, Contains, Option, None, Some, slice_get, refl, ap, sym, ◌∙◌, subst, arith, ne_eqb}
use Rattle.std.proofs.lemmas.Bool.{eqb-true}
use Rattle.std.proofs.lemmas.List.{map-append}
use Rattle.std.proofs.lemmas.List.Elements.{All-cons, All-contains, All-contains_itself, All-filter, All-weaker}
use Rattle.std.proofs.lemmas.List.Folds.{list_any-append}
use Rattle.cj_book.proofs.Common.{and_parts, BookSession, both_ways, Entry, entry_numbered, eq-eqb, has_session, is_orphan, is_orphan_of, IsLegal, list_any, log, LogFailed, book_session, next_session, Sched, SeatView, session_number, tx_of, without}
use Rattle.cj_cluster.proofs.Pushed.{prefix_get}
use Rattle.cj_cluster.specs.Moves.Cores.{is_entry_of}
use Rattle.cj_board.specs.Counting.{ends_transaction_of}
use Rattle.cj_book.specs.Books.{IsOpenSession}
use Rattle.cj_book.specs.Seated.{IsCounted, OwnersAreOpen, SeatedBook}
use Rattle.cj_transactions.proofs.Numbered.{numbers_without}
use Rattle.cj_book.proofs.Owned.{counts_more, failure_counts}

-- ---- where a session is opened or closed

abbrev pub numbers_of : List BookSession → List ℕ
numbers_of ss = map session_number ss

-- one more is open
module _ (ss : List BookSession) (n : ℕ) where
  still_open : (s : ℕ) → IsOpenSession (numbers_of ss) s → IsOpenSession (numbers_of (ss ++ book_session n ∷ [])) s
  still_open s o = record {
    some = o.some;
    is_open =
        ap (list_any (λ m. m == s)) (map-append session_number ss (book_session n ∷ []))
        ∙ (list_any-append (λ m. m == s) (numbers_of ss) (n ∷ []) ∙ ap (λ b. b || list_any (λ m. m == s) (n ∷ [])) o.is_open);
  }

  pub open_more : (given : List ℕ) → All (IsOpenSession (numbers_of ss)) given → All (IsOpenSession (numbers_of (ss ++ book_session n ∷ []))) given
  open_more given all = All-weaker (IsOpenSession (numbers_of ss)) (IsOpenSession (numbers_of (ss ++ book_session n ∷ []))) still_open given all

  now_open : 0 < n → IsOpenSession (numbers_of (ss ++ book_session n ∷ [])) n
  now_open some = record {
    some = some;
    is_open =
        ap (list_any (λ m. m == n)) (map-append session_number ss (book_session n ∷ []))
        ∙ (list_any-append (λ m. m == n) (numbers_of ss) (n ∷ []) ∙ last (list_any (λ m. m == n) (numbers_of ss)) (n == n) (eq-eqb n n refl));
  }
    where
      last : (a b : Bool) → b ≡ true → (a || (b || false)) ≡ true
      last true b is = refl
      last false b is = ap (λ x. x || false) is

pub open_own_more : (ss : List BookSession) (greatest : ℕ) (v : SeatView) → greatest + 1 ≡ next_session v → All (IsOpenSession (numbers_of ss)) v.given → All (IsOpenSession (numbers_of (ss ++ book_session (greatest + 1) ∷ []))) (next_session v ∷ v.given)
open_own_more ss greatest v gives all =
    let P = IsOpenSession (numbers_of (ss ++ book_session (greatest + 1) ∷ [])) in
    All-cons P (next_session v) v.given (subst P gives (now_open ss (greatest + 1) (omega arith))) (open_more ss (greatest + 1) v.given all)

-- another one is closed
other_open : (ss : List BookSession) (n s : ℕ) → s ≢ n → IsOpenSession (numbers_of ss) s → IsOpenSession (numbers_of (without session_number n ss)) s
other_open ss n s other o = record { some = o.some; is_open = ap (list_any (λ m. m == s)) (numbers_without session_number ss n) ∙ (kept (numbers_of ss) ∙ o.is_open) }
  where
    by_test : (m : ℕ) (ms : List ℕ) (b c : Bool) → (m == n) ≡ b → (m == s) ≡ c → list_any (λ k. k == s) (filter (λ k. not (k == n)) ms) ≡ list_any (λ k. k == s) ms → list_any (λ k. k == s) (cond (not b) (m ∷ filter (λ k. not (k == n)) ms) (filter (λ k. not (k == n)) ms)) ≡ (c || list_any (λ k. k == s) ms)
    by_test m ms true true isn iss rest = absurd (other (sym (eqb-true m s iss) ∙ eqb-true m n isn))
    by_test m ms true false isn iss rest = rest
    by_test m ms false c isn iss rest = ap (λ x. x || list_any (λ k. k == s) (filter (λ k. not (k == n)) ms)) iss ∙ ap (λ x. c || x) rest

    kept : (ms : List ℕ) → list_any (λ k. k == s) (filter (λ k. not (k == n)) ms) ≡ list_any (λ k. k == s) ms
    kept [] = refl
    kept (m ∷ ms) = by_test m ms (m == n) (m == s) refl refl (kept ms)

pub open_others : (ss : List BookSession) (given : List ℕ) (n : ℕ) → ¬ Contains given n → All (IsOpenSession (numbers_of ss)) given → All (IsOpenSession (numbers_of (without session_number n ss))) given
open_others ss given n unowned all =
    All-weaker (Contains given) (IsOpenSession (numbers_of (without session_number n ss)))
    (λ s here. other_open ss n s (λ is. unowned (subst (Contains given) is here)) (All-contains (IsOpenSession (numbers_of ss)) given s all here))
    given (All-contains_itself given)

-- the session itself is given no more
pub open_taken : (ss : List BookSession) (given : List ℕ) (n : ℕ) → ¬ Contains (filter (λ s. not (s == n)) given) n → All (IsOpenSession (numbers_of ss)) given → All (IsOpenSession (numbers_of (without session_number n ss))) (filter (λ s. not (s == n)) given)
open_taken ss given n out all = open_others ss (filter (λ s. not (s == n)) given) n out (All-filter (λ s. not (s == n)) (IsOpenSession (numbers_of ss)) given all)

-- ---- events that no pass counts

still_numbered : (l : List Entry) (e begin : Entry) (tx : ℕ) → entry_numbered l tx ≡ Some begin → entry_numbered (l ++ e ∷ []) tx ≡ Some begin
still_numbered l e begin tx found = by_test (tx == 0) refl
  where
    by_test : (b : Bool) → (tx == 0) ≡ b → entry_numbered (l ++ e ∷ []) tx ≡ Some begin
    by_test true is = let no : None ≡ Some begin = sym (ap (λ b. cond {A = Option Entry} b None (slice_get l (tx - 1))) is) ∙ found in absurd (cc no)
    by_test false is =
        let there : slice_get l (tx - 1) ≡ Some begin = sym (ap (λ b. cond {A = Option Entry} b None (slice_get l (tx - 1))) is) ∙ found in
        ap (λ b. cond {A = Option Entry} b None (slice_get (l ++ e ∷ []) (tx - 1))) is ∙ prefix_get l (l ++ e ∷ []) (tx - 1) begin (e ∷ [], refl) there

module _ (book : SeatedBook) (owners : OwnersAreOpen book) where
  -- the log's store failed for nobody's request
  pub nobody_failed : (q : ℕ) → IsCounted book (LogFailed 0 q)
  nobody_failed q = λ s here more.
      let own = All-contains (IsOpenSession book.state.sessions) book.view.given s owners here in
      let some : 0 < s = own.some in
      let counts = failure_counts s book.state.history 0 q in
      let other : 0 ≢ s = omega arith in
      let none : cond {A = ℕ} (0 == s) 1 0 ≡ 0 = ap (λ b. cond {A = ℕ} b 1 0) (ne_eqb 0 s other) in
      absurd (omega (arith, counts, none, more))

  -- the session of an orphan isn't open
  orphan_session : (s tx : ℕ) (e : Entry) (o : Option Entry) → entry_numbered (log book.state.history) tx ≡ o → is_orphan_of book.state tx o ≡ true → has_session book.state s ≡ true → is_entry_of s (entry_numbered (log book.state.history ++ e ∷ []) tx) ≡ false
  orphan_session s tx e None found orphan here = absurd (cc orphan)
  orphan_session s tx e (Some begin) found orphan here = ap (is_entry_of s) (still_numbered (log book.state.history) e begin tx found) ∙ by_test (begin.session == s) refl
    where
      off : (b : Bool) → not b ≡ true → b ≡ false
      off true n = absurd (cc n)
      off false n = refl

      by_test : (b : Bool) → (begin.session == s) ≡ b → b ≡ false
      by_test false is = refl
      by_test true is =
          let closed = off (has_session book.state begin.session) (and_parts (tx_of (log book.state.history) begin.session == tx) (not (has_session book.state begin.session)) orphan).1 in
          absurd (both_ways (has_session book.state s) (subst (λ n. has_session book.state n ≡ false) (eqb-true begin.session s is) closed) here)

  -- so no pass counts its end by the administrator, nor that the log's store failed in it
  pub orphan_counted : (e : Entry) → IsLegal book.state.history → e.session ≡ 0 → is_orphan book.state e.tx ≡ true → IsCounted book (Sched e) × IsCounted book (LogFailed e.session e.seq)
  orphan_counted e legal admin orphan = (
    λ s here more.
        let own = All-contains (IsOpenSession book.state.sessions) book.view.given s owners here in
        let some : 0 < s = own.some in
        let counts = counts_more s book.state.history e legal in
        let other : e.session ≢ s = omega (arith, admin, some) in
        let none : cond {A = ℕ} (e.session == s) 1 0 ≡ 0 = ap (λ b. cond {A = ℕ} b 1 0) (ne_eqb e.session s other) in
        let ends : cond {A = ℕ} (ends_transaction_of s (log book.state.history ++ e ∷ []) e) 1 0 ≡ 0 =
        ap (λ b. cond {A = ℕ} ((e.session == 0) && b) 1 0) (orphan_session s e.tx e (entry_numbered (log book.state.history) e.tx) refl orphan own.is_open) ∙ never (e.session == 0) in
        absurd (omega (arith, counts, none, ends, more)),
    subst (λ n. IsCounted book (LogFailed n e.seq)) (sym admin) (nobody_failed e.seq),
  )
    where
      never : (b : Bool) → cond {A = ℕ} (b && false) 1 0 ≡ 0
      never true = refl
      never false = refl
