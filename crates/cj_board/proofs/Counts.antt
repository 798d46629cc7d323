-- How many events a session has, in a beginning and in the whole, and that the next session has none.
use Rattle.std.proofs.Common.{◌≡◌, ℕ, zero, suc, ◌+◌, ◌-◌, ◌<◌, ◌≤◌, max, ◌==◌, ◌&&◌, Bool, true, false, cond, List, [], ◌∷◌, ◌++◌, map, get_or, slice_get, All, count_by, Some, None, Option, refl, sym, ap, ◌∙◌, arith, ne_eqb}
use mathlib.Core.List.{IsPrefix}
use Rattle.std.proofs.lemmas.List.Elements.{filter_map-append, All-head, All-tail}
use Rattle.std.proofs.lemmas.List.Sums.{sum_by-cons, sum_by-append, sum_by-le-sum_by}
use Rattle.cj_board.proofs.Common.{Entry, Event, log}
use Rattle.cj_cluster.specs.History.Turns.{entry_count_of}
use Rattle.cj_cluster.specs.Moves.Cores.{is_entry_of}
use Rattle.cj_cluster.specs.Moves.Moves.{entry_numbered}
use Rattle.cj_cluster.proofs.Pushed.{log-prefix, prefix_get}
use Rattle.cj_board.specs.Counting.{ends_transaction_of, log_failure_session, log_failure_sessions, event_count_of, greatest_of, session_after}

-- ---- lists

-- a list counts no less than a beginning
count_prefix : {A : Type 0} (p : A → Bool) (xs ys : List A) → IsPrefix xs ys → count_by p xs ≤ count_by p ys
count_prefix p xs ys pre = let all : count_by p ys ≡ count_by p xs + count_by p pre.0 = ap (count_by p) (sym pre.1) ∙ sum_by-append (λ x. cond (p x) 1 0) xs pre.0 in omega arith

-- none passes
count_none : {A : Type 0} (p : A → Bool) (xs : List A) → All (λ x. p x ≡ false) xs → count_by p xs ≡ 0
count_none p [] none = refl
count_none p (x ∷ xs) none =
    let rest = count_none p xs (All-tail (λ y. p y ≡ false) x xs none) in
    let first : cond {A = ℕ} (p x) 1 0 ≡ 0 = ap (λ t. cond {A = ℕ} t 1 0) (All-head (λ y. p y ≡ false) x xs none) in
    sum_by-cons (λ y. cond (p y) 1 0) x xs ∙ omega arith

pub count_weaker : {A : Type 0} (p q : A → Bool) (xs : List A) → ((x : A) → p x ≡ true → q x ≡ true) → count_by p xs ≤ count_by q xs
count_weaker p q xs f = sum_by-le-sum_by (λ x. cond (p x) 1 0) (λ x. cond (q x) 1 0) xs (λ x. by_test (p x) (q x) (f x))
  where
    by_test : (s t : Bool) → (s ≡ true → t ≡ true) → cond {A = ℕ} s 1 0 ≤ cond {A = ℕ} t 1 0
    by_test true t g = let on : cond {A = ℕ} t 1 0 ≡ 1 = ap (λ z. cond {A = ℕ} z 1 0) (g refl) in omega arith
    by_test false t g = omega arith

-- ---- beginnings

pub entry_of_prefix : (s n : ℕ) (xs ys : List Entry) → IsPrefix xs ys → is_entry_of s (entry_numbered xs n) ≡ true → is_entry_of s (entry_numbered ys n) ≡ true
entry_of_prefix s n xs ys p is = by_test (n == 0) is
  where
    by_found : (o : Option Entry) → slice_get xs (n - 1) ≡ o → is_entry_of s o ≡ true → is_entry_of s (slice_get ys (n - 1)) ≡ true
    by_found None e is = absurd cc
    by_found (Some x) e is = ap (is_entry_of s) (prefix_get xs ys (n - 1) x p e) ∙ is

    by_test : (t : Bool) → is_entry_of s (cond t None (slice_get xs (n - 1))) ≡ true → is_entry_of s (cond t None (slice_get ys (n - 1))) ≡ true
    by_test true is = is
    by_test false is = by_found (slice_get xs (n - 1)) refl is

pub and_weaker : (t x y : Bool) → (x ≡ true → y ≡ true) → (t && x) ≡ true → (t && y) ≡ true
and_weaker true x y f is = f is
and_weaker false x y f is = is

-- a history has no fewer events of a session than a beginning of it
pub counts_of_prefix : (s : ℕ) (g h : List Event) → IsPrefix g h → event_count_of s g ≤ event_count_of s h
counts_of_prefix s g h p =
    let logs = log-prefix g h p in
    let faults : IsPrefix (log_failure_sessions g) (log_failure_sessions h) = (log_failure_sessions p.0, sym (filter_map-append log_failure_session g p.0) ∙ ap log_failure_sessions p.1) in
    let a : entry_count_of s g ≤ entry_count_of s h = count_prefix (λ (e : Entry). e.session == s) (log g) (log h) logs in
    let b = count_weaker (ends_transaction_of s (log g)) (ends_transaction_of s (log h)) (log g)
    (λ e. and_weaker (e.session == 0) (is_entry_of s (entry_numbered (log g) e.tx)) (is_entry_of s (entry_numbered (log h) e.tx)) (entry_of_prefix s e.tx (log g) (log h) logs)) in
    let c = count_prefix (ends_transaction_of s (log h)) (log g) (log h) logs in
    let d = count_prefix (λ t. t == s) (log_failure_sessions g) (log_failure_sessions h) faults in
    omega arith

-- ---- the next session

all_below : (s : ℕ) (xs : List ℕ) → greatest_of xs < s → All (λ x. x == s ≡ false) xs
all_below s [] lt k d le = absurd (omega arith)
all_below s (x ∷ xs) lt zero d le = ne_eqb x s (λ e. omega arith)
all_below s (x ∷ xs) lt (suc k) d le = all_below s xs (omega arith) k d (omega arith)

greatest-append : (xs ys : List ℕ) → greatest_of (xs ++ ys) ≡ max (greatest_of xs) (greatest_of ys)
greatest-append [] ys = omega arith
greatest-append (x ∷ xs) ys = let i = greatest-append xs ys in omega arith

no_entry : (s : ℕ) (xs : List Entry) → greatest_of (map (λ (e : Entry). e.session) xs) < s → All (λ (e : Entry). e.session == s ≡ false) xs
no_entry s [] lt k d le = absurd (omega arith)
no_entry s (x ∷ xs) lt zero d le = ne_eqb x.session s (λ e. omega arith)
no_entry s (x ∷ xs) lt (suc k) d le = no_entry s xs (omega arith) k d (omega arith)

none_numbered : (s n : ℕ) (xs : List Entry) → All (λ (e : Entry). e.session == s ≡ false) xs → is_entry_of s (entry_numbered xs n) ≡ false
none_numbered s n xs none = by_test (n == 0)
  where
    at : (k : ℕ) (ys : List Entry) → All (λ (e : Entry). e.session == s ≡ false) ys → is_entry_of s (slice_get ys k) ≡ false
    at k [] a = refl
    at zero (y ∷ ys) a = All-head (λ (e : Entry). e.session == s ≡ false) y ys a
    at (suc k) (y ∷ ys) a = at k ys (All-tail (λ (e : Entry). e.session == s ≡ false) y ys a)

    by_test : (t : Bool) → is_entry_of s (cond t None (slice_get xs (n - 1))) ≡ false
    by_test true = refl
    by_test false = at (n - 1) xs none

and_false : (t x : Bool) → x ≡ false → (t && x) ≡ false
and_false true x e = e
and_false false x e = refl

-- no event is of a session above all
pub next_has_none : (last s : ℕ) (h : List Event) → s ≡ session_after last h → event_count_of s h ≡ 0
next_has_none last s h is =
    let top = greatest-append (map (λ (e : Entry). e.session) (log h)) (log_failure_sessions h) in
    let entries = no_entry s (log h) (omega arith) in
    let a : entry_count_of s h ≡ 0 = count_none (λ (e : Entry). e.session == s) (log h) entries in
    let b = count_none (ends_transaction_of s (log h)) (log h) (λ k d lt. let e : Entry = get_or (log h) k d in and_false (e.session == 0) (is_entry_of s (entry_numbered (log h) e.tx)) (none_numbered s e.tx (log h) entries)) in
    let c = count_none (λ t. t == s) (log_failure_sessions h) (all_below s (log_failure_sessions h) (omega arith)) in
    omega arith
