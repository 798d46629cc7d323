-- A chain of turns schedules the entries that its session has behind its beginning.
use Rattle.std.proofs.Common.{◌≡◌, ℕ, zero, suc, ◌+◌, ◌-◌, ◌<◌, ◌≤◌, ◌==◌, Bool, true, false, cond, List, [], ◌∷◌, ◌++◌, length, take, slice_get, Some, refl, ap, sym, ◌∙◌, subst, arith, append_assoc, length-append}
use Rattle.std.specs.List.{filter}
use Rattle.std.proofs.Math.Seq.{take-append-add}
use Rattle.std.proofs.lemmas.Bool.{eq-eqb}
use Rattle.std.proofs.lemmas.List.{append-nil, nil_from_length}
use Rattle.std.proofs.lemmas.List.Elements.{filter-append, filter_map-append}
use Rattle.std.proofs.lemmas.List.Sums.{length-filter}
use mathlib.Core.List.{IsPrefix}
use Rattle.cj_model.specs.declared.request.Entry.{Entry}
use Rattle.cj_model.specs.Cluster.Placements.{Placement}
use Rattle.cj_cluster.specs.declared.event.Event.{Event}
use Rattle.cj_cluster.specs.declared.event.Event.TheVariants.{Sched, Ended, ReadFailed, LogFailed, Disabled, Enabled, Marker}
use Rattle.cj_cluster.specs.History.Histories.{log, scheduled_entry}
use Rattle.cj_cluster.specs.History.Turns.{SessionView, Call, Chain, Turn, TurnCase, entries_in, entry_of_call, scheduled, no_backend, read, read_fault, log_fault, full, starved}
use Rattle.cj_cluster.specs.Moves.Runs.{last_seen}
use Rattle.cj_cluster.proofs.Pushed.{log-prefix, prefix_length, prefix_self, prefix_trans}
use Rattle.cj_desk.specs.DeskStates.{DeskState}
use Rattle.cj_desk.specs.DeskChains.{IsDeskChain, StandsOver, entries_of, scheduled_by, scheduled_in}

-- ---- entries of a history

-- what is taken beyond a list's beginning begins with it
prefix_taken : {A : Type 0} (f h : List A) (n : ℕ) → IsPrefix f h → length f ≤ n → IsPrefix f (take n h)
prefix_taken f h n p le =
    let e : length f + (n - length f) ≡ n = omega arith in
    (take (n - length f) p.0, sym (take-append-add f p.0 (n - length f)) ∙ (ap (λ (k : ℕ). take k (f ++ p.0)) e ∙ ap (take n) p.1))

-- what stands behind a list's beginning stands in what was put there
get_past : {A : Type 0} (xs ys : List A) (k : ℕ) → length xs ≤ k → (i : ℕ) × (slice_get (xs ++ ys) k ≡ slice_get ys i)
get_past [] ys k le = (k, refl)
get_past (x ∷ xs) ys zero le = absurd (omega (arith, le))
get_past (x ∷ xs) ys (suc k) le = get_past xs ys k (omega (arith, le))

-- one event before them leaves the entries
pushed : (x : Event) (more : List Event) (e : Entry) → (i : ℕ) × (slice_get (log more) i ≡ Some e) → (i : ℕ) × (slice_get (log (x ∷ more)) i ≡ Some e)
pushed (Sched d) more e at = (suc at.0, at.1)
pushed (Ended f s) more e at = at
pushed (ReadFailed s q b) more e at = at
pushed (LogFailed s q) more e at = at
pushed (Disabled b) more e at = at
pushed (Enabled b) more e at = at
pushed (Marker name b) more e at = at

-- what was scheduled is an entry
in_log : (more : List Event) (k : ℕ) (e : Entry) → slice_get more k ≡ Some (Sched e) → (i : ℕ) × (slice_get (log more) i ≡ Some e)
in_log [] k e is = absurd (cc is)
in_log (x ∷ more) zero e is = let same : x ≡ Sched e = cc is in (0, subst (λ (y : Event). slice_get (log (y ∷ more)) 0 ≡ Some e) (sym same) refl)
in_log (x ∷ more) (suc k) e is = pushed x more e (in_log more k e is)

-- ---- who passes a test

module _ (own : Entry → Bool) where
  passed : (x : Entry) (es : List Entry) (t : Bool) → own x ≡ t → filter own (x ∷ es) ≡ cond t (x ∷ filter own es) (filter own es)
  passed x es t is = ap (λ (b : Bool). cond b (x ∷ filter own es) (filter own es)) is

  more_pass : (x : Entry) (es : List Entry) (t : Bool) → own x ≡ t → 0 < length (filter own es) → 0 < length (filter own (x ∷ es))
  more_pass x es true t some = let kept = ap length (passed x es true t) in omega (arith, kept)
  more_pass x es false t some = let kept = ap length (passed x es false t) in omega (arith, kept, some)

  some_pass : (es : List Entry) (i : ℕ) (e : Entry) → slice_get es i ≡ Some e → own e ≡ true → 0 < length (filter own es)
  some_pass [] i e is on = absurd (cc is)
  some_pass (x ∷ es) zero e is on = let same : x ≡ e = cc is in let kept = ap length (passed x es true (ap own same ∙ on)) in omega (arith, kept)
  some_pass (x ∷ es) (suc i) e is on = more_pass x es (own x) refl (some_pass es i e is on)

  -- where one passes, it is the one that is known to
  last_passes : (x : Entry) (es : List Entry) (e : Entry) (t : Bool) → own x ≡ t → 0 < length (filter own es) → (length (filter own es) ≡ 1 → filter own es ≡ e ∷ []) → length (filter own (x ∷ es)) ≡ 1 → filter own (x ∷ es) ≡ e ∷ []
  last_passes x es e true t some then one = let long = ap length (passed x es true t) in absurd (omega (arith, long, some, one))
  last_passes x es e false t some then one = let kept : filter own (x ∷ es) ≡ filter own es = passed x es false t in kept ∙ then (sym (ap length kept) ∙ one)

  one_passes : (es : List Entry) (i : ℕ) (e : Entry) → slice_get es i ≡ Some e → own e ≡ true → length (filter own es) ≡ 1 → filter own es ≡ e ∷ []
  one_passes [] i e is on one = absurd (cc is)
  one_passes (x ∷ es) zero e is on one =
      let same : x ≡ e = cc is in
      let kept : filter own (x ∷ es) ≡ x ∷ filter own es = passed x es true (ap own same ∙ on) in
      let long = ap length kept in
      let none : filter own es ≡ [] = nil_from_length (filter own es) (omega (arith, long, one)) in
      kept ∙ (ap (λ (l : List Entry). x ∷ l) none ∙ ap (λ (y : Entry). y ∷ []) same)
  one_passes (x ∷ es) (suc i) e is on one = last_passes x es e (own x) refl (some_pass es i e is on) (one_passes es i e is on) one

-- ---- one turn

module _ (tells : Bool) (p : Placement) (s : ℕ) (a : SessionView) (c : Call) (z : SessionView) (t : Turn tells p s a c z) where
  abbrev own : Entry → Bool
  own e = e.session == s

  abbrev more : List Event
  more = t.longer.0

  split : entries_of s z.front ≡ entries_of s a.front ++ filter own (log more)
  split = ap (entries_of s) (sym t.longer.1) ∙ (ap (filter own) (filter_map-append scheduled_entry a.front more) ∙ filter-append own (log a.front) (log more))

  as_many : length (filter own (log more)) ≡ entries_in t.case
  as_many =
      let after = length-filter own (log z.front) in
      let before = length-filter own (log a.front) in
      let all = ap length split ∙ length-append (entries_of s a.front) (filter own (log more)) in
      let counted = t.entries in
      omega (arith, after, before, all, counted)

  of_case : (x : TurnCase tells p s a c z) → length (filter own (log more)) ≡ entries_in x → filter own (log more) ≡ scheduled_by x
  of_case (scheduled x) one =
      let e : Entry = entry_of_call s c x.act in
      let there = get_past a.front more x.m x.moment.low in
      let is : slice_get more there.0 ≡ Some (Sched e) = sym there.1 ∙ (ap (λ (h : List Event). slice_get h x.m) t.longer.1 ∙ x.next) in
      let entry = in_log more there.0 e is in
      one_passes own (log more) entry.0 e entry.1 (eq-eqb s s refl) one
  of_case (no_backend x) none = nil_from_length (filter own (log more)) none
  of_case (read x) none = nil_from_length (filter own (log more)) none
  of_case (read_fault x) none = nil_from_length (filter own (log more)) none
  of_case (log_fault x) none = nil_from_length (filter own (log more)) none
  of_case (full x) none = nil_from_length (filter own (log more)) none
  of_case (starved x) none = nil_from_length (filter own (log more)) none

  turn_entries : entries_of s z.front ≡ entries_of s a.front ++ scheduled_by t.case
  turn_entries = split ∙ ap (λ (es : List Entry). entries_of s a.front ++ es) (of_case t.case as_many)

  -- what the session had seen stands in what there was when it was answered
  seen_before : (m : ℕ) → length a.front ≤ m → length (log a.front) ≤ length (log (take m z.front))
  seen_before m low = prefix_length (log a.front) (log (take m z.front)) (log-prefix a.front (take m z.front) (prefix_taken a.front z.front m t.longer low))

  least_grows : (x : TurnCase tells p s a c z) → a.least ≤ z.least
  least_grows (scheduled x) = let owes = t.owes in let seen = seen_before x.m x.moment.low in let is = x.least in omega (arith, owes, seen, is)
  least_grows (no_backend x) = let is = x.least in omega (arith, is)
  least_grows (read x) = x.owed
  least_grows (read_fault x) = let is = x.least in omega (arith, is)
  least_grows (log_fault x) = let is = x.least in omega (arith, is)
  least_grows (full x) = let is = x.least in omega (arith, is)
  least_grows (starved x) = let is = x.least in omega (arith, is)

-- ---- a chain

module _ (tells : Bool) (p : Placement) (s : ℕ) where
  chain_longer : (a : SessionView) (calls : List Call) (seen : List SessionView) → Chain tells p s a calls seen → IsPrefix a.front (last_seen a seen).front
  chain_longer a [] [] chain = prefix_self a.front
  chain_longer a (c ∷ cs) (z ∷ zs) chain = prefix_trans a.front z.front (last_seen z zs).front chain.0.longer (chain_longer z cs zs chain.1)
  chain_longer a [] (z ∷ zs) chain = absurd chain
  chain_longer a (c ∷ cs) [] chain = absurd chain

  chain_entries : (a : SessionView) (calls : List Call) (seen : List SessionView) (chain : Chain tells p s a calls seen) → entries_of s (last_seen a seen).front ≡ entries_of s a.front ++ scheduled_in tells p s a calls seen chain
  chain_entries a [] [] chain = sym (append-nil (entries_of s a.front))
  chain_entries a (c ∷ cs) (z ∷ zs) chain =
      chain_entries z cs zs chain.1
      ∙ (ap (λ (es : List Entry). es ++ scheduled_in tells p s z cs zs chain.1) (turn_entries tells p s a c z chain.0)
      ∙ append_assoc (entries_of s a.front) (scheduled_by chain.0.case) (scheduled_in tells p s z cs zs chain.1))
  chain_entries a [] (z ∷ zs) chain = absurd chain
  chain_entries a (c ∷ cs) [] chain = absurd chain

  chain_least : (a : SessionView) (calls : List Call) (seen : List SessionView) → Chain tells p s a calls seen → a.least ≤ (last_seen a seen).least
  chain_least a [] [] chain = omega arith
  chain_least a (c ∷ cs) (z ∷ zs) chain = let first = least_grows tells p s a c z chain.0 chain.0.case in let then = chain_least z cs zs chain.1 in omega (arith, first, then)
  chain_least a [] (z ∷ zs) chain = absurd chain
  chain_least a (c ∷ cs) [] chain = absurd chain

pub stands_over : (tells : Bool) (a z : DeskState) (chain : IsDeskChain tells a z) → StandsOver tells a z chain
stands_over tells a z chain =
    record {
      longer = subst (λ (v : SessionView). IsPrefix a.seen.front v.front) (sym chain.last) (chain_longer tells a.placement a.session a.seen chain.calls chain.seen chain.chain);
      entries = ap (λ (v : SessionView). entries_of a.session v.front) chain.last ∙ chain_entries tells a.placement a.session a.seen chain.calls chain.seen chain.chain;
      least = subst (λ (v : SessionView). a.seen.least ≤ v.least) (sym chain.last) (chain_least tells a.placement a.session a.seen chain.calls chain.seen chain.chain);
    }
