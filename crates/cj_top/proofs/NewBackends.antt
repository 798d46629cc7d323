-- Worlds over backends that were just made.
use Rattle.std.proofs.Common.{◌≡◌, ◌⊎◌, inl, inr, ⊎_elim, ℕ, zero, suc, ◌+◌, ◌-◌, ◌^◌, ◌<◌, ◌≤◌, Bool, true, false, List, [], ◌∷◌, map, length, replicate, get_or, slice_get, sum, unwrap_or, Option, None, Some, All, refl, ap, sym, ◌∙◌, subst, arith}
use Rattle.std.specs.Prelude.{min, if◌then◌else◌}
use Rattle.cj_core.proofs.Common.{CanCountMore, Placement, is_enabled, last_number, map-map, next, option_map, position_at, slice_get-get_or, sum_by-cons}
use Rattle.std.proofs.lemmas.List.{get_or-replicate, length-map, length-replicate}
use Rattle.std.proofs.lemmas.List.Elements.{All-replicate}
use Rattle.cj_top.proofs.Common.{AreEmpty, Arming, BackendKind, BackendState, CellState, faults_of, fresh_state, HaveBegunNone, LogItem, MemoryState, never_armed, Slot, StartsFrom, state_by, WorldState}
use Rattle.cj_flaky.specs.FlakyBackends.{FlakyState, arming_of, faults_by, fresh_over, told_by}
use Rattle.cj_lite.specs.AnyBackends.{asks_of, begun_of, faults_of as faults_of_any, login_of}
use Rattle.cj_lite.specs.LiteBackends.{untold}
use Rattle.cj_lite.specs.declared.any_backend.AnyBackend.{AnyBackend}
use Rattle.cj_conf.specs.declared.backend.BackendKind.TheVariants.{Memory, Sqlite}
use Rattle.cj_top.specs.Configured.{AreNew, new_backend, new_of}

-- alike before, alike after
pub map_replicate : {A B : Type 0} (f : A → B) (n : ℕ) (x : A) → map f (replicate n x) ≡ replicate n (f x)
map_replicate f zero x = refl
map_replicate f (suc n) x = ap (λ ys. f x ∷ ys) (map_replicate f n x)

-- what holds of one holds of all
pub all_alike : {A B : Type 0} (P : B → Type 0) (f : A → B) (n : ℕ) (x : A) (xs : List A) → xs ≡ replicate n x → P (f x) → All P (map f xs)
all_alike P f n x xs is p = subst (All P) (sym (ap (map f) is ∙ map_replicate f n x)) (All-replicate P n (f x) p)

-- and so what is seen of them
pub seen_alike : {A B : Type 0} (f : A → B) (n m : ℕ) (x : A) (xs : List A) → xs ≡ replicate n x → n ≡ m → map f xs ≡ replicate m (f x)
seen_alike f n m x xs is same = ap (map f) is ∙ (map_replicate f n x ∙ ap (λ k. replicate k (f x)) same)

-- as each is made, so is what is seen of them
seen_by : {K A B : Type 0} (f : A → B) (make : K → A) (x : B) → ((k : K) → f (make k) ≡ x) → (ks : List K) → map f (map make ks) ≡ replicate (length ks) x
seen_by f make x each [] = refl
seen_by f make x each (k ∷ ks) = ap (λ y. y ∷ map f (map make ks)) (each k) ∙ ap (λ ys. x ∷ ys) (seen_by f make x each ks)

-- ---- backends that are new

pub memory_are_new : (count n : ℕ) (backends : List MemoryState) → backends ≡ replicate count fresh_state → count ≡ n
    → AreNew true n (map (state_by {X = MemoryState} (λ s. s.told) (λ s. 0) (λ s. s.asks) (λ s. s.login) (λ s. never_armed)) backends) (map (λ (s : MemoryState). s.begun) backends)
memory_are_new count n backends is same = record {
  seen = seen_alike _ count n fresh_state backends is same;
  none = all_alike (λ (ts : List ℕ). ts ≡ []) (λ (s : MemoryState). s.begun) count fresh_state backends is refl;
}

any_seen : (kind : BackendKind) → state_by {X = AnyBackend} (λ b. untold) faults_of_any asks_of login_of (λ b. never_armed) (new_of kind) ≡ new_backend false
any_seen Memory = refl
any_seen Sqlite = refl

any_begun : (kind : BackendKind) → begun_of (new_of kind) ≡ []
any_begun Memory = refl
any_begun Sqlite = refl

pub any_are_new : (n : ℕ) (kinds : List BackendKind) (backends : List AnyBackend) → backends ≡ map new_of kinds → length kinds ≡ n
    → AreNew false n (map (state_by {X = AnyBackend} (λ b. untold) faults_of_any asks_of login_of (λ b. never_armed)) backends) (map begun_of backends)
any_are_new n kinds backends is same = record {
  seen = ap (map (state_by {X = AnyBackend} (λ b. untold) faults_of_any asks_of login_of (λ b. never_armed))) is ∙ (seen_by _ new_of (new_backend false) any_seen kinds ∙ ap (λ (k : ℕ). replicate k (new_backend false)) same);
  none = subst HaveBegunNone (sym (ap (map begun_of) is ∙ seen_by begun_of new_of [] any_begun kinds)) (All-replicate (λ (ts : List ℕ). ts ≡ []) (length kinds) [] refl);
}

-- The same backends, each so that it can be armed.
module _ {X : Type 0} (told : X → Option (List Slot)) (faults asks : X → ℕ) (login : X → Option (List ℕ)) (arming : X → Arming) (begun : X → List ℕ) (tells : Bool) (n : ℕ) (xs : List X) (new : AreNew tells n (map (state_by told faults asks login arming) xs) (map begun xs)) where
  abbrev armed : X → FlakyState X
  armed x = fresh_over x []

  abbrev flaky_state : FlakyState X → BackendState
  flaky_state = state_by (told_by told) (faults_by faults) (λ f. asks f.inner) (λ f. login f.inner) arming_of

  -- as what is seen of one goes by what is seen of the other
  abbrev as_armed : BackendState → BackendState
  as_armed s = record { told = s.told; faults = min (0 + s.faults) (2 ^ 64 - 1); asks = s.asks; login = s.login; arming = never_armed }

  pub flaky_count : length (map armed xs) ≡ n
  flaky_count = length-map xs armed ∙ (sym (length-map xs (state_by told faults asks login arming)) ∙ (ap length new.seen ∙ length-replicate n (new_backend tells)))

  pub flaky_seen : map flaky_state (map armed xs) ≡ replicate n (new_backend tells)
  flaky_seen = map-map flaky_state armed xs ∙ (sym (map-map as_armed (state_by told faults asks login arming) xs) ∙ (ap (map as_armed) new.seen ∙ map_replicate as_armed n (new_backend tells)))

  pub flaky_none : HaveBegunNone (map (λ (f : FlakyState X). begun f.inner) (map armed xs))
  flaky_none = subst HaveBegunNone (sym (map-map (λ (f : FlakyState X). begun f.inner) armed xs)) new.none

  pub flaky_empty : AreEmpty tells (map (told_by told) (map armed xs))
  flaky_empty told_so =
      let all : map (told_by told) (map armed xs) ≡ replicate n (if tells then Some [] else None) =
      sym (map-map (λ (s : BackendState). s.told) flaky_state (map armed xs)) ∙ (ap (map (λ (s : BackendState). s.told)) flaky_seen ∙ map_replicate (λ (s : BackendState). s.told) n (new_backend tells))
      in
      subst (All (λ (t : Option (List Slot)). t ≡ Some [])) (sym all) (All-replicate (λ (t : Option (List Slot)). t ≡ Some []) n (if tells then Some [] else None) (ap (λ (t : Bool). if t then Some [] else None) told_so))

-- ---- counts of none

-- no sum of nothing is something
pub sum_of_none : (xs : List ℕ) → ((k : ℕ) → get_or xs k 0 ≤ 0) → sum xs ≡ 0
sum_of_none [] none = refl
sum_of_none (x ∷ xs) none =
    let adds = sum_by-cons (λ (n : ℕ). n) x xs in
    let first : x ≤ 0 = none 0 in
    let later : sum xs ≡ 0 = sum_of_none xs (λ k. none (suc k)) in
    omega (arith, adds, first, later)

-- what a backend has counted after a start, where it had counted nothing
counted_few : (m n : Option ℕ) → n ≡ Some 0 → (m ≡ n) ⊎ (m ≡ option_map next n) → (d : ℕ) → unwrap_or m d < 2 ^ 64 - 1
counted_few m n none (inl same) d = let is : unwrap_or m d ≡ 0 = ap (λ (o : Option ℕ). unwrap_or o d) (same ∙ none) in omega (arith, is)
counted_few m n none (inr rose) d = let is : unwrap_or m d ≡ 1 = ap (λ (o : Option ℕ). unwrap_or o d) (rose ∙ ap (option_map next) none) in omega (arith, is)

zero_there : (n b : ℕ) → b < n → slice_get {X = ℕ} (replicate n 0) b ≡ Some 0
zero_there n b lt = slice_get-get_or (replicate n 0) b 0 (rw length-replicate lt) ∙ ap (λ (x : ℕ). Some x) (get_or-replicate n b 0 0 lt)

module _ (found : List LogItem → Type 0) (p : Placement) (w : WorldState) (starts : StartsFrom found p (replicate p.backends (new_backend true)) w) where
  started : (b : ℕ) → b < p.backends → (slice_get (faults_of w.cells) b ≡ slice_get (map (λ (x : BackendState). x.faults) (replicate p.backends (new_backend true))) b) ⊎ (slice_get (faults_of w.cells) b ≡ option_map next (slice_get (map (λ (x : BackendState). x.faults) (replicate p.backends (new_backend true))) b))
  started b lt =
      ⊎_elim (λ (q : (is_enabled w.core.history b ≡ true) × (position_at w.core b ≡ Some (last_number w.core)) × (slice_get (faults_of w.cells) b ≡ slice_get (map (λ (x : BackendState). x.faults) (replicate p.backends (new_backend true))) b)). inl q.2)
      (λ (q : (is_enabled w.core.history b ≡ false) × (position_at w.core b ≡ None) × (slice_get (faults_of w.cells) b ≡ option_map next (slice_get (map (λ (x : BackendState). x.faults) (replicate p.backends (new_backend true))) b))). inr q.2)
      (starts.started.backends b lt)

  -- each can count more
  pub new_can_count : CanCountMore (faults_of w.cells)
  new_can_count b d within =
      let cells : length (faults_of w.cells) ≡ p.backends = length-map w.cells (λ (x : CellState). x.faults) ∙ starts.started.cells in
      let lt : b < p.backends = subst (λ (n : ℕ). b < n) cells within in
      let zeros : map (λ (x : BackendState). x.faults) (replicate p.backends (new_backend true)) ≡ replicate p.backends 0 = map_replicate (λ (x : BackendState). x.faults) p.backends (new_backend true) in
      subst (λ (n : ℕ). n < 2 ^ 64 - 1) (ap (λ (o : Option ℕ). unwrap_or o d) (slice_get-get_or (faults_of w.cells) b d within))
      (counted_few (slice_get (faults_of w.cells) b) (slice_get (map (λ (x : BackendState). x.faults) (replicate p.backends (new_backend true))) b) (ap (λ (xs : List ℕ). slice_get xs b) zeros ∙ zero_there p.backends b lt) (started b lt) d)
