-- Backends in memory that can be armed.
use Rattle.std.proofs.Common.{◌≡◌, ◌⊎◌, ⊎_elim, ℕ, ◌+◌, ◌-◌, ◌^◌, ◌<◌, ◌≤◌, Bool, List, get_or, length, map, min, sym, ap, ◌∙◌, subst, arith}
use Rattle.std.proofs.Math.Nat.{min-le_left}
use Rattle.std.proofs.lemmas.Bool.{cases_lt}
use Rattle.std.proofs.lemmas.List.{get_or-map, get_or_past, length-map}
use Rattle.cj_core.proofs.Common.{list_all}
use Rattle.cj_flaky.specs.FlakyBackends.{FailsOnlyArmed, FlakyState, arming_of, faults_by}
use Rattle.cj_replica.specs.Seated.{SeatedCell}
use Rattle.cj_state.specs.Seats.{states_of}
use Rattle.cj_top.proofs.Common.{Arming, BackendKind, CellState, MemoryState}
use Rattle.cj_top.specs.Configured.{is_memory}
use Rattle.cj_workload.specs.Holdings.{times_armed}

-- what was found of the kinds
pub by_kinds : (kinds given : List BackendKind) (found answer : Bool) → given ≡ kinds → found ≡ list_all is_memory given → found ≡ answer → list_all is_memory kinds ≡ answer
by_kinds kinds given found answer same finds is = sym (ap (list_all is_memory) same) ∙ (sym finds ∙ is)

-- A backend in memory counts no fault of its own, and so only those that came of armings.
own_within : (f : FlakyState MemoryState) → FailsOnlyArmed (arming_of f) f.faults → faults_by (λ (s : MemoryState). 0) f ≤ f.armings
own_within f only =
    let low : min (f.faults + 0) (2 ^ 64 - 1) ≤ f.faults + 0 = min-le_left (f.faults + 0) (2 ^ 64 - 1) in
    let within : f.faults ≤ f.armings = only.within in
    omega (arith, low, within)

-- as its cell says
pub counted_within : (f : FlakyState MemoryState) (x : CellState) → faults_by (λ (s : MemoryState). 0) f ≡ x.faults → arming_of f ≡ x.arming → FailsOnlyArmed (arming_of f) f.faults → x.faults ≤ x.arming.times
counted_within f x faults arming only =
    subst (λ (n : ℕ). n ≤ x.arming.times) faults (subst (λ (a : Arming). faults_by (λ (s : MemoryState). 0) f ≤ a.times) arming (own_within f only))

-- and as its place in a list says
pub backend_within : (backends : List (FlakyState MemoryState)) (f : FlakyState MemoryState) (i : ℕ) → i < length backends → f ≡ get_or backends i f → FailsOnlyArmed (arming_of f) f.faults
    → get_or (map (faults_by (λ (s : MemoryState). 0)) backends) i 0 ≤ get_or (times_armed arming_of backends) i 0
backend_within backends f i lt is only =
    let counted : get_or (map (faults_by (λ (s : MemoryState). 0)) backends) i 0 ≡ faults_by (λ (s : MemoryState). 0) f =
    get_or-map (faults_by (λ (s : MemoryState). 0)) backends i f 0 lt ∙ ap (faults_by (λ (s : MemoryState). 0)) (sym is)
    in
    let times : get_or (times_armed arming_of backends) i 0 ≡ f.armings = get_or-map (λ (x : FlakyState MemoryState). x.armings) backends i f 0 lt ∙ ap (λ (x : FlakyState MemoryState). x.armings) (sym is) in
    subst (λ (n : ℕ). n ≤ get_or (times_armed arming_of backends) i 0) (sym counted) (subst (λ (n : ℕ). faults_by (λ (s : MemoryState). 0) f ≤ n) (sym times) (own_within f only))

-- a count of a cell
pub count_of : (count : CellState → ℕ) (cells : List SeatedCell) (x : SeatedCell) (i : ℕ) → i < length cells → x ≡ get_or cells i x → get_or (map count (states_of cells)) i 0 ≡ count x.state
count_of count cells x i lt is =
    let size = length-map cells (λ (c : SeatedCell). c.state) in
    get_or-map count (states_of cells) i x.state 0 (omega (arith, lt, size)) ∙ ap count (get_or-map (λ (c : SeatedCell). c.state) cells i x x.state lt ∙ ap (λ (c : SeatedCell). c.state) (sym is))

-- within the bounds, up to one place more
pub within_more : (counts bounds : List ℕ) (i : ℕ) → get_or counts i 0 ≤ get_or bounds i 0 → ((b : ℕ) → b < i → get_or counts b 0 ≤ get_or bounds b 0) → (b : ℕ) → b < i + 1 → get_or counts b 0 ≤ get_or bounds b 0
within_more counts bounds i here before b lt =
    ⊎_elim (λ (less : b < i). before b less)
    (λ (le : i ≤ b). let is : b ≡ i = omega (arith, lt, le) in subst (λ (k : ℕ). get_or counts k 0 ≤ get_or bounds k 0) (sym is) here) (cases_lt b i)

-- and so at each place
pub within_all : (counts bounds : List ℕ) (n : ℕ) → length counts ≤ n → ((b : ℕ) → b < n → get_or counts b 0 ≤ get_or bounds b 0) → (b : ℕ) → get_or counts b 0 ≤ get_or bounds b 0
within_all counts bounds n le before b =
    ⊎_elim (λ (less : b < n). before b less)
    (λ (past : n ≤ b). let none : get_or counts b 0 ≡ 0 = get_or_past counts b 0 (omega (arith, le, past)) in omega (arith, none)) (cases_lt b n)
