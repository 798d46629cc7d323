-- Counts of faults, of armings and of asks, and logins, where one cell changes.
use Rattle.std.proofs.Common.{◌≡◌, ◌≢◌, ◌⊎◌, inl, inr, ℕ, zero, suc, ◌<◌, Bool, true, false, cond, List, [], ◌∷◌, length, get_or, set, slice_get, None, Some, ap, sym, ◌∙◌, refl, ⊎_elim}
use Rattle.cj_state.proofs.Common.{Arming, arming_after, armings_after, armings_of, asks_of, asks_with, CallsUnder, CellState, faults_after, faults_of, get_or-map, logins_of, map-set, map-set_same, MayCallUnder, next, spent}

-- the backend of cell b failed or did not, and this cell alone has changed
pub counts_set : (cells : List CellState) (b : ℕ) (y : CellState) (failed : Bool) → b < length cells → y.faults ≡ cond failed (next (get_or cells b y).faults) (get_or cells b y).faults
    → faults_of (set cells b y) ≡ faults_after (faults_of cells) (cond failed (Some b) None)
counts_set cells b y true lt counted =
    let was : get_or (faults_of cells) b 0 ≡ (get_or cells b y).faults = get_or-map (λ (x : CellState). x.faults) cells b y 0 lt in
    map-set (λ (x : CellState). x.faults) cells b y ∙ ap (set (faults_of cells) b) (counted ∙ ap next (sym was))
counts_set cells b y false lt same = map-set_same (λ (x : CellState). x.faults) cells b y y same

-- the backend of cell b was armed or was not, and this cell alone has changed
pub armings_set : (cells : List CellState) (b : ℕ) (y : CellState) (armed : Bool) → b < length cells → y.arming.times ≡ cond armed (next (get_or cells b y).arming.times) (get_or cells b y).arming.times
    → armings_of (set cells b y) ≡ armings_after (armings_of cells) (cond armed (Some b) None)
armings_set cells b y true lt counted =
    let was : get_or (armings_of cells) b 0 ≡ (get_or cells b y).arming.times = get_or-map (λ (x : CellState). x.arming.times) cells b y 0 lt in
    map-set (λ (x : CellState). x.arming.times) cells b y ∙ ap (set (armings_of cells) b) (counted ∙ ap next (sym was))
armings_set cells b y false lt same = map-set_same (λ (x : CellState). x.arming.times) cells b y y same

-- the backend of cell b answered a query or did not, and this cell alone has changed
pub asks_set : (cells : List CellState) (b : ℕ) (y : CellState) (answered : Bool) → b < length cells → y.asks ≡ cond answered (next (get_or cells b y).asks) (get_or cells b y).asks
    → asks_of (set cells b y) ≡ asks_with (asks_of cells) (cond answered (Some b) None)
asks_set cells b y true lt counted =
    let was : get_or (asks_of cells) b 0 ≡ (get_or cells b y).asks = get_or-map (λ (x : CellState). x.asks) cells b y 0 lt in
    map-set (λ (x : CellState). x.asks) cells b y ∙ ap (set (asks_of cells) b) (counted ∙ ap next (sym was))
asks_set cells b y false lt same = map-set_same (λ (x : CellState). x.asks) cells b y y same

-- where one place of a list is set, the others are as they were
pub got_other : {A : Type 0} (xs : List A) (b k : ℕ) (v : A) → k ≢ b → slice_get (set xs b v) k ≡ slice_get xs k
got_other [] b k v other = refl
got_other (x ∷ xs) zero zero v other = absurd (other refl)
got_other (x ∷ xs) zero (suc k) v other = refl
got_other (x ∷ xs) (suc b) zero v other = refl
got_other (x ∷ xs) (suc b) (suc k) v other = got_other xs b k v (λ same. other (ap suc same))

-- arming counts once, of those that can be armed
pub armed_times : (can : Bool) (a : Arming) → (arming_after can a).times ≡ cond can (next a.times) a.times
armed_times true a = refl
armed_times false a = refl

-- a call arms nothing
pub spent_times : (asked : Bool) (before now : Arming) → now ≡ cond asked (spent before) before → now.times ≡ before.times
spent_times true before now is = ap (λ (a : Arming). a.times) is
spent_times false before now is = ap (λ (a : Arming). a.times) is

-- ---- logins

-- the backend of cell b was called under this login, and this cell alone has changed
pub logins_set : (cells : List CellState) (b : ℕ) (y : CellState) (login : List ℕ) → y.login ≡ Some login → CallsUnder b login (logins_of cells) (logins_of (set cells b y))
logins_set cells b y login is = map-set (λ (x : CellState). x.login) cells b y ∙ ap (set (logins_of cells) b) is

-- its last call is the one before
pub logins_same : (cells : List CellState) (b : ℕ) (y : CellState) → y.login ≡ (get_or cells b y).login → logins_of (set cells b y) ≡ logins_of cells
logins_same cells b y same = map-set_same (λ (x : CellState). x.login) cells b y y same

-- one or the other
pub logins_may : (cells : List CellState) (b : ℕ) (y : CellState) (login : List ℕ) → (y.login ≡ Some login) ⊎ (y.login ≡ (get_or cells b y).login) → MayCallUnder b login (logins_of cells) (logins_of (set cells b y))
logins_may cells b y login called = ⊎_elim (λ is. inr (logins_set cells b y login is)) (λ same. inl (logins_same cells b y same)) called
