-- The rule of a lane's queue.
use Rattle.std.specs.Prelude.{◌≡◌, ℕ, ◌<◌, Bool, true, List, ◌++◌, AllPairs}
use mathlib.Core.Option.{some}
use lib.ListN.{get_elem?}
use Rattle.cj_queue.specs.declared.numbered.Numbered.{Numbered}
use Rattle.cj_queue.specs.declared.rule.LaneView.{LaneView}

-- the number of each is below those of all behind it
abbrev pub IsRising : {T : Type 0} → List (Numbered T) → Type 0
IsRising {T} jobs = AllPairs (λ (j k : Numbered T). j.number < k.number) jobs

module _ {T : Type 0} where
  abbrev pub lane_view : Bool → Bool → List (Numbered T) → List (Numbered T) → LaneView T
  lane_view posts takes posted taken = record { posts = posts; takes = takes; posted = posted; taken = taken }

  -- the pass that may post is the poster's, and knows what was posted; the one that may take is the taker's
  abbrev pub Fits : ℕ → ℕ → List (Numbered T) → List (Numbered T) → ℕ → LaneView T → Type 0
  Fits poster taker posted taken pass v = (v.posts ≡ true → (pass ≡ poster) × (v.posted ≡ posted)) × (v.takes ≡ true → (pass ≡ taker) × (v.taken ≡ taken))

-- what was posted is what was taken and then what the queue holds, and the numbers rise
pub record IsInOrder {T : Type 0} (items : List (Numbered T)) (views : List (LaneView T)) : Type 0 where
  pub poster : ℕ
  pub taker : ℕ
  pub posted : List (Numbered T)
  pub taken : List (Numbered T)
  pub order : posted ≡ taken ++ items
  pub rising : IsRising posted
  pub fits : (pass : ℕ) (v : LaneView T) → get_elem? views pass ≡ some v → Fits poster taker posted taken pass v
