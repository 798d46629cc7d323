-- What contracts say of a lane and of its two ends.
use Rattle.std.specs.Prelude.{◌≡◌, ℕ, List, ◌++◌, length}
use Rattle.crossbeam_queue.specs.Passes.{view, ruled_capacity, IsPassOf}
use Rattle.cj_queue.specs.declared.numbered.Numbered.{Numbered}
use Rattle.cj_queue.specs.declared.lane.Lane.{Lane}
use Rattle.cj_queue.specs.declared.ends.Poster.{Poster}
use Rattle.cj_queue.specs.declared.ends.Taker.{Taker}

-- the last of these jobs fill a lane with so much room
abbrev pub IsFull : {T : Type 0} → ℕ → List T → Type 0
IsFull {T} capacity jobs = (before : List T) × (last : List T) × (jobs ≡ before ++ last) × (length last ≡ capacity)

-- how many jobs the lane has room for
abbrev pub capacity_of : {T : Type 0} → Lane T → ℕ
capacity_of l = ruled_capacity l.queue

module _ {T : Type 0} where
  -- all that was posted at this end, in order, and all that was taken at that one
  abbrev pub posted : Poster T → List (Numbered T)
  posted p = (view p.pass).posted

  abbrev pub taken : Taker T → List (Numbered T)
  taken t = (view t.pass).taken

  -- they are ends of this lane
  abbrev pub IsPosterOf : Lane T → Poster T → Type 0
  IsPosterOf l p = IsPassOf l.queue p.pass

  abbrev pub IsTakerOf : Lane T → Taker T → Type 0
  IsTakerOf l t = IsPassOf l.queue t.pass
