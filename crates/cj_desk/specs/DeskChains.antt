-- What a session's calls at a desk add to what it has seen.
use Rattle.std.specs.Prelude.{◌≡◌, ℕ, ◌≤◌, ◌==◌, Bool, List, [], ◌∷◌, ◌++◌, filter}
use mathlib.Core.List.{IsPrefix}
use Rattle.cj_model.specs.declared.request.Entry.{Entry}
use Rattle.cj_model.specs.Cluster.Placements.{Placement}
use Rattle.cj_cluster.specs.declared.event.Event.{Event}
use Rattle.cj_cluster.specs.History.Histories.{log}
use Rattle.cj_cluster.specs.History.Turns.{SessionView, Call, Chain, TurnCase, entry_of_call, scheduled, no_backend, read, read_fault, log_fault, full, starved}
use Rattle.cj_cluster.specs.Moves.Runs.{last_seen}
use Rattle.cj_desk.specs.DeskStates.{DeskState}

-- From a to z the session's calls are a chain of turns, and the session has seen at z what the last turn saw.
pub record IsDeskChain (tells : Bool) (a z : DeskState) : Type 0 where
  pub placement : z.placement ≡ a.placement
  pub session : z.session ≡ a.session
  pub calls : List Call
  pub seen : List SessionView
  pub chain : Chain tells a.placement a.session a.seen calls seen
  pub last : z.seen ≡ last_seen a.seen seen

-- the entries of session s, in order
abbrev pub entries_of : ℕ → List Event → List Entry
entries_of s h = filter (λ (e : Entry). e.session == s) (log h)

-- the entry that a turn scheduled, if it did
abbrev pub scheduled_by : {tells : Bool} {p : Placement} {s : ℕ} {a : SessionView} {c : Call} {z : SessionView} → TurnCase tells p s a c z → List Entry
scheduled_by {s = s} {c = c} (scheduled x) = entry_of_call s c x.act ∷ []
scheduled_by (no_backend x) = []
scheduled_by (read x) = []
scheduled_by (read_fault x) = []
scheduled_by (log_fault x) = []
scheduled_by (full x) = []
scheduled_by (starved x) = []

-- the entries that the turns of a chain scheduled, in order
abbrev pub scheduled_in : (tells : Bool) (p : Placement) (s : ℕ) (a : SessionView) (calls : List Call) (seen : List SessionView) → Chain tells p s a calls seen → List Entry
scheduled_in tells p s a [] [] chain = []
scheduled_in tells p s a (c ∷ cs) (z ∷ zs) chain = scheduled_by chain.0.case ++ scheduled_in tells p s z cs zs chain.1
scheduled_in tells p s a [] (z ∷ zs) chain = []
scheduled_in tells p s a (c ∷ cs) [] chain = []

-- After the history that the session had seen, its entries are those that its calls scheduled, in order, each once.
-- The position that its reads need has not fallen.
pub record StandsOver (tells : Bool) (a z : DeskState) (chain : IsDeskChain tells a z) : Type 0 where
  pub longer : IsPrefix a.seen.front z.seen.front
  pub entries : entries_of a.session z.seen.front ≡ entries_of a.session a.seen.front ++ scheduled_in tells a.placement a.session a.seen chain.calls chain.seen chain.chain
  pub least : a.seen.least ≤ z.seen.least
