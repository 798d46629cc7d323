-- What a start over a log hands to the serving of its cluster.
use Rattle.std.proofs.Common.{◌≡◌, ℕ, Bool, true, List, [], ◌∷◌, ◌++◌, map, Ok, refl, sym, subst}
use Rattle.std.specs.declared.option.Option.{Option}
use mathlib.Core.List.{IsPrefix}
use Rattle.cj_model.specs.Cluster.Placements.{Placement}
use Rattle.cj_cluster.specs.declared.event.Event.{Event}
use Rattle.cj_cluster.specs.declared.event.Event.TheVariants.{Enabled, Ended, Sched}
use Rattle.cj_cluster.proofs.Pushed.{prefix_self, prefix_trans}
use Rattle.cj_place.specs.Layouts.{Layout, placement_of}
use Rattle.cj_board.specs.declared.view.SeatView.{SeatView}
use Rattle.cj_dump.specs.declared.dump.Dump.{Dump}
use Rattle.cj_log.specs.declared.item.LogItem.{LogItem}
use Rattle.cj_shelf.specs.Shelves.{Opens, ShelfState}
use Rattle.cj_state.specs.Worlds.{WorldState}
use Rattle.cj_start.specs.Started.{AbortsEach, with_abort}
use Rattle.cj_core.specs.Starts.{BackendState, StartsFrom}
use Rattle.cj_console.specs.Answers.{AreRightDumps, Standing}
use Rattle.cj_console.specs.Chats.{ChatsTo}
use Rattle.cj_console.specs.declared.chat.ConsoleEnd.{ConsoleEnd}
use Rattle.cj_console.proofs.Rightness.{all_later}
use Rattle.cj_served.specs.Servings.{AreDumpsOfLog, ChatsFrom}

-- ---- the dumps

-- the ends of orphans come behind
aborts_longer : (h : List Event) (txs : List ℕ) (z : List Event) → AbortsEach h txs z → IsPrefix h z
aborts_longer h [] z is = subst (λ (g : List Event). IsPrefix h g) (sym is) (prefix_self h)
aborts_longer h (tx ∷ txs) z (failed, rest) = prefix_trans h (with_abort h tx failed) z (Sched _ ∷ Ended failed 0 ∷ [], refl) (aborts_longer (with_abort h tx failed) txs z rest)

module _ (Found : List LogItem → Type 0) (p : Placement) (backends : List BackendState) (first : WorldState) (starts : StartsFrom Found p backends first) where
  -- the history with which the log opened stands before what the start added
  opening_stands : IsPrefix starts.opening first.core.history
  opening_stands =
      let enabled : List Event = map Enabled starts.started.enabled in
      prefix_trans starts.opening (starts.opening ++ enabled) first.core.history (enabled, refl) (aborts_longer (starts.opening ++ enabled) _ first.core.history starts.started.history)

  -- the dumps of the log may be loaded at the history of the start
  pub right_at_start : (tells kept : Bool) (Keeps : List Dump → Type 0) (dumps : List Dump) → (tells ≡ true → kept ≡ true) → (tells ≡ true → AreDumpsOfLog Found Keeps) → (kept ≡ true → Keeps dumps) → AreRightDumps tells first.core.history dumps
  right_at_start tells kept Keeps dumps keeps of_log opens on =
      let right : AreRightDumps true starts.opening dumps = of_log on starts.items starts.opening dumps starts.found_in starts.opens (opens (keeps on)) in
      all_later tells starts.opening first.core.history dumps opening_stands (subst (λ (t : Bool). AreRightDumps t starts.opening dumps) (sym on) right) on

-- ---- the chat

-- The console chats from the history of the start on, over the shelf that was opened. The book has the layout in its names
-- and in its hosts.
pub chats_from : {D : Type 0} (tells kept : Bool) (given layout : Layout) (held : D → List ℕ) (faults : D → ℕ) (dumps : D) (left left' out out' : Option (List ℕ)) (first : WorldState) (shelf : ShelfState D) (ending : ConsoleEnd)
    → layout.names ≡ given.names → placement_of layout ≡ placement_of given → (kept ≡ true → Opens held (held dumps) (Ok shelf))
    → (view : SeatView) → view.front ≡ first.core.history → (last : Standing D) → ChatsTo (record { tells = tells; kept = kept; layout = layout; held = held; faults = faults }) left left' out out' (record { view = view; shelf = shelf }) ending last
    → ChatsFrom (record { tells = tells; kept = kept; layout = given; held = held; faults = faults }) dumps left left' out out' first ending
chats_from tells kept given layout held faults dumps left left' out out' first shelf ending names hosts opened view begins last chats =
    record { layout = layout; names = names; hosts = hosts; view = view; begins = begins; shelf = shelf; opened = opened; last = last; chats = chats }
