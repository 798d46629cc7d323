-- A cell that was out and loads, and a look at where a cell stands.
use Rattle.std.proofs.Common.{◌≡◌, ℕ, ◌≤◌, Bool, true, false, List, length, Contains, Option, None, Some, IfSome, Result, Ok, Err, ap, sym, ◌∙◌, subst, arith}
use mathlib.Core.List.{IsPrefix}
use Rattle.cj_model.specs.declared.database.Slot.{Slot}
use Rattle.cj_model.specs.Cluster.Placements.{Placement, part}
use Rattle.cj_cluster.specs.declared.event.Event.{Event}
use Rattle.cj_cluster.specs.History.Histories.{database_after, log}
use Rattle.cj_cluster.proofs.Pushed.{at-prefix, log-prefix, prefix_length}
use Rattle.cj_board.specs.declared.view.SeatView.{SeatView}
use Rattle.cj_replica.specs.declared.replica.CellError.{CellError}
use Rattle.cj_replica.specs.declared.replica.CellError.TheVariants.{Failed, Starved}
use Rattle.cj_replica.specs.Cells.{CellState, LoadsDatabase}
use Rattle.cj_replica.specs.Seated.{SeatedCell, view_after_load}
use Rattle.cj_locked_cell.specs.Loading.{IsLoaded}
use Rattle.cj_pass.specs.Passes.{HasNotedMore}
use Rattle.cj_pass.proofs.Passes.{noted_self}
use Rattle.cj_locked_cell.proofs.Asking.{fault_between, notes_fault}

-- what is a part of the database in a history is so in a longer one
pub part_later : (f h : List Event) → IsPrefix f h → (n : ℕ) → n ≤ length (log f) → (p : Placement) (b : ℕ) (db : List Slot) → db ≡ part p b (database_after (log f) n) → db ≡ part p b (database_after (log h) n)
part_later f h begins n within p b db is = is ∙ ap (part p b) (sym (at-prefix (log f) (log h) n (log-prefix f h begins) within))

-- and at a cell that was told of it, and stays in its state
pub part_told : (f h : List Event) → IsPrefix f h → (n : ℕ) → n ≤ length (log f) → (tells : Bool) (p : Placement) (s t : CellState) (db : List Slot) → t ≡ s → s.placement ≡ p
    → (tells ≡ true → db ≡ part p s.b (database_after (log f) n)) → tells ≡ true → db ≡ part t.placement t.b (database_after (log h) n)
part_told f h begins n within tells p s t db state placed right on =
    part_later f h begins n within p s.b db (right on)
    ∙ (ap (λ (l : Placement). part l s.b (database_after (log h) n)) (sym placed) ∙ ap (λ (z : CellState). part z.placement z.b (database_after (log h) n)) (sym state))

-- a longer log has as many entries
pub within_later : (f h : List Event) → IsPrefix f h → (n : ℕ) → n ≤ length (log f) → n ≤ length (log h)
within_later f h begins n within = let more : length (log f) ≤ length (log h) = prefix_length (log f) (log h) (log-prefix f h begins) in omega (arith, more, within)

pub stands_within : (q r : Option ℕ) (f h : List Event) → r ≡ q → IsPrefix f h → IfSome q (λ n. n ≤ length (log f)) → IfSome r (λ n. n ≤ length (log h))
stands_within q r f h same begins within = subst (λ (o : Option ℕ). IfSome o (λ n. n ≤ length (log h))) (sym same) (by q within)
  where
    by : (o : Option ℕ) → IfSome o (λ n. n ≤ length (log f)) → IfSome o (λ n. n ≤ length (log h))
    by None in_log = tt
    by (Some n) in_log = within_later f h begins n in_log

-- a cell in state s that was told, and is x; that was to load, and is y; and a pass w that has heard of it, which knew v
-- before
module _ (s : CellState) (x y : SeatedCell) (db : List Slot) (n : ℕ) (tells : Bool) (r : Result Unit CellError) (v w : SeatView)
    (state : x.state ≡ s) (loads : LoadsDatabase tells x.state db n r y.state) (seat : y.view ≡ view_after_load x.state.b n x.view r)
    (heard : (k : ℕ) → Contains v.fault_notes (s.b, k) → k ≤ x.view.faults) (noted : Contains w.fault_notes (y.state.b, y.view.faults)) where
  number : y.state.b ≡ s.b
  number = loads.b ∙ ap (λ (z : CellState). z.b) state

  pub load_failed : (error : CellError) → r ≡ Err error → IsLoaded s.b n v w (Err error)
  load_failed Failed is = notes_fault s.b v w x.view.faults y.view.faults heard (ap (λ (z : SeatView). z.faults) (seat ∙ ap (view_after_load x.state.b n x.view) is)) (subst (λ b. Contains w.fault_notes (b, y.view.faults)) number noted)
  load_failed Starved is = tt

-- a pass that knew less before it looked
pub loaded_earlier : (b c n : ℕ) (u v w : SeatView) (r : Result Bool CellError) → c ≡ b → HasNotedMore u v → IsLoaded c n v w r → IsLoaded b n u w r
loaded_earlier b c n u v w r same more loaded = by r (subst (λ k. IsLoaded k n v w r) same loaded)
  where
    by : (q : Result Bool CellError) → IsLoaded b n v w q → IsLoaded b n u w q
    by (Ok true) is = is
    by (Ok false) is = is
    by (Err Failed) is = fault_between b u v w w more (noted_self w) is
    by (Err Starved) is = tt
