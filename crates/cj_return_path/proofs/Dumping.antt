-- A dump that is begun, finished and read.
use Rattle.std.proofs.Common.{◌≡◌, ℕ, Bool, true, false, List, [], ◌∷◌, ◌++◌, length, Option, Some, Result, Ok, Err, refl, ap, sym, ◌∙◌, subst, arith, append_assoc}
use Rattle.std.proofs.lemmas.Bool.{both_ways}
use mathlib.Core.List.{IsPrefix}
use Rattle.cj_model.specs.declared.database.Slot.{Slot}
use Rattle.cj_model.specs.Cluster.Placements.{Placement, part}
use Rattle.cj_cluster.specs.declared.event.Event.{Event}
use Rattle.cj_cluster.specs.declared.event.Event.TheVariants.{Disabled, Marker}
use Rattle.cj_cluster.specs.History.Histories.{database_after, is_enabled, log}
use Rattle.cj_cluster.proofs.Pushed.{at-prefix, enabled-push, log-prefix, prefix_self, prefix_trans}
use Rattle.cj_place.specs.Layouts.{Layout}
use Rattle.cj_board.specs.declared.view.SeatView.{SeatView}
use Rattle.cj_book.specs.BookLogs.{BookLogState}
use Rattle.cj_dump.specs.declared.dump.Dump.{Dump}
use Rattle.cj_log.specs.declared.item.LogItem.{LogItem}
use Rattle.cj_pass.specs.Passes.{HasNotedMore}
use Rattle.cj_pass.proofs.Passes.{noted_self}
use Rattle.cj_locked_cell.proofs.Asking.{fault_between}
use Rattle.cj_locked.specs.Auditing.{IsHeldOver}
use Rattle.cj_locked.specs.Changes.{BringsAt}
use Rattle.cj_locked.specs.Marking.{BeginsMarkSince, MarksSince}
use Rattle.cj_return_path.specs.Dumping.{BeginsDump, CanSpare, DumpsSince, MarksDump, ReadsDump}
use Rattle.cj_return_path.specs.declared.restore.RestoreError.{RestoreError}
use Rattle.cj_return_path.specs.declared.restore.RestoreError.TheVariants as errors

-- ---- its marker

-- a pass had seen less before
pub begun_earlier : {S : Type 0} (tells : Bool) (count : S → ℕ) (F G H : List Event) (name : List ℕ) (b : Option ℕ) (amount : ℕ) (l : BookLogState S) (item : LogItem) → IsPrefix F G → BeginsMarkSince tells count G H name b amount l item → BeginsMarkSince tells count F H name b amount l item
begun_earlier tells count F G H name b amount l item longer since = record { holds = since.holds; longer = prefix_trans F G since.holds.m longer since.longer; is = since.is; its = since.its }

-- it was begun by what a pass had seen then
pub begun_again : {S : Type 0} (tells : Bool) (count : S → ℕ) (F G : List Event) (name : List ℕ) (b : Option ℕ) (amount : ℕ) (l : BookLogState S) (item : LogItem) → BeginsMarkSince tells count F G name b amount l item → BeginsMarkSince tells count G G name b amount l item
begun_again tells count F G name b amount l item since = record { holds = since.holds; longer = subst (IsPrefix G) since.is (prefix_self G); is = since.is; its = since.its }

-- it came, which gave H
module _ (F H G : List Event) (name : List ℕ) (b n : ℕ) (since : MarksSince F H name (Some b) (Ok n)) where
  -- the backend was enabled, and is disabled
  pub dumped : is_enabled F b ≡ true → (done : Bool) → BringsAt H (Disabled b) (is_enabled H b) (Ok done) G → DumpsSince F G name b (Ok n)
  dumped was true at = record {
    m = since.m;
    over = since.over;
    at = (since.at.0, since.at.1, since.over.enabled b ∙ was, at.2 ∙ (ap (λ (x : List Event). x ++ Disabled b ∷ []) since.at.2 ∙ append_assoc since.m (Marker name (Some b) ∷ []) (Disabled b ∷ [])));
  }
  dumped was false at = absurd
      (both_ways (is_enabled H b) at.0 (ap (λ (x : List Event). is_enabled x b) since.at.2 ∙ (enabled-push since.m (Marker name (Some b)) b ∙ (since.over.enabled b ∙ was))))

-- what a backend gives at a position of a longer log is what it has at the end of the log there
pub part_at_end : (m G : List Event) → IsPrefix m G → (n : ℕ) → n ≡ length (log m) → (p : Placement) (b : ℕ) (db : List Slot) → db ≡ part p b (database_after (log G) n) → db ≡ part p b (database_after (log m) (length (log m)))
part_at_end m G begins n is p b db holds =
    holds ∙ (ap (λ (k : ℕ). part p b (database_after (log G) k)) is ∙ ap (part p b) (at-prefix (log m) (log G) (length (log m)) (log-prefix m G begins) (omega arith)))

-- ---- what it comes to

-- while the turn was held the same backends were enabled
spare_over : (l : Layout) (F m : List Event) (b : ℕ) → IsHeldOver F m → CanSpare l F b → CanSpare l m b
spare_over l F m b over spare = record { enabled = over.enabled b ∙ spare.enabled; mask = spare.mask; is = λ c. spare.is c ∙ sym (over.enabled c); spare = spare.spare }

-- the dump was begun where a pass had seen F, and finished where it had seen H
module _ (tells : Bool) (l : Layout) (b : ℕ) (name : List ℕ) (u v : SeatView) (spare : CanSpare l u.front b) where
  dump_marks : (n : ℕ) → DumpsSince u.front v.front name b (Ok n) → (w : SeatView) → IsPrefix v.front w.front → MarksDump l u.front w.front name b
  dump_marks n since w longer = record {
    m = since.m;
    longer = since.over.longer;
    fresh = since.at.1;
    spare = spare_over l u.front since.m b since.over spare;
    seen = subst (λ (x : List Event). IsPrefix x w.front) since.at.3 longer;
  }

  -- the backend was asked for what it holds
  pub dump_read : (n : ℕ) → DumpsSince u.front v.front name b (Ok n) → HasNotedMore u v → (w : SeatView) → HasNotedMore v w → (r : Result Dump RestoreError) → ReadsDump tells l name b n v w r → BeginsDump tells l b name u w r
  unfolding dump_marks
  dump_read n since before w more r reads = by r reads
    where
      marks : MarksDump l u.front w.front name b
      marks = dump_marks n since w more.seen.front

      behind : IsPrefix since.m w.front
      behind = prefix_trans since.m (since.m ++ Marker name (Some b) ∷ Disabled b ∷ []) w.front (Marker name (Some b) ∷ Disabled b ∷ [], refl) marks.seen

      by : (q : Result Dump RestoreError) → ReadsDump tells l name b n v w q → BeginsDump tells l b name u w q
      by (Ok d) is = (marks, is since.m behind since.at.0)
      by (Err (errors.Fault k)) is = (is.0, marks, fault_between b u v w w before (noted_self w) is.1)
      by (Err errors.NoMemory) is = tt
      by (Err errors.NotEnabled) is = absurd is
      by (Err errors.AlreadyEnabled) is = absurd is
      by (Err errors.NameTaken) is = absurd is
      by (Err (errors.LastHost table)) is = absurd is
      by (Err (errors.HistoryFull k)) is = absurd is
      by (Err errors.LogFault) is = absurd is
      by (Err errors.Starved) is = absurd is
      by (Err (errors.Out seen)) is = absurd is
      by (Err errors.NotOut) is = absurd is
      by (Err (errors.DumpLacks table)) is = absurd is
      by (Err (errors.DumpAhead k)) is = absurd is

-- a pass had seen less before
pub dumps_earlier : (tells : Bool) (l : Layout) (b : ℕ) (name : List ℕ) (u v w : SeatView) → HasNotedMore u v → (r : Result Dump RestoreError) → BeginsDump tells l b name v w r → BeginsDump tells l b name u w r
dumps_earlier tells l b name u v w more r dumps = by r dumps
  where
    marks_earlier : MarksDump l v.front w.front name b → MarksDump l u.front w.front name b
    marks_earlier marks = record { m = marks.m; longer = prefix_trans u.front v.front marks.m more.seen.front marks.longer; fresh = marks.fresh; spare = marks.spare; seen = marks.seen }

    by : (q : Result Dump RestoreError) → BeginsDump tells l b name v w q → BeginsDump tells l b name u w q
    by (Ok d) is = (marks_earlier is.0, is.1)
    by (Err errors.NotEnabled) is = (prefix_trans u.front v.front w.front more.seen.front is.0, is.1)
    by (Err errors.NameTaken) is = is
    by (Err (errors.LastHost table)) is = is
    by (Err (errors.HistoryFull k)) is = is
    by (Err errors.LogFault) is = (is.0, prefix_trans u.front v.front is.0 more.seen.front is.1, is.2)
    by (Err (errors.Fault k)) is = (is.0, marks_earlier is.1, fault_between b u v w w more (noted_self w) is.2)
    by (Err errors.NoMemory) is = tt
    by (Err errors.AlreadyEnabled) is = absurd is
    by (Err errors.Starved) is = absurd is
    by (Err (errors.Out seen)) is = absurd is
    by (Err errors.NotOut) is = absurd is
    by (Err (errors.DumpLacks table)) is = absurd is
    by (Err (errors.DumpAhead k)) is = absurd is
