-- Dumps that may be loaded: they stay so while the history grows, the shelf gives such ones, and a backup adds one.
use Rattle.std.proofs.Common.{◌≡◌, ◌⊎◌, ℕ, ◌<◌, Bool, true, List, [], ◌∷◌, ◌++◌, length, Some, Ok, Err, inl, inr, ap, sym, subst, refl, filter}
use Rattle.std.specs.Prelude.{Contains}
use mathlib.Core.List.{IsPrefix}
use Rattle.std.specs.Str.{bytes_eq}
use Rattle.std.proofs.lemmas.List.Elements.{All-contains, All-contains_itself, All-filter, Contains-push_cases}
use Rattle.std.proofs.lemmas.Option.{get_or_from_slice_get, slice_get_within}
use Rattle.cj_cluster.specs.declared.event.Event.{Event}
use Rattle.cj_cluster.specs.declared.event.Event.TheVariants.{Disabled, Marker}
use Rattle.cj_cluster.specs.History.Legality.{IsLegal}
use Rattle.cj_cluster.proofs.Pushed.{prefix_trans}
use Rattle.cj_place.specs.Layouts.{Layout}
use Rattle.cj_board.specs.declared.view.SeatView.{SeatView}
use Rattle.cj_dump.specs.declared.dump.Dump.{Dump}
use Rattle.cj_dump.specs.Dumps.{IsDump}
use Rattle.cj_shelf.specs.Shelves.{first_of, ShelfState}
use Rattle.cj_return_path.specs.Restoring.{IsRightDump}
use Rattle.cj_backup.specs.Backups.{BacksUp}
use Rattle.cj_backup.specs.declared.backing.BackupError.{BackupError}
use Rattle.cj_backup.specs.declared.backing.BackupError.TheVariants as errors
use Rattle.cj_backup.proofs.Rightness.{dump_is_right}
use Rattle.cj_replay.proofs.Restored.{right_later}
use Rattle.cj_console.specs.Answers.{AreRightDumps}

-- ---- the history grows

-- dumps that may be loaded may be loaded later
pub all_later : (tells : Bool) (F G : List Event) (dumps : List Dump) → IsPrefix F G → AreRightDumps tells F dumps → AreRightDumps tells G dumps
all_later tells F G dumps longer are on d there = right_later tells F G d longer (are on d there)

-- the dumps stayed, where the shelf's store tells
pub right_kept : (tells kept : Bool) (F G : List Event) (dumps now : List Dump) → (tells ≡ true → kept ≡ true) → (kept ≡ true → now ≡ dumps) → IsPrefix F G → AreRightDumps tells F dumps → AreRightDumps tells G now
right_kept tells kept F G dumps now keeps same longer are on =
    subst (λ (l : List Dump). (d : Dump) → Contains l d → IsRightDump tells G d) (sym (same (keeps on))) (all_later tells F G dumps longer are on)

-- ---- a dump is looked up

-- the first dump of a name is on the shelf
first_is_there : (name : List ℕ) (dumps : List Dump) (d : Dump) → first_of name dumps ≡ Some d → Contains dumps d
first_is_there name dumps d is =
    let some : List Dump = filter (λ (x : Dump). bytes_eq x.name name) dumps in
    All-contains (Contains dumps) some d (All-filter (λ (x : Dump). bytes_eq x.name name) (Contains dumps) dumps (All-contains_itself dumps))
    (0, slice_get_within some 0 d is, get_or_from_slice_get some 0 d d is)

-- a dump that the shelf gave may be loaded
pub given_is_right : (tells kept : Bool) (F : List Event) (name : List ℕ) (dumps : List Dump) (d : Dump) → (tells ≡ true → kept ≡ true) → (kept ≡ true → Some d ≡ first_of name dumps) → IsDump d → AreRightDumps tells F dumps → IsRightDump tells F d
given_is_right tells kept F name dumps d keeps first is are =
    let right : tells ≡ true → IsRightDump tells F d = λ on. are on d (first_is_there name dumps d (sym (first (keeps on)))) in
    record { storable = is.db; within = λ on. (right on).within on; right = λ on. (right on).right on }

-- ---- a backup

-- a dump is one of those that were there, or the one that came
pushed_right : (tells : Bool) (G : List Event) (dumps : List Dump) (d x : Dump) → ((y : Dump) → Contains dumps y → IsRightDump tells G y) → IsRightDump tells G d → Contains dumps x ⊎ (d ≡ x) → IsRightDump tells G x
pushed_right tells G dumps d x old new (inl there) = old x there
pushed_right tells G dumps d x old new (inr is) = subst (IsRightDump tells G) is new

module _ {D : Type 0} (tells kept : Bool) (l : Layout) (b : ℕ) (name : List ℕ) (old new : SeatView) (shelf now : ShelfState D) where
  -- after a refusal the shelf has the dumps that it had
  refused_stays : (error : BackupError) → BacksUp tells kept l b name old new shelf now (Err error) → kept ≡ true → now.dumps ≡ shelf.dumps
  refused_stays errors.NotEnabled backs on = ap (λ (x : ShelfState D). x.dumps) backs.1
  refused_stays errors.NameTaken backs on = ap (λ (x : ShelfState D). x.dumps) backs.1
  refused_stays (errors.LastHost table) backs on = ap (λ (x : ShelfState D). x.dumps) backs.1
  refused_stays (errors.Failed k) backs on = ap (λ (x : ShelfState D). x.dumps) backs.3
  refused_stays errors.StoreFault backs on = backs.2 on
  refused_stays errors.LogFault backs on = ap (λ (x : ShelfState D). x.dumps) backs.1
  refused_stays (errors.HistoryFull n) backs on = ap (λ (x : ShelfState D). x.dumps) backs.2
  refused_stays errors.NoMemory backs on = backs.1 on

  -- so they may be loaded still
  pub refused_right : (error : BackupError) → (tells ≡ true → kept ≡ true) → IsPrefix old.front new.front → AreRightDumps tells old.front shelf.dumps → BacksUp tells kept l b name old new shelf now (Err error) → AreRightDumps tells new.front now.dumps
  refused_right error keeps longer are backs = right_kept tells kept old.front new.front shelf.dumps now.dumps keeps (refused_stays error backs) longer are

  -- and so they may with the dump that was added, at each later history
  pub added_right : (n : ℕ) (G : List Event) → b < length l.names → (tells ≡ true → kept ≡ true) → IsLegal G → IsPrefix old.front new.front → IsPrefix new.front G → AreRightDumps tells old.front shelf.dumps → BacksUp tells kept l b name old new shelf now (Ok n) → AreRightDumps tells G now.dumps
  added_right n G below keeps legal longer later are (fresh, marks, d, dump, position, names, dumps) on =
      let at : IsPrefix marks.m G = prefix_trans marks.m new.front G (prefix_trans marks.m (marks.m ++ Marker name (Some b) ∷ Disabled b ∷ []) new.front (Marker name (Some b) ∷ Disabled b ∷ [], refl) marks.seen) later in
      let old_right : (x : Dump) → Contains shelf.dumps x → IsRightDump tells G x = all_later tells old.front G shelf.dumps (prefix_trans old.front new.front G longer later) are on in
      let new_right : IsRightDump tells G d = dump_is_right tells l marks.m G name b d below legal at dump in
      subst (λ (list : List Dump). (x : Dump) → Contains list x → IsRightDump tells G x) (sym (dumps (keeps on)))
      (λ x there. pushed_right tells G shelf.dumps d x old_right new_right (Contains-push_cases shelf.dumps d x there))
