-- Each dump of a shelf may be loaded, at any later time.
use Rattle.std.proofs.Common.{◌≡◌, ℕ, ◌<◌, Bool, true, false, List, [], ◌∷◌, ◌++◌, length, All, Result, Ok, Err, Some, inl, refl, sym, subst, arith}
use mathlib.Core.List.{IsPrefix}
use Rattle.std.proofs.lemmas.List.Elements.{All-append, All-cons, All-filter, All-get_or, All-nil, All-weaker}
use Rattle.std.proofs.lemmas.Option.{get_or_from_slice_get, slice_get_within}
use Rattle.std.specs.List.{filter}
use Rattle.std.specs.Str.{bytes_eq}
use Rattle.cj_cluster.specs.declared.event.Event.{Event}
use Rattle.cj_cluster.specs.declared.event.Event.TheVariants.{Disabled, Marker}
use Rattle.cj_cluster.specs.History.Legality.{IsLegal}
use Rattle.cj_cluster.proofs.Pushed.{prefix_trans}
use Rattle.cj_place.specs.Layouts.{Layout}
use Rattle.cj_board.specs.declared.view.SeatView.{SeatView}
use Rattle.cj_dump.specs.declared.dump.Dump.{Dump}
use Rattle.cj_shelf.specs.Shelves.{first_of, is_shelved, KeepsDumps, ShelfState}
use Rattle.cj_shelf.proofs.Bodies.{one_shelf}
use Rattle.cj_return_path.specs.Restoring.{IsRightDump}
use Rattle.cj_replay.proofs.Restored.{right_later}
use Rattle.cj_backup.specs.declared.backing.BackupError.{BackupError}
use Rattle.cj_backup.specs.declared.backing.BackupError.TheVariants as errors
use Rattle.cj_backup.specs.Backups.{BacksUp}
use Rattle.cj_backup.proofs.Rightness.{dump_is_right}

-- an empty store has no dump
pub none_kept : (dumps : List Dump) → KeepsDumps [] dumps → dumps ≡ []
none_kept dumps keeps = one_shelf [] dumps [] keeps (record { found = inl (omega arith, refl); each = tt })

-- what holds of each dump holds of the first of a name
pub first_has : (P : Dump → Type 0) (name : List ℕ) (dumps : List Dump) (d : Dump) → All P dumps → first_of name dumps ≡ Some d → P d
first_has P name dumps d all is =
    let named : List Dump = filter (λ (x : Dump). bytes_eq x.name name) dumps in
    subst P (get_or_from_slice_get named 0 d d is) (All-get_or P named 0 d (slice_get_within named 0 d is) (All-filter (λ (x : Dump). bytes_eq x.name name) P dumps all))

module _ (tells : Bool) where
  pub still_right : (F G : List Event) (dumps : List Dump) → IsPrefix F G → All (IsRightDump tells F) dumps → All (IsRightDump tells G) dumps
  still_right F G dumps longer all = All-weaker (IsRightDump tells F) (IsRightDump tells G) (λ d is. right_later tells F G d longer is) dumps all

  -- a backend was backed up, or was not
  module _ {D : Type 0} (l : Layout) (b : ℕ) (below : b < length l.names) (name : List ℕ) (old new : SeatView) (shelf now : ShelfState D) (legal : is_shelved name shelf.names ≡ false → IsLegal new.front) (all : All (IsRightDump tells new.front) shelf.dumps) where
    same_right : now ≡ shelf → All (IsRightDump tells new.front) now.dumps
    same_right same = subst (λ (x : ShelfState D). All (IsRightDump tells new.front) x.dumps) (sym same) all

    kept_right : now.dumps ≡ shelf.dumps → All (IsRightDump tells new.front) now.dumps
    kept_right same = subst (All (IsRightDump tells new.front)) (sym same) all

    pub backed_up_right : (r : Result ℕ BackupError) → BacksUp tells true l b name old new shelf now r → All (IsRightDump tells new.front) now.dumps
    backed_up_right (Ok n) (fresh, marks, d, is, position, names, dumps) =
        let behind : IsPrefix marks.m new.front = prefix_trans marks.m (marks.m ++ Marker name (Some b) ∷ Disabled b ∷ []) new.front (Marker name (Some b) ∷ Disabled b ∷ [], refl) marks.seen in
        let right : IsRightDump tells new.front d = dump_is_right tells l marks.m new.front name b d below (legal fresh) behind is in
        subst (All (IsRightDump tells new.front)) (sym (dumps refl)) (All-append (IsRightDump tells new.front) shelf.dumps (d ∷ []) all (All-cons (IsRightDump tells new.front) d [] right (All-nil (IsRightDump tells new.front))))
    backed_up_right (Err errors.NotEnabled) why = same_right why.1
    backed_up_right (Err errors.NameTaken) why = same_right why.1
    backed_up_right (Err (errors.LastHost table)) why = same_right why.1
    backed_up_right (Err (errors.Failed k)) why = same_right why.3
    backed_up_right (Err errors.StoreFault) why = kept_right (why.2 refl)
    backed_up_right (Err errors.LogFault) why = same_right why.1
    backed_up_right (Err (errors.HistoryFull n)) why = same_right why.2
    backed_up_right (Err errors.NoMemory) why = kept_right (why.1 refl)
