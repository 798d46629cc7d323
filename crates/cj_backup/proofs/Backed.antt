-- A backend is backed up: what its dump is as one that may be put onto the shelf, and what came of that.
use Rattle.std.proofs.Common.{◌≡◌, ◌≢◌, ℕ, Bool, true, false, List, [], ◌∷◌, ◌++◌, All, filter, fold, Result, Ok, Err, if◌then◌else◌, ap, sym, ◌∙◌, subst}
use Rattle.std.proofs.lemmas.List.Elements.{All-nil, filter_passes}
use Rattle.cj_model.specs.Database.Tables.{name_cmp, put_by}
use Rattle.cj_model.specs.Sql.Names.{is_name}
use Rattle.cj_model.proofs.RisingLaws.{all_put_each}
use Rattle.cj_board.specs.declared.view.SeatView.{SeatView}
use Rattle.cj_cluster.specs.declared.event.Event.{Event}
use Rattle.cj_place.specs.Layouts.{Layout, hosted_tables}
use Rattle.cj_dump.specs.declared.dump.Dump.{Dump}
use Rattle.cj_dump.specs.Dumps.{CanEncode}
use Rattle.cj_shelf.specs.Shelves.{is_shelved, ShelfState}
use Rattle.cj_return_path.specs.Dumping.{BeginsDump, IsTakenDump}
use Rattle.cj_backup.specs.declared.backing.BackupError.{BackupError}
use Rattle.cj_backup.specs.declared.backing.BackupError.TheVariants as errors
use Rattle.cj_backup.specs.Backups.{BacksUp, Puts}

-- ---- the dump

abbrev IsName : List ℕ → Type 0
IsName name = is_name name ≡ true

-- each table that a dump covers has a name
names_covered : (full : Bool) (tables : List (List ℕ)) → All IsName (if full then [] else fold (put_by name_cmp) [] (filter is_name tables))
names_covered true tables = All-nil IsName
names_covered false tables = all_put_each name_cmp IsName [] (filter is_name tables) (All-nil IsName) (filter_passes is_name tables)

pub can_encode : (tells : Bool) (l : Layout) (m : List Event) (name : List ℕ) (b : ℕ) (d : Dump) → name ≢ [] → IsTakenDump tells l m name b d → CanEncode d
can_encode tells l m name b d named is = record {
  name = λ none. named (sym is.named ∙ none);
  covers = subst (All IsName) (sym is.covers) (names_covered l.full (hosted_tables l b));
  none = λ all. is.covers ∙ ap (λ (full : Bool). if full then [] else fold (put_by name_cmp) [] (filter is_name (hosted_tables l b))) (sym is.all ∙ all);
  db = is.storable;
}

-- ---- the dump is put onto the shelf

module _ {D : Type 0} (tells kept : Bool) (l : Layout) (b : ℕ) (name : List ℕ) (old new : SeatView) (shelf now : ShelfState D) where
  pub backed_up : is_shelved name shelf.names ≡ false → (d : Dump) → BeginsDump tells l b name old new (Ok d) → (r : Result ℕ BackupError) → Puts kept shelf now d r → BacksUp tells kept l b name old new shelf now r
  backed_up fresh d dumps (Ok n) puts = (fresh, dumps.0, d, dumps.1, puts.0, puts.1 ∙ ap (λ (x : List ℕ). shelf.names ++ x ∷ []) dumps.1.named, puts.2)
  backed_up fresh d dumps (Err errors.StoreFault) puts = (dumps.0, puts.0, puts.1)
  backed_up fresh d dumps (Err errors.NoMemory) puts = puts
  backed_up fresh d dumps (Err errors.NotEnabled) puts = absurd puts
  backed_up fresh d dumps (Err errors.NameTaken) puts = absurd puts
  backed_up fresh d dumps (Err (errors.LastHost table)) puts = absurd puts
  backed_up fresh d dumps (Err (errors.Failed k)) puts = absurd puts
  backed_up fresh d dumps (Err errors.LogFault) puts = absurd puts
  backed_up fresh d dumps (Err (errors.HistoryFull n)) puts = absurd puts
