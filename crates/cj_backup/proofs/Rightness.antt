-- A dump that was taken may be loaded later: it has what the one database has there, of the tables that it covers.
use Rattle.std.proofs.Common.{◌≡◌, ℕ, ◌<◌, ◌≤◌, Bool, true, List, length, take, All, ap, arith, sym, ◌∙◌, subst}
use mathlib.Core.List.{IsPrefix}
use Rattle.std.proofs.lemmas.List.Elements.{All-weaker}
use Rattle.cj_model.specs.declared.database.Slot.{Slot}
use Rattle.cj_model.specs.Cluster.Placements.{part}
use Rattle.cj_model.specs.Database.Storable.{IsStorable, IsStorableSlot}
use Rattle.cj_model.specs.Database.Tables.{table_of}
use Rattle.cj_model.specs.Sql.Names.{is_name}
use Rattle.cj_cluster.specs.declared.event.Event.{Event}
use Rattle.cj_cluster.specs.History.Histories.{database_after, log}
use Rattle.cj_cluster.specs.History.Legality.{IsLegal}
use Rattle.cj_cluster.proofs.DraftLaws.{run_storable}
use Rattle.cj_cluster.proofs.Pushed.{at-prefix, log-prefix, prefix_length}
use Rattle.cj_cluster.proofs.TransactionLaws.{fit_take, legal_fit}
use Rattle.cj_dump.specs.declared.dump.Dump.{Dump}
use Rattle.cj_dump.proofs.Cuts.{taken_covers}
use Rattle.cj_place.specs.Layouts.{Layout, placement_of}
use Rattle.cj_return_path.specs.Dumping.{IsTakenDump}
use Rattle.cj_return_path.specs.Restoring.{IsRightDump}

-- each table has a name
tables_named : (db : List Slot) → IsStorable db → All (λ (s : Slot). is_name (table_of s) ≡ true) db
tables_named db is = All-weaker IsStorableSlot (λ (s : Slot). is_name (table_of s) ≡ true) (λ s slot. slot.base.table.0) db is.slots

pub dump_is_right : (tells : Bool) (l : Layout) (m F : List Event) (name : List ℕ) (b : ℕ) (d : Dump) → b < length l.names → IsLegal F → IsPrefix m F → IsTakenDump tells l m name b d → IsRightDump tells F d
dump_is_right tells l m F name b d below legal longer is =
    let more : IsPrefix (log m) (log F) = log-prefix m F longer in
    let inside : d.position ≤ length (log m) = subst (λ (n : ℕ). n ≤ length (log m)) (sym is.position) (omega arith) in
    let whole : List Slot = database_after (log F) d.position in
    let holds : tells ≡ true → d.db ≡ part (placement_of l) b whole =
    λ on. is.db on ∙ ap (part (placement_of l) b) (ap (database_after (log m)) (sym is.position) ∙ sym (at-prefix (log m) (log F) d.position more inside))
    in
    let storable : IsStorable whole = run_storable (take d.position (log F)) (fit_take (log F) d.position (legal_fit F legal)) in
    let length_more : length (log m) ≤ length (log F) = prefix_length (log m) (log F) more in
    record {
      storable = is.storable;
      within = λ on. omega (arith, inside, length_more);
      right = λ on. taken_covers l b below d is.all is.covers whole (tables_named whole storable) (holds on);
    }
