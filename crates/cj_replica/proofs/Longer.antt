-- What a cell says in the words of a log holds of each log that begins so.
use Rattle.std.proofs.Common.{◌≡◌, ℕ, ◌-◌, ◌≤◌, List, length, Option, None, Some, option_map, IfOk, IfSome, Result, Ok, Err, slice_get, ap, sym, ◌∙◌, arith}
use mathlib.Core.List.{IsPrefix}
use Rattle.std.proofs.lemmas.Option.{slice_get_within}
use Rattle.cj_model.specs.declared.answer.Asked.{Asked}
use Rattle.cj_model.specs.declared.database.Slot.{Slot}
use Rattle.cj_model.specs.declared.request.Entry.{Entry}
use Rattle.cj_model.specs.declared.select.Select.{Select}
use Rattle.cj_model.specs.Database.Queries.{ask}
use Rattle.cj_model.specs.Database.Steps.{step}
use Rattle.cj_model.specs.Cluster.Placements.{Placement, part}
use Rattle.cj_cluster.specs.History.Histories.{database_after}
use Rattle.cj_cluster.proofs.Pushed.{at-prefix, prefix_get}
use Rattle.cj_replica.specs.declared.replica.Caught.{Caught}
use Rattle.cj_replica.specs.declared.replica.Caught.TheVariants.{Skipped, Did}
use Rattle.cj_replica.specs.declared.replica.CellError.{CellError}
use Rattle.cj_replica.specs.declared.replica.CellReadError.{CellReadError}
use Rattle.cj_replica.specs.Logged.{IsLoggedAnswer, IsLoggedOutcome, IsLoggedPart}

module _ (xs ys : List Entry) (begins : IsPrefix xs ys) where
  -- of an entry that the shorter log has
  pub outcome_longer : (n : ℕ) (e : Entry) → slice_get xs (n - 1) ≡ Some e → (r : Result Caught CellError) → IsLoggedOutcome xs n r → IsLoggedOutcome ys n r
  outcome_longer n e there (Ok Skipped) is = tt
  outcome_longer n e there (Ok (Did o)) is =
      let inside = slice_get_within xs (n - 1) e there in
      let short : n - 1 ≤ length xs = omega arith in
      let same : database_after ys (n - 1) ≡ database_after xs (n - 1) = at-prefix xs ys (n - 1) begins short in
      ap (option_map (λ (d : Entry). (step (database_after ys (n - 1)) d).outcome)) (prefix_get xs ys (n - 1) e begins there ∙ sym there)
      ∙ (ap (λ (db : List Slot). option_map (λ (d : Entry). (step db d).outcome) (slice_get xs (n - 1))) same ∙ is)
  outcome_longer n e there (Err d) is = tt

  -- of an answer at a position in the shorter log
  pub answer_longer : (p : Placement) (b tx : ℕ) (select : Select) (r : Result (Asked × ℕ) CellReadError) → IfOk r (λ x. x.1 ≤ length xs) → IsLoggedAnswer p b xs tx select r → IsLoggedAnswer p b ys tx select r
  answer_longer p b tx select (Ok x) within is hosted = is hosted ∙ ap (λ (db : List Slot). ask db tx select) (sym (at-prefix xs ys x.1 begins within))
  answer_longer p b tx select (Err e) within is hosted = tt

  -- of what is held there
  pub part_longer : (p : Placement) (b : ℕ) (position : Option ℕ) (r : Result (List Slot) CellError) → IfSome position (λ n. n ≤ length xs) → IsLoggedPart p b xs position r → IsLoggedPart p b ys position r
  part_longer p b None (Ok db) within is = tt
  part_longer p b (Some n) (Ok db) within is = is ∙ ap (part p b) (sym (at-prefix xs ys n begins within))
  part_longer p b position (Err e) within is = tt
