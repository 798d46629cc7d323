-- What a replica holds of the log, and has begun, stays its part of the database.
use Rattle.std.proofs.Common.{◌≡◌, ℕ, ◌+◌, ◌-◌, ◌≤◌, not, Bool, true, cond, List, length, Option, None, Some, option_map, IfOk, IfSome, Result, Ok, Err, slice_get, refl, ap, sym, ◌∙◌, subst, arith}
use mathlib.Core.List.{IsPrefix}
use Rattle.cj_model.specs.declared.database.Slot.{Slot}
use Rattle.cj_model.specs.declared.request.Entry.{Entry}
use Rattle.cj_model.specs.Cluster.Placements.{Placement, part}
use Rattle.cj_model.specs.declared.answer.Asked.{Asked}
use Rattle.cj_model.specs.declared.answer.Outcome.{Outcome}
use Rattle.cj_model.specs.declared.select.Select.{Select}
use Rattle.cj_model.specs.Database.Steps.{step}
use Rattle.cj_model.specs.Database.Queries.{ask}
use Rattle.cj_model.proofs.PartLaws.{ask_part}
use Rattle.cj_model.specs.Database.Storable.{writers}
use Rattle.cj_cluster.specs.History.Histories.{database_after, outcome_of}
use Rattle.cj_cluster.specs.History.Transactions.{AreFit, takes_part}
use Rattle.cj_cluster.specs.Proving.Invariants.{CoversDrafts, HasBegunDrafts, HoldsPart}
use Rattle.cj_cluster.proofs.Loaded.{writers_cover}
use Rattle.cj_cluster.proofs.PartRuns.{part_at_taken, part_at_passed, covers_at_taken, covers_at_passed}
use Rattle.cj_cluster.proofs.Pushed.{at-prefix}
use Rattle.cj_replica.specs.declared.replica.Caught.{Caught}
use Rattle.cj_replica.specs.declared.replica.Caught.TheVariants.{Skipped, Did}
use Rattle.cj_replica.specs.declared.replica.CellError.{CellError}
use Rattle.cj_replica.specs.declared.replica.CellReadError.{CellReadError}
use Rattle.cj_replica.specs.Cells.{CellState, CatchesUp, LoadsDatabase, SaysEntryOutcome, SaysReadAnswer, SaysSnapshot, TellsAfterEntry, TellsLoaded, begun_after_entry, begun_loaded, is_skipped, position_after}
use Rattle.cj_replica.specs.Logged.{IsLoggedAnswer, IsLoggedOutcome, IsLoggedPart, IsLoggedSnapshot}

-- that of an entry more, where the replica took it
module _ (tells : Bool) (p : Placement) (b : ℕ) (entries : List Entry) (fits : AreFit entries) (k : ℕ) (e : Entry) (there : slice_get entries k ≡ Some e) (x y : CellState) (given : List ℕ) (r : Result Caught CellError) (takes : CatchesUp x (k + 1) e given r y)
    (number : x.b ≡ b) (placement : x.placement ≡ p) (stands : x.position ≡ Some k) (holds : HoldsPart tells p b entries x.told x.position) (drafts : HasBegunDrafts tells p b entries x.begun x.position) where
  told_part : tells ≡ true → x.told ≡ Some (part p b (database_after entries k))
  told_part = subst (HoldsPart tells p b entries x.told) stands holds

  covers : tells ≡ true → CoversDrafts x.begun (part p b (database_after entries k))
  covers = subst (HasBegunDrafts tells p b entries x.begun) stands drafts

  -- whether it takes part
  takes_part_as : takes_part p b x.begun e.tx e.act ≡ not (is_skipped r)
  takes_part_as = rw (sym number, sym placement) takes.part

  holds_as : (q : Result Caught CellError) → takes_part p b x.begun e.tx e.act ≡ not (is_skipped q) → TellsAfterEntry x.told e q y.told → HoldsPart tells p b entries y.told (position_after (k + 1) q)
  holds_as (Ok Skipped) off is = λ on. is ∙ (told_part on ∙ ap (λ db. Some db) (sym (part_at_passed p b x.begun entries fits k (covers on) e there off)))
  holds_as (Ok (Did o)) taken is = λ on. is ∙ (ap (option_map (λ db. (step db e).db)) (told_part on) ∙ ap (λ db. Some db) (sym (part_at_taken p b x.begun entries fits k (covers on) e there taken).0))
  holds_as (Err d) off is = tt

  drafts_as : (q : Result Caught CellError) → takes_part p b x.begun e.tx e.act ≡ not (is_skipped q) → HasBegunDrafts tells p b entries (begun_after_entry x.begun e q) (position_after (k + 1) q)
  drafts_as (Ok Skipped) off = λ on. covers_at_passed p b x.begun entries fits k (covers on) e there off
  drafts_as (Ok (Did o)) taken = λ on. covers_at_taken p b x.begun entries fits k (covers on) e there taken
  drafts_as (Err d) off = tt

  outcome_as : tells ≡ true → (q : Result Caught CellError) → takes_part p b x.begun e.tx e.act ≡ not (is_skipped q) → SaysEntryOutcome x.told e q → IsLoggedOutcome entries (k + 1) q
  outcome_as on (Ok Skipped) off says = tt
  outcome_as on (Ok (Did o)) taken says =
      let of_part : o ≡ (step (part p b (database_after entries k)) e).outcome = subst (λ (t : Option (List Slot)). IfSome t (λ db. o ≡ (step db e).outcome)) (told_part on) says in
      let of_whole = (part_at_taken p b x.begun entries fits k (covers on) e there taken).1 in
      let place : k + 1 - 1 ≡ k = omega arith in
      ap (outcome_of entries) place ∙ (ap (option_map (λ (d : Entry). (step (database_after entries k) d).outcome)) there ∙ ap (λ (r : Outcome). Some r) (sym (of_part ∙ of_whole)))
  outcome_as on (Err d) off says = tt

  -- what it did is what the entry comes to in the one database
  pub outcome_logged : tells ≡ true → IsLoggedOutcome entries (k + 1) r
  outcome_logged on = outcome_as on r takes_part_as takes.outcome

  pub holds_taken : HoldsPart tells p b entries y.told y.position
  holds_taken = subst (HoldsPart tells p b entries y.told) (sym takes.position) (holds_as r takes_part_as takes.told)

  pub drafts_taken : HasBegunDrafts tells p b entries y.begun y.position
  drafts_taken = subst (λ (z : List ℕ × Option ℕ). HasBegunDrafts tells p b entries z.0 z.1) (λ i. (sym takes.begun i, sym takes.position i)) (drafts_as r takes_part_as)

-- that of a database that was loaded, which is known where the cell tells and the dump does too
module _ (cell_tells tells : Bool) (tells_too : tells ≡ true → cell_tells ≡ true) (p : Placement) (b : ℕ) (entries : List Entry) (db : List Slot) (n : ℕ) (right : tells ≡ true → db ≡ part p b (database_after entries n)) (x y : CellState) where
  loaded_part : (q : Result Unit CellError) → TellsLoaded cell_tells db q x.told y.told → HoldsPart tells p b entries y.told (position_after n q)
  loaded_part (Ok u) is = λ on. is ∙ (ap (λ (t : Bool). cond t (Some db) None) (tells_too on) ∙ ap (λ (d : List Slot). Some d) (right on))
  loaded_part (Err e) is = tt

  loaded_drafts : (q : Result Unit CellError) → HasBegunDrafts tells p b entries (begun_loaded db q) (position_after n q)
  loaded_drafts (Ok u) = λ on. subst (λ (d : List Slot). CoversDrafts (writers d) (part p b (database_after entries n))) (sym (right on)) (writers_cover (part p b (database_after entries n)))
  loaded_drafts (Err e) = tt

  pub holds_dump : (r : Result Unit CellError) → LoadsDatabase cell_tells x db n r y → HoldsPart tells p b entries y.told y.position
  holds_dump r loads = subst (HoldsPart tells p b entries y.told) (sym loads.place) (loaded_part r loads.told)

  pub drafts_dump : (r : Result Unit CellError) → LoadsDatabase cell_tells x db n r y → HasBegunDrafts tells p b entries y.begun y.position
  drafts_dump r loads = subst (λ (z : List ℕ × Option ℕ). HasBegunDrafts tells p b entries z.0 z.1) (λ i. (sym loads.begun i, sym loads.place i)) (loaded_drafts r)

-- the same of a dump that tells
module _ (tells : Bool) (p : Placement) (b : ℕ) (entries : List Entry) (db : List Slot) (n : ℕ) (right : tells ≡ true → db ≡ part p b (database_after entries n)) (x y : CellState) where
  pub holds_loaded : (r : Result Unit CellError) → LoadsDatabase tells x db n r y → HoldsPart tells p b entries y.told y.position
  holds_loaded = holds_dump tells tells (λ on. on) p b entries db n right x y

  pub drafts_loaded : (r : Result Unit CellError) → LoadsDatabase tells x db n r y → HasBegunDrafts tells p b entries y.begun y.position
  drafts_loaded = drafts_dump tells tells (λ on. on) p b entries db n right x y

-- what a cell that holds its part says in the words of the log
module _ (tells : Bool) (p : Placement) (b : ℕ) (entries : List Entry) (told : Option (List Slot)) (position : Option ℕ) (holds : HoldsPart tells p b entries told position) (on : tells ≡ true) where
  told_at : (n : ℕ) → position ≡ Some n → told ≡ Some (part p b (database_after entries n))
  told_at n at = subst (HoldsPart tells p b entries told) at holds on

  -- of what it answers to a query
  pub answer_logged : (tx : ℕ) (select : Select) (r : Result (Asked × ℕ) CellReadError) → IfOk r (λ x. SaysReadAnswer told tx select x.0) → IfOk r (λ x. position ≡ Some x.1) → IsLoggedAnswer p b entries tx select r
  answer_logged tx select (Ok x) says at hosted =
      let of_part : x.0 ≡ ask (part p b (database_after entries x.1)) tx select = subst (λ (t : Option (List Slot)). IfSome t (λ db. x.0 ≡ ask db tx select)) (told_at x.1 at) says in
      of_part ∙ ask_part p b (database_after entries x.1) tx select hosted
  answer_logged tx select (Err e) says at hosted = tt

  -- of a snapshot that it gives
  pub snapshot_logged : {S : Type 0} (shows : S → Option (List Slot)) (r : Result (Option S × ℕ) CellReadError) → IfOk r (λ x. SaysSnapshot shows told x.0) → IfOk r (λ x. position ≡ Some x.1) → IsLoggedSnapshot shows p b entries r
  snapshot_logged shows (Ok (Some s, n)) says at = subst (λ (t : Option (List Slot)). IfSome t (λ db. shows s ≡ Some db)) (told_at n at) says
  snapshot_logged shows (Ok (None, n)) says at = tt
  snapshot_logged shows (Err e) says at = tt

  -- and of what it holds
  pub contents_logged : (r : Result (List Slot) CellError) → IfOk r (λ db. IfSome told (λ held. db ≡ held)) → IsLoggedPart p b entries position r
  contents_logged (Ok db) says = at position refl
    where
      at : (q : Option ℕ) → position ≡ q → IfSome q (λ n. db ≡ part p b (database_after entries n))
      at None is = tt
      at (Some n) is = subst (λ (t : Option (List Slot)). IfSome t (λ held. db ≡ held)) (told_at n is) says
  contents_logged (Err e) says = tt

-- that of the first entries is the same where more are seen
pub holds_longer : (tells : Bool) (p : Placement) (b : ℕ) (xs ys : List Entry) → IsPrefix xs ys → (told : Option (List Slot)) (q : Option ℕ) → IfSome q (λ n. n ≤ length xs) → HoldsPart tells p b xs told q → HoldsPart tells p b ys told q
holds_longer tells p b xs ys begins told None le holds = tt
holds_longer tells p b xs ys begins told (Some n) le holds = λ on. holds on ∙ ap (λ (db : List Slot). Some (part p b db)) (sym (at-prefix xs ys n begins le))

pub drafts_longer : (tells : Bool) (p : Placement) (b : ℕ) (xs ys : List Entry) → IsPrefix xs ys → (begun : List ℕ) (q : Option ℕ) → IfSome q (λ n. n ≤ length xs) → HasBegunDrafts tells p b xs begun q → HasBegunDrafts tells p b ys begun q
drafts_longer tells p b xs ys begins begun None le drafts = tt
drafts_longer tells p b xs ys begins begun (Some n) le drafts = λ on. subst (λ (db : List Slot). CoversDrafts begun (part p b db)) (sym (at-prefix xs ys n begins le)) (drafts on)
