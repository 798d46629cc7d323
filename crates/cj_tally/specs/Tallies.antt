-- What the backends did with the open entry, and what its session is answered.
use Rattle.std.specs.Prelude.{◌≡◌, ◌≢◌, ◌⊎◌, ℕ, ◌<◌, Bool, true, false, List, [], ◌∷◌, ◌++◌, IsSome}
use Rattle.std.specs.declared.option.Option.{Option}
use Rattle.std.specs.declared.option.Option.TheVariants.{None, Some}
use Rattle.cj_model.specs.declared.answer.Outcome.{Outcome}
use Rattle.cj_model.specs.declared.answer.Outcome.TheVariants as outcome
use Rattle.cj_model.specs.declared.answer.Refusal.{Refusal}
use Rattle.cj_model.specs.declared.answer.Reply.{Reply}
use Rattle.cj_model.specs.declared.answer.Reply.TheVariants.{Refused}
use Rattle.cj_model.specs.declared.codes.TheConstants.{UNFINISHED, STARVED_ALL}
use Rattle.cj_model.specs.declared.request.Entry.{Entry}
use Rattle.cj_model.specs.Cluster.Masks.{in_mask, with_backend}
use Rattle.cj_model.specs.Cluster.Placements.{Placement}
use Rattle.cj_model.specs.Database.Outcomes.{IsOutcome}
use Rattle.cj_model.specs.Sql.PlainRequests.{request_of}
use Rattle.cj_model.specs.Wire.Replies.{outcome_reply}
use Rattle.cj_cluster.specs.declared.event.Event.{Event}
use Rattle.cj_cluster.specs.declared.event.Event.TheVariants.{Ended}
use Rattle.cj_cluster.specs.declared.moves.Did.{Did}
use Rattle.cj_cluster.specs.declared.moves.Did.TheVariants as did
use Rattle.cj_cluster.specs.History.Answering.{AnswersEntry, HasServer, IsTarget}
use Rattle.cj_cluster.specs.History.Histories.{log, ended_count, open_entry_of, outcome_of}
use Rattle.cj_cluster.specs.History.Transactions.{takes_part}
use Rattle.cj_cluster.specs.Moves.Moves.{failed_after, starved_after}
use Rattle.cj_tally.specs.declared.tally.Tally.{Tally}

-- ---- reports

-- no backend has reported
abbrev pub no_reports : Tally
no_reports = record { taken = 0; failed = 0; starved = 0; first_outcome = None }

-- the mask of the backends that applied or skipped the entry, after backend b did this with it
abbrev pub taken_after : ℕ → ℕ → Did → ℕ
taken_after mask b (did.Done o) = with_backend mask b
taken_after mask b did.Skipped = with_backend mask b
taken_after mask b did.Failed = mask
taken_after mask b did.Starved = mask

-- the first outcome, after a backend did this with the entry
abbrev pub first_outcome_after : Option Outcome → Did → Option Outcome
first_outcome_after (Some o) d = Some o
first_outcome_after None (did.Done o) = Some o
first_outcome_after None did.Skipped = None
first_outcome_after None did.Failed = None
first_outcome_after None did.Starved = None

-- the tally with one report more: backend b did this with the entry
abbrev pub with_report : Tally → ℕ → Did → Tally
with_report t b d = record {
  taken = taken_after t.taken b d;
  failed = failed_after t.failed b d;
  starved = starved_after t.starved b d;
  first_outcome = first_outcome_after t.first_outcome d;
}

-- backend b has reported
abbrev pub HasReported : Tally → ℕ → Type 0
HasReported t b = (in_mask t.taken b ≡ true) ⊎ (in_mask t.failed b ≡ true) ⊎ (in_mask t.starved b ≡ true)

-- each backend of the mask below `count` has reported
abbrev pub HaveReportedBelow : ℕ → ℕ → Tally → Type 0
HaveReportedBelow count mask t = (b : ℕ) → b < count → in_mask mask b ≡ true → HasReported t b

-- who has reported in the first tally has done so in the second
abbrev pub KeepsReports : Tally → Tally → Type 0
KeepsReports t s = (b : ℕ) → HasReported t b → HasReported s b

-- ---- right reports

-- the outcome is one that an entry may have; if the backends tell what they hold, that of entry i on the one database
abbrev pub IsRightOutcome : Bool → List Entry → ℕ → Outcome → Type 0
IsRightOutcome tells entries i o = IsOutcome o × (tells ≡ true → outcome_of entries i ≡ Some o)

-- backend b may have done this with entry i: it gave the right outcome, and skipped no entry on a table that it hosts
abbrev pub IsReportOf : Bool → Placement → List Entry → ℕ → Entry → ℕ → Did → Type 0
IsReportOf tells p entries i e b (did.Done o) = IsRightOutcome tells entries i o
IsReportOf tells p entries i e b did.Skipped = takes_part p b [] e.tx e.act ≡ false
IsReportOf tells p entries i e b did.Failed = Unit {0}
IsReportOf tells p entries i e b did.Starved = Unit {0}

-- the tally is of entry i: its first outcome is right, and there once a backend with a part in it applied the entry
pub record IsTallyOf (tells : Bool) (p : Placement) (entries : List Entry) (i : ℕ) (e : Entry) (t : Tally) : Type 0 where
  pub right : (o : Outcome) → t.first_outcome ≡ Some o → IsRightOutcome tells entries i o
  pub whole : (b : ℕ) → in_mask t.taken b ≡ true → takes_part p b [] e.tx e.act ≡ true → IsSome t.first_outcome

-- ---- the answer

-- the entry has targets, and each of them failed or ran out of memory
pub record IsUnfinished (t : Tally) (targets : ℕ) : Type 0 where
  pub some : (b : ℕ) × (in_mask targets b ≡ true)
  pub all : (b : ℕ) → in_mask targets b ≡ true → (in_mask t.failed b ≡ true) ⊎ (in_mask t.starved b ≡ true)

-- the refusal of an entry whose targets all failed or ran out of memory: UNFINISHED if any failed, else STARVED_ALL
abbrev pub RefusesEntry : ℕ → ℕ → Refusal → Type 0
RefusesEntry failed starved refusal =
    ((failed ≢ 0) × (refusal ≡ record { code = UNFINISHED; a = failed; b = starved })) ⊎ ((failed ≡ 0) × (refusal ≡ record { code = STARVED_ALL; a = 0; b = starved }))

-- the outcome that was given, or Done 0 if no backend had a part in the entry
abbrev pub outcome_or_done : Option Outcome → Outcome
outcome_or_done None = outcome.Done 0
outcome_or_done (Some o) = o

-- what an entry with these targets is answered: that no target finished it, or else the first outcome
pub record RepliesTo (t : Tally) (targets : ℕ) (reply : Reply) : Type 0 where
  pub unfinished : IsUnfinished t targets → (refusal : Refusal) × RefusesEntry t.failed t.starved refusal × (reply ≡ Refused refusal)
  pub finished : (IsUnfinished t targets → ⊥) → reply ≡ outcome_reply (outcome_or_done t.first_outcome)

-- the mask has the targets of an entry that was scheduled at this history
abbrev pub AreTargets : Placement → List Event → Entry → ℕ → Type 0
AreTargets p h e targets = (b : ℕ) → (in_mask targets b ≡ true → IsTarget p h e b) × (IsTarget p h e b → in_mask targets b ≡ true)

-- each backend of the mask has reported
abbrev pub HaveReported : ℕ → Tally → Type 0
HaveReported targets t = (b : ℕ) → in_mask targets b ≡ true → HasReported t b

-- If each target of an open and served entry has reported, and rightly, this reply is the entry's,
-- once it ends with the masks of the tally.
abbrev pub AnswersByTally : Tally → ℕ → Reply → Type 0
AnswersByTally t targets reply =
    (tells : Bool) (p : Placement) (h : List Event) (e : Entry) → open_entry_of h ≡ Some e → HasServer p h (request_of e.act) → AreTargets p h e targets → HaveReported targets t → IsTallyOf tells p (log h) (ended_count h) e t
    → AnswersEntry tells p h (h ++ Ended t.failed t.starved ∷ []) (ended_count h) e reply
