-- What an entry is answered once it ended, and who serves a request.
use Rattle.std.specs.Prelude.{◌≡◌, ◌≢◌, ◌⊎◌, ℕ, Bool, true, false, List, slice_get}
use Rattle.std.specs.declared.option.Option.TheVariants.{Some}
use Rattle.cj_model.specs.declared.answer.Outcome.{Outcome}
use Rattle.cj_model.specs.declared.answer.Reply.{Reply}
use Rattle.cj_model.specs.declared.answer.Reply.TheVariants.{Refused}
use Rattle.cj_model.specs.declared.request.Request.{Request}
use Rattle.cj_model.specs.declared.request.Entry.{Entry}
use Rattle.cj_cluster.specs.declared.event.Event.{Event}
use Rattle.cj_model.specs.declared.codes.TheConstants.{UNFINISHED, STARVED_ALL}
use Rattle.cj_model.specs.Wire.Replies.{outcome_reply}
use Rattle.cj_model.specs.Cluster.Placements.{Placement, hosts_all, needs, needs_backend, concerns}
use Rattle.cj_cluster.specs.History.Histories.{is_enabled, log, masks_of_ends, outcome_of}
use Rattle.cj_model.specs.Cluster.Masks.{in_mask}
use Rattle.cj_model.specs.Database.Outcomes.{IsOutcome}

-- backend b is enabled and has each table that is named
abbrev pub CanServe : Placement → List Event → Request → ℕ → Type 0
CanServe p h r b = (is_enabled h b ≡ true) × (hosts_all p b (needs r) ≡ true)

-- some backend serves the request, or it needs none
abbrev pub HasServer : Placement → List Event → Request → Type 0
HasServer p h r = needs_backend r ≡ true → (b : ℕ) × CanServe p h r b

-- the request needs a backend, and none serves it
abbrev pub HasNoServer : Placement → List Event → Request → Type 0
HasNoServer p h r = (needs_backend r ≡ true) × ((b : ℕ) → is_enabled h b ≡ true → hosts_all p b (needs r) ≡ false)

-- backend b is a target of entry e, which was scheduled at this history
abbrev pub IsTarget : Placement → List Event → Entry → ℕ → Type 0
IsTarget p then e b = (is_enabled then b ≡ true) × (concerns p b (log then) e.tx e.act ≡ true)

-- Entry i has no target, or one in neither mask of its end: the reply is its outcome.
-- If the backends tell what they hold, that is the outcome on the one database.
pub record Finished (tells : Bool) (p : Placement) (then h : List Event) (i : ℕ) (e : Entry) (reply : Reply) : Type 0 where
  pub failed : ℕ
  pub starved : ℕ
  pub masks : slice_get (masks_of_ends h) i ≡ Some (failed, starved)
  pub some : ((b : ℕ) → IsTarget p then e b → ⊥) ⊎ ((b : ℕ) × IsTarget p then e b × (in_mask failed b ≡ false) × (in_mask starved b ≡ false))
  pub outcome : Outcome
  pub possible : IsOutcome outcome
  pub says : tells ≡ true → outcome_of (log h) i ≡ Some outcome
  pub replied : reply ≡ outcome_reply outcome

-- entry i has targets, and each of them is in a mask of its end
pub record Unfinished (p : Placement) (then h : List Event) (i : ℕ) (e : Entry) (reply : Reply) : Type 0 where
  pub failed : ℕ
  pub starved : ℕ
  pub masks : slice_get (masks_of_ends h) i ≡ Some (failed, starved)
  pub some : (b : ℕ) × IsTarget p then e b
  pub all : (b : ℕ) → IsTarget p then e b → (in_mask failed b ≡ true) ⊎ (in_mask starved b ≡ true)
  pub replied : ((failed ≢ 0) × (reply ≡ Refused (record { code = UNFINISHED; a = failed; b = starved }))) ⊎ ((failed ≡ 0) × (reply ≡ Refused (record { code = STARVED_ALL; a = 0; b = starved })))

-- Entry i of h, which was scheduled at the history `then`, has ended and is answered so.
abbrev pub AnswersEntry : Bool → Placement → List Event → List Event → ℕ → Entry → Reply → Type 0
AnswersEntry tells p then h i e reply = Finished tells p then h i e reply ⊎ Unfinished p then h i e reply
