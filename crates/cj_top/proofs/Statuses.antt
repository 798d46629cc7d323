-- What statuses tell, and from which logs commands go on.
use Rattle.std.proofs.Common.{◌≡◌, ◌≢◌, ◌⊎◌, inl, inr, ℕ, ℤ, ◌<◌, Bool, true, List, [], ◌∷◌, ◌++◌, Option, Result, Ok, Err, refl, sym, ap, subst, ◌∙◌, arith}
use Rattle.std.specs.List.{AllByRecursion}
use Rattle.cj_top.proofs.Common.{BackendState, Command, Conf, Gen, Log, LogItem, OutError, Pipe, Script, ScriptEnd, SessionEnd, StartError, WorldState}
use Rattle.cj_cluster.specs.History.Histories.{log}
use Rattle.cj_model.specs.Cluster.Placements.{Placement}
use Rattle.cj_model.specs.declared.limits.TheConstants.{SESSION_NUMBER_LIMIT}
use Rattle.cj_cluster.specs.declared.event.Event.{Event}
use Rattle.cj_cluster.specs.declared.session.SessionEnd.TheVariants as end
use Rattle.cj_outside.specs.Causes.{CountsFault}
use Rattle.cj_outside.specs.declared.sink.OutError.TheVariants as out_errors
use Rattle.cj_records.specs.RecordFiles.{Finds}
use Rattle.cj_records.proofs.OneList.{one_list}
use Rattle.cj_log.specs.Items.{IsItem, IsNoItem}
use Rattle.cj_log.specs.Logs.{HasBadItem, KeepsItems, bodies_of, log_magic}
use Rattle.cj_log.proofs.OneLog.{one_log}
use Rattle.cj_recovery.specs.Openings.{OpensTo}
use Rattle.cj_recovery.proofs.OneOpening.{good, items_fix}
use Rattle.cj_book.specs.Starts.{KeepsBadEntry, greatest_session}
use Rattle.cj_book.specs.declared.error.StartError.TheVariants as errors
use Rattle.cj_script.specs.declared.play.ScriptEnd.TheVariants as script_end
use Rattle.cj_top.specs.Completeness.{GoesOnFrom}
use Rattle.cj_top.specs.Generated.{ComesByGen}
use Rattle.cj_top.specs.Listed.{ComesByLog}
use Rattle.cj_top.specs.Logs.{Found, ReadsLog, RefusesLog, StopsAtLog, status_of_start}
use Rattle.cj_top.specs.Piped.{ComesByPipe, HasNoSession}
use Rattle.cj_top.specs.Program.{status_of_listing, status_of_script, status_of_session}
use Rattle.cj_top.specs.Runs.{ComesBy}
use Rattle.cj_top.specs.Scripted.{ComesByScript}

-- faults by a cause that is the same
pub same_cause : (F G : Type 0) (before now : ℕ) → (G → F) → (F → G) → CountsFault F before now → CountsFault G before now
same_cause F G before now to from cause = record { counted = λ g. cause.counted (to g); uncounted = λ none. cause.uncounted (λ f. none (from f)) }

-- ---- statuses that tell of the log

-- the status is not that of a refused log, nor that of one without a session's number
abbrev IsOther : ℕ → Type 0
IsOther status = (status ≢ 8) × (status ≢ 12)

session_status : (e : SessionEnd) (status : ℕ) → status ≡ status_of_session e → IsOther status
session_status end.Quit status is = (λ e. omega (arith, is, e), λ e. omega (arith, is, e))
session_status end.Eof status is = (λ e. omega (arith, is, e), λ e. omega (arith, is, e))
session_status end.NoMemory status is = (λ e. omega (arith, is, e), λ e. omega (arith, is, e))
session_status end.Cut status is = (λ e. omega (arith, is, e), λ e. omega (arith, is, e))
session_status (end.BadFrame fault) status is = (λ e. omega (arith, is, e), λ e. omega (arith, is, e))
session_status end.ReadFault status is = (λ e. omega (arith, is, e), λ e. omega (arith, is, e))
session_status end.WriteFault status is = (λ e. omega (arith, is, e), λ e. omega (arith, is, e))
session_status end.Spent status is = (λ e. omega (arith, is, e), λ e. omega (arith, is, e))

script_status : (e : ScriptEnd) (status : ℕ) → status ≡ status_of_script e → IsOther status
script_status script_end.Done status is = (λ e. omega (arith, is, e), λ e. omega (arith, is, e))
script_status (script_end.Line number) status is = (λ e. omega (arith, is, e), λ e. omega (arith, is, e))
script_status script_end.ReadFault status is = (λ e. omega (arith, is, e), λ e. omega (arith, is, e))
script_status script_end.WriteFault status is = (λ e. omega (arith, is, e), λ e. omega (arith, is, e))
script_status script_end.Spent status is = (λ e. omega (arith, is, e), λ e. omega (arith, is, e))
script_status script_end.NoMemory status is = (λ e. omega (arith, is, e), λ e. omega (arith, is, e))

listing_status : (answer : Result (Unit {0}) OutError) (status : ℕ) → status ≡ status_of_listing answer → IsOther status
listing_status (Ok _) status is = (λ e. omega (arith, is, e), λ e. omega (arith, is, e))
listing_status (Err out_errors.Failed) status is = (λ e. omega (arith, is, e), λ e. omega (arith, is, e))
listing_status (Err out_errors.NoMemory) status is = (λ e. omega (arith, is, e), λ e. omega (arith, is, e))

never_twelve : (e : StartError) (status : ℕ) → status ≡ status_of_start e → (status ≢ 12)
never_twelve errors.StoreFault status is = λ e. omega (arith, is, e)
never_twelve errors.NoMemory status is = λ e. omega (arith, is, e)
never_twelve (errors.BadRecord offset) status is = λ e. omega (arith, is, e)
never_twelve (errors.BadEntry n) status is = λ e. omega (arith, is, e)

-- ---- bytes that keep items

-- a body that is no item's is none of theirs
none_bad : (items before : List LogItem) (body : List ℕ) (later : List (List ℕ)) → AllByRecursion IsItem items → bodies_of items ≡ bodies_of before ++ body ∷ later → IsNoItem body → ⊥
none_bad [] [] body later each is bad = absurd (cc is)
none_bad [] (y ∷ before) body later each is bad = absurd (cc is)
none_bad (x ∷ items) [] body later each is bad = bad x each.0 (cc is)
none_bad (x ∷ items) (y ∷ before) body later each is bad = none_bad items before body later each.1 (cc is) bad

module _ (bytes : List ℕ) (items : List LogItem) (keeps : KeepsItems bytes items) where
  no_bad_record : (offset : ℕ) → Finds log_magic bytes (Err offset) ⊎ HasBadItem bytes offset → ⊥
  no_bad_record offset (inl found) = let same = one_list log_magic bytes (Ok (bodies_of items)) (Err offset) refl keeps.found found in absurd (cc same)
  no_bad_record offset (inr has) =
      let same = one_list log_magic bytes (Ok (bodies_of items)) (Ok has.0) refl keeps.found has.1 in
      let bodies : bodies_of items ≡ has.0 = cc same in
      none_bad items has.2.before has.2.body has.2.later keeps.each (bodies ∙ has.2.parts) has.2.bad

  no_bad_entry : (h : List Event) → OpensTo items h → (n : ℕ) → KeepsBadEntry bytes n → ⊥
  no_bad_entry h opens n bad =
      let same : items ≡ bad.0 = one_log bytes items bad.0 keeps bad.1 in
      good bad.0 h n (subst (λ (xs : List LogItem). OpensTo xs h) same opens) bad.2

-- ---- a command over a log that keeps items

module _ {S : Type 0} (faults : S → ℕ) (holds : S → List ℕ) (tells : Bool) (store after : S) (told : tells ≡ true) (items : List LogItem) (keeps : KeepsItems (holds store) items) where
  not_refused : (h : List Event) → OpensTo items h → (e : StartError) (status : ℕ) → status ≡ status_of_start e → RefusesLog faults holds tells store after e → (status ≢ 8)
  not_refused h opens errors.StoreFault status is refuses = λ e. omega (arith, is, e)
  not_refused h opens errors.NoMemory status is refuses = λ e. omega (arith, is, e)
  not_refused h opens (errors.BadRecord offset) status is refuses = λ e. no_bad_record (holds store) items keeps offset (refuses.bytes told).0
  not_refused h opens (errors.BadEntry n) status is refuses = λ e. no_bad_entry (holds store) items keeps h opens n (refuses.bytes told).0

  some_session : (GoesOn : WorldState → WorldState → Type 0) (p : Placement) (backends : List BackendState) (h : List Event) → OpensTo items h → greatest_session (log h) < SESSION_NUMBER_LIMIT → HasNoSession (Found tells (holds store)) GoesOn p backends → ⊥
  some_session GoesOn p backends h opens less none =
      let starts = none.starts in
      let same : items ≡ starts.items = one_log (holds store) items starts.items keeps (starts.found_in told) in
      let one : h ≡ starts.opening = items_fix starts.items h starts.opening (subst (λ (xs : List LogItem). OpensTo xs h) same opens) starts.opens in
      let greatest : none.first.core.greatest ≡ greatest_session (log h) = starts.started.greatest ∙ ap (λ (g : List Event). greatest_session (log g)) (sym one) in
      let last = none.last_given in
      omega (arith, last, greatest, less)

  module _ (c : Conf) (GoesOn : WorldState → WorldState → Type 0) (Same : Type 0) (Tells : StartError → Type 0) (Idle Quiet : Type 0) (moment : Option ℤ) (left left' held held' errors errors' : Option (List ℕ)) (before now status : ℕ) where
    abbrev Stops : ℕ → Type 0
    Stops = StopsAtLog (RefusesLog faults holds tells store after) Tells Idle

    stopped_at : (h : List Event) → OpensTo items h → Stops status → IsOther status
    stopped_at h opens s = (not_refused h opens s.error status s.status_is s.refused, never_twelve s.error status s.status_is)

    pipe_goes_on : (h : List Event) → OpensTo items h → greatest_session (log h) < SESSION_NUMBER_LIMIT → ComesByPipe c (Found tells (holds store)) GoesOn Stops Quiet moment left left' held held' status → IsOther status
    pipe_goes_on h opens less (inl runs) = session_status runs.ending status runs.status_is
    pipe_goes_on h opens less (inr (inl s)) = stopped_at h opens s
    pipe_goes_on h opens less (inr (inr q)) = absurd (some_session GoesOn _ _ h opens less q.1)

    script_goes_on : (h : List Event) → OpensTo items h → ComesByScript c (Found tells (holds store)) GoesOn Stops left left' held held' errors errors' before now status → IsOther status
    script_goes_on h opens (inl runs) = script_status runs.ending status runs.status_is
    script_goes_on h opens (inr s) = stopped_at h opens s

    log_goes_on : ComesByLog c (Found tells (holds store)) (ReadsLog faults holds tells store after) Stops held held' status → IsOther status
    log_goes_on (reads, inl lists) = listing_status lists.answer status lists.status_is
    log_goes_on (reads, inr s) = (λ eight. let bad = reads.bad told eight in no_bad_record (holds store) items keeps bad.0 bad.1, never_twelve s.error status s.status_is)

    gen_goes_on : (seed count : ℕ) → ComesByGen c seed count Same Quiet held held' status → IsOther status
    gen_goes_on seed count (same, inl runs) = listing_status runs.answer status runs.status_is
    gen_goes_on seed count (same, inr q) = let one = q.0 in (λ e. omega (arith, one, e), λ e. omega (arith, one, e))

    pub goes_on : (command : Command) → GoesOnFrom command items → ComesBy command c (Found tells (holds store)) GoesOn (ReadsLog faults holds tells store after) Same Stops Quiet moment left left' held held' errors errors' before now status → IsOther status
    goes_on (Pipe path) from comes = pipe_goes_on from.0 from.1 from.2 comes
    goes_on (Script path) from comes = script_goes_on from.0 from.1 comes
    goes_on (Log path) from comes = log_goes_on comes
    goes_on (Gen path seed count) from comes = gen_goes_on seed count comes
