-- A turn that is told of a failure has failed, and noted it.
use Rattle.std.proofs.Common.{◌≡◌, ◌≢◌, ◌⊎◌, inl, inr, ⊎_elim, ℕ, ◌+◌, ◌-◌, ◌<◌, ◌≤◌, Bool, true, false, cond, ◌&&◌, ◌||◌, ◌==◌, List, [], ◌∷◌, ◌++◌, length, take, drop, slice_get, count_by, is_some, Some, refl, ap, sym, ◌∙◌, arith, take-append-drop, eq-eqb, ne_eqb, eqb-true}
use mathlib.Core.List.{IsPrefix}
use Rattle.std.proofs.Math.Seq.{take-append-add}
use Rattle.std.proofs.lemmas.Bool.{both_ways}
use Rattle.std.proofs.lemmas.List.Elements.{filter_map-append}
use Rattle.std.proofs.lemmas.List.Recursion.{is_count_by}
use Rattle.cj_model.specs.declared.answer.Asked.{Asked}
use Rattle.cj_model.specs.declared.answer.Asked.TheVariants as asked
use Rattle.cj_model.specs.declared.answer.Outcome.{Outcome}
use Rattle.cj_model.specs.declared.answer.Outcome.TheVariants as outcome
use Rattle.cj_model.specs.declared.answer.Refusal.{Refusal}
use Rattle.cj_model.specs.declared.answer.Reply.{Reply}
use Rattle.cj_model.specs.declared.answer.Reply.TheVariants.{Done, Rows, Stats, Refused}
use Rattle.cj_model.specs.declared.codes.TheConstants.{LOG_FAULT, READ_FAULT, STARVED_ALL, UNFINISHED}
use Rattle.cj_model.specs.Cluster.Masks.{in_mask}
use Rattle.cj_model.specs.Cluster.Placements.{Placement}
use Rattle.cj_model.specs.Database.Outcomes.{IsAsked, IsOutcome, IsQueryCode}
use Rattle.cj_model.specs.Wire.Replies.{asked_reply, outcome_reply}
use Rattle.cj_cluster.specs.declared.event.Event.{Event}
use Rattle.cj_cluster.specs.declared.event.Event.TheVariants.{Sched, Ended, ReadFailed, LogFailed, Disabled, Enabled, Marker}
use Rattle.cj_cluster.specs.History.Answering.{AnswersEntry}
use Rattle.cj_cluster.specs.History.Histories.{failures_noted, is_free, log, masks_of_end, masks_of_ends, notes_failure}
use Rattle.cj_cluster.specs.History.Turns.{Call, ScheduledTurn, SessionView, Turn, TurnCase, entry_of_call, scheduled, no_backend, read, read_fault, log_fault, full, starved}
use Rattle.cj_cluster.proofs.Pushed.{length-ends}
use Rattle.cj_board.specs.Counting.{log_failure_session}
use Rattle.cj_causes.proofs.Counting.{count-append, count-cons, fewer_before, one_behind}
use Rattle.cj_causes.specs.Failures.{FailedTurn, blames_backend, blames_log, log_failures, tells_of_failure}

-- ---- replies

-- a refusal by another code tells of no failure
pub other_code : (r : Refusal) → (r.code < UNFINISHED) ⊎ (LOG_FAULT < r.code) → tells_of_failure (Refused r) ≡ false
other_code r (inl low) = rw (ne_eqb r.code UNFINISHED (λ e. omega (arith, low, e)), ne_eqb r.code READ_FAULT (λ e. omega (arith, low, e)), ne_eqb r.code LOG_FAULT (λ e. omega (arith, low, e))) refl
other_code r (inr high) = rw (ne_eqb r.code UNFINISHED (λ e. omega (arith, high, e)), ne_eqb r.code READ_FAULT (λ e. omega (arith, high, e)), ne_eqb r.code LOG_FAULT (λ e. omega (arith, high, e))) refl

tells_if : (entry query store blamed : Bool) → ((entry || query) && blamed) ≡ true → (entry || (query || store)) ≡ true
tells_if true query store blamed is = refl
tells_if false true store blamed is = refl
tells_if false false store blamed is = absurd (cc is)

tells_too : (entry query store : Bool) → store ≡ true → (entry || (query || store)) ≡ true
tells_too true query store is = refl
tells_too false true store is = refl
tells_too false false store is = is

-- one that blames a backend, or the log's store, tells of a failure
pub blaming_tells : (b : ℕ) (reply : Reply) → blames_backend b reply ≡ true → tells_of_failure reply ≡ true
blaming_tells b (Refused r) is = tells_if (r.code == UNFINISHED) (r.code == READ_FAULT) (r.code == LOG_FAULT) (in_mask r.a b) is
blaming_tells b (Done count) is = absurd (cc is)
blaming_tells b (Rows answer) is = absurd (cc is)
blaming_tells b (Stats hits misses) is = absurd (cc is)

pub blaming_log_tells : (reply : Reply) → blames_log reply ≡ true → tells_of_failure reply ≡ true
blaming_log_tells (Refused r) is = tells_too (r.code == UNFINISHED) (r.code == READ_FAULT) (r.code == LOG_FAULT) is
blaming_log_tells (Done count) is = absurd (cc is)
blaming_log_tells (Rows answer) is = absurd (cc is)
blaming_log_tells (Stats hits misses) is = absurd (cc is)

outcome_tells_none : (o : Outcome) → IsOutcome o → tells_of_failure (outcome_reply o) ≡ false
outcome_tells_none (outcome.Done count) possible = refl
outcome_tells_none (outcome.Refused r) possible = let most = possible.1 in other_code r (inl (omega (arith, most)))

query_code : (n : ℕ) → IsQueryCode n → n < UNFINISHED
query_code n (inl is) = omega (arith, is)
query_code n (inr (inl is)) = omega (arith, is)
query_code n (inr (inr (inl is))) = omega (arith, is)
query_code n (inr (inr (inr (inl is)))) = omega (arith, is)
query_code n (inr (inr (inr (inr is)))) = omega (arith, is)

asked_tells_none : (a : Asked) → IsAsked a → tells_of_failure (asked_reply a) ≡ false
asked_tells_none (asked.Rows rows) possible = refl
asked_tells_none (asked.Refused r) possible = other_code r (inl (query_code r.code possible))

-- ---- a turn that is told of a failure has failed

tells_none : (reply other : Reply) → reply ≡ other → tells_of_failure other ≡ false → tells_of_failure reply ≡ true → ⊥
tells_none reply other is none told = both_ways (tells_of_failure reply) (ap tells_of_failure is ∙ none) told

module _ (tells : Bool) (p : Placement) (s : ℕ) (a : SessionView) (c : Call) (z : SessionView) where
  entry_failed : (x : ScheduledTurn tells p s a c z) → AnswersEntry tells p (take x.m z.front) z.front (length (log (take x.m z.front))) (entry_of_call s c x.act) c.reply → tells_of_failure c.reply ≡ true → FailedTurn tells p s a c z
  entry_failed x (inl finished) told = absurd (tells_none c.reply (outcome_reply finished.outcome) finished.replied (outcome_tells_none finished.outcome finished.possible) told)
  entry_failed x (inr unfinished) told = inl (record { entry = x; unfinished = unfinished })

  case_failed : TurnCase tells p s a c z → tells_of_failure c.reply ≡ true → FailedTurn tells p s a c z
  case_failed (scheduled x) told = entry_failed x x.answer told
  case_failed (no_backend x) told = absurd (tells_none c.reply _ x.replied refl told)
  case_failed (read x) told = absurd (tells_none c.reply (asked_reply x.answer) x.replied (asked_tells_none x.answer x.possible) told)
  case_failed (read_fault x) told = inr (inl x)
  case_failed (log_fault x) told = inr (inr x)
  case_failed (full x) told = absurd (tells_none c.reply _ x.replied refl told)
  case_failed (starved x) told = absurd (tells_none c.reply _ x.replied refl told)

  pub turn_failed : Turn tells p s a c z → tells_of_failure c.reply ≡ true → FailedTurn tells p s a c z
  turn_failed t told = case_failed t.case told

-- ---- a turn that failed has noted it

-- a history notes no fewer failures of a backend than its ends
ends_are_noted : (b : ℕ) (h : List Event) → count_by (λ (masks : ℕ × ℕ). in_mask masks.0 b) (masks_of_ends h) ≤ failures_noted h b
ends_are_noted b [] = omega arith
ends_are_noted b (Sched e ∷ h) = let later = ends_are_noted b h in omega (arith, later, count-cons (notes_failure b) (Sched e) h)
ends_are_noted b (Ended failed wanting ∷ h) =
    let later = ends_are_noted b h in
    omega (arith, later, count-cons (notes_failure b) (Ended failed wanting) h, count-cons (λ (masks : ℕ × ℕ). in_mask masks.0 b) (failed, wanting) (masks_of_ends h))
ends_are_noted b (ReadFailed s q k ∷ h) = let later = ends_are_noted b h in omega (arith, later, count-cons (notes_failure b) (ReadFailed s q k) h)
ends_are_noted b (LogFailed s q ∷ h) = let later = ends_are_noted b h in omega (arith, later, count-cons (notes_failure b) (LogFailed s q) h)
ends_are_noted b (Disabled k ∷ h) = let later = ends_are_noted b h in omega (arith, later, count-cons (notes_failure b) (Disabled k) h)
ends_are_noted b (Enabled k ∷ h) = let later = ends_are_noted b h in omega (arith, later, count-cons (notes_failure b) (Enabled k) h)
ends_are_noted b (Marker name k ∷ h) = let later = ends_are_noted b h in omega (arith, later, count-cons (notes_failure b) (Marker name k) h)

-- what was seen begins what there was at a later moment
seen_then : {A : Type 0} (seen now : List A) (m : ℕ) → IsPrefix seen now → length seen ≤ m → IsPrefix seen (take m now)
seen_then seen now m longer low =
    let more : length seen + (m - length seen) ≡ m = omega (arith, low) in
    (take (m - length seen) longer.0, sym (take-append-add seen longer.0 (m - length seen)) ∙ (ap (λ (k : ℕ). take k (seen ++ longer.0)) more ∙ ap (take m) longer.1))

-- the failures that the end of an entry notes stand behind what was seen before that was scheduled
end_noted : (b : ℕ) (seen now : List Event) (m failed wanting : ℕ) → IsPrefix seen now → length seen ≤ m → is_free (take m now) ≡ true → slice_get (masks_of_ends now) (length (log (take m now))) ≡ Some (failed, wanting) → in_mask failed b ≡ true
    → failures_noted seen b + 1 ≤ failures_noted now b
end_noted b seen now m failed wanting longer low free masks on =
    let then : List Event = take m now in
    let rest : List Event = drop m now in
    let split : then ++ rest ≡ now = take-append-drop m now in
    let ends : length (masks_of_ends then) ≡ length (log then) = length-ends then ∙ eqb-true _ _ free in
    let parts : masks_of_ends then ++ masks_of_ends rest ≡ masks_of_ends now = sym (filter_map-append masks_of_end then rest) ∙ ap masks_of_ends split in
    let failing : ℕ × ℕ → Bool = λ masks. in_mask masks.0 b in
    let more = one_behind failing (masks_of_ends then) (masks_of_ends now) (length (log then)) (failed, wanting) (masks_of_ends rest, parts) (omega (arith, ends)) masks on in
    let all = ap (count_by failing) (sym parts) ∙ count-append failing (masks_of_ends then) (masks_of_ends rest) in
    let noted = ends_are_noted b rest in
    let whole = ap (λ (h : List Event). failures_noted h b) (sym split) ∙ count-append (notes_failure b) then rest in
    let before = fewer_before (notes_failure b) seen then (seen_then seen now m longer low) in
    omega (arith, more, all, noted, whole, before)

-- ---- the log's store

log_failures_counted : (h : List Event) → log_failures h ≡ count_by (λ (e : Event). is_some (log_failure_session e)) h
log_failures_counted h = is_count_by log_failures (λ (e : Event). is_some (log_failure_session e)) refl one h
  where
    one : (e : Event) (g : List Event) → log_failures (e ∷ g) ≡ cond (is_some (log_failure_session e)) (1 + log_failures g) (log_failures g)
    one (Sched e) g = refl
    one (Ended failed wanting) g = refl
    one (ReadFailed s q b) g = refl
    one (LogFailed s q) g = omega arith
    one (Disabled b) g = refl
    one (Enabled b) g = refl
    one (Marker name b) g = refl

pub log_failures_before : (F G : List Event) → IsPrefix F G → log_failures F ≤ log_failures G
log_failures_before F G longer =
    omega (arith, log_failures_counted F, log_failures_counted G, fewer_before (λ (e : Event). is_some (log_failure_session e)) F G longer)

-- ---- what a turn that failed noted

module _ (tells : Bool) (p : Placement) (s : ℕ) (a : SessionView) (c : Call) (z : SessionView) (longer : IsPrefix a.front z.front) where
  pub failure_noted : FailedTurn tells p s a c z → (b : ℕ) → blames_backend b c.reply ≡ true → failures_noted a.front b + 1 ≤ failures_noted z.front b
  failure_noted (inl x) b blamed =
      ⊎_elim
      (λ (some : (x.unfinished.failed ≢ 0) × (c.reply ≡ Refused (record { code = UNFINISHED; a = x.unfinished.failed; b = x.unfinished.starved }))).
      end_noted b a.front z.front x.entry.m x.unfinished.failed x.unfinished.starved longer x.entry.moment.low x.entry.was_free x.unfinished.masks (sym (ap (blames_backend b) some.1) ∙ blamed))
      (λ (none : (x.unfinished.failed ≡ 0) × (c.reply ≡ Refused (record { code = STARVED_ALL; a = 0; b = x.unfinished.starved }))).
      absurd (both_ways (blames_backend b c.reply) (ap (blames_backend b) none.1) blamed))
      x.unfinished.replied
  failure_noted (inr (inl x)) b blamed =
      let there = x.failed b (sym (ap (blames_backend b) x.replied) ∙ blamed) in
      one_behind (notes_failure b) a.front z.front there.0 (ReadFailed s c.number b) longer there.1 there.3 (eq-eqb b b refl)
  failure_noted (inr (inr x)) b blamed = absurd (both_ways (blames_backend b c.reply) (ap (blames_backend b) x.replied) blamed)

  pub log_failure_noted : FailedTurn tells p s a c z → blames_log c.reply ≡ true → log_failures a.front + 1 ≤ log_failures z.front
  log_failure_noted (inl x) blamed =
      ⊎_elim (λ (some : (x.unfinished.failed ≢ 0) × (c.reply ≡ Refused (record { code = UNFINISHED; a = x.unfinished.failed; b = x.unfinished.starved }))). absurd (both_ways (blames_log c.reply) (ap blames_log some.1) blamed))
      (λ (none : (x.unfinished.failed ≡ 0) × (c.reply ≡ Refused (record { code = STARVED_ALL; a = 0; b = x.unfinished.starved }))). absurd (both_ways (blames_log c.reply) (ap blames_log none.1) blamed))
      x.unfinished.replied
  log_failure_noted (inr (inl x)) blamed = absurd (both_ways (blames_log c.reply) (ap blames_log x.replied) blamed)
  log_failure_noted (inr (inr x)) blamed =
      let more = one_behind (λ (e : Event). is_some (log_failure_session e)) a.front z.front x.m (LogFailed s c.number) longer x.moment.low x.next refl in
      omega (arith, more, log_failures_counted a.front, log_failures_counted z.front)
