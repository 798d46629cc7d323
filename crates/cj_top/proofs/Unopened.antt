-- Logs that are not opened, and what their stores are left as.
use Rattle.std.proofs.Common.{◌≡◌, ◌≢◌, ◌⊎◌, ◌≤◌, inl, inr, ℕ, Bool, true, List, length, Result, Ok, Err, refl, sym, subst, arith}
use Rattle.cj_top.proofs.Common.{IfErr, IfOk, StartError, WorldState}
use Rattle.cj_book.specs.declared.error.StartError.TheVariants as errors
use Rattle.cj_book.specs.Found.{start_error_of}
use Rattle.cj_core.specs.Starts.{CountsFaultOfStart, RefusesBytes}
use Rattle.cj_log.specs.Logs.{CountsOpenFault, Opens}
use Rattle.cj_outside.specs.Causes.{next}
use Rattle.cj_records.specs.Records.{WritesOnlyNew}
use Rattle.cj_records.specs.declared.error.RecordsError.{RecordsError}
use Rattle.cj_records.specs.declared.error.RecordsError.TheVariants as records
use Rattle.cj_top.specs.Logs.{ReadsLog, RefusesLog, status_of_start}

-- bytes that stay are no new file's
same_bytes : (old new : List ℕ) → new ≡ old → WritesOnlyNew old new
same_bytes old new same = record { long = λ long. same; short = λ short. subst (λ (bytes : List ℕ). length bytes ≤ 5) (sym same) short }

module _ {S : Type 0} (faults : S → ℕ) (held : S → List ℕ) (tells : Bool) (log : S) where
  -- a start that wanted memory before it opened the log
  pub unopened : RefusesLog faults held tells log log errors.NoMemory
  unopened = record { bytes = λ t. inl (same_bytes (held log) (held log) refl); cause = refl }

  -- what a start says of its log
  pub refused_start : (r : Result WorldState (StartError × S)) → (tells ≡ true → RefusesBytes held (held log) r) → CountsFaultOfStart faults (faults log) r → IfErr r (λ x. RefusesLog faults held tells log x.1 x.0)
  refused_start (Ok w) bytes cause = tt
  refused_start (Err (e, after)) bytes cause = record { bytes = bytes; cause = cause }

  pub counted_start : (r : Result WorldState (StartError × S)) → CountsFaultOfStart faults (faults log) r → IfOk r (λ w. w.recovery_log.faults ≡ faults log)
  counted_start (Ok w) cause = cause
  counted_start (Err x) cause = tt

  -- what the opening of a log says of one that is only read
  pub refused_records : (after : S) (e : RecordsError) → (tells ≡ true → Opens held (held log) (Err (e, after))) → CountsOpenFault faults (faults log) (Err (e, after)) → RefusesLog faults held tells log after (start_error_of e)
  refused_records after records.Failed bytes cause = record { bytes = λ t. inl (bytes t); cause = cause }
  refused_records after records.NoMemory bytes cause = record { bytes = λ t. inl (bytes t); cause = cause }
  refused_records after (records.BadRecord offset) bytes cause = record { bytes = bytes; cause = cause }

  pub read_refused : (after : S) (e : RecordsError) → (tells ≡ true → Opens held (held log) (Err (e, after))) → CountsOpenFault faults (faults log) (Err (e, after)) → ReadsLog faults held tells log after (status_of_start (start_error_of e))
  read_refused after records.Failed bytes cause = record { bytes = bytes; cause = record { counted = λ e. cause; uncounted = λ none. absurd (none refl) }; bad = λ t e. absurd (omega (arith, e)) }
  read_refused after records.NoMemory bytes cause = record { bytes = bytes; cause = record { counted = λ e. absurd (omega (arith, e)); uncounted = λ none. cause }; bad = λ t e. absurd (omega (arith, e)) }
  read_refused after (records.BadRecord offset) bytes cause = record {
    bytes = λ t. same_bytes (held log) (held after) (bytes t).1;
    cause = record { counted = λ e. absurd (omega (arith, e)); uncounted = λ none. cause };
    bad = λ t e. (offset, (bytes t).0);
  }

  -- a log that was read, at another status
  pub read_whole : (after : S) (status : ℕ) → (tells ≡ true → WritesOnlyNew (held log) (held after)) → faults after ≡ faults log → (status ≢ 7) × (status ≢ 8) → ReadsLog faults held tells log after status
  read_whole after status bytes same other = record { bytes = bytes; cause = record { counted = λ e. absurd (other.0 e); uncounted = λ none. same }; bad = λ t e. absurd (other.1 e) }

  -- the store has counted a fault exactly where the status says so
  pub counted_at : (after : S) (e : StartError) (status : ℕ) → status ≡ status_of_start e → RefusesLog faults held tells log after e → ((status ≡ 7) × (faults after ≡ next (faults log))) ⊎ (status ≢ 7)
  counted_at after errors.StoreFault status is refuses = inl (is, refuses.cause)
  counted_at after errors.NoMemory status is refuses = inr (λ e. omega (arith, is, e))
  counted_at after (errors.BadRecord offset) status is refuses = inr (λ e. omega (arith, is, e))
  counted_at after (errors.BadEntry n) status is refuses = inr (λ e. omega (arith, is, e))

-- a command that stops at its log comes to no other status
pub start_status : (e : StartError) → (status_of_start e ≢ 1) → (status_of_start e ≢ 7) → (status_of_start e ≢ 8) → ⊥
start_status errors.StoreFault one seven eight = seven refl
start_status errors.NoMemory one seven eight = one refl
start_status (errors.BadRecord offset) one seven eight = eight refl
start_status (errors.BadEntry n) one seven eight = eight refl
