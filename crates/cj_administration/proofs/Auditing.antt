-- The audit of a cluster that threads share, backend after backend.
use Rattle.std.proofs.Common.{◌≡◌, ℕ, ◌+◌, ◌≤◌, Bool, true, false, List, [], ◌∷◌, ◌++◌, length, Some, slice_get, slice_index_or, if◌then◌else◌, ap, sym, ◌∙◌, arith, append-nil, eq-eqb, eqb-true}
use mathlib.Core.List.{IsPrefix}
use Rattle.std.specs.List.{flat_map, range_with_len}
use Rattle.std.proofs.lemmas.Grind.{flat_map-append}
use Rattle.std.proofs.lemmas.List.{map-id}
use Rattle.std.proofs.lemmas.List.Concat.{flat_map-cons}
use Rattle.std.proofs.lemmas.List.FromFn.{map-range_with_len_more}
use Rattle.std.proofs.lemmas.Option.{get_or_from_slice_get}
use Rattle.cj_audit.specs.Audits.{backend_lines}
use Rattle.cj_board.specs.declared.view.SeatView.{SeatView}
use Rattle.cj_board.proofs.OpenEntry.{one_open}
use Rattle.cj_book.specs.BookLogs.{BookLogState}
use Rattle.cj_cluster.specs.declared.event.Event.{Event}
use Rattle.cj_cluster.specs.History.Histories.{database_after, ended_count, is_enabled, is_free, log, masks_of_ends}
use Rattle.cj_cluster.specs.History.Legality.{IsLegal}
use Rattle.cj_cluster.proofs.Pushed.{at-prefix, ends-prefix, length-ends, log-prefix, prefix_length, prefix_trans}
use Rattle.cj_model.specs.declared.database.Slot.{Slot}
use Rattle.cj_model.specs.Cluster.Placements.{Placement, part}
use Rattle.cj_locked_cell.proofs.Asking.{fault_between}
use Rattle.cj_locked.specs.Auditing.{HoldsTurn, IsHeldOver}
use Rattle.cj_pass.specs.Passes.{HasNotedMore}
use Rattle.cj_administration.specs.Auditing.{FailsAudit, audit_lines_at, audit_text_of}
use Rattle.cj_administration.specs.declared.administration.AdminError.{AdminError}
use Rattle.cj_administration.specs.declared.administration.AdminError.TheVariants.{NotEnabled, NameTaken, NotOrphan, HistoryFull, LogFault, Fault, NoMemory}

-- ---- one backend's lines

module _ (names : List (List ℕ)) (p : Placement) (h : List Event) (b : ℕ) where
  -- one that isn't enabled has none
  pub no_lines : (on : Bool) → on ≡ false → on ≡ is_enabled h b → (text : List ℕ) → text ≡ text ++ audit_lines_at names p h b
  no_lines on off is text =
      let none : audit_lines_at names p h b ≡ [] = ap (λ (t : Bool). if t then backend_lines (slice_index_or names b []) (part p b (database_after (log h) (length (log h)))) else []) (sym is ∙ off) in
      sym (ap (λ (xs : List ℕ). text ++ xs) none ∙ append-nil text)

  -- an enabled one gives those of its part of the database, at the end of a log that the pass has seen
  pub its_lines : (on : Bool) → on ≡ true → on ≡ is_enabled h b → (n : ℕ) → n ≡ length (log h) → (new : List Event) → IsPrefix h new → (db : List Slot) → db ≡ part p b (database_after (log new) n) → (name : List ℕ) → slice_get names b ≡ Some name → (old text : List ℕ)
      → text ≡ old ++ backend_lines name db → text ≡ old ++ audit_lines_at names p h b
  its_lines on enabled is n length_is new longer db holds name named old text lines =
      let at : database_after (log new) (length (log h)) ≡ database_after (log h) (length (log h)) = at-prefix (log h) (log new) (length (log h)) (log-prefix h new longer) (omega arith) in
      let same : db ≡ part p b (database_after (log h) (length (log h))) = holds ∙ (ap (λ (k : ℕ). part p b (database_after (log new) k)) length_is ∙ ap (part p b) at) in
      let called : name ≡ slice_index_or names b [] = sym (get_or_from_slice_get names b name [] named) in
      let all : audit_lines_at names p h b ≡ backend_lines (slice_index_or names b []) (part p b (database_after (log h) (length (log h)))) =
      ap (λ (t : Bool). if t then backend_lines (slice_index_or names b []) (part p b (database_after (log h) (length (log h)))) else []) (sym is ∙ enabled)
      in
      lines ∙ (ap (λ (x : List ℕ). old ++ backend_lines x db) called ∙ (ap (λ (x : List Slot). old ++ backend_lines (slice_index_or names b []) x) same ∙ ap (λ (xs : List ℕ). old ++ xs) (sym all)))

-- ---- backend after backend

range_next : (b : ℕ) → range_with_len 0 (b + 1) ≡ range_with_len 0 b ++ b ∷ []
range_next b =
    let here : 0 + b ≡ b = omega arith in
    sym (map-id (range_with_len 0 (b + 1)))
    ∙ (map-range_with_len_more (λ (x : ℕ). x) 0 b b here ∙ ap (λ (xs : List ℕ). xs ++ b ∷ []) (map-id (range_with_len 0 b)))

pub lines_next : (f : ℕ → List ℕ) (b : ℕ) (text new : List ℕ) → text ≡ flat_map f (range_with_len 0 b) → new ≡ text ++ f b → new ≡ flat_map f (range_with_len 0 (b + 1))
lines_next f b text new is next =
    let one : flat_map f (b ∷ []) ≡ f b = flat_map-cons f b [] ∙ append-nil (f b) in
    next ∙ (ap (λ (t : List ℕ). t ++ f b) is
    ∙ sym (ap (flat_map f) (range_next b) ∙ (flat_map-append f (range_with_len 0 b) (b ∷ []) ∙ ap (λ (t : List ℕ). flat_map f (range_with_len 0 b) ++ t) one)))

-- ---- the history went on with the same entries and the same backends enabled

pub same_text : (names : List (List ℕ)) (p : Placement) (h g : List Event) → log g ≡ log h → ((b : ℕ) → is_enabled g b ≡ is_enabled h b) → audit_text_of names p g ≡ audit_text_of names p h
same_text names p h g entries enabled =
    ap (λ (f : ℕ → List ℕ). flat_map f (range_with_len 0 p.backends))
    (λ i b. if enabled b i then backend_lines (slice_index_or names b []) (part p b (database_after (entries i) (length (entries i)))) else [])

-- ---- a backend that failed

pub fails_between : (h g : List Event) (u v w z : SeatView) (error : AdminError) → ((b : ℕ) → is_enabled g b ≡ is_enabled h b) → HasNotedMore u v → HasNotedMore w z → FailsAudit h v w error → FailsAudit g u z error
fails_between h g u v w z NotEnabled enabled before after fails = fails
fails_between h g u v w z NameTaken enabled before after fails = fails
fails_between h g u v w z (NotOrphan tx) enabled before after fails = fails
fails_between h g u v w z (HistoryFull n) enabled before after fails = fails
fails_between h g u v w z LogFault enabled before after fails = fails
fails_between h g u v w z (Fault b) enabled before after fails = (enabled b ∙ fails.0, fault_between b u v w z before after fails.1)
fails_between h g u v w z NoMemory enabled before after fails = tt

-- ---- the turn is held

-- the pass has seen more since
pub holds_on : {S : Type 0} (tells : Bool) (count : S → ℕ) (F G : List Event) (amount : ℕ) (l : BookLogState S) → IsPrefix F G → HoldsTurn tells count F amount l → HoldsTurn tells count G amount l
holds_on tells count F G amount l longer holds = record { m = holds.m; was_free = holds.was_free; seen = prefix_trans holds.m F G holds.seen longer; turn = holds.turn; follows = holds.follows }

-- no entry is open when it is given back
pub free_over : (H G : List Event) → IsHeldOver H G → IsLegal G → is_free G ≡ true
free_over H G held legal =
    let had : ended_count H ≡ length (log H) = eqb-true (ended_count H) (length (log H)) held.was_free in
    let more : length (masks_of_ends H) ≤ length (masks_of_ends G) = prefix_length (masks_of_ends H) (masks_of_ends G) (ends-prefix H G held.longer) in
    let before : length (masks_of_ends H) ≡ ended_count H = length-ends H in
    let now : length (masks_of_ends G) ≡ ended_count G = length-ends G in
    let most : ended_count G ≤ length (log G) = (one_open G legal).0 in
    let same : length (log G) ≡ length (log H) = ap length held.entries in
    let all : ended_count G ≡ length (log G) = omega (arith, had, more, before, now, most, same) in
    eq-eqb (ended_count G) (length (log G)) all
