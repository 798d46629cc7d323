-- What a report says, and the facts that its type carries, come to the same.
use Rattle.std.proofs.Common.{◌≡◌, ℕ, ◌-◌, ◌&&◌, Bool, true, false, true≢false, eqb, Contains, Some, refl, ap, sym, ◌∙◌, subst, arith}
use Rattle.std.specs.Cmp.{IsEquivalence}
use Rattle.std.specs.Cmp.Derive.{both_true}
use Rattle.std.specs.List.{list_any}
use Rattle.std.proofs.lemmas.Bool.{eq-eqb, eqb-true, le-leb, leb-true}
use Rattle.std.proofs.lemmas.Map.Views.{Contains-from_any, list_any-from_Contains}
use Rattle.cj_model.specs.declared.answer.Outcome.{Outcome}
use Rattle.cj_model.specs.declared.answer.Outcome.TheVariants as outcome
use Rattle.cj_model.specs.declared.answer.Refusal.{Refusal}
use Rattle.cj_model.specs.declared.request.Entry.{Entry}
use Rattle.cj_model.specs.Cluster.Placements.{Placement}
use Rattle.cj_model.specs.Database.Outcomes.{IsOutcome, IsChangeCode}
use Rattle.cj_cluster.specs.declared.moves.Did.{Did}
use Rattle.cj_cluster.specs.declared.moves.Did.TheVariants as did
use Rattle.cj_board.specs.declared.view.SeatView.{SeatView}
use Rattle.cj_board.specs.Points.{fault_tokens_of}
use Rattle.cj_locked_cell.specs.Taking.{NotesReport, ReportsEntry}
use Rattle.cj_workers.specs.Reports.{note_eq, notes_report, TellsEntry}

-- ---- notes

parts : (s t : Bool) → (s && t) ≡ true → (s ≡ true) × (t ≡ true)
parts true t is = (refl, is)
parts false t is = absurd (true≢false (sym is))

same_note : (x y : ℕ × ℕ) → note_eq x y ≡ true → x ≡ y
same_note x y is =
    let both = parts (eqb x.0 y.0) (eqb x.1 y.1) is in
    λ i. (eqb-true x.0 y.0 both.0 i, eqb-true x.1 y.1 both.1 i)

is_note : (x y : ℕ × ℕ) → x ≡ y → note_eq x y ≡ true
is_note x y is = both_true (eq-eqb x.0 y.0 (ap (λ (z : ℕ × ℕ). z.0) is)) (eq-eqb x.1 y.1 (ap (λ (z : ℕ × ℕ). z.1) is))

-- two truth values are the same if each follows from the other
alike : (s t : Bool) → (s ≡ true → t ≡ true) → (t ≡ true → s ≡ true) → s ≡ t
alike true t to back = sym (to refl)
alike false true to back = back refl
alike false false to back = refl

note_equivalence : IsEquivalence note_eq
note_equivalence = record {
  refl = λ x. is_note x x refl;
  symm = λ x y. alike (note_eq x y) (note_eq y x) (λ is. is_note y x (sym (same_note x y is))) (λ is. is_note x y (sym (same_note y x is)));
  congr = λ x y z is. ap (λ (u : ℕ × ℕ). note_eq u z) (same_note x y is);
}

-- ---- both ways

module _ (tells : Bool) (p : Placement) (n : ℕ) (e : Entry) (v : SeatView) (b : ℕ) where
  position_told : Contains v.position_notes (b, n) → list_any (note_eq (b, n)) v.position_notes ≡ true
  position_told there = list_any-from_Contains note_equivalence (b, n) v.position_notes there

  position_there : list_any (note_eq (b, n)) v.position_notes ≡ true → Contains v.position_notes (b, n)
  position_there told = Contains-from_any same_note (b, n) v.position_notes told

  noted_told : (d : Did) → NotesReport v n b d → notes_report v n b d ≡ true
  noted_told (did.Done o) noted = position_told noted
  noted_told did.Skipped noted = position_told noted
  noted_told did.Failed noted = le-leb 1 (fault_tokens_of b v.fault_tokens) (omega (arith, noted))
  noted_told did.Starved noted = refl

  told_noted : (d : Did) → notes_report v n b d ≡ true → NotesReport v n b d
  told_noted (did.Done o) told = position_there told
  told_noted did.Skipped told = position_there told
  told_noted did.Failed told = let some = leb-true 1 (fault_tokens_of b v.fault_tokens) told in omega (arith, some)
  told_noted did.Starved told = tt

  possible_told : (o : Outcome) → IsOutcome o → (r : Refusal) → o ≡ outcome.Refused r → IsChangeCode r.code
  possible_told (outcome.Done count) is r same = absurd (cc same)
  possible_told (outcome.Refused refusal) is r same = subst (λ (q : Outcome). IsOutcome q) same is

  told_possible : (o : Outcome) → ((r : Refusal) → o ≡ outcome.Refused r → IsChangeCode r.code) → IsOutcome o
  told_possible (outcome.Done count) told = tt
  told_possible (outcome.Refused refusal) told = told refusal refl

  abbrev done_outcome : Did → Outcome
  done_outcome (did.Done o) = o
  done_outcome did.Skipped = outcome.Done 0
  done_outcome did.Failed = outcome.Done 0
  done_outcome did.Starved = outcome.Done 0

  pub told_entry : (d : Did) → ReportsEntry tells p n e v b d → TellsEntry tells p n e v b d
  told_entry (did.Done o) reports = record {
    noted = noted_told (did.Done o) reports.noted;
    possible = λ r is. possible_told o reports.right.0 r (ap done_outcome is);
    right = λ q is on. reports.right.1 on ∙ ap (λ (d : Did). Some (done_outcome d)) is;
    skipped = λ is. absurd (cc is);
  }
  told_entry did.Skipped reports = record {
    noted = noted_told did.Skipped reports.noted;
    possible = λ r is. absurd (cc is);
    right = λ q is on. absurd (cc is);
    skipped = λ is. reports.right;
  }
  told_entry did.Failed reports = record {
    noted = noted_told did.Failed reports.noted;
    possible = λ r is. absurd (cc is);
    right = λ q is on. absurd (cc is);
    skipped = λ is. absurd (cc is);
  }
  told_entry did.Starved reports = record {
    noted = refl;
    possible = λ r is. absurd (cc is);
    right = λ q is on. absurd (cc is);
    skipped = λ is. absurd (cc is);
  }

  pub entry_told : (d : Did) → TellsEntry tells p n e v b d → ReportsEntry tells p n e v b d
  entry_told (did.Done o) told = record {
    noted = told_noted (did.Done o) told.noted;
    right = (told_possible o (λ r is. told.possible r (ap did.Done is)), told.right o refl);
  }
  entry_told did.Skipped told = record { noted = told_noted did.Skipped told.noted; right = told.skipped refl }
  entry_told did.Failed told = record { noted = told_noted did.Failed told.noted; right = tt }
  entry_told did.Starved told = record { noted = tt; right = tt }
