-- What one report more makes of a tally.
use Rattle.std.specs.Option.{option_or}
use Rattle.std.proofs.Common.{◌≡◌, ℕ, Bool, true, List, [], Option, None, Some, IsSome, refl, sym, ◌∙◌, subst, ⊎_elim}
use Rattle.std.proofs.lemmas.Bool.{both_ways, cases_eq}
use Rattle.cj_model.proofs.Masks.{has-with_other, has-zero}
use Rattle.cj_model.specs.declared.answer.Outcome.{Outcome}
use Rattle.cj_model.specs.declared.request.Entry.{Entry}
use Rattle.cj_model.specs.Cluster.Masks.{in_mask}
use Rattle.cj_model.specs.Cluster.Placements.{Placement}
use Rattle.cj_cluster.specs.declared.moves.Did.{Did}
use Rattle.cj_cluster.specs.declared.moves.Did.TheVariants as did
use Rattle.cj_cluster.specs.History.Transactions.{takes_part}
use Rattle.cj_tally.specs.declared.tally.Tally.{Tally}
use Rattle.cj_tally.specs.Tallies.{first_outcome_after, no_reports, taken_after, with_report, IsReportOf, IsRightOutcome, IsTallyOf}

-- what was given stays
some_still : (first : Option Outcome) (d : Did) → IsSome first → IsSome (first_outcome_after first d)
some_still (Some o) d some = refl
some_still None d some = absurd (cc some)

-- the code's own word for it
pub first_is : (first : Option Outcome) (o : Outcome) → option_or first (Some o) ≡ first_outcome_after first (did.Done o)
first_is (Some k) o = refl
first_is None o = refl

-- the backend that gave an outcome gave the first one, or another had given one
some_now : (first : Option Outcome) (o : Outcome) → IsSome (first_outcome_after first (did.Done o))
some_now (Some k) o = refl
some_now None o = refl

module _ (tells : Bool) (p : Placement) (entries : List Entry) (i : ℕ) (e : Entry) where
  -- nobody has reported
  pub none_tallied : IsTallyOf tells p entries i e no_reports
  none_tallied = record { right = λ o is. absurd (cc is); whole = λ b on takes. absurd (both_ways (in_mask 0 b) (has-zero b) on) }

  right_now : (first : Option Outcome) (b : ℕ) (d : Did) → ((o : Outcome) → first ≡ Some o → IsRightOutcome tells entries i o) → IsReportOf tells p entries i e b d → (o : Outcome) → first_outcome_after first d ≡ Some o → IsRightOutcome tells entries i o
  right_now (Some k) b d right report o is = right o is
  right_now None b (did.Done k) right report o is = let same : k ≡ o = cc is in subst (IsRightOutcome tells entries i) same report
  right_now None b did.Skipped right report o is = absurd (cc is)
  right_now None b did.Failed right report o is = absurd (cc is)
  right_now None b did.Starved right report o is = absurd (cc is)

  whole_now : (t : Tally) (b : ℕ) (d : Did) → IsTallyOf tells p entries i e t → IsReportOf tells p entries i e b d → (k : ℕ) → in_mask (taken_after t.taken b d) k ≡ true → takes_part p k [] e.tx e.act ≡ true → IsSome (first_outcome_after t.first_outcome d)
  whole_now t b (did.Done o) was report k on takes = some_now t.first_outcome o
  whole_now t b did.Skipped was report k on takes =
      ⊎_elim (λ (same : k ≡ b). absurd (both_ways (takes_part p b [] e.tx e.act) report (subst (λ (n : ℕ). takes_part p n [] e.tx e.act ≡ true) same takes)))
      (λ (ne : k ≡ b → ⊥). some_still t.first_outcome did.Skipped (was.whole k (sym (has-with_other t.taken b k ne) ∙ on) takes)) (cases_eq k b)
  whole_now t b did.Failed was report k on takes = some_still t.first_outcome did.Failed (was.whole k on takes)
  whole_now t b did.Starved was report k on takes = some_still t.first_outcome did.Starved (was.whole k on takes)

  -- a right report keeps the tally right
  pub report_tallied : (t : Tally) (b : ℕ) (d : Did) → IsTallyOf tells p entries i e t → IsReportOf tells p entries i e b d → IsTallyOf tells p entries i e (with_report t b d)
  report_tallied t b d was report = record { right = right_now t.first_outcome b d was.right report; whole = whole_now t b d was report }
