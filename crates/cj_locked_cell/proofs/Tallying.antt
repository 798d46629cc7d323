-- A pass and a tally of the open entry, from one cell to the next.
use Rattle.std.proofs.Common.{◌≡◌, ℕ, ◌-◌, ◌<◌, ◌≤◌, Bool, true, Contains, Some, slice_get, sym, ◌∙◌, subst, arith, ⊎_elim}
use Rattle.std.proofs.lemmas.Bool.{both_ways, cases_eq}
use Rattle.cj_model.proofs.Masks.{has-with_other, has-zero}
use Rattle.cj_model.specs.declared.request.Entry.{Entry}
use Rattle.cj_model.specs.Cluster.Masks.{in_mask, with_backend}
use Rattle.cj_model.specs.Cluster.Placements.{Placement}
use Rattle.cj_cluster.specs.declared.moves.Did.{Did}
use Rattle.cj_cluster.specs.declared.moves.Did.TheVariants as did
use Rattle.cj_cluster.specs.History.Histories.{log}
use Rattle.cj_cluster.proofs.Pushed.{log-prefix}
use Rattle.cj_board.specs.declared.view.SeatView.{SeatView}
use Rattle.cj_board.specs.Points.{fault_tokens_of}
use Rattle.cj_replica.specs.declared.replica.Caught.TheVariants as caught
use Rattle.std.specs.declared.result.Result.TheVariants.{Ok}
use Rattle.cj_replica.proofs.Longer.{outcome_longer}
use Rattle.cj_tally.specs.declared.tally.Tally.{Tally}
use Rattle.cj_tally.specs.Tallies.{no_reports, with_report, IsReportOf, IsRightOutcome, IsTallyOf}
use Rattle.cj_tally.proofs.Reports.{none_tallied}
use Rattle.cj_pass.specs.Passes.{HasNotedMore}
use Rattle.cj_locked_cell.specs.Taking.{HasTallied, NotesReport, ReportsEntry}

-- nobody has reported
pub tallied_none : (tells : Bool) (p : Placement) (n : ℕ) (e : Entry) (v : SeatView) → HasTallied tells p n e v no_reports
tallied_none tells p n e v = record {
  noted = record {
    taken = λ b on. absurd (both_ways (in_mask 0 b) (has-zero b) on);
    failed = λ b on. absurd (both_ways (in_mask 0 b) (has-zero b) on);
  };
  right = none_tallied tells p (log v.front) (n - 1) e;
}

module _ (tells : Bool) (p : Placement) (n : ℕ) (e : Entry) (v w : SeatView) (more : HasNotedMore v w) (there : slice_get (log v.front) (n - 1) ≡ Some e) (t : Tally) (tallied : HasTallied tells p n e v t) where
  -- what was tallied holds on
  pub tallied_on : HasTallied tells p n e w t
  tallied_on = record {
    noted = record {
      taken = λ b on. more.positions (b, n) (tallied.noted.taken b on);
      failed = λ b on. (let m : 0 < fault_tokens_of b v.fault_tokens = tallied.noted.failed b on in let k : fault_tokens_of b v.fault_tokens ≤ fault_tokens_of b w.fault_tokens = more.tokens b in omega arith);
    };
    right = record {
      right = λ o is. (let of : IsRightOutcome tells (log v.front) (n - 1) o = tallied.right.right o is in
          (of.0, λ on. outcome_longer (log v.front) (log w.front) (log-prefix v.front w.front more.seen.front) n e there (Ok (caught.Did o)) (of.1 on)));
      whole = tallied.right.whole;
    };
  }

  -- one backend more in a mask
  with_one : (P : ℕ → Type 0) (m b : ℕ) → ((k : ℕ) → in_mask m k ≡ true → P k) → P b → (k : ℕ) → in_mask (with_backend m b) k ≡ true → P k
  with_one P m b all one k on = ⊎_elim (λ (same : k ≡ b). subst P (sym same) one) (λ (ne : k ≡ b → ⊥). all k (sym (has-with_other m b k ne) ∙ on)) (cases_eq k b)

  module _ (b : ℕ) where
    taken_more : (d : Did) → NotesReport w n b d → (k : ℕ) → in_mask (with_report t b d).taken k ≡ true → Contains w.position_notes (k, n)
    taken_more (did.Done o) noted = with_one (λ k. Contains w.position_notes (k, n)) t.taken b tallied_on.noted.taken noted
    taken_more did.Skipped noted = with_one (λ k. Contains w.position_notes (k, n)) t.taken b tallied_on.noted.taken noted
    taken_more did.Failed noted = tallied_on.noted.taken
    taken_more did.Starved noted = tallied_on.noted.taken

    failed_more : (d : Did) → NotesReport w n b d → (k : ℕ) → in_mask (with_report t b d).failed k ≡ true → 0 < fault_tokens_of k w.fault_tokens
    failed_more (did.Done o) noted = tallied_on.noted.failed
    failed_more did.Skipped noted = tallied_on.noted.failed
    failed_more did.Failed noted = with_one (λ k. 0 < fault_tokens_of k w.fault_tokens) t.failed b tallied_on.noted.failed noted
    failed_more did.Starved noted = tallied_on.noted.failed

    -- and with the report of backend b: `took` says that the tally is right then
    pub tallied_more : (d : Did) → ReportsEntry tells p n e w b d
        → (IsTallyOf tells p (log w.front) (n - 1) e t → IsReportOf tells p (log w.front) (n - 1) e b d → IsTallyOf tells p (log w.front) (n - 1) e (with_report t b d)) → HasTallied tells p n e w (with_report t b d)
    tallied_more d reports took = record { noted = record { taken = taken_more d reports.noted; failed = failed_more d reports.noted }; right = took tallied_on.right reports.right }
