-- A report that is counted: what its pass has noted is noted by the pass that it joins.
use Rattle.std.proofs.Common.{◌≡◌, ℕ, ◌+◌, ◌-◌, ◌<◌, Bool, List, Contains, Some, slice_get, ap, sym, ◌∙◌, subst, arith}
use Rattle.std.specs.Option.{unwrap_or}
use Rattle.std.specs.declared.option.Option.{Option}
use Rattle.std.proofs.lemmas.List.Elements.{Contains-append_right}
use mathlib.Core.List.{IsPrefix}
use Rattle.std.specs.declared.result.Result.TheVariants.{Ok}
use Rattle.cj_model.specs.declared.request.Entry.{Entry}
use Rattle.cj_model.specs.Cluster.Placements.{Placement}
use Rattle.cj_cluster.specs.declared.moves.Did.{Did}
use Rattle.cj_cluster.specs.declared.moves.Did.TheVariants as did
use Rattle.cj_cluster.specs.History.Histories.{log}
use Rattle.cj_cluster.proofs.Pushed.{log-prefix, prefix_get}
use Rattle.cj_board.specs.declared.view.SeatView.{SeatView}
use Rattle.cj_board.specs.Points.{fault_tokens_of}
use Rattle.cj_board.specs.Steps.{after_join}
use Rattle.cj_board.proofs.FaultPoint.{tokens-append}
use Rattle.cj_replica.specs.declared.replica.Caught.TheVariants as caught
use Rattle.cj_replica.proofs.Longer.{outcome_longer}
use Rattle.cj_tally.specs.declared.tally.Tally.{Tally}
use Rattle.cj_tally.specs.Tallies.{with_report, IsReportOf, IsTallyOf}
use Rattle.cj_pass.specs.Passes.{HasNotedMore}
use Rattle.cj_locked_cell.specs.Taking.{HasTallied, NotesReport, ReportsEntry}
use Rattle.cj_locked_cell.proofs.Tallying.{tallied_more}
use Rattle.cj_workers.specs.Reports.{TellsEntry}
use Rattle.cj_workers.proofs.Telling.{entry_told}

module _ (tells : Bool) (p : Placement) (n : ℕ) (e : Entry) (v u w : SeatView) (is : w ≡ after_join v u) (longer : IsPrefix u.front w.front) (there : slice_get (log u.front) (n - 1) ≡ Some e) (b : ℕ) where
  position : Contains u.position_notes (b, n) → Contains w.position_notes (b, n)
  position noted = subst (λ (z : SeatView). Contains z.position_notes (b, n)) (sym is) (Contains-append_right v.position_notes u.position_notes (b, n) noted)

  token : 0 < fault_tokens_of b u.fault_tokens → 0 < fault_tokens_of b w.fault_tokens
  token noted =
      let all : fault_tokens_of b w.fault_tokens ≡ fault_tokens_of b v.fault_tokens + fault_tokens_of b u.fault_tokens = ap (λ (z : SeatView). fault_tokens_of b z.fault_tokens) is ∙ tokens-append b v.fault_tokens u.fault_tokens in
      omega (arith, all, noted)

  noted_joined : (d : Did) → NotesReport u n b d → NotesReport w n b d
  noted_joined (did.Done o) noted = position noted
  noted_joined did.Skipped noted = position noted
  noted_joined did.Failed noted = token noted
  noted_joined did.Starved noted = tt

  right_joined : (d : Did) → IsReportOf tells p (log u.front) (n - 1) e b d → IsReportOf tells p (log w.front) (n - 1) e b d
  right_joined (did.Done o) right = (right.0, λ on. outcome_longer (log u.front) (log w.front) (log-prefix u.front w.front longer) n e there (Ok (caught.Did o)) (right.1 on))
  right_joined did.Skipped right = right
  right_joined did.Failed right = tt
  right_joined did.Starved right = tt

  pub report_joined : (d : Did) → ReportsEntry tells p n e u b d → ReportsEntry tells p n e w b d
  report_joined d reports = record { noted = noted_joined d reports.noted; right = right_joined d reports.right }

-- a report that is counted
pub report_counted : (tells : Bool) (p : Placement) (n : ℕ) (f e : Entry) (v u w : SeatView) → w ≡ after_join v u → HasNotedMore v w → IsPrefix u.front w.front → slice_get (log u.front) (n - 1) ≡ Some f → slice_get (log v.front) (n - 1) ≡ Some e
    → (b : ℕ) (d : Did) → TellsEntry tells p n f u b d → (t s : Tally) → HasTallied tells p n e v t → s ≡ with_report t b d
    → ((tells : Bool) (p : Placement) (entries : List Entry) (i : ℕ) (e : Entry) → IsTallyOf tells p entries i e t → IsReportOf tells p entries i e b d → IsTallyOf tells p entries i e s) → HasTallied tells p n e w s
report_counted tells p n f e v u w is more longer there here b d told t s tallied counts took =
    let theirs : slice_get (log w.front) (n - 1) ≡ Some f = prefix_get (log u.front) (log w.front) (n - 1) f (log-prefix u.front w.front longer) there in
    let mine : slice_get (log w.front) (n - 1) ≡ Some e = prefix_get (log v.front) (log w.front) (n - 1) e (log-prefix v.front w.front more.seen.front) here in
    let same : f ≡ e = ap (λ (o : Option Entry). unwrap_or o e) (sym theirs ∙ mine) in
    let reports : ReportsEntry tells p n e w b d = subst (λ (x : Entry). ReportsEntry tells p n x w b d) same (report_joined tells p n f v u w is longer there b d (entry_told tells p n f u b d told)) in
    subst (λ (x : Tally). HasTallied tells p n e w x) (sym counts)
    (tallied_more tells p n e v w more here t tallied b d reports (λ of report. subst (λ (x : Tally). IsTallyOf tells p (log w.front) (n - 1) e x) counts (took tells p (log w.front) (n - 1) e of report)))
