-- A backend comes back: what the calls at the cluster say of it, from what a pass had seen before them.
use Rattle.std.proofs.Common.{ℕ, ◌≤◌, Bool, List, length, Option, Result, Ok, Err, IfErr, sym, subst, arith}
use mathlib.Core.List.{IsPrefix}
use Rattle.cj_board.specs.declared.view.SeatView.{SeatView}
use Rattle.cj_cluster.specs.declared.event.Event.{Event}
use Rattle.cj_cluster.specs.History.Histories.{log}
use Rattle.cj_cluster.proofs.Pushed.{at-prefix, log-prefix, prefix_length, prefix_trans}
use Rattle.cj_dump.specs.declared.dump.Dump.{Dump}
use Rattle.cj_dump.specs.Coverage.{HasCoveredTables}
use Rattle.cj_pass.specs.Passes.{HasNotedMore}
use Rattle.cj_pass.proofs.Passes.{noted_self}
use Rattle.cj_place.specs.Layouts.{Layout}
use Rattle.cj_return_path.specs.declared.restore.RestoreError.{RestoreError}
use Rattle.cj_return_path.specs.declared.restore.RestoreError.TheVariants as refused
use Rattle.cj_return_path.specs.Restoring.{EnablesSince, IsRightDump}
use Rattle.cj_locked_cell.proofs.Asking.{fault_between}
use Rattle.cj_replay.specs.declared.reenabling.ReplayError.{ReplayError}
use Rattle.cj_replay.specs.declared.reenabling.ReplayError.TheVariants as errors
use Rattle.cj_replay.specs.Reenabling.{IsReplayErrorOf, RefusesReenabling}

-- a dump that is right for a history is right for each that goes on from it
pub right_later : (tells : Bool) (F G : List Event) (d : Dump) → IsPrefix F G → IsRightDump tells F d → IsRightDump tells G d
right_later tells F G d longer is = record {
  storable = is.storable;
  within =
      λ on.
      let had : d.position ≤ length (log F) = is.within on in
      let more : length (log F) ≤ length (log G) = prefix_length (log F) (log G) (log-prefix F G longer) in
      omega (arith, had, more);
  right = λ on. subst (HasCoveredTables d) (sym (at-prefix (log F) (log G) d.position (log-prefix F G longer) (is.within on))) (is.right on);
}

-- why it was not enabled
pub not_enabled : (l : Layout) (b : ℕ) (d : Option Dump) (old new : SeatView) (error : RestoreError) (refusal : ReplayError) → EnablesSince b old new (Err error) → IsReplayErrorOf error refusal → RefusesReenabling l b d old new refusal
not_enabled l b d old new refused.NotEnabled refusal why is = absurd is
not_enabled l b d old new refused.AlreadyEnabled refusal why is = subst (RefusesReenabling l b d old new) (sym is) why
not_enabled l b d old new refused.NameTaken refusal why is = absurd is
not_enabled l b d old new (refused.LastHost table) refusal why is = absurd is
not_enabled l b d old new (refused.HistoryFull n) refusal why is = subst (RefusesReenabling l b d old new) (sym is) why
not_enabled l b d old new refused.LogFault refusal why is = absurd is
not_enabled l b d old new (refused.Fault k) refusal why is = subst (RefusesReenabling l b d old new) (sym is) why
not_enabled l b d old new refused.Starved refusal why is = subst (RefusesReenabling l b d old new) (sym is) tt
not_enabled l b d old new (refused.Out seen) refusal why is = subst (RefusesReenabling l b d old new) (sym is) why
not_enabled l b d old new refused.NotOut refusal why is = absurd is
not_enabled l b d old new (refused.DumpLacks table) refusal why is = absurd why
not_enabled l b d old new (refused.DumpAhead n) refusal why is = absurd why
not_enabled l b d old new refused.NoMemory refusal why is = subst (RefusesReenabling l b d old new) (sym is) tt

-- ---- the pass had seen less before

pub refused_earlier : (l : Layout) (b : ℕ) (d : Option Dump) (u v w : SeatView) → HasNotedMore u v → (error : ReplayError) → RefusesReenabling l b d v w error → RefusesReenabling l b d u w error
refused_earlier l b d u v w more errors.AlreadyEnabled why = (why.0, prefix_trans u.front v.front why.0 more.seen.front why.1, why.2, why.3)
refused_earlier l b d u v w more (errors.NeedsDump seen) why = why
refused_earlier l b d u v w more (errors.Failed k) why = (why.0, fault_between b u v w w more (noted_self w) why.1)
refused_earlier l b d u v w more errors.Starved why = tt
refused_earlier l b d u v w more (errors.DumpLacks table) why = why
refused_earlier l b d u v w more (errors.DumpAhead n) why = (why.0, why.1, why.2, why.3, prefix_trans u.front v.front why.3 more.seen.front why.4, why.5)
refused_earlier l b d u v w more (errors.HistoryFull n) why = why
refused_earlier l b d u v w more errors.NoMemory why = tt

pub refused_since : (l : Layout) (b : ℕ) (d : Option Dump) (u v w : SeatView) → HasNotedMore u v → (r : Result Unit ReplayError) → IfErr r (RefusesReenabling l b d v w) → IfErr r (RefusesReenabling l b d u w)
refused_since l b d u v w more (Ok done) why = tt
refused_since l b d u v w more (Err error) why = refused_earlier l b d u v w more error why
