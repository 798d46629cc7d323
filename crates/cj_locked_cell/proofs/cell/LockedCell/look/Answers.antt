use Rattle.std.proofs.Common.{◌≡◌, ◌∙◌, ℕ, length, true, refl, sym, subst}
use mathlib.Core.List.{IsPrefix}
use Rattle.cj_board.specs.declared.view.SeatView.{SeatView}
use Rattle.cj_board.specs.Seats.{front, pass_view}
use Rattle.cj_board.specs.Views.{pass_of}
use Rattle.cj_cluster.specs.History.Histories.{is_enabled, log}
use Rattle.cj_cluster.proofs.Pushed.{prefix_trans}
use Rattle.cj_pass.specs.Passes.{HasNotedMore}
use Rattle.cj_locked_cell.proofs.Asking.{stands_at_end, stands_noted}
use Rattle.cj_locked_cell.proofs.Loading.{stands_within}
use Rattle.cj_pass.proofs.Passes.{noted_joined}
use Rattle.cj_locked_cell.proofs.cell.LockedCell.look.Goals as goal

pub returns-clause-more : goal.returns-clause-more
returns-clause-more g c =
    subst (λ (v : SeatView). HasNotedMore v (pass_view c.report.new.pass)) c.brief.ensures.pass
    (noted_joined (pass_view c.brief.new.pass) (pass_of c.brief.new.self.view) (pass_view c.report.new.pass) c.report.ensures.pass c.report.ensures.longer)

pub returns-clause-noted : goal.returns-clause-noted
returns-clause-noted g c =
    stands_noted c.position-position.result c.brief.new.self.state.b c.number-b.result (pass_view c.report.new.pass) c.number-b.ensures.number (λ n is. c.report.ensures.position n (sym c.position-position.ensures ∙ is))

pub returns-clause-seen : goal.returns-clause-seen
returns-clause-seen g c = subst (λ (v : SeatView). IsPrefix v.front (front c.report.new.pass)) (sym c.report.ensures.seat) c.report.ensures.seen

pub returns-clause-stands : goal.returns-clause-stands
returns-clause-stands g c m begins free enabled same =
    let x = c.brief.new.self in
    let at : is_enabled m x.state.b ≡ true = subst (λ (b : ℕ). is_enabled m b ≡ true) c.number-b.ensures.number enabled in
    let told = prefix_trans m (front c.args.pass.now.seat) x.view.front begins c.brief.ensures.seen.0 in
    c.position-position.ensures ∙ stands_at_end x x.state m (front c.report.new.pass) (length (log m)) c.brief.ensures.stands refl told c.report.ensures.seen free at refl same

pub returns-clause-within : goal.returns-clause-within
returns-clause-within g c =
    stands_within c.brief.new.self.state.position c.position-position.result c.brief.new.self.view.front (front c.report.new.pass) c.position-position.ensures c.report.ensures.seen c.legal.ensures.within
