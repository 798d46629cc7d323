use Rattle.std.proofs.Common.{◌≡◌, ℕ, true, sym, subst}
use Rattle.cj_cluster.specs.History.Histories.{is_enabled}
use Rattle.cj_board.specs.declared.view.SeatView.{SeatView}
use Rattle.cj_board.specs.Seats.{front, pass_view}
use Rattle.cj_board.specs.Views.{pass_of}
use Rattle.cj_pass.specs.Passes.{HasNotedMore}
use Rattle.cj_locked_cell.proofs.Asking.{stands_at_end}
use Rattle.cj_pass.proofs.Passes.{noted_joined}
use Rattle.cj_locked_cell.proofs.cell.LockedCell.contents.Goals as goal

pub returns-then-number-b-clause-more : goal.returns-then-number-b-clause-more
returns-then-number-b-clause-more g c = noted_joined (pass_view c.args.pass.now.seat) (pass_of c.args.self.now.cell.view) (pass_view c.report.new.pass) c.report.ensures.pass c.report.ensures.longer

pub returns-in_default-clause-more : goal.returns-in_default-clause-more
returns-in_default-clause-more g c =
    subst (λ (v : SeatView). HasNotedMore v (pass_view c.report-in_default.new.pass)) c.brief.ensures.pass
    (noted_joined (pass_view c.brief.new.pass) (pass_of c.brief.new.self.view) (pass_view c.report-in_default.new.pass) c.report-in_default.ensures.pass c.report-in_default.ensures.longer)

pub returns-in_default-clause-stands : goal.returns-in_default-clause-stands
returns-in_default-clause-stands g c its free enabled before after =
    stands_at_end c.brief.new.self c.args.self.now.cell.state (front c.args.pass.now.seat) (front c.report-in_default.new.pass) c.args.n c.brief.ensures.stands c.brief.ensures.state c.brief.ensures.seen.0 c.report-in_default.ensures.seen free
    (subst (λ (b : ℕ). is_enabled (front c.args.pass.now.seat) b ≡ true) (sym its) enabled) before after
