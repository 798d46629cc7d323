use Rattle.std.proofs.Common.{◌≡◌, ℕ, true, Contains, IfSome, subst, sym}
use Rattle.cj_board.specs.Seats.{pass_view}
use Rattle.cj_cluster.specs.History.Histories.{is_enabled}
use Rattle.cj_administration.proofs.show.look_at.Goals as goal

pub returns-clause-noted : goal.returns-clause-noted
returns-clause-noted g c = subst (λ (k : ℕ). IfSome c.look-number.result.1 (λ n. Contains (pass_view c.look-number.new.pass.seat).position_notes (k, n))) c.if-number-b.false c.look-number.ensures.noted

pub returns-clause-stands : goal.returns-clause-stands
returns-clause-stands g c m begins free same enabled = c.look-number.ensures.stands m begins free (subst (λ (k : ℕ). is_enabled m k ≡ true) (sym c.if-number-b.false) enabled) same
