use Rattle.cj_board.specs.Seats.{pass_view}
use Rattle.cj_pass.proofs.Passes.{noted_joined}
use Rattle.cj_pass.proofs.pass.NamedBoard.rejoin.Goals as goal

pub returns-clause-more : goal.returns-clause-more
returns-clause-more g c = noted_joined (pass_view c.args.pass.now.seat) (pass_view c.args.other.seat) (pass_view c.rejoin.new.p) c.rejoin.ensures.pass c.rejoin.ensures.longer.0
