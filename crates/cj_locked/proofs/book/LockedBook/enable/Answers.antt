use Rattle.cj_board.specs.Seats.{pass_view}
use Rattle.cj_pass.proofs.Passes.{noted_then}
use Rattle.cj_locked.proofs.book.LockedBook.enable.Goals as goal

pub returns-clause-more : goal.returns-clause-more
returns-clause-more g c = noted_then (pass_view c.args.pass.now.seat) (pass_view c.give_back.new.pass.seat) (pass_view c.tell.new.pass.seat) c.give_back.ensures.more c.tell.ensures.more
