use Rattle.cj_book.proofs.Serving.{picked_below}
use Rattle.cj_book.proofs.book.Book.pick.Goals as goal

pub begin_read-requires : goal.begin_read-requires
begin_read-requires c = picked_below c.args.candidates c.in_ok-b.b c.requires c.in_ok-b.ensures.some.first.candidate
