use Rattle.std.proofs.Common.{◌∙◌}
use Rattle.cj_book.proofs.book.Book.markers.Goals as goal

pub returns : goal.returns
returns c = rw (← c.self.view_is) (c.as_slice.ensures.value ∙ c.self.invariant.0.marked)
