use Rattle.std.proofs.Common.{ap, sym, ◌∙◌}
use Rattle.cj_book.proofs.Cited.{has_named, history, list_any}
use Rattle.cj_book.proofs.Marked.{has_name}
use Rattle.cj_book.proofs.book.Book.is_taken.Goals as goal

pub returns : goal.returns
returns c =
    let name = c.args.name.now in
    rw (← c.self.view_is) (c.is_named.ensures ∙ (ap (list_any (has_name name)) (c.as_slice.ensures.value ∙ c.self.invariant.0.marked) ∙ sym (has_named (history c.self.inside.seat) name)))
