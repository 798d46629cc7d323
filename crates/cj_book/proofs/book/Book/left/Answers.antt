use Rattle.std.proofs.Common.{◌&&◌, ◌||◌, not, ap, sym, ◌∙◌, rules}
use Rattle.cj_book.proofs.Common.{enabled-push, Ended, has_without, history, in_mask}
use Rattle.cj_book.proofs.book.Book.left.Goals as goal

pub returns : goal.returns
returns c =
    λ b.
    let left = has_without c.self.inside.enabled c.args.failed c.args.starved b (search rules) (search rules) (search rules) in
    rw (← c.self.view_is)
    (left ∙ (ap (λ x. x && not (in_mask c.args.failed b || in_mask c.args.starved b)) (c.self.invariant.0.history.mask b)
    ∙ sym (enabled-push (history c.self.inside.seat) (Ended c.args.failed c.args.starved) b)))
