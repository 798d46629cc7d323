use Rattle.std.proofs.Common.{◌≡◌, sym, subst}
use Rattle.cj_book.proofs.Common.{concerns, history, in_mask, IsFitEntry, log, placement_at, SeatedBook}
use Rattle.cj_book.proofs.book.Book.concerned.Goals as goal

pub returns : goal.returns
returns c = λ b.
    let fit = subst (λ (s : SeatedBook). IsFitEntry (log s.state.history) c.args.e.now) (sym c.self.view_is) c.requires in
    subst (λ (s : SeatedBook). in_mask c.concerned.result b ≡ concerns (placement_at s.state) b (log s.state.history) c.args.e.now.tx c.args.e.now.act) c.self.view_is
    (c.concerned.ensures (log (history c.self.inside.seat)) c.self.invariant.0.follows.transactions fit b)
