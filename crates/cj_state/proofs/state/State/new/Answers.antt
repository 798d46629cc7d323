use Rattle.cj_state.proofs.Cited.{All-nil, IsDumpOf, IsFreshAnswer, log, placement_of, ready_none, states_of}
use Rattle.cj_state.proofs.Resting.{kept_opened, core_opened}
use Rattle.cj_state.proofs.state.State.new.Goals as goal

pub invariant_of-result : goal.invariant_of-result
invariant_of-result g c =
    let o = c.requires.opening in
    rw (c.requires.numbers, c.requires.none, c.requires.greatest, c.requires.no_dump, c.new-tally.ensures)
    (kept_opened c.args.book.state.layout (states_of c.args.cells.items) c.requires.fresh c.args.book.state.history o.opening o.legal g.B.Backend.tells c.args.accounts c.requires.registered c.requires.few c.requires.empty, rw c.requires.cache (All-nil (IsFreshAnswer g.B.Backend.tells (log c.args.book.state.history))), All-nil (IsDumpOf g.B.Backend.tells (placement_of c.args.book.state.layout) (log c.args.book.state.history)), (c.requires.at, ready_none c.args.book.view c.requires.unowned.0 c.requires.unowned.1), (c.requires.follows, c.requires.pending))

pub returns-clause-core : goal.returns-clause-core
returns-clause-core g c =
    let o = c.requires.opening in
    rw (c.requires.none, c.requires.greatest, c.requires.no_dump, c.new-tally.ensures) (core_opened c.args.book.state.layout (states_of c.args.cells.items) c.requires.fresh c.args.book.state.history o.opening o.legal)
