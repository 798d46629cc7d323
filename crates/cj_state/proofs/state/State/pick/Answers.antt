use Rattle.std.proofs.Common.{ap, sym, ◌∙◌, subst}
use Rattle.cj_state.proofs.Cited.{BookState, KeptFresh, WorldState, board_id, log_view, one_less, pass_board, picked_below, read_over, seats_same, states_of, with_balance, with_cache, with_log, world_of, LogFollows}
use Rattle.cj_state.proofs.state.State.pick.Goals as goal

pub ended-requires : goal.ended-requires
ended-requires g c = record { below = picked_below c.args.candidates c.in_ok-b.b c.requires c.in_ok-b.ensures.some.first.candidate }

pub invariant_of-self-2 : goal.invariant_of-self-2
invariant_of-self-2 g c =
    let w = c.self.inside in
    let q = subst (λ (k : BookState). KeptFresh g.B.Backend.tells (world_of w.accounts k.layout k.history (states_of w.cells.items) w.tally.failed w.tally.starved w.sessions k.greatest w.dumps) k.sessions w.tally k.cache w.dumps) (sym c.ended.ensures.state) (subst (λ (k : BookState). KeptFresh g.B.Backend.tells (world_of w.accounts k.layout k.history (states_of w.cells.items) w.tally.failed w.tally.starved w.sessions k.greatest w.dumps) k.sessions w.tally k.cache w.dumps) (sym c.in_ok-b.ensures.some.stands) (c.self.invariant.0, c.self.invariant.1, c.self.invariant.2)) in
    let picked = seats_same (board_id w.board) (pass_board w.pass) w.book c.pick.new.self w.cells.items w.tally.failed c.self.invariant.3.0 c.self.invariant.3.1 c.pick.ensures.seat in
    (q.0, q.1, q.2, seats_same (board_id w.board) (pass_board w.pass) c.pick.new.self c.ended.new.self w.cells.items w.tally.failed picked.0 picked.1 c.ended.ensures.seat, (subst (λ (k : BookState). LogFollows g.S.Store.tells g.S.Store.faults w.recovery_log k.history) (sym c.ended.ensures.state) (subst (λ (k : BookState). LogFollows g.S.Store.tells g.S.Store.faults w.recovery_log k.history) (sym c.in_ok-b.ensures.some.stands) c.self.invariant.4.0), c.ended.ensures.seat.2 ∙ (c.pick.ensures.seat.2 ∙ c.self.invariant.4.1)))

pub returns-clause-picked : goal.returns-clause-picked
returns-clause-picked g c =
    let w = c.self.inside in
    let seen = λ (k : BookState). with_balance (with_cache (with_log (world_of w.accounts k.layout k.history (states_of w.cells.items) w.tally.failed w.tally.starved w.sessions k.greatest w.dumps) (log_view g.S.Store.faults g.S.Store.held w.recovery_log.log)) k.cache) k.balance in
    ap seen c.ended.ensures.state
    ∙ (ap (λ (k : BookState). seen (record k { balance = record k.balance { standing = record k.balance.standing { pending = one_less k.balance.standing.pending c.in_ok-b.b } } })) c.in_ok-b.ensures.some.stands
    ∙ ap (λ (z : WorldState). with_balance z (read_over z.balance c.in_ok-b.b)) c.self.view_is)
