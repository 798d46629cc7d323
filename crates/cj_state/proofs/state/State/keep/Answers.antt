use Rattle.std.proofs.Common.{◌≡◌, Bool, true, Ok, List, length, ap, sym, ◌∙◌, subst, arith}
use Rattle.cj_state.proofs.Cited.{BookState, Cached, Entry, IsAnswerAt, IsFreshAnswer, KeptFresh, NoneTouches, Rows, WorldState, all_put, board_id, fresh_now, log, pass_board, seats_same, states_of, world_of, LogFollows}
use Rattle.cj_state.proofs.state.State.keep.Goals as goal

pub invariant_of-self : goal.invariant_of-self
invariant_of-self g c =
    let w = c.self.inside in
    let same : c.keep.new.self.state ≡ w.book.state = c.keep.ensures.same (λ is. cc (is, c.in_err-keep.was)) in
    let q = subst (λ (k : BookState). KeptFresh g.B.Backend.tells (world_of w.accounts k.layout k.history (states_of w.cells.items) w.tally.failed w.tally.starved w.sessions k.greatest w.dumps) k.sessions w.tally k.cache w.dumps) (sym same) (c.self.invariant.0, c.self.invariant.1, c.self.invariant.2) in
    (q.0, q.1, q.2, seats_same (board_id w.board) (pass_board w.pass) w.book c.keep.new.self w.cells.items w.tally.failed c.self.invariant.3.0 c.self.invariant.3.1 c.keep.ensures.seat, (subst (λ (k : BookState). LogFollows g.S.Store.tells g.S.Store.faults w.recovery_log k.history) (sym same) c.self.invariant.4.0, c.keep.ensures.seat.2 ∙ c.self.invariant.4.1))

pub invariant_of-self-2 : goal.invariant_of-self-2
invariant_of-self-2 g c =
    let w = c.self.inside in
    let entries : List Entry = log w.book.state.history in
    let tells = g.B.Backend.tells in
    let end = c.length-end.result in
    let here : end ≡ length entries = c.length-end.ensures in
    let none : NoneTouches entries end (length entries) c.args.select = λ n low high. absurd (omega (arith, here, low, high)) in
    let yes : c.keep.result ≡ Ok true = c.in_ok-keep.was ∙ ap (λ (b : Bool). Ok b) (c.in_ok-keep.ensures.untouched.1 none) in
    let entry : Cached = record { select = c.args.select; answer = c.args.answer; at = end } in
    let right : tells ≡ true → IsAnswerAt entries end c.args.select (Rows c.args.answer) =
    λ on. subst (λ n. IsAnswerAt entries n c.args.select (Rows c.args.answer)) (sym here)
    (subst (λ (x : WorldState). IsAnswerAt (log x.core.history) (length (log x.core.history)) c.args.select (Rows c.args.answer)) (sym c.self.view_is) (c.requires.right on))
    in
    rw (c.keep.ensures.kept yes) (c.self.invariant.0, all_put (IsFreshAnswer tells entries) entry w.book.state.cache (fresh_now tells entries entry here c.requires.possible right) c.self.invariant.1, c.self.invariant.2, seats_same (board_id w.board) (pass_board w.pass) w.book c.keep.new.self w.cells.items w.tally.failed c.self.invariant.3.0 c.self.invariant.3.1 c.keep.ensures.seat, (c.self.invariant.4.0, c.keep.ensures.seat.2 ∙ c.self.invariant.4.1))
