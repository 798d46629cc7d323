use denote.Param.Send.{sendable}
use Rattle.std.proofs.Common.{sym, subst}
use Rattle.cj_cluster.specs.History.Legality.{IsLegal}
use Rattle.cj_board.specs.declared.view.SeatView.{SeatView}
use Rattle.cj_console.specs.Answers.{AreRightDumps}
use Rattle.cj_served.proofs.Crossing.{chatting_send}
use Rattle.cj_served.proofs.serving.chat_and_serve.Goals as goal

-- what the thread of the console is handed may cross
pub beside-requires-send-X : goal.beside-requires-send-X
beside-requires-send-X g c κs within =
    let send_j = c.type_bounds.send-J in
    let sync_j = c.type_bounds.sync-J in
    let send_b = c.type_bounds.send-B in
    let send_s = c.type_bounds.send-S in
    let send_d = c.type_bounds.send-D in
    let send_i = c.type_bounds.send-I in
    let send_o = c.type_bounds.send-O in search (chatting_send, sendable) depth 60 fits 20000

-- what is seen of a pass that was split is what was seen before
pub beside-requires-clause-can : goal.beside-requires-clause-can
beside-requires-clause-can g c κs within =
    let b = c.type_bounds in
    let send_j = b.send-J in
    let sync_j = b.sync-J in
    let send_b = b.send-B in
    let send_s = b.send-S in
    let send_c = b.send-C in
    let sync_c = b.sync-C in
    let send_r = b.send-R in
    let sync_r = b.sync-R in
    let send_in = b.send-P-In in
    let send_out = b.send-P-Out in
    let same = sym c.split-split.ensures.pass in (
      (
        subst (λ (v : SeatView). IsLegal v.front) same c.requires.legal,
        c.requires.kept,
        subst (λ (v : SeatView). AreRightDumps g.B.Backend.tells v.front c.args.shelf.now.dumps) same c.requires.dumps,
      ),
      (b.static-J, (b.static-B, (b.static-S, (b.static-C, (b.static-R, (b.static-B-Snap, (b.static-P-In, (b.static-P-Out, ((search sendable depth 20, search sendable depth 20, search sendable depth 20, search sendable depth 20, search sendable depth 20, search sendable depth 20), (search sendable depth 20, search sendable depth 20, search sendable depth 20, search sendable depth 20, search sendable depth 20, search sendable depth 20, search sendable depth 20, search sendable depth 20, search sendable depth 20, search sendable depth 20, search sendable depth 20)))))))))),
    )
