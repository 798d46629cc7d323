use denote.Param.Send.{sendable}
use Rattle.cj_serve.proofs.Crossing.{connection_send}
use Rattle.cj_serve.proofs.serving.Service.next.Goals as goal

-- what the other thread is handed may cross
pub start-requires-send-J : goal.start-requires-send-J
start-requires-send-J g c κs within =
    let send_j = c.type_bounds.send-J in
    let sync_j = c.type_bounds.sync-J in
    let send_b = c.type_bounds.send-B in
    let send_s = c.type_bounds.send-S in
    let send_c = c.type_bounds.send-C in
    let sync_c = c.type_bounds.sync-C in
    let send_in = c.type_bounds.send-P-In in
    let send_out = c.type_bounds.send-P-Out in search (connection_send, sendable) depth 60 fits 20000
