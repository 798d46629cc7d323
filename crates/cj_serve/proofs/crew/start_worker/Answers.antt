use denote.Param.Send.{sendable}
use Rattle.cj_serve.proofs.Crossing.{worker_send}
use Rattle.cj_serve.proofs.crew.start_worker.Goals as goal

-- what the other thread is handed may cross
pub start-requires-send-J : goal.start-requires-send-J
start-requires-send-J g c κs within =
    let send_j = c.type_bounds.send-J in
    let sync_j = c.type_bounds.sync-J in
    let send_b = c.type_bounds.send-B in
    let send_s = c.type_bounds.send-S in search (worker_send, sendable) depth 60 fits 20000
