use denote.Param.Send.{sendable}
use Rattle.std.proofs.Crossing as heap
use Rattle.cj_control.proofs.Crossing.{control_sync, pass_send, store_send}
use Rattle.cj_control_tests.proofs.steps.serve_with_worker.Goals as goal

-- what the other thread is handed may cross
pub join-served-requires-send-F : goal.join-served-requires-send-F
join-served-requires-send-F g c κs within =
    let send_j = c.type_bounds.send-J in
    let send_b = c.type_bounds.send-B in
    let sync_j = c.type_bounds.sync-J in
    let sync_r = c.type_bounds.sync-R in search (control_sync, pass_send, store_send, heap.crosses, sendable) depth 60 fits 20000
