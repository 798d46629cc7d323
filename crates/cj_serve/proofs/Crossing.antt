-- What the thread of a connection and that of a worker is handed may go to it. T is the type of the backends' snapshots.
use denote.RattleType.{RattleType}
use denote.Param.Send.{IsSend, IsSync, sendable, recorded_send, struct_send}
use denote.Struct.Declared.{shape}
use Rattle.std.proofs.Crossing as heap
use Rattle.atomic_table.proofs.shared.Seat.TheSendSync as seat
use Rattle.cj_outside.specs.declared.store.Store as store
use Rattle.cj_backend.specs.declared.backend.Backend as backend
use Rattle.cj_backend.specs.declared.backend.Snap as snap
use Rattle.cj_pass.specs.declared.naming.Naming as naming
use Rattle.cj_pass.specs.contracts.pass.Pass as pass
use Rattle.cj_control.specs.contracts.control.Control as control
use Rattle.cj_control.proofs.Crossing.{control_send, control_sync, event_send}
use Rattle.cj_serve.specs.contracts.connection.Connection as connection
use Rattle.cj_serve.specs.contracts.crew.Worker as worker

pass_send : (J : RattleType) (n : naming.Ghosts J.Denot) → IsSend J → IsSend (pass.the_field J n).row
pass_send J n sj = search (event_send, seat.the_send, sendable) depth 40

pub connection_send : (J B S C I O T : RattleType) (n : naming.Ghosts J.Denot) (b : backend.Ghosts B.Denot T.Denot) (t : snap.Ghosts T.Denot) (s : store.Ghosts S.Denot)
    → IsSend J → IsSync J → IsSend B → IsSend S → IsSend C → IsSync C → IsSend I → IsSend O → IsSend (connection.the_row J B S C I O T n b t s)
connection_send J B S C I O T n b t s sj yj sb ss sc yc si so =
    recorded_send (connection.the_field J B S C I O T n b t s).row _ _ (connection.the_type J B S C I O T n b t s).to_one (struct_send (shape (connection.the_type J B S C I O T n b t s)) (
      search (heap.crosses, sendable) depth 20,
      (
        heap.Arc-send (control.the_row J B S T n b t s) (control_send J B S T n b t s sj sb ss) (control_sync J B S T n b t s sj yj sb ss),
        (
          pass_send J n sj,
          (
            heap.Arc-send C sc yc,
            (
              search sendable,
              (
                si,
                (
                  so,
                  tt,
                ),
              ),
            ),
          ),
        ),
      ),
    ))

pub worker_send : (J B S T : RattleType) (n : naming.Ghosts J.Denot) (b : backend.Ghosts B.Denot T.Denot) (t : snap.Ghosts T.Denot) (s : store.Ghosts S.Denot) → IsSend J → IsSync J → IsSend B → IsSend S → IsSend (worker.the_row J B S T n b t s)
worker_send J B S T n b t s sj yj sb ss =
    recorded_send (worker.the_field J B S T n b t s).row _ _ (worker.the_type J B S T n b t s).to_one (struct_send (shape (worker.the_type J B S T n b t s)) (
      heap.Arc-send (control.the_row J B S T n b t s) (control_send J B S T n b t s sj sb ss) (control_sync J B S T n b t s sj yj sb ss),
      (
        search sendable,
        tt,
      ),
    ))
