-- What the thread of the console is handed may go to it. T is the type of the backends' snapshots.
use denote.RattleType.{RattleType}
use denote.Ref.{NamedLft}
use denote.Param.Send.{IsSend, IsSync, sendable, recorded_send, struct_send}
use denote.Struct.Declared.{shape}
use Rattle.std.proofs.Crossing as heap
use Rattle.atomic_table.proofs.shared.Seat.TheSendSync as seat
use Rattle.cj_outside.specs.declared.store.Store as store
use Rattle.cj_backend.specs.declared.backend.Backend as backend
use Rattle.cj_backend.specs.declared.backend.Snap as snap
use Rattle.cj_pass.specs.declared.naming.Naming as naming
use Rattle.cj_pass.specs.contracts.pass.Pass as pass
use Rattle.cj_shelf.specs.contracts.shelf.Shelf as shelf
use Rattle.cj_control.proofs.Crossing.{control_sync, event_send}
use Rattle.cj_served.specs.contracts.serving.Chatting as chatting

pass_send : (J : RattleType) (n : naming.Ghosts J.Denot) → IsSend J → IsSend (pass.the_field J n).row
pass_send J n sj = search (event_send, seat.the_send, sendable) depth 40

shelf_send : (D : RattleType) (d : store.Ghosts D.Denot) → IsSend D → IsSend (shelf.the_field D d).row
shelf_send D d sd = search (heap.crosses, sendable) depth 60 fits 20000

pub chatting_send : (a : NamedLft) (J B S D I O T : RattleType) (n : naming.Ghosts J.Denot) (b : backend.Ghosts B.Denot T.Denot) (t : snap.Ghosts T.Denot) (s : store.Ghosts S.Denot) (d : store.Ghosts D.Denot)
    → IsSend J → IsSync J → IsSend B → IsSend S → IsSend D → IsSend I → IsSend O → IsSend (chatting.the_row a J B S D I O T n b t s d)
chatting_send a J B S D I O T n b t s d sj yj sb ss sd si so =
    recorded_send (chatting.the_field a J B S D I O T n b t s d).row _ _ (chatting.the_type a J B S D I O T n b t s d).to_one (struct_send (shape (chatting.the_type a J B S D I O T n b t s d)) (
      search (heap.crosses, sendable) depth 20,
      (
        search (control_sync, heap.crosses, sendable) depth 40,
        (
          search (pass_send, sendable) depth 20,
          (
            search (shelf_send, sendable) depth 20,
            (
              search sendable,
              (
                search sendable,
                tt,
              ),
            ),
          ),
        ),
      ),
    ))
