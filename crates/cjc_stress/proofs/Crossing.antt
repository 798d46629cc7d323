-- What the threads of a trial are handed may cross to them.
use denote.RattleType.{RattleType}
use denote.Param.Send.{IsSend, sendable, recorded_send, struct_send}
use denote.Struct.Declared.{shape}
use Rattle.std.proofs.Crossing as heap
use Rattle.atomic_table.proofs.shared.Seat.TheSendSync as seat
use Rattle.cj_outside.specs.contracts.draw.PcgDraw as draw
use Rattle.cj_pass.specs.declared.naming.Naming as naming
use Rattle.cj_pass.specs.contracts.pass.Pass as pass
use Rattle.cj_control.proofs.Crossing.{event_send}
use Rattle.cj_stress_text.specs.contracts.lines.Lines as lines
use Rattle.cjc_stress.specs.contracts.worker.Worker as worker

draw_send : IsSend (draw.the_field).row
draw_send = search sendable depth 40

lines_send : IsSend (lines.the_field).row
lines_send = search (heap.crosses, sendable) depth 40

pass_field_send : (N : RattleType) (n : naming.Ghosts N.Denot) → IsSend N → IsSend (pass.the_field N n).row
pass_field_send N n sn = search (event_send, seat.the_send, sendable) depth 40

pub worker_send : (N : RattleType) (n : naming.Ghosts N.Denot) → IsSend N → IsSend (worker.the_row N n)
worker_send N n sn = recorded_send (worker.the_field N n).row _ _ (worker.the_type N n).to_one (struct_send (shape (worker.the_type N n)) (
  search sendable,
  (
    search sendable,
    (
      search (pass_field_send, sendable) depth 20,
      (
        search (draw_send, sendable) depth 20,
        (
          search (lines_send, sendable) depth 20,
          tt,
        ),
      ),
    ),
  ),
))
