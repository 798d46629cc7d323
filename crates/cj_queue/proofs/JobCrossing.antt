-- A job may cross to another thread.
use denote.RattleType.{RattleType}
use denote.Param.Send.{IsSend, IsSync, sendable, recorded_send, struct_send}
use denote.Struct.Declared.{shape}
use Rattle.std.proofs.Crossing as heap
use Rattle.atomic_table.proofs.shared.Seat.TheSendSync as seat
use Rattle.cj_model.proofs.condition.CondNode.TheLaws.TheKnot as conditions
use Rattle.cj_model.specs.contracts.request.Entry as entry
use Rattle.cj_cluster.specs.contracts.event.Event as event
use Rattle.cj_pass.specs.declared.naming.Naming as naming
use Rattle.cj_pass.specs.contracts.pass.Pass as pass
use Rattle.cj_queue.specs.contracts.job.Job as job

event_send : IsSend event.the_row
event_send = search (heap.crosses, conditions.crosses, sendable) depth 60 fits 20000

entry_send : IsSend (entry.the_field).row
entry_send = search (heap.crosses, conditions.crosses, sendable) depth 60 fits 20000

entry_sync : IsSync (entry.the_field).row
entry_sync = search (heap.crosses, conditions.crosses, sendable) depth 60 fits 20000

pass_send : (J : RattleType) (n : naming.Ghosts J.Denot) → IsSend J → IsSend (pass.the_field J n).row
pass_send J n sj = search (event_send, seat.the_send, sendable) depth 40

pub job_send : (J : RattleType) (n : naming.Ghosts J.Denot) → IsSend J → IsSend (job.the_row J n)
job_send J n sj = recorded_send (job.the_field J n).row _ _ (job.the_type J n).to_one (struct_send (shape (job.the_type J n)) (
  search sendable,
  (
    search (entry_send, entry_sync, heap.crosses, heap.frees, sendable) depth 60 fits 20000,
    (
      search (pass_send, sendable) depth 40,
      tt,
    ),
  ),
))
