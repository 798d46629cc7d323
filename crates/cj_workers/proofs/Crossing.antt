-- What of the lanes of workers may cross to another thread.
use denote.RattleType.{RattleType}
use denote.Param.Send.{IsSend, IsSync, sendable, recorded_send, recorded_sync, struct_send, struct_sync}
use denote.Struct.Declared.{shape}
use Rattle.std.proofs.Crossing as heap
use Rattle.atomic_table.proofs.shared.Seat.TheSendSync as seat
use Rattle.cj_model.proofs.condition.CondNode.TheLaws.TheKnot as conditions
use Rattle.cj_model.specs.contracts.request.Entry as entry
use Rattle.cj_cluster.specs.contracts.event.Event as event
use Rattle.cj_pass.specs.declared.naming.Naming as naming
use Rattle.cj_pass.specs.contracts.pass.Pass as pass
use Rattle.cj_queue.proofs.Crossing.{shared_field_send, shared_field_sync}
use Rattle.cj_queue.proofs.JobCrossing.{job_send}
use Rattle.cj_queue.specs.contracts.job.Job as job
use Rattle.cj_workers.specs.contracts.report.Report as report
use Rattle.cj_workers.specs.contracts.lane.Reported as reported
use Rattle.cj_workers.specs.contracts.lane.WorkLane as work_lane

event_send : IsSend event.the_row
event_send = search (heap.crosses, conditions.crosses, sendable) depth 60 fits 20000

entry_send : IsSend (entry.the_field).row
entry_send = search (heap.crosses, conditions.crosses, sendable) depth 60 fits 20000

entry_sync : IsSync (entry.the_field).row
entry_sync = search (heap.crosses, conditions.crosses, sendable) depth 60 fits 20000

pass_send : (J : RattleType) (n : naming.Ghosts J.Denot) → IsSend J → IsSend (pass.the_field J n).row
pass_send J n sj = search (event_send, seat.the_send, sendable) depth 40

report_send : (J : RattleType) (n : naming.Ghosts J.Denot) → IsSend J → IsSend (report.the_field J n).row
report_send J n sj = search (entry_send, entry_sync, pass_send, heap.crosses, heap.frees, sendable) depth 60 fits 20000

reported_send : (J : RattleType) (n : naming.Ghosts J.Denot) → IsSend J → IsSend (reported.the_row J n)
reported_send J n sj = search (report_send, heap.crosses, sendable) depth 60 fits 20000

lane_field_send : (J : RattleType) (n : naming.Ghosts J.Denot) → IsSend J → IsSend (work_lane.the_field J n).row
lane_field_send J n sj = struct_send (shape (work_lane.the_type J n)) (
  shared_field_send (job.the_row J n) (job_send J n sj),
  (
    search (heap.crosses, sendable) depth 20,
    (
      search (reported_send, heap.crosses, sendable) depth 60 fits 20000,
      (
        search (heap.crosses, sendable) depth 20,
        tt,
      ),
    ),
  ),
)

lane_field_sync : (J : RattleType) (n : naming.Ghosts J.Denot) → IsSend J → IsSync (work_lane.the_field J n).row
lane_field_sync J n sj = struct_sync (shape (work_lane.the_type J n)) (
  shared_field_sync (job.the_row J n) (job_send J n sj),
  (
    search (heap.crosses, sendable) depth 20,
    (
      search (reported_send, heap.crosses, sendable) depth 60 fits 20000,
      (
        search (heap.crosses, sendable) depth 20,
        tt,
      ),
    ),
  ),
)

pub work_lane_send : (J : RattleType) (n : naming.Ghosts J.Denot) → IsSend J → IsSend (work_lane.the_row J n)
work_lane_send J n sj = recorded_send (work_lane.the_field J n).row _ _ (work_lane.the_type J n).to_one (lane_field_send J n sj)

pub work_lane_sync : (J : RattleType) (n : naming.Ghosts J.Denot) → IsSend J → IsSync (work_lane.the_row J n)
work_lane_sync J n sj = recorded_sync (work_lane.the_field J n).row _ _ (work_lane.the_type J n).to_one (lane_field_sync J n sj)
