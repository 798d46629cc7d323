-- What of a lane may cross to another thread.
use denote.RattleType.{RattleType}
use denote.Param.Send.{IsSend, IsSync, sendable}
use Rattle.std.proofs.Crossing as heap
use Rattle.atomic_table.proofs.owned.Table.TheSendSync as table
use Rattle.atomic_table.proofs.shared.Seat.TheSendSync as seat
use Rattle.cj_queue.specs.contracts.lane.Lane as lane
use Rattle.cj_queue.specs.contracts.locked.LockedPoster as locked_poster
use Rattle.cj_queue.specs.contracts.locked.LockedTaker as locked_taker
use Rattle.cj_queue.specs.contracts.shared.SharedLane as shared_lane

lane_send : (T : RattleType) → IsSend T → IsSend (lane.the_field T).row
lane_send T st = search (table.the_field_send, heap.crosses, heap.send, sendable) depth 60 fits 20000

lane_sync : (T : RattleType) → IsSend T → IsSync (lane.the_field T).row
lane_sync T st = search (table.the_field_sync, heap.crosses, heap.send, heap.sync, sendable) depth 60 fits 20000

locked_poster_send : (T : RattleType) → IsSend T → IsSend (locked_poster.the_row T)
locked_poster_send T st = search (lane_send, lane_sync, seat.the_send, heap.crosses, sendable) depth 60 fits 20000

locked_taker_send : (T : RattleType) → IsSend T → IsSend (locked_taker.the_row T)
locked_taker_send T st = search (lane_send, lane_sync, seat.the_send, heap.crosses, sendable) depth 60 fits 20000

pub shared_lane_sync : (T : RattleType) → IsSend T → IsSync (shared_lane.the_row T)
shared_lane_sync T st = search (locked_poster_send, locked_taker_send, heap.crosses, sendable) depth 60 fits 20000

pub shared_lane_send : (T : RattleType) → IsSend T → IsSend (shared_lane.the_row T)
shared_lane_send T st = search (locked_poster_send, locked_taker_send, heap.crosses, sendable) depth 60 fits 20000

-- and as the field of another type
pub shared_field_sync : (T : RattleType) → IsSend T → IsSync (shared_lane.the_field T).row
shared_field_sync T st = search (locked_poster_send, locked_taker_send, heap.crosses, sendable) depth 60 fits 20000

pub shared_field_send : (T : RattleType) → IsSend T → IsSend (shared_lane.the_field T).row
shared_field_send T st = search (locked_poster_send, locked_taker_send, heap.crosses, sendable) depth 60 fits 20000
