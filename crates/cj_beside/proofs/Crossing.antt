-- A backend beside a store may cross to another thread where the backend may, whatever the store is: it has no store.
use denote.RattleType.{RattleType}
use denote.Param.Send.{IsSend, IsSync, sendable}
use Rattle.cj_beside.specs.contracts.backend.Beside as beside

pub beside_send : (B D Snap : RattleType) → IsSend B → IsSend (beside.the_row B D Snap)
beside_send B D Snap sb = search sendable depth 20

pub beside_sync : (B D Snap : RattleType) → IsSync B → IsSync (beside.the_row B D Snap)
beside_sync B D Snap sb = search sendable depth 20
