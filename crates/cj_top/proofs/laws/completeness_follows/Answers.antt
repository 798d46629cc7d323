use Rattle.std.proofs.Common.{◌≡◌}
use Rattle.cj_top.proofs.Cited.{Found, GoesOnIn, ReadsLog, RefusesLog, TellsRefusal, command_completes, not_failed}
use Rattle.cj_top.proofs.laws.completeness_follows.Goals as goal

pub returns : goal.returns
returns g c = λ command conf log log' input input' output output' errors errors' clock status runs read wrote read_same read_room wrote_same wrote_room one seven eight twelve.
    let source = g.I.Source in
    let sink = g.O.Sink in
    let told = g.E.Sink in
    let store = g.S.Store in
    let idle = (input' ≡ input) × (output' ≡ output) in
    command_completes (source.left input) (sink.held output) (sink.held output') status one (not_failed _ _ _ read read_same read_room) (not_failed _ _ _ wrote wrote_same wrote_room) seven eight twelve (Found store.tells (store.held log))
    (GoesOnIn store.faults store.held store.may store.tells log log') (ReadsLog store.faults store.held store.tells log log') (log' ≡ log) (RefusesLog store.faults store.held store.tells log log')
    (TellsRefusal (told.held errors) (told.held errors') (told.faults errors) (told.faults errors')) idle ((input' ≡ input) × (output' ≡ output) × (errors' ≡ errors)) (g.C.Clock.moment clock) (source.left input') (told.held errors) (told.held errors')
    (told.faults errors) (told.faults errors') command g.F.Store.tells (g.F.Store.held conf) _ _ _ runs
