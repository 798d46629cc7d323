use Rattle.std.proofs.Common.{◌≡◌, Some}
use Rattle.cj_book.specs.declared.error.StartError.{StartError}
use Rattle.cj_shelf.specs.declared.error.ShelfError.{ShelfError}
use Rattle.cj_completeness.proofs.Serving.{command_whole, comes_whole, dumps_starved, log_starved}
use Rattle.cj_completeness.proofs.QuietSessions.{did_not_fail}
use Rattle.cj_completeness.proofs.laws.serving_completes.Goals as goal
use Rattle.cj_program.specs.Served.{Counted, StopsAtDumps, StopsUnserved, TellsShelfRefusal, served_by}
use Rattle.cj_top.specs.Logs.{Found, TellsRefusal}

pub returns : goal.returns
returns g c = λ conf conf' log dumps back dumps_back input input' output output' errors errors' port port' status runs no_conf no_log no_dumps no_input no_output no_port keeps shelf other.
    let store = g.S.Store in
    let dump_store = g.D.Store in
    let source = g.I.Source in
    let sink = g.O.Sink in
    let told = g.E.Sink in
    let ports = g.P.Port in
    let found = Found store.tells (store.held log) in
    let before : Counted = record { input = source.faults input; output = sink.faults output; port = ports.faults port; accepted = ports.accepted port } in
    let now : Counted = record { input = source.faults input'; output = sink.faults output'; port = ports.faults port'; accepted = ports.accepted port' } in
    let idle : Type 0 = (input' ≡ input) × (output' ≡ output) × (port' ≡ port) in
    let untouched : Type 0 = dumps_back ≡ Some dumps in
    let tells_log : StartError → Type 0 = TellsRefusal (told.held errors) (told.held errors') (told.faults errors) (told.faults errors') in
    let tells_shelf : ShelfError → Type 0 = TellsShelfRefusal (told.held errors) (told.held errors') (told.faults errors) (told.faults errors') in
    command_whole found dumps (source.left input) (source.left input') (sink.held output) (sink.held output') before now status other no_input no_output no_port g.F.Store.tells (g.F.Store.held conf) _ _ _ _
    (λ c. served_by c dump_store.tells dump_store.held dump_store.faults) (λ quiet seven. did_not_fail _ (g.F.Store.faults conf) (g.F.Store.faults conf') quiet.0 no_conf seven)
    (λ c came. comes_whole found dumps (source.left input) (source.left input') (sink.held output) (sink.held output') before now status other no_input no_output no_port (served_by c dump_store.tells dump_store.held dump_store.faults) c
    (StopsUnserved store.faults store.held store.tells log back untouched tells_log idle) (StopsAtDumps dump_store.tells dump_store.held dump_store.faults dumps dumps_back tells_shelf idle) _
    (λ stops. log_starved store.faults store.held store.tells log back no_log keeps untouched tells_log idle c status stops)
    (λ stops. dumps_starved dump_store.tells dump_store.held dump_store.faults dumps dumps_back no_dumps shelf tells_shelf idle status stops) came.1) runs
