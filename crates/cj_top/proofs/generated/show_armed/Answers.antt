use Rattle.std.proofs.Common.{List, map, arith}
use Rattle.std.proofs.lemmas.List.{length-map}
use Rattle.cj_top.proofs.Cited.{FlakyState, MemoryState, arming_of, backend_within, faults_by, times_armed, within_all, within_more}
use Rattle.cj_top.proofs.generated.show_armed.Goals as goal

pub loop-backend-init : goal.loop-backend-init
loop-backend-init c = λ b lt. absurd (omega (arith, lt))

pub loop-backend-preserved : goal.loop-backend-preserved
loop-backend-preserved c =
    let backends : List (FlakyState MemoryState) = c.args.backends.now in
    let i = c.loop-backend.backend-index in
    within_more (map (faults_by (λ (s : MemoryState). 0)) backends) (times_armed arming_of backends) i (backend_within backends c.backend-item.result i (omega arith) c.backend-item.is c.legal.ensures) c.loop-backend.invariant

pub returns : goal.returns
returns c =
    let backends : List (FlakyState MemoryState) = c.args.backends.now in
    let size = length-map backends (faults_by (λ (s : MemoryState). 0)) in
    within_all (map (faults_by (λ (s : MemoryState). 0)) backends) (times_armed arming_of backends) c.loop-backend.backend-index (omega (arith, size)) c.loop-backend.invariant
