use Rattle.std.proofs.Common.{◌≡◌, length, replicate, subst}
use Rattle.cj_top.specs.declared.piped.PipeError.TheVariants as pipe_error
use Rattle.cj_top.proofs.Cited.{PipeError, RefusesLog, RefusesPipe, counted_at, in_memory, new_backend, placement_of}
use Rattle.cj_top.proofs.program.pipe_command.Goals as goal

pub returns-in-Err-Start-default-clause-log : goal.returns-in-Err-Start-default-clause-log
returns-in-Err-Start-default-clause-log g c =
    let s = g.S.Store in
    let stopped = c.in-Err-Start-default in
    let backends = replicate (length c.args.conf.placement.names) (new_backend (in_memory c.args.conf)) in
    let is : stopped.field-0-0 ≡ pipe_error.Start stopped.error = stopped.field-0-0-is in
    let refuses : RefusesLog s.faults s.held s.tells c.args.log stopped.log stopped.error =
    subst (λ (e : PipeError). RefusesPipe s.faults s.held s.may s.tells c.args.log stopped.log (placement_of c.args.conf.placement) backends e) is stopped.ensures.refused
    in
    counted_at s.faults s.held s.tells c.args.log stopped.log stopped.error c.stop_at_log.result c.stop_at_log.ensures.status refuses
