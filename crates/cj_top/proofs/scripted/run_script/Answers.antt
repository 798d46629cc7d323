use Rattle.std.proofs.Common.{◌≡◌, ◌∙◌}
use Rattle.cj_script.specs.declared.play.ScriptEnd.TheVariants as ends
use Rattle.cj_top.proofs.Cited.{same_cause}
use Rattle.cj_top.proofs.scripted.run_script.Goals as goal

pub returns-clause-quiet : goal.returns-clause-quiet
returns-clause-quiet g c other = c.name_line.ensures.other (λ ten. other (c.status_of_script.ensures.status ∙ ten))

pub returns-clause-input : goal.returns-clause-input
returns-clause-input g c =
    let fault = c.status_of_script.ensures.read_fault in
    same_cause (c.in_ok-end.end ≡ ends.ReadFault) (c.status_of_script.result ≡ 5) _ _ fault.0 fault.1 c.in_ok-end.ensures.input

pub returns-clause-output : goal.returns-clause-output
returns-clause-output g c =
    let fault = c.status_of_script.ensures.write_fault in
    same_cause (c.in_ok-end.end ≡ ends.WriteFault) (c.status_of_script.result ≡ 6) _ _ fault.0 fault.1 c.in_ok-end.ensures.output
