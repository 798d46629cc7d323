use Rattle.std.proofs.Common.{List, ℕ, arith, subst, ◌∙◌}
use Rattle.cj_top.proofs.Common.{appends_none, WritesAll}
use Rattle.cj_top.proofs.generated.write_summary.Goals as goal

pub returns-in-Err-clause-bytes : goal.returns-in-Err-clause-bytes
returns-in-Err-clause-bytes g c = (0, omega arith, appends_none (g.O.Sink.held c.args.output.now))

pub returns-in-Ok-clause-bytes : goal.returns-in-Ok-clause-bytes
returns-in-Ok-clause-bytes g c =
    subst (λ (piece : List ℕ). WritesAll (g.O.Sink.held c.args.output.now) (g.O.Sink.held c.write_all.new.output) piece c.write_all.result) (c.deref.ensures.value ∙ c.in-Ok.ensures) c.write_all.ensures.bytes
