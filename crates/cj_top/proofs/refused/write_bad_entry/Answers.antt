use Rattle.std.proofs.Common.{ℕ, List, ◌∙◌, subst}
use Rattle.cj_outside.specs.Streams.{WritesAll}
use Rattle.cj_top.proofs.refused.write_bad_entry.Goals as goal

pub returns-in-Ok-clause-bytes : goal.returns-in-Ok-clause-bytes
returns-in-Ok-clause-bytes g c =
    let held = g.E.Sink.held in
    subst (λ (t : List ℕ). WritesAll (held c.args.errors.now) (held c.write_all.new.output) t c.write_all.result) (c.as_bytes.ensures.value ∙ c.in-Ok.ensures) c.write_all.ensures.bytes
