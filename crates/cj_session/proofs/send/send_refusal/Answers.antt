use Rattle.std.proofs.Common.{ℕ, List, subst}
use Rattle.cj_outside.specs.Streams.{WritesAll}
use Rattle.cj_session.proofs.send.send_refusal.Goals as goal

pub returns-clause-bytes : goal.returns-clause-bytes
returns-clause-bytes g c =
    let held = g.O.Sink.held in
    subst (λ (t : List ℕ). WritesAll (held c.args.output.now) (held c.write_all.new.output) t c.write_all.result) c.encode_refused.ensures c.write_all.ensures.bytes
