use Rattle.std.proofs.Common.{refl, subst}
use Rattle.cj_session.proofs.Common.{Appends, Refusal, Refused, reply_bytes}
use Rattle.cj_session.proofs.send.refuse.Goals as goal

pub returns-in-Ok-clause-bytes : goal.returns-in-Ok-clause-bytes
returns-in-Ok-clause-bytes g c =
    let held = g.O.Sink.held in
    (refl, subst (λ (r : Refusal). Appends (held c.args.output.now) (held c.send_refusal.new.output) (reply_bytes (Refused r))) c.bad_frame.ensures c.in-Ok.ensures.bytes)
