use Rattle.std.proofs.Common.{◌∙◌}
use Rattle.cj_session.proofs.Sending.{sends_to, sends_rows, sends_in_place}
use Rattle.cj_session.proofs.send.send_rows.Goals as goal

pub returns-in-Ok-clause-bytes : goal.returns-in-Ok-clause-bytes
returns-in-Ok-clause-bytes g c =
    sends_to _ _ c.args.reply.now c.args.reply.now c.deref.result.now _ (sends_rows _ c.requires.rows.0 c.requires.rows.1 c.in-Ok.ensures.1) (c.deref.ensures.value ∙ c.in-Ok.ensures.0) c.write_all.ensures.bytes

pub returns-in-Err-clause-bytes : goal.returns-in-Err-clause-bytes
returns-in-Err-clause-bytes g c = sends_in_place _ _ c.args.reply.now c.in-Err.error _ _ c.requires.rows c.in-Err.ensures c.refusal_in_place.ensures c.send_refusal.ensures.bytes
