use Rattle.std.proofs.Common.{refl}
use Rattle.cj_session.proofs.Sending.{sends_to, sends_same}
use Rattle.cj_session.proofs.send.send.Goals as goal

pub returns-in-Done-clause-bytes : goal.returns-in-Done-clause-bytes
returns-in-Done-clause-bytes g c = sends_to _ _ c.args.reply.now _ c.encode_done.result _ (sends_same _ _ c.in-Done.is refl) c.encode_done.ensures c.write_all.ensures.bytes

pub returns-in-Stats-clause-bytes : goal.returns-in-Stats-clause-bytes
returns-in-Stats-clause-bytes g c = sends_to _ _ c.args.reply.now _ c.encode_stats.result _ (sends_same _ _ c.in-Stats.is refl) c.encode_stats.ensures c.write_all-in-Stats.ensures.bytes

pub returns-in-Refused-clause-bytes : goal.returns-in-Refused-clause-bytes
returns-in-Refused-clause-bytes g c = sends_to _ _ c.args.reply.now _ _ _ (sends_same _ _ c.in-Refused.is refl) refl c.send_refusal.ensures.bytes
