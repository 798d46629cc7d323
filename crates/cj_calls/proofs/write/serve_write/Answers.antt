use Rattle.std.proofs.Common.{List, ℕ, refl, subst}
use Rattle.cj_calls.proofs.Cited.{EntryEnded, begun_running, begun_user, begun_waits, ended_follows, open_user, own_entry, refused, refused_follows, refused_starving, scheduled_starving, stands_refused, wrote}
use Rattle.cj_calls.proofs.write.serve_write.Goals as goal

pub finish-reply-requires-clause-open : goal.finish-reply-requires-clause-open
finish-reply-requires-clause-open g c =
    begun_running c.args.s _ c.args.state.now c.schedule_for.new.state c.requires.stands.idle c.in-Ok.ensures.ok

pub finish-reply-requires-clause-waits : goal.finish-reply-requires-clause-waits
finish-reply-requires-clause-waits g c =
    begun_waits c.args.s _ c.args.state.now c.schedule_for.new.state c.requires.stands.idle c.in-Ok.ensures.ok refl

pub returns-in-Ok-clause-turn : goal.returns-in-Ok-clause-turn
returns-in-Ok-clause-turn g c =
    let old = c.args.state.now in
    let begun = c.schedule_for.new.state in
    let user = begun_user c.args.s _ old begun c.requires.stands.idle c.in-Ok.ensures.ok in
    let ended = subst (λ (u : List ℕ). EntryEnded g.B.Backend.tells c.args.s u begun c.finish-reply.result.0 c.finish-reply.new.state) user c.finish-reply.ensures.ended in
    wrote g.B.Backend.tells c.args.s c.args.tx c.args.user.now c.args.act c.finish-reply.result.0 old begun c.finish-reply.new.state c.in-Ok.number c.legal.ensures.world.sound c.requires.stands ended c.in-Ok.ensures.scheduled c.in-Ok.ensures.ok

pub returns-in-Err-clause-turn : goal.returns-in-Err-clause-turn
returns-in-Err-clause-turn g c =
    let old = c.args.state.now in
    rw (c.refuse.ensures.reply)
    (refused g.B.Backend.tells c.args.s c.args.tx c.args.user.now c.args.act old c.schedule_for.new.state c.refuse.new.state c.in-Err.refusal c.legal.ensures.world.sound c.requires.stands c.requires.fits c.in-Err.ensures.err c.refuse.ensures.counted c.in-Err.ensures.scheduled)

pub refuse-requires-clause-stands : goal.refuse-requires-clause-stands
refuse-requires-clause-stands g c =
    stands_refused c.args.s (own_entry c.args.state.now.core c.args.s c.args.tx c.args.user.now c.args.act) c.in-Err.refusal c.args.state.now c.schedule_for.new.state c.requires.stands c.in-Err.ensures.err

pub returns-in-Ok-clause-cache : goal.returns-in-Ok-clause-cache
returns-in-Ok-clause-cache g c =
    ended_follows g.B.Backend.tells c.args.s (open_user c.schedule_for.new.state.core) c.args.state.now c.schedule_for.new.state c.finish-reply.new.state c.finish-reply.result.0 c.in-Ok.ensures.ok.cache c.finish-reply.ensures.ended

pub returns-in-Err-clause-cache : goal.returns-in-Err-clause-cache
returns-in-Err-clause-cache g c =
    refused_follows c.args.state.now c.schedule_for.new.state c.refuse.new.state c.args.s _ c.in-Err.refusal c.in-Err.ensures.err c.refuse.ensures.counted

pub returns-in-Ok-clause-starved : goal.returns-in-Ok-clause-starved
returns-in-Ok-clause-starved g c =
    scheduled_starving c.args.s _ c.args.state.now c.schedule_for.new.state c.finish-reply.new.state c.finish-reply.result.1 c.in-Ok.ensures.ok c.finish-reply.ensures.starved

pub returns-in-Err-clause-starved : goal.returns-in-Err-clause-starved
returns-in-Err-clause-starved g c = refused_starving c.args.s _ c.in-Err.refusal c.args.state.now c.schedule_for.new.state c.refuse.new.state c.in-Err.ensures.err c.refuse.ensures.counted
