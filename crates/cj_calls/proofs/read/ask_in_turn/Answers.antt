use Rattle.std.proofs.Common.{◌≡◌, true, length, refl, ap, sym, ◌∙◌, subst, arith}
use Rattle.cj_model.specs.declared.request.Request.TheVariants as requests
use Rattle.cj_calls.proofs.Cited.{Balance, CanServe, Core, QuerySoFar, StandsBetweenCalls, WorldState, attempted_turn, cache_answered, counted_turn, in_mask, in_vain, log, not_kept, query_begins, query_goes_on, query_picks, query_stands, read_over, same_log, serves_still, serving_is_backend, with_core, with_request_counted}
use Rattle.cj_calls.proofs.read.ask_in_turn.Goals as goal

pub loop-b-init : goal.loop-b-init
loop-b-init g c = record {
  so_far = query_begins c.args.s c.args.user.now c.args.state.now c.args.serving c.legal.ensures.world.sound;
  below = c.requires.below;
  cache = refl;
}

pub attempt-requires-clause-stands : goal.attempt-requires-clause-stands
attempt-requires-clause-stands g c =
    subst (λ (w : WorldState). StandsBetweenCalls w.core c.args.s) (sym c.in-Some.ensures.picked)
    (query_stands c.args.s c.args.user.now c.args.state.now c.loop-b.state c.args.serving c.loop-b.left c.loop-b.state.balance c.requires.stands c.loop-b.invariant.so_far)

pub attempt-requires-clause-serves : goal.attempt-requires-clause-serves
attempt-requires-clause-serves g c =
    let so_far = c.loop-b.invariant.so_far in
    let there : in_mask c.args.serving c.in-Some.b ≡ true = so_far.within c.in-Some.b c.in-Some.ensures.first.candidate in
    subst (λ (w : WorldState). CanServe w.core.placement w.core.history (requests.Select c.args.select.now) c.in-Some.b) (sym c.in-Some.ensures.picked)
    (subst (λ (p : Core). CanServe p.placement c.loop-b.state.core.history (requests.Select c.args.select.now) c.in-Some.b) (sym so_far.core)
    (serves_still g.B.Backend.tells c.args.s c.args.tx c.args.user.now c.args.select.now c.args.state.now c.loop-b.state c.args.serving c.loop-b.left c.legal.ensures.world.sound c.requires.tx
    c.requires.serving c.loop-b.state.balance so_far c.in-Some.b ((c.requires.serving c.in-Some.b).1 there)))

pub returns-in-Some-attempt-clause-turn : goal.returns-in-Some-attempt-clause-turn
returns-in-Some-attempt-clause-turn g c =
    let old : WorldState = c.args.state.now in
    let now : WorldState = c.pick.new.self in
    let balance : Balance = c.loop-b.state.balance in
    let so_far : QuerySoFar c.args.s c.args.user.now old c.args.serving c.loop-b.left balance now =
    query_picks c.args.s c.args.user.now old c.loop-b.state now c.args.serving c.loop-b.left balance (read_over balance c.in-Some.b) c.in-Some.ensures.picked c.loop-b.invariant.so_far
    in
    let there : in_mask c.args.serving c.in-Some.b ≡ true = so_far.within c.in-Some.b c.in-Some.ensures.first.candidate in
    attempted_turn g.B.Backend.tells c.args.s c.args.tx c.args.user.now c.args.select.now old now c.args.serving c.loop-b.left c.legal.ensures.world.sound c.requires.tx c.requires.serving balance so_far
    (query_stands c.args.s c.args.user.now old now c.args.serving c.loop-b.left balance c.requires.stands so_far) c.attempt.new.state c.attempt.ensures.setup c.attempt.ensures.recovery_log c.in-Some-attempt.reply c.in-Some.b
    (serving_is_backend g.B.Backend.tells old c.args.select.now c.args.serving c.in-Some.b c.legal.ensures.world c.requires.serving there) c.in-Some.ensures.first (ap (λ (w : WorldState). w.balance) c.in-Some.ensures.picked) c.in-Some-attempt.ensures.came

pub loop-b-preserved : goal.loop-b-preserved
loop-b-preserved g c =
    let old : WorldState = c.args.state.now in
    let now : WorldState = c.pick.new.self in
    let balance : Balance = c.loop-b.state.balance in
    let so_far : QuerySoFar c.args.s c.args.user.now old c.args.serving c.loop-b.left balance now =
    query_picks c.args.s c.args.user.now old c.loop-b.state now c.args.serving c.loop-b.left balance (read_over balance c.in-Some.b) c.in-Some.ensures.picked c.loop-b.invariant.so_far
    in
    let came = c.in_default-attempt.ensures.came in
    let less = c.without_bit-left.ensures.less in
    let below = c.loop-b.invariant.below in
    record {
      so_far =
          query_goes_on c.args.s c.args.user.now old now c.attempt.new.state c.args.serving c.loop-b.left c.without_bit-left.result c.in-Some.b balance
          (serving_is_backend g.B.Backend.tells old c.args.select.now c.args.serving c.in-Some.b c.legal.ensures.world c.requires.serving (so_far.within c.in-Some.b c.in-Some.ensures.first.candidate)) so_far came.0 came.1 c.attempt.ensures.setup c.attempt.ensures.recovery_log
          c.without_bit-left.ensures.bits c.in-Some.ensures.first (ap (λ (w : WorldState). w.balance) c.in-Some.ensures.picked);
      below = omega (arith, less, below);
      cache = c.in_default-attempt.ensures.cache ∙ (ap (λ (w : WorldState). w.cache) c.in-Some.ensures.picked ∙ c.loop-b.invariant.cache);
    }

pub refuse-requires-clause-stands : goal.refuse-requires-clause-stands
refuse-requires-clause-stands g c =
    subst (λ (w : WorldState). StandsBetweenCalls w.core c.args.s) (sym (c.in_default.ensures.same refl))
    (query_stands c.args.s c.args.user.now c.args.state.now c.loop-b.state c.args.serving c.loop-b.left c.loop-b.state.balance c.requires.stands c.loop-b.invariant.so_far)

pub returns-clause-turn : goal.returns-clause-turn
returns-clause-turn g c =
    let old : WorldState = c.args.state.now in
    let now : WorldState = c.loop-b.state in
    let so_far = c.loop-b.invariant.so_far in
    counted_turn g.B.Backend.tells c.args.s c.args.tx c.args.user.now c.args.select.now old now c.args.serving c.loop-b.left c.legal.ensures.world.sound c.requires.tx c.requires.serving now.balance so_far
    (query_stands c.args.s c.args.user.now old now c.args.serving c.loop-b.left now.balance c.requires.stands so_far) refl c.refuse.new.state c.refuse.result (c.refuse.ensures.counted ∙ ap (λ (w : WorldState). with_core w (with_request_counted w.core c.args.s)) (c.in_default.ensures.same refl))
    (in_vain g.B.Backend.tells c.args.s c.args.tx c.args.user.now c.args.select.now old now c.args.serving c.loop-b.left c.legal.ensures.world.sound c.requires.tx c.requires.serving now.balance so_far
    c.refuse.result (c.in_default.ensures.none.0 refl) c.requires.some c.refuse.ensures.reply)

pub returns-in-Some-attempt-clause-cache : goal.returns-in-Some-attempt-clause-cache
returns-in-Some-attempt-clause-cache g c =
    let old : WorldState = c.args.state.now in
    let now : WorldState = c.loop-b.state in
    let as_long = ap length (same_log g.B.Backend.tells c.args.s c.args.tx c.args.user.now c.args.select.now old now c.args.serving c.loop-b.left c.legal.ensures.world.sound c.requires.tx c.requires.serving now.balance c.loop-b.invariant.so_far) in
    c.in-Some-attempt.ensures.cache
    ∙ (ap (λ (w : WorldState). cache_answered c.args.tx c.args.select.now (length (log w.core.history)) c.in-Some-attempt.reply w.cache) c.in-Some.ensures.picked
    ∙ (ap (λ n. cache_answered c.args.tx c.args.select.now n c.in-Some-attempt.reply now.cache) as_long
    ∙ ap (cache_answered c.args.tx c.args.select.now (length (log old.core.history)) c.in-Some-attempt.reply) c.loop-b.invariant.cache))

pub returns-clause-cache : goal.returns-clause-cache
returns-clause-cache g c =
    let same : c.refuse.new.state.cache ≡ c.args.state.now.cache = ap (λ (w : WorldState). w.cache) c.refuse.ensures.counted ∙ (ap (λ (w : WorldState). w.cache) (c.in_default.ensures.same refl) ∙ c.loop-b.invariant.cache) in
    same ∙ sym (not_kept c.args.tx c.args.select.now (length (log c.args.state.now.core.history)) _ c.refuse.result c.args.state.now.cache c.refuse.ensures.reply)
