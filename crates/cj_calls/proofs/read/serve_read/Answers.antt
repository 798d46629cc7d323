use Rattle.std.proofs.Common.{◌≡◌, length, Option, None, Some, refl, ap, sym, ◌∙◌, subst, arith}
use Rattle.cj_model.specs.declared.request.Request.TheVariants as requests
use Rattle.cj_calls.proofs.Cited.{Answer, AnswersLookUp, IsFreshAnswer, Refusal, Refused, RepliesKept, Select, WorldState, WorldTurn, after_look, all_looked, answer_kept, cache_answered, call_of, counted_turn, found_kept, is_some, kept_inside, kept_looked, kept_turn, log, none_found, none_serve, query_begins, replied_from_cache, some_serve, turn_before_look, unserved, with_answer, with_cache}
use Rattle.cj_calls.proofs.read.serve_read.Goals as goal

pub returns-then-serving-eq0-clause-turn : goal.returns-then-serving-eq0-clause-turn
returns-then-serving-eq0-clause-turn g c =
    let old : WorldState = c.args.state.now in
    let begins = query_begins c.args.s c.args.user.now old c.serving-serving.result c.legal.ensures.world.sound in
    counted_turn g.B.Backend.tells c.args.s c.args.tx c.args.user.now c.args.select.now old old c.serving-serving.result c.serving-serving.result c.legal.ensures.world.sound c.requires.tx c.serving-serving.ensures.mask old.balance begins
    c.requires.stands refl c.refuse.new.state c.refuse.result c.refuse.ensures.counted
    (unserved g.B.Backend.tells c.args.s c.args.tx c.args.user.now c.args.select.now old old c.serving-serving.result c.serving-serving.result c.legal.ensures.world.sound c.requires.tx c.serving-serving.ensures.mask old.balance begins
    c.refuse.result c.if-serving-eq0.true (c.refuse.ensures.reply ∙ ap (λ (r : Refusal). Refused r) c.of_code.ensures))

pub returns-then-serving-eq0-clause-cache : goal.returns-then-serving-eq0-clause-cache
returns-then-serving-eq0-clause-cache g c =
    let same = ap (λ (w : WorldState). w.cache) c.refuse.ensures.counted in
    record {
      looked_up = λ outside served. absurd (none_serve c.args.state.now.core c.args.select.now c.serving-serving.result c.if-serving-eq0.true c.serving-serving.ensures.mask served);
      inside = λ _. same;
      unserved = λ _. same;
    }

pub returns-then-tx-ne0-clause-cache : goal.returns-then-tx-ne0-clause-cache
returns-then-tx-ne0-clause-cache g c =
    let same = c.ask_in_turn.ensures.cache ∙ kept_inside c.args.tx c.args.select.now (length (log c.args.state.now.core.history)) c.ask_in_turn.result c.args.state.now.cache c.if-tx-ne0.true in
    record {
      looked_up = λ outside _. absurd (c.if-tx-ne0.true outside);
      inside = λ _. same;
      unserved = λ _. same;
    }

pub reply_kept-requires-clause-kept : goal.reply_kept-requires-clause-kept
reply_kept-requires-clause-kept g c =
    let old : WorldState = c.args.state.now in
    let s = c.args.select.now in
    ap (λ (w : WorldState). is_some (answer_kept s w.cache)) c.look.ensures.looked ∙ (ap is_some (kept_looked s old.cache) ∙ (found_kept s old.cache ∙ (sym c.look.ensures.found ∙ c.if-look.true)))

pub returns-then-look-clause-turn : goal.returns-then-look-clause-turn
returns-then-look-clause-turn g c =
    let old : WorldState = c.args.state.now in
    let s : Select = c.args.select.now in
    let mid : WorldState = c.look.new.self in
    let outside : c.args.tx ≡ 0 = c.if-tx-ne0.false in
    let is = c.look.ensures.looked in
    let below = c.serving-serving.ensures.below in
    let turn =
    subst (λ (w : WorldState). (RepliesKept c.args.s s w c.reply_kept.result c.reply_kept.new.state) → WorldTurn g.B.Backend.tells c.args.s w (call_of w.core c.args.s c.args.tx c.args.user.now (requests.Select s) c.reply_kept.result) c.reply_kept.new.state) (sym is)
    (kept_turn g.B.Backend.tells c.args.s c.args.tx c.args.user.now s (with_cache old (after_look s old.cache)) c.serving-serving.result c.legal.ensures.world.sound
    (all_looked (IsFreshAnswer g.B.Backend.tells (log old.core.history)) s old.cache c.legal.ensures.fresh) outside c.serving-serving.ensures.mask c.if-serving-eq0.false (omega arith) c.requires.stands c.reply_kept.new.state c.reply_kept.result)
    c.reply_kept.ensures
    in
    turn_before_look g.B.Backend.tells c.args.s s old (call_of old.core c.args.s c.args.tx c.args.user.now (requests.Select s) c.reply_kept.result) c.reply_kept.new.state refl
    (subst (λ (w : WorldState). WorldTurn g.B.Backend.tells c.args.s w (call_of w.core c.args.s c.args.tx c.args.user.now (requests.Select s) c.reply_kept.result) c.reply_kept.new.state) is turn)

pub returns-then-look-clause-cache : goal.returns-then-look-clause-cache
returns-then-look-clause-cache g c =
    let old : WorldState = c.args.state.now in
    let s : Select = c.args.select.now in
    let is = c.look.ensures.looked in
    let k = subst (λ (w : WorldState). RepliesKept c.args.s s w c.reply_kept.result c.reply_kept.new.state) is c.reply_kept.ensures in
    let found : answer_kept s old.cache ≡ Some k.answer = sym (kept_looked s old.cache) ∙ k.kept in
    record {
      looked_up = λ _ _. subst (λ (o : Option Answer). AnswersLookUp s o old (call_of old.core c.args.s c.args.tx c.args.user.now (requests.Select s) c.reply_kept.result) c.reply_kept.new.state) (sym found) (replied_from_cache c.args.s s old (after_look s old.cache) c.reply_kept.result c.reply_kept.new.state (call_of old.core c.args.s c.args.tx c.args.user.now (requests.Select s) c.reply_kept.result) k refl refl);
      inside = λ inside. absurd (inside c.if-tx-ne0.false);
      unserved = λ none. absurd (some_serve old.core s c.serving-serving.result c.if-serving-eq0.false (omega arith) c.serving-serving.ensures.mask none);
    }

pub returns-clause-turn : goal.returns-clause-turn
returns-clause-turn g c =
    let old : WorldState = c.args.state.now in
    let s : Select = c.args.select.now in
    turn_before_look g.B.Backend.tells c.args.s s old (call_of old.core c.args.s c.args.tx c.args.user.now (requests.Select s) c.ask_in_turn-2.result) c.ask_in_turn-2.new.state refl
    (subst (λ (w : WorldState). WorldTurn g.B.Backend.tells c.args.s w (call_of w.core c.args.s c.args.tx c.args.user.now (requests.Select s) c.ask_in_turn-2.result) c.ask_in_turn-2.new.state) c.look.ensures.looked c.ask_in_turn-2.ensures.turn)

pub returns-clause-cache : goal.returns-clause-cache
returns-clause-cache g c =
    let old : WorldState = c.args.state.now in
    let s : Select = c.args.select.now in
    let reply = c.ask_in_turn-2.result in
    let outside : c.args.tx ≡ 0 = c.if-tx-ne0.false in
    let none : answer_kept s old.cache ≡ None = none_found s old.cache (sym c.look.ensures.found ∙ c.if-look.false) in
    let after : c.ask_in_turn-2.new.state.cache ≡ with_answer s (length (log old.core.history)) reply (after_look s old.cache) =
    c.ask_in_turn-2.ensures.cache
    ∙ (ap (λ (w : WorldState). cache_answered c.args.tx s (length (log w.core.history)) reply w.cache) c.look.ensures.looked
    ∙ ap (λ t. cache_answered t s (length (log old.core.history)) reply (after_look s old.cache)) outside)
    in
    record {
      looked_up = λ _ _. subst (λ (o : Option Answer). AnswersLookUp s o old (call_of old.core c.args.s c.args.tx c.args.user.now (requests.Select s) reply) c.ask_in_turn-2.new.state) (sym none) after;
      inside = λ inside. absurd (inside outside);
      unserved = λ unserved. absurd (some_serve old.core s c.serving-serving.result c.if-serving-eq0.false (omega arith) c.serving-serving.ensures.mask unserved);
    }
