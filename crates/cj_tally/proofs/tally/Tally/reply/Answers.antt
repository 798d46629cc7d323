use Rattle.std.proofs.Common.{◌≡◌, ◌≢◌, Some, ap, rules, sym}
use Rattle.cj_model.specs.declared.answer.Outcome.TheVariants as outcome
use Rattle.cj_model.specs.declared.answer.Reply.TheVariants as reply
use Rattle.cj_model.specs.Wire.Replies.{outcome_reply}
use Rattle.cj_tally.specs.Tallies.{outcome_or_done}
use Rattle.cj_tally.proofs.Replying.{answered, replies_finished, replies_unfinished, spared_of}
use Rattle.cj_tally.proofs.tally.Tally.reply.Goals as goal
use Rattle.cj_tally.proofs.tally.Tally.reply.Goals.{else-targets-ne0-via-then-targets-ne0+else-targets-self-eq0, else-targets-ne0-via-else-targets-ne0}

pub returns-then-targets-self-eq0-clause-reply : goal.returns-then-targets-self-eq0-clause-reply
returns-then-targets-self-eq0-clause-reply c =
    replies_unfinished c.args.self c.args.targets (search rules) (search rules) (search rules) c.unfinished.result c.if-targets-ne0.true c.if-targets-self-eq0.true c.unfinished.ensures

pub returns-then-targets-self-eq0-clause-answers :
    goal.returns-then-targets-self-eq0-clause-answers
returns-then-targets-self-eq0-clause-answers c = answered c.args.self c.args.targets (search rules) (search rules) (search rules) (reply.Refused c.unfinished.result) (returns-then-targets-self-eq0-clause-reply c)

pub returns-in-Some-Done-clause-reply : goal.returns-in-Some-Done-clause-reply
returns-in-Some-Done-clause-reply c =
    let some : c.args.targets ≢ 0 → spared_of c.args.targets c.args.self.failed c.args.self.starved ≡ 0 → ⊥ =
    elim c.else-targets-ne0.branch [
      | else-targets-ne0-via-then-targets-ne0+else-targets-self-eq0 q ↦ λ ne z. q.if-targets-self-eq0.false z
      | else-targets-ne0-via-else-targets-ne0 q ↦ λ ne z. ne q.if-targets-ne0.false
    ]
    in
    let is : c.args.self.first_outcome ≡ Some (outcome.Done c.in-Some-Done.count) = search rules in
    replies_finished c.args.self c.args.targets (search rules) (search rules) (search rules) (reply.Done c.in-Some-Done.count) some (ap (λ o. outcome_reply (outcome_or_done o)) (sym is))

pub returns-in-Some-Done-clause-answers : goal.returns-in-Some-Done-clause-answers
returns-in-Some-Done-clause-answers c = answered c.args.self c.args.targets (search rules) (search rules) (search rules) (reply.Done c.in-Some-Done.count) (returns-in-Some-Done-clause-reply c)

pub returns-in-Some-Refused-clause-reply : goal.returns-in-Some-Refused-clause-reply
returns-in-Some-Refused-clause-reply c =
    let some : c.args.targets ≢ 0 → spared_of c.args.targets c.args.self.failed c.args.self.starved ≡ 0 → ⊥ =
    elim c.else-targets-ne0.branch [
      | else-targets-ne0-via-then-targets-ne0+else-targets-self-eq0 q ↦ λ ne z. q.if-targets-self-eq0.false z
      | else-targets-ne0-via-else-targets-ne0 q ↦ λ ne z. ne q.if-targets-ne0.false
    ]
    in
    let is : c.args.self.first_outcome ≡ Some (outcome.Refused c.in-Some-Refused.refusal) = search rules in
    replies_finished c.args.self c.args.targets (search rules) (search rules) (search rules) (reply.Refused c.in-Some-Refused.refusal) some (ap (λ o. outcome_reply (outcome_or_done o)) (sym is))

pub returns-in-Some-Refused-clause-answers : goal.returns-in-Some-Refused-clause-answers
returns-in-Some-Refused-clause-answers c = answered c.args.self c.args.targets (search rules) (search rules) (search rules) (reply.Refused c.in-Some-Refused.refusal) (returns-in-Some-Refused-clause-reply c)

pub returns-in-None-clause-reply : goal.returns-in-None-clause-reply
returns-in-None-clause-reply c =
    let some : c.args.targets ≢ 0 → spared_of c.args.targets c.args.self.failed c.args.self.starved ≡ 0 → ⊥ =
    elim c.else-targets-ne0.branch [
      | else-targets-ne0-via-then-targets-ne0+else-targets-self-eq0 q ↦ λ ne z. q.if-targets-self-eq0.false z
      | else-targets-ne0-via-else-targets-ne0 q ↦ λ ne z. ne q.if-targets-ne0.false
    ]
    in
    replies_finished c.args.self c.args.targets (search rules) (search rules) (search rules) (reply.Done 0) some (ap (λ o. outcome_reply (outcome_or_done o)) (sym c.in-None.is))

pub returns-in-None-clause-answers : goal.returns-in-None-clause-answers
returns-in-None-clause-answers c = answered c.args.self c.args.targets (search rules) (search rules) (search rules) (reply.Done 0) (returns-in-None-clause-reply c)
