use Rattle.std.proofs.Common.{sym, map}
use Rattle.std.specs.Prelude.{string_bytes}
use Rattle.std.proofs.lemmas.Result.{IfErr-weaker}
use Rattle.cj_args.proofs.Asking.{work_said}
use Rattle.cj_args.proofs.reading.asked_of.Goals as goal

pub returns-in-Some-verb_of-clause-memory : goal.returns-in-Some-verb_of-clause-memory
returns-in-Some-verb_of-clause-memory c =
    let words = map string_bytes c.args.words.now in
    let rest = map string_bytes c.in-Some.rest.now in
    IfErr-weaker c.asked_of_verb.result _ _ (λ _ some.
    work_said words rest c.in-Some.word.now c.in-Some-verb_of.verb (sym c.in-Some.ensures) (sym c.in-Some-verb_of.ensures) some) c.asked_of_verb.ensures.memory
