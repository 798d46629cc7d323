use Rattle.std.proofs.Common.{sym, subst, map, ◌∙◌}
use Rattle.std.specs.Prelude.{IfSome, string_bytes}
use Rattle.std.proofs.lemmas.Result.{IfOk-weaker}
use Rattle.cj_args.specs.Words.{AsksCommand}
use Rattle.cj_args.proofs.Asking.{asked_is, asked_read}
use Rattle.cj_args.proofs.reading.read.Goals as goal

pub returns-clause-found : goal.returns-clause-found
returns-clause-found c =
    let words = map string_bytes c.args.words.now in
    IfOk-weaker c.asked_of.result _ _ (λ found h asked.
    (λ e. subst (λ o. IfSome o (AsksCommand words)) (sym h ∙ e) (asked_is words), λ asks. h ∙ asked_read words asked asks)) c.asked_of.ensures.found
