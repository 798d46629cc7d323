use Rattle.std.proofs.Common.{sym, subst, ◌∙◌}
use Rattle.std.specs.Str.Parse.{ParsesUnsigned}
use Rattle.cj_args.proofs.Numerals.{numeral_utf8, numeral_parses}
use Rattle.cj_args.proofs.numbers.number.Goals as goal

pub returns-in-Err-parse : goal.returns-in-Err-parse
returns-in-Err-parse c =
    let parses = subst (λ z. ParsesUnsigned 64 10 z c.parse.result) c.in-Ok.ensures.cases.0 c.parse.ensures.value.0 in
    let is = numeral_parses c.args.word.now c.parse.result (sym c.is_numeral.ensures ∙ c.if-not-is_numeral.false) parses in
    let no = c.in-Err-parse.is in
    absurd (cc)

pub returns-in-Err : goal.returns-in-Err
returns-in-Err c = absurd (c.in-Err.ensures.cases.0 (numeral_utf8 c.args.word.now (sym c.is_numeral.ensures ∙ c.if-not-is_numeral.false)))
