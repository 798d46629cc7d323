use Rattle.std.proofs.Common.{◌∙◌, sym, subst}
use Rattle.std.specs.Str.Parse.{ParsesUnsigned}
use Rattle.cj_words.proofs.Numbers.{no_numeral, number_utf8, number_parses, number_one, numeral_number}
use Rattle.cj_words.proofs.words.number.Goals as goal

pub returns-then-not-is_numeral : goal.returns-then-not-is_numeral
returns-then-not-is_numeral c = no_numeral c.args.word.now (sym c.is_numeral.ensures ∙ c.if-not-is_numeral.true)

pub returns-in-Ok-parse : goal.returns-in-Ok-parse
returns-in-Ok-parse c =
    let parses = subst (λ z. ParsesUnsigned 64 10 z c.parse.result) c.in-Ok.ensures.cases.0 c.parse.ensures.value.0 in
    let is = numeral_number _ c.args.word.now c.in-Ok-parse.number c.parse.result (sym c.is_numeral.ensures ∙ c.if-not-is_numeral.false) c.in-Ok-parse.is parses in
    (is, λ n i. number_one c.args.word.now n c.in-Ok-parse.number i is)

pub returns-in-Err-parse : goal.returns-in-Err-parse
returns-in-Err-parse c = λ n i.
    let parses = subst (λ z. ParsesUnsigned 64 10 z c.parse.result) c.in-Ok.ensures.cases.0 c.parse.ensures.value.0 in
    let is = number_parses c.args.word.now n c.parse.result i parses in
    let no = c.in-Err-parse.is in
    absurd (cc)

pub returns-in-Err : goal.returns-in-Err
returns-in-Err c = λ n i. c.in-Err.ensures.cases.0 (number_utf8 c.args.word.now n i)
