use Rattle.std.proofs.Common.{◌≡◌, refl, sym, ap, Some, map}
use Rattle.std.specs.Prelude.{string_bytes}
use Rattle.cj_program.specs.Served.{AsksToServe}
use Rattle.cj_program.proofs.ServingWords.{serving_is_asked, serving_is_no_command, serving_is_no_text}
use Rattle.cj_program.proofs.program.run.Goals as goal

-- ---- words that ask to serve

pub returns-in-Some-clause-runs : goal.returns-in-Some-clause-runs
returns-in-Some-clause-runs g c command says =
    let some = c.in-Some.ensures.some in
    let asks : AsksToServe (map string_bytes c.args.words.now) = (some.0, c.in-Some.field-0.now, some.1) in
    absurd (serving_is_no_command (map string_bytes c.args.words.now) asks command says)

pub returns-in-Some-clause-unread : goal.returns-in-Some-clause-unread
returns-in-Some-clause-unread g c command says reads =
    let some = c.in-Some.ensures.some in
    let asks : AsksToServe (map string_bytes c.args.words.now) = (some.0, c.in-Some.field-0.now, some.1) in
    absurd (serving_is_no_command (map string_bytes c.args.words.now) asks command says)

pub returns-in-Some-clause-text : goal.returns-in-Some-clause-text
returns-in-Some-clause-text g c text =
    let some = c.in-Some.ensures.some in
    let asks : AsksToServe (map string_bytes c.args.words.now) = (some.0, c.in-Some.field-0.now, some.1) in
    absurd (serving_is_no_text (map string_bytes c.args.words.now) asks text)

pub returns-in-Some-clause-other : goal.returns-in-Some-clause-other
returns-in-Some-clause-other g c none =
    let some = c.in-Some.ensures.some in
    let asks : AsksToServe (map string_bytes c.args.words.now) = (some.0, c.in-Some.field-0.now, some.1) in
    absurd (serving_is_asked (map string_bytes c.args.words.now) asks none)

pub returns-in-Some-clause-opens : goal.returns-in-Some-clause-opens
returns-in-Some-clause-opens g c tells command says =
    let some = c.in-Some.ensures.some in
    let asks : AsksToServe (map string_bytes c.args.words.now) = (some.0, c.in-Some.field-0.now, some.1) in
    absurd (serving_is_no_command (map string_bytes c.args.words.now) asks command says)

pub returns-in-Some-clause-input : goal.returns-in-Some-clause-input
returns-in-Some-clause-input g c none =
    let some = c.in-Some.ensures.some in
    let asks : AsksToServe (map string_bytes c.args.words.now) = (some.0, c.in-Some.field-0.now, some.1) in
    absurd (none asks)

pub returns-in-Some-clause-output : goal.returns-in-Some-clause-output
returns-in-Some-clause-output g c none =
    let some = c.in-Some.ensures.some in
    let asks : AsksToServe (map string_bytes c.args.words.now) = (some.0, c.in-Some.field-0.now, some.1) in
    absurd (none asks)

-- ---- all other words

pub returns-in-None-clause-runs : goal.returns-in-None-clause-runs
returns-in-None-clause-runs g c command says =
    let same : c.args.clock.now.value ≡ c.deref.result.now = sym c.deref.ensures in
    rw same (c.run-ended.result.log, refl, c.run-ended.ensures.runs command says)

pub returns-in-None-clause-text : goal.returns-in-None-clause-text
returns-in-None-clause-text g c asks =
    let text = c.run-ended.ensures.text asks in
    (text.0, text.1, ap (λ (s : g.row.S.Denot). Some s) text.2, text.3, text.4)

pub returns-in-None-clause-opens : goal.returns-in-None-clause-opens
returns-in-None-clause-opens g c tells command says items keeps goes = c.run-ended.ensures.opens tells command says items keeps goes
