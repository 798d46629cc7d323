use Rattle.std.proofs.Common.{◌≡◌, ◌==◌, ◌∙◌, ap, sym, subst, length, false, true, map, string_bytes, List, ℕ}
use Rattle.std.specs.Option.{option_copied}
use Rattle.cj_cases.specs.Lines.{is_word}
use Rattle.cj_cases.proofs.CommandWords.{empty_word, no_utf8, no_words, some_word, words_all, words_more}
use Rattle.cj_cases.proofs.words.words_of.Goals as goal

pub returns-in_default-from_utf8 : goal.returns-in_default-from_utf8
returns-in_default-from_utf8 c =
    no_words c.args.text.now c.in-Some.here.now (option_copied c.loop-rest.rest)
    (map string_bytes c.loop-rest.words.items) (sym c.is_empty.ensures ∙ c.if-is_empty.false)
    (ap option_copied c.in-Some.is) c.loop-rest.invariant.parts
    (subst (λ (w : List ℕ). is_word w ≡ false) c.cut.ensures.before
    (no_utf8 c.cut.result.0.now c.in_default-from_utf8.ensures.cases.0))

pub returns-then-is_empty-2 : goal.returns-then-is_empty-2
returns-then-is_empty-2 c =
    let none = subst (λ (w : List ℕ). (length w == 0) ≡ true) c.in-Ok.ensures.cases.0 (sym c.is_empty-in-Some.ensures
    ∙ c.if-is_empty-2.true) in
    no_words c.args.text.now c.in-Some.here.now (option_copied c.loop-rest.rest)
    (map string_bytes c.loop-rest.words.items) (sym c.is_empty.ensures ∙ c.if-is_empty.false)
    (ap option_copied c.in-Some.is) c.loop-rest.invariant.parts
    (subst (λ (w : List ℕ). is_word w ≡ false) c.cut.ensures.before (empty_word c.cut.result.0.now none))

pub loop-rest-preserved : goal.loop-rest-preserved
loop-rest-preserved c =
    let some = subst (λ (w : List ℕ). (length w == 0) ≡ false) c.in-Ok.ensures.cases.0 (sym c.is_empty-in-Some.ensures
    ∙ c.if-is_empty-2.false) in
    let bytes = c.in_ok-from_str.ensures.ok ∙ c.in-Ok.ensures.cases.0 in
    let is = subst (λ (w : List ℕ). is_word w ≡ true) (sym bytes)
    (some_word c.cut.result.0.now some c.in-Ok.ensures.cases.1) in
    record {
      parts =
          words_more c.args.text.now c.in-Some.here.now (option_copied c.loop-rest.rest)
          (option_copied c.cut.result.1) c.loop-rest.words.items c.push.new.self.items c.in_ok-from_str.field-0
          (ap option_copied c.in-Some.is)
          c.loop-rest.invariant.parts c.in_ok-push.ensures.items (bytes ∙ c.cut.ensures.before) c.cut.ensures.behind;
      words = words_all c.loop-rest.words.items c.push.new.self.items c.in_ok-from_str.field-0
          c.in_ok-push.ensures.items c.loop-rest.invariant.words is;
    }
