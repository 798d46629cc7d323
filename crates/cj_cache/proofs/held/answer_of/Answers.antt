use Rattle.std.proofs.Common.{rules, ◌≡◌, sym, ap, ◌∙◌}
use Rattle.cj_cache.proofs.Cited.{Held, answer_shown, lookup, option_map, same_statement}
use Rattle.std.specs.declared.option.Option.TheVariants.{None, Some}
use Rattle.cj_cache.proofs.held.answer_of.Goals as goal

pub returns-in-None : goal.returns-in-None
returns-in-None c =
    let s = c.args.select.now in
    let pairs = c.args.held.now.entries in
    let found : lookup (same_statement s) pairs ≡ None = search rules in
    sym (ap (option_map (λ (h : Held). h.answer.value)) found) ∙ answer_shown s pairs

pub returns-in-Some : goal.returns-in-Some
returns-in-Some c =
    let s = c.args.select.now in
    let pairs = c.args.held.now.entries in
    let found : lookup (same_statement s) pairs ≡ Some c.in-Some.found.now = search rules in
    ap Some c.deref.ensures
    ∙ sym (ap (option_map (λ (h : Held). h.answer.value)) found) ∙ answer_shown s pairs
