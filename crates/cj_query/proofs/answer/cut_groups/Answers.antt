use Rattle.std.proofs.Common.{map, sym, ap, ◌∙◌}
use Rattle.cj_query.proofs.Common.{at_most, rows_in, rows_of, take-map}
use Rattle.cj_query.proofs.answer.cut_groups.Goals as goal

pub returns-in-Some : goal.returns-in-Some
returns-in-Some c = ap (map rows_of) c.truncate.ensures.items ∙ sym (take-map rows_of c.in-Some.most c.args.groups.now.items) ∙ ap (λ o. at_most o (rows_in c.args.groups.now.items)) (sym c.in-Some.is)
