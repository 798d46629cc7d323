use Rattle.std.proofs.Common.{ap, ◌∙◌}
use Rattle.cj_cache.proofs.Cited.{brought_shown, entries_of_map, some_shown}
use Rattle.cj_cache.proofs.held.bring_to_front.Goals as goal

pub returns-clause-found : goal.returns-clause-found
returns-clause-found c = c.promote.ensures.value ∙ some_shown c.args.select.now c.args.held.now.entries

pub returns-clause-entries : goal.returns-clause-entries
returns-clause-entries c = ap entries_of_map c.promote.ensures.entries ∙ brought_shown c.args.select.now c.args.held.now.entries
