use Rattle.cj_cache.proofs.Cited.{entries_of_map, unneeded_listed}
use Rattle.cj_cache.proofs.held.unlist_table.Goals as goal

pub returns-in_default : goal.returns-in_default
returns-in_default c = unneeded_listed c.args.by_table.now c.remove.new.self c.args.table.now (entries_of_map c.args.held.now) (λ t other. c.remove.ensures.updates.2 t other) c.requires.unneeded c.requires.listed

pub loop-select-init : goal.loop-select-init
loop-select-init c = unneeded_listed c.args.by_table.now c.remove.new.self c.args.table.now (entries_of_map c.args.held.now) (λ t other. c.remove.ensures.updates.2 t other) c.requires.unneeded c.requires.listed
