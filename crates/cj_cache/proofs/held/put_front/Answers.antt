use Rattle.std.proofs.Common.{rules}
use Rattle.cj_cache.proofs.Cited.{IsListed, entries_of_map, put_listed}
use Rattle.cj_cache.proofs.held.put_front.Goals as goal

pub unlist_unkept-requires-in-Ok-Some : goal.unlist_unkept-requires-in-Ok-Some
unlist_unkept-requires-in-Ok-Some c =
    let here : IsListed c.list.new.by_table c.args.entry = search rules in
    put_listed c.args.by_table.now c.list.new.by_table c.args.entry c.args.held.now.cap (entries_of_map c.args.held.now) _ c.in-Ok-Some.ensures.ok here c.list.ensures.others c.requires

pub returns-in-Ok-None-clause-listed : goal.returns-in-Ok-None-clause-listed
returns-in-Ok-None-clause-listed c =
    let here : IsListed c.list.new.by_table c.args.entry = search rules in
    put_listed c.args.by_table.now c.list.new.by_table c.args.entry c.args.held.now.cap (entries_of_map c.args.held.now) _ c.in-Ok-None.ensures.ok here c.list.ensures.others c.requires
