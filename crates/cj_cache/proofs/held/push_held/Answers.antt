use Rattle.std.proofs.Common.{rules, ◌≡◌, ap, ◌∙◌}
use Rattle.cj_cache.proofs.Cited.{entries_of_map, lru_cache, put_entries, put_shown, same_statement}
use Rattle.cj_cache.proofs.held.push_held.Goals as goal

pub returns-in-Ok-clause-ok : goal.returns-in-Ok-clause-ok
returns-in-Ok-clause-ok c =
    let held = c.args.held.now in
    let put : c.push.new.self ≡ lru_cache (put_entries same_statement held c.args.select c.args.kept) held.cap = search rules in
    ap entries_of_map put ∙ put_shown held c.args.select c.args.kept c.len-len.ensures.valid.1 c.len-len.ensures.valid.2
