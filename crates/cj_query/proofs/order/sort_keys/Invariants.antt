use Rattle.std.proofs.Common.{◌≡◌, map, take}
use Rattle.cj_model.specs.Database.Queries.{sort_key_of}
use Rattle.cj_query.proofs.order.sort_keys.Given as goal

abbrev pub invariant-loop-key : goal.invariant-loop-key
invariant-loop-key l = l.out.items ≡ map (sort_key_of l.scope) (take l.key-index l.keys)
