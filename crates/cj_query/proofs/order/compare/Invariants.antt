use Rattle.std.proofs.Common.{◌≡◌, drop}
use Rattle.cj_model.specs.Database.Order.{by_sort_keys}
use Rattle.cj_query.proofs.order.compare.Given as goal

abbrev pub invariant-loop-key : goal.invariant-loop-key
invariant-loop-key l = by_sort_keys (drop l.key-index l.keys) l.left l.right ≡ by_sort_keys l.keys l.left l.right
