use Rattle.std.proofs.Common.{List, [], ◌∷◌, ◌++◌, ap, ◌∙◌}
use Rattle.cj_query.proofs.Cited.{SortKey, map_next, sort_key_of}
use Rattle.cj_query.proofs.order.sort_keys.Goals as goal

pub loop-key-preserved : goal.loop-key-preserved
loop-key-preserved c =
    c.in_ok-push.ensures.items
    ∙ ap (λ (k : SortKey). c.loop-key.out.items ++ k ∷ []) c.sort_key_of.ensures
    ∙ ap (λ (l : List SortKey). l ++ sort_key_of c.args.scope.now c.key-item.result ∷ []) c.loop-key.invariant
    ∙ map_next (sort_key_of c.args.scope.now) c.args.keys.now c.loop-key.key-index c.key-item.result c.loop-key-test.true c.key-item.is
