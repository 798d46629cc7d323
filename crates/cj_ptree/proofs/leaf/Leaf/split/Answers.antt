use Rattle.std.proofs.Common.{◌∙◌, ◌/◌, ap, arith}
use Rattle.cj_ptree.proofs.LeafLaws.{split_pairs}
use Rattle.cj_ptree.proofs.leaf.Leaf.split.Goals as goal

pub returns : goal.returns
returns g c =
    let es = c.args.self.now.pairs.items in
    let h = split_pairs g.K.Ord.cmp g.met.K.Ord.total es (c.len-at.result / 2) c.index.result.now c.requires
    c.shrink_to.new.self.items c.in-Ok-split_off.pairs.items c.in-Ok.bound
    (c.shrink_to.ensures.items ∙ c.in-Ok-split_off.ensures.items) c.in-Ok-split_off.ensures.tail
    (c.in-Ok.ensures ∙ ap (λ (x : g.row.K.Denot × g.row.V.Denot). x.0) c.index.ensures) (omega arith) (omega arith) in
    record { shared = h.0; split = h.1; built = h.2 }
