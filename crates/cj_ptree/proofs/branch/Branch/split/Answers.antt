use Rattle.std.proofs.Common.{◌∙◌, ap, arith}
use Rattle.cj_ptree.specs.declared.child.Child.{Child}
use Rattle.cj_ptree.proofs.BranchLaws.{split_off}
use Rattle.cj_ptree.proofs.branch.Branch.split.Goals as goal

pub returns : goal.returns
returns g c =
    let cs = c.args.self.now.children.items in
    let d = c.index.result.now in
    let h = split_off g.N.Node.pairs g.N.Node.IsBuilt g.K.Ord.cmp g.met.K.Ord.total cs 48 d c.requires
    c.shrink_to.new.self.items c.in-Ok-split_off.children.items c.in-Ok.bound
    (c.shrink_to.ensures.items ∙ c.in-Ok-split_off.ensures.items) c.in-Ok-split_off.ensures.tail
    (c.in-Ok.ensures ∙ ap (λ (x : Child g.row.K.Denot g.row.N.Denot). x.bound) c.index.ensures) (omega arith) (omega arith) in
    record { shared = h.0; split = h.1; built = h.2 }
