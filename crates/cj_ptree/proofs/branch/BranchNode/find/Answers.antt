use Rattle.std.proofs.Common.{◌∙◌, ap, sym}
use Rattle.std.specs.BTreeMap.{is_at}
use Rattle.std.specs.Map.{lookup}
use Rattle.cj_ptree.proofs.BranchLaws.{lookup_child}
use Rattle.cj_ptree.proofs.branch.BranchNode.find.Goals as goal

pub returns : goal.returns
returns g c =
    let R = g.K.Ord.cmp in
    let k = c.args.key.now in
    c.find.ensures
    ∙ ap (λ (n : g.row.N.Denot). lookup (is_at (R k)) (g.N.Node.pairs n)) c.node.ensures
    ∙ sym (lookup_child g.N.Node.pairs g.N.Node.IsBuilt R g.met.K.Ord.total c.args.self.now.children.items c.deref.result.now c.deref.ensures.value c.child_of-place.result c.child_of-place.ensures.within c.requires k
    c.child_of-place.ensures.start c.child_of-place.ensures.end c.index.result.now c.index.ensures)
