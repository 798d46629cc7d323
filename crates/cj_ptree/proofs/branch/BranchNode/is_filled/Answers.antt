use Rattle.std.proofs.Common.{◌∙◌, List, ap}
use Rattle.cj_ptree.specs.declared.child.Child.{Child}
use Rattle.cj_ptree.specs.Pairs.{is_filled}
use Rattle.cj_ptree.proofs.BranchLaws.{filled_branch}
use Rattle.cj_ptree.proofs.branch.BranchNode.is_filled.Goals as goal

pub returns : goal.returns
returns g c =
    c.are_filled.ensures
    ∙ ap (λ (xs : List (Child g.row.K.Denot g.row.N.Denot)). is_filled xs) c.deref.ensures.value
    ∙ filled_branch g.N.Node.pairs g.N.Node.IsBuilt g.K.Ord.cmp g.met.K.Ord.total c.args.self.now.children.items c.requires
