use Rattle.std.proofs.Common.{◌≡◌, ◌∙◌, ◌++◌, List, take, get_or, ap, subst, sym}
use Rattle.std.specs.Ordering.{is_lt}
use Rattle.std.specs.Prelude.{filter}
use Rattle.cj_ptree.specs.declared.branch.Branch.{Branch}
use Rattle.cj_ptree.specs.declared.child.Child.{Child}
use Rattle.cj_ptree.specs.declared.leaf.Leaf.{Leaf}
use Rattle.cj_ptree.specs.Branches.{branch_pairs}
use Rattle.cj_ptree.specs.Links.{target}
use Rattle.cj_ptree.specs.Trees.{IsTwig, twig_pairs}
use Rattle.cj_ptree.proofs.BranchLaws.{before_child}
use Rattle.cj_ptree.proofs.walk.PIter.before.Goals as goal

pub returns : goal.returns
returns g c =
    let R = g.K.Ord.cmp in
    let k = c.args.key.now in
    let cs = c.args.root.now.children.items in
    let ds = c.as_slice-children.result.now in
    let v = c.as_slice-children.ensures.value in
    let i = c.child_of-place.result in
    let child = c.index-children-place.result in
    let is : child ≡ get_or cs i child = subst (λ (xs : List (Child g.row.K.Denot (Branch g.row.K.Denot (Leaf g.row.K.Denot g.row.V.Denot)))). child ≡ get_or xs i child) v c.index-children-place.is in
    c.up_to.ensures
    ∙ ap (λ (xs : List (g.row.K.Denot × g.row.V.Denot)). branch_pairs twig_pairs (take i ds) ++ xs)
    (c.leaves_before.ensures ∙ ap (λ (n : Branch g.row.K.Denot (Leaf g.row.K.Denot g.row.V.Denot)). filter (λ (e : g.row.K.Denot × g.row.V.Denot). is_lt (R e.0 k)) (twig_pairs n)) (c.node.ensures ∙ ap (λ (x : Child g.row.K.Denot (Branch g.row.K.Denot (Leaf g.row.K.Denot g.row.V.Denot))). target x.node) (sym c.index-children-place.is)))
    ∙ ap (λ (xs : List (Child g.row.K.Denot (Branch g.row.K.Denot (Leaf g.row.K.Denot g.row.V.Denot)))). branch_pairs twig_pairs (take i xs) ++ filter (λ (e : g.row.K.Denot × g.row.V.Denot). is_lt (R e.0 k)) (twig_pairs (target child.node))) v
    ∙ sym (before_child twig_pairs (IsTwig R) R g.met.K.Ord.total cs ds v i c.child_of-place.ensures.within c.requires k c.child_of-place.ensures.start c.child_of-place.ensures.end child is)
