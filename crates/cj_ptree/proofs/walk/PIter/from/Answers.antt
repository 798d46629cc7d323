use Rattle.std.proofs.Common.{◌≡◌, ◌∙◌, ◌+◌, ◌-◌, ◌++◌, List, length, take, drop, get_or, ap, subst, sym, append_assoc}
use Rattle.std.specs.Ordering.{is_le}
use Rattle.std.specs.Prelude.{filter}
use Rattle.cj_ptree.specs.declared.branch.Branch.{Branch}
use Rattle.cj_ptree.specs.declared.child.Child.{Child}
use Rattle.cj_ptree.specs.declared.leaf.Leaf.{Leaf}
use Rattle.cj_ptree.specs.Branches.{branch_pairs}
use Rattle.cj_ptree.specs.Links.{target}
use Rattle.cj_ptree.specs.Trees.{IsTwig, leaf_pairs, twig_pairs}
use Rattle.cj_ptree.proofs.BranchLaws.{filter_child}
use Rattle.cj_ptree.proofs.PlaceLaws.{rest_at}
use Rattle.cj_ptree.proofs.walk.PIter.from.Goals as goal

pub returns : goal.returns
returns g c =
    let R = g.K.Ord.cmp in
    let k = c.args.key.now in
    let cs = c.args.root.now.children.items in
    let ds = c.as_slice-children.result.now in
    let v = c.as_slice-children.ensures.value in
    let i = c.child_of-place.result in
    let child = c.index-children-place.result in
    let is : child ≡ get_or cs i child = subst (λ (xs : List (Child g.row.K.Denot (Branch g.row.K.Denot (Leaf g.row.K.Denot g.row.V.Denot)))). child ≡ get_or xs i child) v c.index-children-place.is in
    let front = c.leaves_from.result.0.now in
    let leaves = branch_pairs leaf_pairs c.leaves_from.result.1.now in
    let behind = take (length ds - (i + 1)) (drop (i + 1) ds) in
    c.of.ensures
    ∙ sym (append_assoc front leaves (branch_pairs twig_pairs behind))
    ∙ ap (λ (xs : List (g.row.K.Denot × g.row.V.Denot)). xs ++ branch_pairs twig_pairs behind)
    (c.leaves_from.ensures ∙ ap (λ (n : Branch g.row.K.Denot (Leaf g.row.K.Denot g.row.V.Denot)). filter (λ (e : g.row.K.Denot × g.row.V.Denot). is_le (R k e.0)) (twig_pairs n)) (c.node.ensures ∙ ap (λ (x : Child g.row.K.Denot (Branch g.row.K.Denot (Leaf g.row.K.Denot g.row.V.Denot))). target x.node) (sym c.index-children-place.is)))
    ∙ ap (λ (xs : List (Child g.row.K.Denot (Branch g.row.K.Denot (Leaf g.row.K.Denot g.row.V.Denot)))). filter (λ (e : g.row.K.Denot × g.row.V.Denot). is_le (R k e.0)) (twig_pairs (target child.node)) ++ branch_pairs twig_pairs xs)
    (rest_at ds (i + 1) ∙ ap (λ (xs : List (Child g.row.K.Denot (Branch g.row.K.Denot (Leaf g.row.K.Denot g.row.V.Denot)))). drop (i + 1) xs) v)
    ∙ sym (filter_child twig_pairs (IsTwig R) R g.met.K.Ord.total cs ds v i c.child_of-place.ensures.within c.requires k c.child_of-place.ensures.start c.child_of-place.ensures.end child is)
