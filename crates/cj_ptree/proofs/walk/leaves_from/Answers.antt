use Rattle.std.proofs.Common.{◌≡◌, ◌∙◌, ◌+◌, ◌-◌, ◌++◌, List, length, take, drop, get_or, ap, subst, sym}
use Rattle.std.specs.Ordering.{is_le}
use Rattle.std.specs.Prelude.{filter}
use Rattle.cj_ptree.specs.declared.child.Child.{Child}
use Rattle.cj_ptree.specs.declared.leaf.Leaf.{Leaf}
use Rattle.cj_ptree.specs.Branches.{branch_pairs}
use Rattle.cj_ptree.specs.Links.{target}
use Rattle.cj_ptree.specs.Trees.{IsLeaf, leaf_pairs}
use Rattle.cj_ptree.proofs.BranchLaws.{filter_child}
use Rattle.cj_ptree.proofs.PlaceLaws.{rest_at}
use Rattle.cj_ptree.proofs.walk.leaves_from.Goals as goal

pub returns : goal.returns
returns g c =
    let R = g.K.Ord.cmp in
    let k = c.args.key.now in
    let cs = c.args.twig.now.children.items in
    let ds = c.as_slice-children.result.now in
    let v = c.as_slice-children.ensures.value in
    let i = c.child_of-place.result in
    let child = c.index-children-place.result in
    let is : child ≡ get_or cs i child = subst (λ (xs : List (Child g.row.K.Denot (Leaf g.row.K.Denot g.row.V.Denot))). child ≡ get_or xs i child) v c.index-children-place.is in
    let below : c.deref.result.now ≡ leaf_pairs (target child.node) =
    c.deref.ensures.value ∙ ap (λ (n : Leaf g.row.K.Denot g.row.V.Denot). n.pairs.items) c.node-leaf.ensures ∙ ap (λ (x : Child g.row.K.Denot (Leaf g.row.K.Denot g.row.V.Denot)). leaf_pairs (target x.node)) (sym c.index-children-place.is) in
    ap (λ (xs : List (g.row.K.Denot × g.row.V.Denot)). xs ++ branch_pairs leaf_pairs (take (length ds - (i + 1)) (drop (i + 1) ds)))
    (c.pairs_from.ensures ∙ ap (λ (xs : List (g.row.K.Denot × g.row.V.Denot)). filter (λ (e : g.row.K.Denot × g.row.V.Denot). is_le (R k e.0)) xs) below)
    ∙ ap (λ (xs : List (Child g.row.K.Denot (Leaf g.row.K.Denot g.row.V.Denot))). filter (λ (e : g.row.K.Denot × g.row.V.Denot). is_le (R k e.0)) (leaf_pairs (target child.node)) ++ branch_pairs leaf_pairs xs)
    (rest_at ds (i + 1) ∙ ap (λ (xs : List (Child g.row.K.Denot (Leaf g.row.K.Denot g.row.V.Denot))). drop (i + 1) xs) v)
    ∙ sym (filter_child leaf_pairs (IsLeaf R) R g.met.K.Ord.total cs ds v i c.child_of-place.ensures.within c.requires k c.child_of-place.ensures.start c.child_of-place.ensures.end child is)
