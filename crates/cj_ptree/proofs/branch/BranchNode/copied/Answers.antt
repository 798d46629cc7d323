use Rattle.std.proofs.Common.{◌≡◌, ◌∙◌, ◌<◌, List, [], ◌∷◌, length, get_or, map, ap, subst, sym}
use Rattle.std.specs.List.{AllByRecursion}
use Rattle.cj_ptree.specs.declared.child.Child.{Child}
use Rattle.cj_ptree.specs.Branches.{part_of}
use Rattle.cj_ptree.specs.Links.{target}
use Rattle.cj_ptree.proofs.BranchLaws.{parts_more}
use Rattle.cj_ptree.proofs.OrderLaws.{each_both}
use Rattle.cj_ptree.proofs.branch.BranchNode.copied.Goals as goal

pub loop-child-preserved : goal.loop-child-preserved
loop-child-preserved g c =
    let pairs = g.N.Node.pairs in
    let cs = c.args.self.now.children.items in
    let ds = c.loop-child.children.items in
    let v = c.deref-child-items.ensures.value in
    let i = c.loop-child.child-index in
    let child = c.child-item.result in
    let copy = c.in_ok-copied_child.field-0 in
    let h : i < length cs = subst (λ (xs : List (Child g.row.K.Denot g.row.N.Denot)). i < length xs) v c.loop-child-test.true in
    let is : child ≡ get_or cs i child = subst (λ (xs : List (Child g.row.K.Denot g.row.N.Denot)). child ≡ get_or xs i child) v c.child-item.is in
    record {
      parts = ap (λ (xs : List (Child g.row.K.Denot g.row.N.Denot)). map (part_of pairs) xs) c.in_ok-push.ensures.items ∙ parts_more pairs cs ds i child copy h is c.loop-child.invariant.parts c.in_ok-copied_child.ensures.part;
      built = subst (λ (xs : List (Child g.row.K.Denot g.row.N.Denot)). AllByRecursion (λ (x : Child g.row.K.Denot g.row.N.Denot). g.N.Node.IsBuilt (target x.node)) xs) (sym c.in_ok-push.ensures.items)
          (each_both (λ (x : Child g.row.K.Denot g.row.N.Denot). g.N.Node.IsBuilt (target x.node)) ds (copy ∷ []) c.loop-child.invariant.built (c.in_ok-copied_child.ensures.built, tt));
    }
