use Rattle.std.proofs.Common.{◌∙◌, ◌<◌, length, arith}
use Rattle.cj_ptree.specs.declared.child.Child.{Child}
use Rattle.cj_ptree.specs.Links.{target}
use Rattle.cj_ptree.proofs.BranchLaws.{each_set, same_parts}
use Rattle.cj_ptree.proofs.branch.BranchNode.share.Goals as goal

pub loop-place-preserved : goal.loop-place-preserved
loop-place-preserved g c =
    let cs = c.loop-place.self.children.items in
    let i = c.loop-place.place in
    let child = c.index_mut.result.now in
    let node = c.share_below.new.link in
    let h : i < length cs = omega (arith, c.loop-place.self.children.ok.0) in
    record {
      parts = same_parts g.N.Node.pairs g.N.Node.IsBuilt g.K.Ord.cmp g.met.K.Ord.total cs i child node h c.index_mut.ensures.value c.share_below.ensures.pairs ∙ c.loop-place.invariant.parts;
      built = each_set (λ (x : Child g.row.K.Denot g.row.N.Denot). g.N.Node.IsBuilt (target x.node)) cs i (record { bound = child.bound; node = node }) c.share_below.ensures.built c.loop-place.invariant.built;
      len = c.loop-place.invariant.len;
    }
