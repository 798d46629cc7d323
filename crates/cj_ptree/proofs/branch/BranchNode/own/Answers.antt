use Rattle.std.proofs.Common.{◌∙◌, ◌<◌, length, ap, arith, set}
use Rattle.cj_ptree.specs.declared.child.Child.{Child}
use Rattle.cj_ptree.specs.Links.{OwnsNode, target}
use Rattle.cj_ptree.specs.Parts.{all_pairs}
use Rattle.cj_ptree.proofs.BranchLaws.{each_more, each_set, same_branch, same_parts}
use Rattle.cj_ptree.proofs.branch.BranchNode.own.Goals as goal

pub returns-in_err-own_below-clause-pairs : goal.returns-in_err-own_below-clause-pairs
returns-in_err-own_below-clause-pairs g c =
    let cs = c.loop-place.self.children.items in
    let i = c.loop-place.place in
    let h : i < length cs = omega (arith, c.loop-place.self.children.ok.0) in
    ap all_pairs
    (same_parts g.N.Node.pairs g.N.Node.IsBuilt g.K.Ord.cmp g.met.K.Ord.total cs i c.index_mut.result.now c.own_below.new.link h c.index_mut.ensures.value c.own_below.ensures.pairs ∙ c.loop-place.invariant.parts)

pub returns-in_err-own_below-clause-built : goal.returns-in_err-own_below-clause-built
returns-in_err-own_below-clause-built g c =
    let cs = c.loop-place.self.children.items in
    let i = c.loop-place.place in
    let child = c.index_mut.result.now in
    let node = c.own_below.new.link in
    let h : i < length cs = omega (arith, c.loop-place.self.children.ok.0) in
    let changed : Child g.row.K.Denot g.row.N.Denot = record { bound = child.bound; node = node } in
    same_branch g.N.Node.pairs g.N.Node.IsBuilt g.K.Ord.cmp g.met.K.Ord.total c.args.self.now.children.items (set cs i changed)
    (same_parts g.N.Node.pairs g.N.Node.IsBuilt g.K.Ord.cmp g.met.K.Ord.total cs i child node h c.index_mut.ensures.value c.own_below.ensures.pairs ∙ c.loop-place.invariant.parts)
    (each_set (λ (x : Child g.row.K.Denot g.row.N.Denot). g.N.Node.IsBuilt (target x.node)) cs i changed c.own_below.ensures.built c.loop-place.invariant.built)
    c.requires

pub loop-place-preserved : goal.loop-place-preserved
loop-place-preserved g c =
    let cs = c.loop-place.self.children.items in
    let i = c.loop-place.place in
    let child = c.index_mut.result.now in
    let node = c.own_below.new.link in
    let h : i < length cs = omega (arith, c.loop-place.self.children.ok.0) in
    let changed : Child g.row.K.Denot g.row.N.Denot = record { bound = child.bound; node = node } in
    record {
      parts = same_parts g.N.Node.pairs g.N.Node.IsBuilt g.K.Ord.cmp g.met.K.Ord.total cs i child node h c.index_mut.ensures.value c.own_below.ensures.pairs ∙ c.loop-place.invariant.parts;
      built = each_set (λ (x : Child g.row.K.Denot g.row.N.Denot). g.N.Node.IsBuilt (target x.node)) cs i changed c.own_below.ensures.built c.loop-place.invariant.built;
      owned = each_more (λ (x : Child g.row.K.Denot g.row.N.Denot). OwnsNode g.N.Node.IsOwned x.node) cs i changed h c.in_ok-own_below.ensures.owned c.loop-place.invariant.owned;
      len = c.loop-place.invariant.len;
    }
