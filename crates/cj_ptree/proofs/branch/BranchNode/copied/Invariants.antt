use Rattle.std.proofs.Common.{◌≡◌, map, take}
use Rattle.std.specs.List.{AllByRecursion}
use Rattle.cj_ptree.specs.Branches.{part_of}
use Rattle.cj_ptree.specs.Links.{target}
use Rattle.cj_ptree.proofs.branch.BranchNode.copied.Given as goal

abbrev pub invariant-loop-child : goal.invariant-loop-child
invariant-loop-child g l = record {
  parts : map (part_of g.N.Node.pairs) l.children.items ≡ take l.child-index (map (part_of g.N.Node.pairs) l.self.children.items);
  built : AllByRecursion (λ c. g.N.Node.IsBuilt (target c.node)) l.children.items;
}
