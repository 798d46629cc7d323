use Rattle.std.proofs.Common.{◌≡◌, map, take, vec_len}
use Rattle.std.specs.List.{AllByRecursion}
use Rattle.cj_ptree.specs.Branches.{part_of}
use Rattle.cj_ptree.specs.Links.{OwnsNode, target}
use Rattle.cj_ptree.proofs.branch.BranchNode.own.Given as goal

abbrev pub invariant-loop-place : goal.invariant-loop-place
invariant-loop-place g l = record {
  parts : map (part_of g.N.Node.pairs) l.self.children.items ≡ map (part_of g.N.Node.pairs) l.fn.self.children.items;
  built : AllByRecursion (λ c. g.N.Node.IsBuilt (target c.node)) l.self.children.items;
  owned : AllByRecursion (λ c. OwnsNode g.N.Node.IsOwned c.node) (take l.place l.self.children.items);
  len : vec_len l.self.children ≡ vec_len l.fn.self.children;
}
