use Rattle.std.proofs.Common.{◌≡◌, ◌-◌, ◌≤◌, ◌++◌, List, map, take, drop, vec_len}
use Rattle.std.specs.List.{AllByRecursion}
use Rattle.cj_ptree.specs.Branches.{part_of}
use Rattle.cj_ptree.specs.Links.{OwnsNode, target}
use Rattle.cj_ptree.specs.Retained.{parts_left}
use Rattle.cj_ptree.proofs.branch.BranchNode.retain.Given as goal

abbrev pub invariant-loop-place : goal.invariant-loop-place
invariant-loop-place g l = record {
  within : l.place ≤ vec_len l.self.children;
  built : AllByRecursion (λ c. g.N.Node.IsBuilt (target c.node)) l.self.children.items;
  owned : AllByRecursion (λ c. OwnsNode g.N.Node.IsOwned c.node) l.self.children.items;
  done : List (g.row.K.Denot × List (g.row.K.Denot × g.row.V.Denot));
  rest : List (g.row.K.Denot × List (g.row.K.Denot × g.row.V.Denot));
  all : done ++ rest ≡ map (part_of g.N.Node.pairs) l.fn.self.children.items;
  kept : map (part_of g.N.Node.pairs) (take l.place l.self.children.items) ≡ parts_left (g.E.Edit.stays l.by) (g.E.Edit.edited l.by) done;
  left : map (part_of g.N.Node.pairs) (drop l.place l.self.children.items) ≡ rest;
}

abbrev pub decreases-loop-place : goal.decreases-loop-place
decreases-loop-place g l = vec_len l.self.children - l.place
