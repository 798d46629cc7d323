-- Links to nodes.
use Rattle.std.specs.Arc.{arc_value, arc_with_value}
use Rattle.cj_ptree.specs.declared.link.Link.{Link}
use Rattle.cj_ptree.specs.declared.link.Link.TheVariants.{Own, Shared}

-- the node that a link leads to
abbrev pub target : {N : Type 0} → Link N → N
target (Own node) = node
target (Shared shared) = arc_value shared

-- the link after another node is put where it leads
abbrev pub with_target : {N : Type 0} → Link N → N → Link N
with_target (Own node) other = Own other
with_target (Shared shared) other = Shared (arc_with_value shared other)

-- the link's tree alone has the node, for which this holds
abbrev pub OwnsNode : {N : Type 0} → (N → Type 0) → Link N → Type 0
OwnsNode P (Own node) = P node
OwnsNode P (Shared shared) = ⊥
