-- What a link leads to in the end, where its node is lent.
use Rattle.std.specs.declared.option.Option.{Option}
use Rattle.std.specs.Borrow.{Fml, LendsIf, MutBor, RattleType}
use Rattle.cj_ptree.specs.Links.{with_target}
use Rattle.cj_ptree.specs.contracts.link.Link.{the_row}

module _ (N : RattleType) (link : MutBor (the_row N).Denot) where
  -- it leads to the node that is left, and is unchanged where none was lent
  abbrev pub LendsNode : Option (MutBor N.Denot) → Fml
  LendsNode node = LendsIf (the_row N) N link node (with_target link.now) link.now
