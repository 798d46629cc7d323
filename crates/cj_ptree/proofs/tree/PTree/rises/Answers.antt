use Rattle.std.proofs.Common.{List, subst}
use Rattle.std.specs.List.Sorted.{IsStrictlySortedBy}
use Rattle.std.specs.Map.{keys_of}
use Rattle.cj_ptree.proofs.LeafLaws.{sorted_from_rise}
use Rattle.cj_ptree.proofs.PartLaws.{rise_all}
use Rattle.cj_ptree.proofs.tree.PTree.rises.Goals as goal

pub returns : goal.returns
returns g c =
    let R = g.K.Ord.cmp in
    subst (λ (es : List (g.row.K.Denot × g.row.V.Denot)). IsStrictlySortedBy R (keys_of es)) c.self.view_is
    (sorted_from_rise R _ (rise_all R g.met.K.Ord.total _ c.self.invariant.divided))
