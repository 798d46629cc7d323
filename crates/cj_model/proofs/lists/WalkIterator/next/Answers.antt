use Rattle.std.proofs.Common.{sym, subst}
use Rattle.cj_model.specs.Proving.Cuts.{AreCut}
use Rattle.cj_model.proofs.CutLaws.{cut_first}
use Rattle.cj_model.proofs.lists.WalkIterator.next.Goals as goal

pub split_at-requires : goal.split_at-requires
split_at-requires g c = (cut_first c.self.inside.lengths.now c.self.inside.items.now c.self.invariant c.in-len1-up.len_at_least).0

pub invariant_of-self : goal.invariant_of-self
invariant_of-self g c = subst (AreCut _) (sym c.split_at.ensures.back) (cut_first c.self.inside.lengths.now c.self.inside.items.now c.self.invariant c.in-len1-up.len_at_least).1
