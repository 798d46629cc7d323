use Rattle.std.proofs.Common.{◌∙◌, List, ap, subst, sym, Some}
use Rattle.cj_ptree.specs.Pairs.{IsHit, IsMissing}
use Rattle.cj_ptree.proofs.PlaceLaws.{lookup_gap, lookup_hit}
use Rattle.cj_ptree.proofs.leaf.LeafNode.find.Goals as goal

pub returns-in-Ok : goal.returns-in-Ok
returns-in-Ok g c =
    let R = g.K.Ord.cmp in
    let es = c.args.self.now.pairs.items in
    let k = c.args.key.now in
    let h = subst (λ (fs : List (g.row.K.Denot × g.row.V.Denot)). IsHit R k fs c.in-Ok.place) c.deref.ensures.value c.in-Ok.ensures in
    sym (lookup_hit R g.met.K.Ord.total k es c.in-Ok.place h c.index.result.now ∙ ap (λ (x : g.row.K.Denot × g.row.V.Denot). Some x.1) (sym c.index.ensures))

pub returns-in-Err : goal.returns-in-Err
returns-in-Err g c =
    let R = g.K.Ord.cmp in
    let k = c.args.key.now in
    sym (lookup_gap R g.met.K.Ord.total k _ c.in-Err.field-0 (subst (λ (fs : List (g.row.K.Denot × g.row.V.Denot)). IsMissing R k fs c.in-Err.field-0) c.deref.ensures.value c.in-Err.ensures))
