use Rattle.std.proofs.Common.{◌∙◌, List, ap, subst, sym, Some}
use Rattle.std.specs.BTreeMap.{is_at}
use Rattle.cj_ptree.specs.Pairs.{IsHit, IsMissing, PairsRise}
use Rattle.cj_ptree.proofs.PlaceLaws.{lookup_gap, lookup_hit, remove_gap, remove_hit}
use Rattle.cj_ptree.proofs.ZoneLaws.{rise_remove}
use Rattle.cj_ptree.proofs.leaf.LeafNode.remove.Goals as goal

pub returns-in-Ok-clause-value : goal.returns-in-Ok-clause-value
returns-in-Ok-clause-value g c =
    let R = g.K.Ord.cmp in
    let o = g.met.K.Ord.total in
    let es = c.args.self.now.pairs.items in
    let k = c.args.key.now in
    let h = subst (λ (fs : List (g.row.K.Denot × g.row.V.Denot)). IsHit R k fs c.in-Ok.place) c.deref.ensures.value c.in-Ok.ensures in
    sym (lookup_hit R o k es c.in-Ok.place h c.remove-value.result ∙ ap (λ (x : g.row.K.Denot × g.row.V.Denot). Some x.1) (sym c.remove-value.ensures.value))

pub returns-in-Ok-clause-ok : goal.returns-in-Ok-clause-ok
returns-in-Ok-clause-ok g c =
    let R = g.K.Ord.cmp in
    let o = g.met.K.Ord.total in
    let es = c.args.self.now.pairs.items in
    let k = c.args.key.now in
    let h = subst (λ (fs : List (g.row.K.Denot × g.row.V.Denot)). IsHit R k fs c.in-Ok.place) c.deref.ensures.value c.in-Ok.ensures in
    c.remove-value.ensures.items ∙ remove_hit R o k es c.in-Ok.place h c.remove-value.result

pub returns-in-Ok-clause-built : goal.returns-in-Ok-clause-built
returns-in-Ok-clause-built g c =
    let R = g.K.Ord.cmp in
    let o = g.met.K.Ord.total in
    let es = c.args.self.now.pairs.items in
    let k = c.args.key.now in
    let h = subst (λ (fs : List (g.row.K.Denot × g.row.V.Denot)). IsHit R k fs c.in-Ok.place) c.deref.ensures.value c.in-Ok.ensures in
    subst (λ (fs : List (g.row.K.Denot × g.row.V.Denot)). PairsRise R fs) (sym (c.remove-value.ensures.items ∙ remove_hit R o k es c.in-Ok.place h c.remove-value.result))
    (rise_remove R (is_at (R k)) es c.requires)

pub returns-in-Err-clause-value : goal.returns-in-Err-clause-value
returns-in-Err-clause-value g c =
    let R = g.K.Ord.cmp in
    let o = g.met.K.Ord.total in
    let es = c.args.self.now.pairs.items in
    let k = c.args.key.now in
    let h = subst (λ (fs : List (g.row.K.Denot × g.row.V.Denot)). IsMissing R k fs c.in-Err.field-0) c.deref.ensures.value c.in-Err.ensures in
    sym (lookup_gap R o k es c.in-Err.field-0 h)

pub returns-in-Err-clause-ok : goal.returns-in-Err-clause-ok
returns-in-Err-clause-ok g c =
    let R = g.K.Ord.cmp in
    let o = g.met.K.Ord.total in
    let es = c.args.self.now.pairs.items in
    let k = c.args.key.now in
    let h = subst (λ (fs : List (g.row.K.Denot × g.row.V.Denot)). IsMissing R k fs c.in-Err.field-0) c.deref.ensures.value c.in-Err.ensures in
    remove_gap R o k es c.in-Err.field-0 h
