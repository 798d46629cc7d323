use Rattle.std.proofs.Common.{◌∙◌, List, ap, subst, sym, Some}
use Rattle.std.proofs.lemmas.List.{append-nil}
use Rattle.cj_ptree.specs.Pairs.{IsHit, PairsRise}
use Rattle.cj_ptree.proofs.PlaceLaws.{lookup_hit, set_hit}
use Rattle.cj_ptree.proofs.ZoneLaws.{rise_insert}
use Rattle.cj_ptree.proofs.leaf.LeafNode.insert.Goals as goal

pub returns-in-Ok-clause-ok : goal.returns-in-Ok-clause-ok
returns-in-Ok-clause-ok g c =
    let R = g.K.Ord.cmp in
    let o = g.met.K.Ord.total in
    let es = c.args.self.now.pairs.items in
    let k = c.args.key in
    let h = subst (λ (fs : List (g.row.K.Denot × g.row.V.Denot)). IsHit R k fs c.in-Ok.place) c.deref.ensures.value c.in-Ok.ensures in
    let e = c.index_mut.result.now in
    record {
      value = sym (lookup_hit R o k es c.in-Ok.place h e ∙ ap (λ (x : g.row.K.Denot × g.row.V.Denot). Some x.1) (sym c.index_mut.ensures.value) ∙ ap (λ (x : g.row.V.Denot). Some x) (sym c.replace.ensures.value));
      put = append-nil _ ∙ set_hit R o k es c.in-Ok.place h e c.args.value c.replace.new.dest c.index_mut.ensures.value c.replace.ensures.after;
      split = tt;
    }

pub returns-in-Ok-clause-built : goal.returns-in-Ok-clause-built
returns-in-Ok-clause-built g c =
    let R = g.K.Ord.cmp in
    let o = g.met.K.Ord.total in
    let es = c.args.self.now.pairs.items in
    let k = c.args.key in
    let h = subst (λ (fs : List (g.row.K.Denot × g.row.V.Denot)). IsHit R k fs c.in-Ok.place) c.deref.ensures.value c.in-Ok.ensures in
    let e = c.index_mut.result.now in
    subst (λ (fs : List (g.row.K.Denot × g.row.V.Denot)). PairsRise R fs) (sym (set_hit R o k es c.in-Ok.place h e c.args.value c.replace.new.dest c.index_mut.ensures.value c.replace.ensures.after))
    (rise_insert R o es k c.args.value c.requires)
