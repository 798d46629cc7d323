use Rattle.std.proofs.Common.{◌≡◌, ◌∙◌, ◌++◌, List, ap, arith, subst, sym}
use Rattle.cj_ptree.specs.Pairs.{PairsRise}
use Rattle.cj_ptree.proofs.LeafLaws.{append_gap, append_split}
use Rattle.cj_ptree.proofs.PlaceLaws.{insert_gap, lookup_gap}
use Rattle.cj_ptree.proofs.ZoneLaws.{rise_insert}
use Rattle.cj_ptree.proofs.leaf.Leaf.add.Goals as goal

pub returns-then-place-len-clause-ok : goal.returns-then-place-len-clause-ok
returns-then-place-len-clause-ok g c =
    let R = g.K.Ord.cmp in
    let o = g.met.K.Ord.total in
    let es = c.args.self.now.pairs.items in
    let gap = c.requires.gap in
    let at : c.args.place ≡ Rattle.std.proofs.Common.length es = omega arith in
    let h = append_split R o c.args.key c.args.value es c.args.place gap at c.in_ok-bound.bound c.in_ok-right.right.pairs.items c.in_ok-bound.ensures c.in_ok-right.ensures.pairs (omega arith) in
    record {
      value = sym (lookup_gap R o c.args.key es c.args.place gap);
      put = ap (λ (fs : List (g.row.K.Denot × g.row.V.Denot)). es ++ fs) c.in_ok-right.ensures.pairs ∙ append_gap R o c.args.key c.args.value es c.args.place gap at;
      split = (h.0, h.1, h.2, h.3, c.in_ok-right.ensures.built);
    }

pub split-requires : goal.split-requires
split-requires g c =
    let R = g.K.Ord.cmp in
    let o = g.met.K.Ord.total in
    let es = c.args.self.now.pairs.items in
    subst (λ (fs : List (g.row.K.Denot × g.row.V.Denot)). PairsRise R fs)
    (sym (c.in_ok-insert.ensures.items ∙ insert_gap R o c.args.key es c.args.place c.requires.gap c.args.value))
    (rise_insert R o es c.args.key c.args.value c.requires.rises)

pub returns-clause-ok : goal.returns-clause-ok
returns-clause-ok g c =
    let R = g.K.Ord.cmp in
    let o = g.met.K.Ord.total in
    let es = c.args.self.now.pairs.items in
    record {
      value = sym (lookup_gap R o c.args.key es c.args.place c.requires.gap);
      put = c.split.ensures.shared ∙ c.in_ok-insert.ensures.items ∙ insert_gap R o c.args.key es c.args.place c.requires.gap c.args.value;
      split = c.split.ensures.split;
    }
