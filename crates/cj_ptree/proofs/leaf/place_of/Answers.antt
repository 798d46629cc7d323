use Rattle.std.proofs.Common.{◌≡◌, ◌+◌, ◌-◌, ◌/◌, ◌<◌, length, get_or, take, sym, ap, ◌∙◌, subst, arith, add-one, Less, Equal, Greater}
use Rattle.std.proofs.lemmas.List.{get_or_default}
use Rattle.cj_ptree.specs.Pairs.{AreBelow}
use Rattle.cj_ptree.proofs.OrderLaws.{greater_back}
use Rattle.cj_ptree.proofs.PlaceLaws.{above_hit, above_since, below_hit, below_upto}
use Rattle.cj_ptree.proofs.leaf.place_of.Goals as goal

pub loop-low-preserved-in-Less : goal.loop-low-preserved-in-Less
loop-low-preserved-in-Less g c =
    let R = g.K.Ord.cmp in
    let es = c.args.pairs.now in
    let k = c.args.key.now in
    let i = c.loop-low.low + (c.loop-low.high - c.loop-low.low) / 2 in
    let d = c.index-pairs-middle.result in
    let e : R k (get_or es i d).0 ≡ Less = cc (ap (λ (x : g.row.K.Denot × g.row.V.Denot). R k x.0) c.index-pairs-middle.is, c.in-Less.ensures) in
    record {
      in_order = omega arith;
      within = omega arith;
      below = c.loop-low.invariant.below;
      above = above_since R g.met.K.Ord.total k es c.requires i d (omega arith) e;
    }

pub returns-in-Equal : goal.returns-in-Equal
returns-in-Equal g c =
    let R = g.K.Ord.cmp in
    let es = c.args.pairs.now in
    let k = c.args.key.now in
    let i = c.loop-low.low + (c.loop-low.high - c.loop-low.low) / 2 in
    let d = c.index-pairs-middle.result in
    let h : i < length es = omega arith in
    let e : R k (get_or es i d).0 ≡ Equal = cc (ap (λ (x : g.row.K.Denot × g.row.V.Denot). R k x.0) c.index-pairs-middle.is, c.in-Equal.ensures) in
    record {
      within = h;
      below = below_hit R g.met.K.Ord.total k es c.requires i d h e;
      same = λ x. ap (λ (y : g.row.K.Denot × g.row.V.Denot). R k y.0) (get_or_default es i x d h) ∙ e;
      above = above_hit R g.met.K.Ord.total k es c.requires i d h e;
    }

pub loop-low-preserved : goal.loop-low-preserved
loop-low-preserved g c =
    let R = g.K.Ord.cmp in
    let es = c.args.pairs.now in
    let k = c.args.key.now in
    let i = c.loop-low.low + (c.loop-low.high - c.loop-low.low) / 2 in
    let d = c.index-pairs-middle.result in
    let e : R k (get_or es i d).0 ≡ Greater = cc (ap (λ (x : g.row.K.Denot × g.row.V.Denot). R k x.0) c.index-pairs-middle.is, c.in-Greater.ensures) in
    record {
      in_order = omega arith;
      within = c.loop-low.invariant.within;
      below = subst (λ n. AreBelow R k (take n es)) (sym (add-one i)) (below_upto R g.met.K.Ord.total k es c.requires i d (omega arith) (greater_back R g.met.K.Ord.total k _ e));
      above = c.loop-low.invariant.above;
    }
