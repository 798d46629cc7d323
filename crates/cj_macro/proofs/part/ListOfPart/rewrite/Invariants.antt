use Rattle.std.proofs.Common.{◌≡◌, true, ◌++◌, take, drop}
use Rattle.cj_macro.proofs.Common.{are_drawable, flat_map, generator_after_draws}
use Rattle.cj_macro.proofs.Drawing.{rest_rewritten}
use Rattle.cj_macro.proofs.part.ListOfPart.rewrite.Given as goal

abbrev pub invariant-loop-item : goal.invariant-loop-item
invariant-loop-item g l =
    let rest = rest_rewritten g.D.Draw.drawn g.D.Draw.later g.T.Part.bounds (g.T.Part.rewritten l.now) in
    record {
      items : take l.item-index l.item-items ++ rest l.draw (drop l.item-index l.item-items) ≡ rest l.fn.draw l.fn.self;
      state : generator_after_draws g.D.Draw.later l.draw (flat_map g.T.Part.bounds (drop l.item-index l.item-items)) ≡ generator_after_draws g.D.Draw.later l.fn.draw (flat_map g.T.Part.bounds l.fn.self);
      drawable : are_drawable (flat_map g.T.Part.bounds (drop l.item-index l.item-items)) ≡ true;
    }
