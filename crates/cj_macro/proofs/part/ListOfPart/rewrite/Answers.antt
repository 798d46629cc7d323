use Rattle.std.proofs.Common.{◌<◌, length, w64, of_z, to_z, arith}
use Rattle.std.proofs.lemmas.Grind.{common_steps}
use Rattle.cj_macro.proofs.Common.{flat_map, generator_after_draws}
use Rattle.cj_macro.proofs.Drawing.{state_step, rest_rewritten, rest_step}
use Rattle.cj_macro.proofs.part.ListOfPart.rewrite.Goals as goal

pub loop-item-preserved : goal.loop-item-preserved
loop-item-preserved g c =
    let items = c.loop-item.item-items in
    let i = c.loop-item.item-index in
    let d = c.item-item.result in
    let x = c.rewrite.new.self in
    let within : i < length items = omega arith in
    let item = g.T.Part.rewritten (to_z w64 (of_z w64 c.args.now)) in
    let whole = rest_rewritten g.D.Draw.drawn g.D.Draw.later g.T.Part.bounds item c.args.draw.now c.args.self.now in
    let last = generator_after_draws g.D.Draw.later c.args.draw.now (flat_map g.T.Part.bounds c.args.self.now) in
    record {
      items = rest_step g.D.Draw.drawn g.D.Draw.later g.T.Part.bounds item c.loop-item.draw c.rewrite.new.draw items whole i d x within c.rewrite.ensures.rewritten c.rewrite.ensures.draw c.loop-item.invariant.items;
      state = state_step g.D.Draw.later g.T.Part.bounds c.loop-item.draw c.rewrite.new.draw last items i d x within c.rewrite.ensures.draw c.loop-item.invariant.state;
      drawable = grind (arith, common_steps);
    }
