use Rattle.std.proofs.Common.{◌∙◌, ap, drop, length, arith}
use Rattle.std.specs.List.{flat_map}
use Rattle.cj_model.proofs.CutLaws.{cut_together, walked}
use Rattle.cj_model.proofs.lists.ListsOf.behind.Goals as goal

pub loop-preserved : goal.loop-preserved
loop-preserved g c = walked c.loop.counter c.args.self.now c.loop.walk c.next.new.self c.next.result c.loop.invariant c.next.ensures.steps

pub returns : goal.returns
returns g c = ap length (cut_together _ _ c.walk.invariant ∙ ap (flat_map (λ list. list)) (c.walk.view_is ∙ c.loop.invariant ∙ ap (λ n. drop n c.args.self.now) (omega (arith, c.loop-test.false, c.loop.auto.counter-end))))
