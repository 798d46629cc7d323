use Rattle.std.proofs.Common.{◌∙◌, refl, ◌<◌, length, arith}
use Rattle.std.proofs.lemmas.List.{take_more, take_more_set, map-append}
use Rattle.std.proofs.Math.ListN.{length-set}
use Rattle.cj_model.proofs.name.lowered.Goals as goal

pub loop-i-preserved : goal.loop-i-preserved
loop-i-preserved c =
    let h : c.loop-i.i < length c.loop-i.place = omega (arith, c.requires) in
    let e = take_more_set c.loop-i.place c.loop-i.i c.to_ascii_lowercase.result h in
    let f = take_more c.args.word.now c.loop-i.i 0 c.loop-i-test.true in (
      length-set _ _ _ ∙ c.loop-i.invariant.0,
      rw (e, f, map-append) (rw (c.loop-i.invariant.1, c.to_ascii_lowercase.ensures.value) refl),
    )
