use Rattle.std.proofs.Common.{◌-◌, ◌∙◌, ap, drop, length, rules}
use Rattle.cj_model.specs.Wire.Frames.{frame}
use Rattle.cj_frame.proofs.Fed.{taken_off}
use Rattle.cj_frame.proofs.feed.Feed.next.Goals as goal

pub returns-in-Ok-Some : goal.returns-in-Ok-Some
returns-in-Ok-Some c =
    let read = rw c.in-Ok-Some.field-0-is at c.in-Ok-Some.ensures in
    let after = c.in-Ok-Some.after.now in (
      taken_off c.args.self.now c.self.inside.bytes.items c.split_at.result.1.now (frame c.in-Ok-Some.message) after c.self.inside.at (c.len.result - length after)
          c.self.view_is (c.split_at.ensures.back ∙ ap (drop c.self.inside.at) c.deref.ensures.value) read.0 (search rules),
      read.1,
    )
