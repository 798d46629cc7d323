use Rattle.std.proofs.Common.{refl, ap, ◌∙◌}
use Rattle.cj_start.proofs.Cited.{Entry, abort_entry, aborted_after, with_entry}
use Rattle.cj_start.proofs.ending.schedule_end.Goals as goal

pub returns-in-Ok-schedule_abort-clause-ok : goal.returns-in-Ok-schedule_abort-clause-ok
returns-in-Ok-schedule_abort-clause-ok g c =
    let old = c.args.state.now in
    let e : Entry = abort_entry old.core c.args.tx in
    aborted_after old c.schedule_abort.new.self e refl (c.in-Ok-schedule_abort.ensures.core ∙ ap (λ (x : Entry). with_entry old.core x) c.in-Ok.ensures.is) c.schedule_abort.ensures.same c.schedule_abort.ensures.cache
