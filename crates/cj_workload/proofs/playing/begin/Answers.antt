use Rattle.std.proofs.Common.{◌∙◌, ap, sym, subst}
use Rattle.cj_workload.proofs.Common.{first_host, IsWritten, WorldState}
use Rattle.cj_model.specs.declared.schema.Create.{Create}
use Rattle.cj_model.specs.declared.request.Request.TheVariants as request
use Rattle.cj_workload.proofs.Kept.{keeps_both}
use Rattle.cj_workload.proofs.Rounds.{host_within}
use Rattle.cj_workload.proofs.Written.{creation_written}
use Rattle.cj_workload.proofs.playing.begin.Goals as goal

pub write-requires-clause-written : goal.write-requires-clause-written
write-requires-clause-written g c = subst (λ (x : Create). IsWritten (request.Create x)) (sym c.in_ok-create.ensures) creation_written

pub take_dump-requires : goal.take_dump-requires
take_dump-requires g c =
    host_within c.write.new.solo.world.core.placement c.in-Some.b (ap (λ (w : WorldState). first_host w.core.placement) (sym c.world.ensures) ∙ ap first_host (sym c.placement.ensures.placement) ∙ (sym c.first_host.ensures ∙ c.in-Some.is))

pub returns-in_ok-take_dump-in-Some-clause-keeps : goal.returns-in_ok-take_dump-in-Some-clause-keeps
returns-in_ok-take_dump-in-Some-clause-keeps g c =
    let dumped = c.in_ok-take_dump-in-Some.ensures.keeps in
    (_, keeps_both 1 0 0 dumped.0 _ _ _ c.in_ok-write.ensures.keeps dumped.1)
