use Rattle.std.proofs.Common.{ℕ, List, [], subst}
use Rattle.cj_model.specs.declared.request.Request.TheVariants as request
use Rattle.cj_desk.specs.DeskStates.{next_call, turn_taken}
use Rattle.cj_core.specs.Solos.{SoloSteps, desk_of}
use Rattle.cj_workload.proofs.Turned.{fed_read, keeps_turned}
use Rattle.cj_workload.proofs.playing.read.Goals as goal

pub returns-clause-turn : goal.returns-clause-turn
returns-clause-turn g c =
    let a = c.args.solo.now in
    let z = c.read-reply.new.self in
    let reply = c.read-reply.result in
    let steps = subst (λ (user : List ℕ). SoloSteps g.B.Backend.tells a (turn_taken (next_call (desk_of a) 0 user (request.Select c.args.select.now) reply)) z) c.requires.user c.read-reply.ensures.made in
    record {
      reply = reply;
      turn = steps;
      fed = c.in_ok-go_on.ensures.fed;
      logged = c.in_ok-go_on.ensures.logged;
      none_starved = fed_read g.B.Backend.tells a z 0 [] c.args.select.now reply steps;
    }

pub returns-clause-keeps : goal.returns-clause-keeps
returns-clause-keeps g c =
    keeps_turned g.B.Backend.tells c.args.solo.now c.read-reply.new.self 0 c.args.user.now (request.Select c.args.select.now) c.read-reply.result c.read-reply.ensures.made c.in_ok-go_on.ensures.logged
