use Rattle.std.proofs.Common.{ℕ, List, subst}
use Rattle.cj_model.specs.Sql.PlainRequests.{request_of}
use Rattle.cj_desk.specs.DeskStates.{next_call, turn_taken}
use Rattle.cj_calls.specs.Entries.{EndsStarving}
use Rattle.cj_core.specs.Solos.{SoloSteps, desk_of}
use Rattle.cj_workload.proofs.Turned.{keeps_turned}
use Rattle.cj_workload.proofs.playing.write.Goals as goal

pub returns-clause-turn : goal.returns-clause-turn
returns-clause-turn g c =
    let a = c.args.solo.now in
    let z = c.write_telling_starved-reply.new.self in
    let reply = c.write_telling_starved-reply.result.0 in
    let asked = c.write_telling_starved-reply.ensures in
    record {
      reply = reply;
      turn = subst (λ (user : List ℕ). SoloSteps g.B.Backend.tells a (turn_taken (next_call (desk_of a) 0 user (request_of c.args.act) reply)) z) c.requires.user asked.made;
      fed = c.in_ok-go_on.ensures.fed;
      logged = c.in_ok-go_on.ensures.logged;
      none_starved = subst (λ (n : ℕ). EndsStarving n a.world.core.history z.world.core.history) c.if-starved-ne0.false asked.starved;
    }

pub returns-clause-keeps : goal.returns-clause-keeps
returns-clause-keeps g c =
    keeps_turned g.B.Backend.tells c.args.solo.now c.write_telling_starved-reply.new.self 0 c.args.user.now (request_of c.args.act) c.write_telling_starved-reply.result.0 c.write_telling_starved-reply.ensures.made c.in_ok-go_on.ensures.logged
