use Rattle.std.proofs.Common.{◌≡◌, ◌∙◌, ◌+◌, ap, subst, arith}
use Rattle.cj_state.specs.ArmedCells.{armings_of}
use Rattle.cj_workload.proofs.Common.{faults_of, session_at, SoloState, WorldState}
use Rattle.cj_workload.specs.Summaries.{HaveCountsOf, IsSummary, PlaysWorkload, enablings}
use Rattle.cj_workload.specs.Workloads.{BeginsWorkload}
use Rattle.cj_workload.proofs.Rounds.{none_asked}
use Rattle.cj_workload.proofs.playing.play.Goals as goal

-- the session that was opened has made no request
pub begin-requires-clause-room : goal.begin-requires-clause-room
begin-requires-clause-room g c =
    let none = ap (λ (s : SoloState). (session_at s.world.core s.session).requests) c.in-Ok.ensures.opened ∙ none_asked c.args.world.core c.requires.fresh in
    omega (arith, none)

-- and one for the table
pub rounds-requires-clause-room : goal.rounds-requires-clause-room
rounds-requires-clause-room g c =
    let none = ap (λ (s : SoloState). (session_at s.world.core s.session).requests) c.in-Ok.ensures.opened ∙ none_asked c.args.world.core c.requires.fresh in
    let made = c.in_ok-begin.ensures.keeps.1.requests in
    let few = c.requires.few in
    omega (arith, none, made, few)

-- closing the session changes nothing that is summed up
pub returns-clause-played : goal.returns-clause-played
returns-clause-played g c =
    let tells = g.B.Backend.tells in
    let armable = g.B.Backend.can_be_armed in
    let begun = c.begin.new.solo in
    let ended = c.rounds.new.solo in
    let n = c.in_ok-enabled.enabled in
    let i = subst (λ (w : WorldState). enablings w.core.history ≡ enablings begun.world.core.history + n → IsSummary tells c.args.count begun.world w c.in_ok-summary.summary) c.close.ensures (c.in_ok-summary.ensures.summary begun.world) c.in_ok-enabled.ensures.keeps.counted in
    let plays : PlaysWorkload tells armable c.args.seed c.args.count c.args.world c.in_ok-summary.summary =
    record {
      begun = begun;
      begins = subst (λ (s : SoloState). BeginsWorkload tells armable s begun) c.in-Ok.ensures.opened c.in_ok-begin.ensures.begins;
      ended = ended;
      rounds = c.in_ok-enabled.ensures.plays;
      log_faults = c.in_ok-enabled.ensures.keeps.log_faults ∙ (c.in_ok-begin.ensures.keeps.1.log_faults ∙ ap (λ (s : SoloState). s.world.recovery_log.faults) c.in-Ok.ensures.opened);
      summary = record { statements = i.statements; entries = i.entries; faults = i.faults; enabled = i.enabled; rows = i.rows; hits = i.hits; misses = i.misses; equal = i.equal };
    }
    in
    let counts : HaveCountsOf g.B.Backend.faults g.B.Backend.arming c.in_ok-summary.backends ended.world =
    record {
      failed = c.in_ok-summary.ensures.backends.failed ∙ ap (λ (w : WorldState). faults_of w.cells) c.close.ensures;
      armed = c.in_ok-summary.ensures.backends.armed ∙ ap (λ (w : WorldState). armings_of w.cells) c.close.ensures;
    }
    in
    (plays, counts)
