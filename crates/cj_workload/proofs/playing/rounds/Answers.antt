use Rattle.std.proofs.Common.{◌+◌, sym, subst, arith}
use Rattle.cj_model.specs.Sql.WrittenRequests.{IsWritten}
use Rattle.cj_workload.proofs.Kept.{keeps_both}
use Rattle.cj_workload.proofs.Rounds.{draws_more, rounds_more}
use Rattle.cj_workload.proofs.Written.{statement_written}
use Rattle.cj_workload.proofs.playing.rounds.Goals as goal

pub round-requires-clause-written : goal.round-requires-clause-written
round-requires-clause-written g c = subst IsWritten (sym c.in_ok-statement.ensures.drawn) (statement_written c.loop-done.draw (c.loop-done.done + 1) (omega arith) (omega arith))

pub loop-done-preserved : goal.loop-done-preserved
loop-done-preserved g c =
    let i = c.loop-done.invariant in
    let few = i.few in
    let more = c.in_ok-enabled.ensures.few in
    record {
      draws = draws_more c.args.seed c.loop-done.done c.loop-done.draw c.next_statement.new.draw i.draws c.in_ok-statement.ensures.later;
      plays =
          rounds_more g.B.Backend.tells g.B.Backend.can_be_armed c.args.seed c.loop-done.done c.args.solo.now c.loop-done.solo c.round.new.solo c.loop-done.draw _ i.draws c.in_ok-statement.ensures.drawn i.plays c.in_ok-enabled.ensures.plays;
      keeps = keeps_both c.loop-done.done 1 c.loop-done.enabled c.in_ok-enabled.field-0 _ _ _ i.keeps c.in_ok-enabled.ensures.keeps;
      few = omega (arith, few, more);
    }
