use Rattle.std.proofs.Common.{Option, Some, IfErr, IfSome, sym, subst}
use Rattle.cj_board.specs.Seats.{front, pass_view}
use Rattle.cj_dump.specs.declared.dump.Dump.{Dump}
use Rattle.cj_pass.proofs.Passes.{noted_then}
use Rattle.cj_return_path.specs.Restoring.{IsRightDump}
use Rattle.cj_replay.specs.Reenabling.{RefusesReenabling}
use Rattle.cj_replay.proofs.Restored.{refused_since, right_later}
use Rattle.cj_replay.proofs.reenabling.catch_up.Goals as goal

pub load_and_take-requires-clause-right : goal.load_and_take-requires-clause-right
load_and_take-requires-clause-right g c =
    let F = front c.args.pass.now.seat in
    right_later g.B.Backend.tells F (front c.take_log-taken.new.pass.seat) c.in-Some.dump c.take_log-taken.ensures.more.seen.front (subst (λ (d : Option Dump). IfSome d (IsRightDump g.B.Backend.tells F)) c.in-Some.is c.requires.right)

pub returns-in-Some-clause-err : goal.returns-in-Some-clause-err
returns-in-Some-clause-err g c =
    let u = pass_view c.args.pass.now.seat in
    let w = pass_view c.load_and_take.new.pass.seat in
    subst (λ (d : Option Dump). IfErr c.load_and_take.result (RefusesReenabling g.J.Naming.layout c.args.b d u w)) (sym c.in-Some.is)
    (refused_since g.J.Naming.layout c.args.b (Some c.in-Some.dump) u (pass_view c.take_log-taken.new.pass.seat) w c.take_log-taken.ensures.more c.load_and_take.result c.load_and_take.ensures.err)

pub returns-in-Some-clause-more : goal.returns-in-Some-clause-more
returns-in-Some-clause-more g c =
    noted_then (pass_view c.args.pass.now.seat) (pass_view c.take_log-taken.new.pass.seat) (pass_view c.load_and_take.new.pass.seat) c.take_log-taken.ensures.more c.load_and_take.ensures.more

pub returns-in-None-clause-err : goal.returns-in-None-clause-err
returns-in-None-clause-err g c = rw c.in-Err-NeedsDump.field-0-is at (c.in-Err-NeedsDump.ensures.err c.args.dump)

pub returns-in-Err : goal.returns-in-Err
returns-in-Err g c = record { err = c.in-Err.ensures.err c.args.dump; more = c.take_log-taken.ensures.more; legal = c.take_log-taken.ensures.legal }
