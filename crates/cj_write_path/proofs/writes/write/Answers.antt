use Rattle.std.specs.Arc.{arc_value}
use Rattle.cj_board.specs.Seats.{front, pass_view}
use Rattle.cj_place.specs.Layouts.{placement_of}
use Rattle.cj_write_path.proofs.Writing.{write_counted, write_own, write_refused, write_turn, write_within}
use Rattle.cj_write_path.proofs.writes.write.Goals as goal

pub returns-in-Ok-clause-turn : goal.returns-in-Ok-clause-turn
returns-in-Ok-clause-turn g c =
    write_turn g.B.Backend.tells (placement_of g.J.Naming.layout) (front c.args.pass.now.seat) (pass_view c.schedule.new.pass.seat) (pass_view c.carry_out_beside-reply.new.pass.seat) (pass_view c.check_count.new.pass.seat) c.args.e (arc_value c.args.copy.now) c.in-Ok.entry.number c.carry_out_beside-reply.result c.requires.copy c.in-Ok.ensures.since c.carry_out_beside-reply.ensures.ended c.carry_out_beside-reply.ensures.legal
    c.carry_out_beside-reply.ensures.seen c.check_count.ensures.same c.in-Ok.ensures.own c.requires.own.1 c.in-Ok.ensures.counted c.check_count.ensures.counted c.requires.session

pub returns-in-Ok-clause-own : goal.returns-in-Ok-clause-own
returns-in-Ok-clause-own g c =
    write_own g.B.Backend.tells (placement_of g.J.Naming.layout) (front c.args.pass.now.seat) (pass_view c.schedule.new.pass.seat) (pass_view c.carry_out_beside-reply.new.pass.seat) (pass_view c.check_count.new.pass.seat) c.args.e (arc_value c.args.copy.now) c.in-Ok.entry.number c.carry_out_beside-reply.result c.requires.copy c.in-Ok.ensures.since c.carry_out_beside-reply.ensures.ended c.carry_out_beside-reply.ensures.legal
    c.carry_out_beside-reply.ensures.seen c.check_count.ensures.same c.in-Ok.ensures.own c.requires.own.1 c.in-Ok.ensures.counted c.check_count.ensures.counted

pub returns-in-Ok-clause-counted : goal.returns-in-Ok-clause-counted
returns-in-Ok-clause-counted g c =
    write_counted g.B.Backend.tells (placement_of g.J.Naming.layout) (front c.args.pass.now.seat) (pass_view c.schedule.new.pass.seat) (pass_view c.carry_out_beside-reply.new.pass.seat) (pass_view c.check_count.new.pass.seat) c.args.e (arc_value c.args.copy.now) c.in-Ok.entry.number c.carry_out_beside-reply.result c.requires.copy c.in-Ok.ensures.since c.carry_out_beside-reply.ensures.ended c.carry_out_beside-reply.ensures.legal
    c.carry_out_beside-reply.ensures.seen c.check_count.ensures.same c.in-Ok.ensures.own c.requires.own.1 c.in-Ok.ensures.counted c.check_count.ensures.counted

pub returns-in-Ok-clause-within : goal.returns-in-Ok-clause-within
returns-in-Ok-clause-within g c =
    write_within g.B.Backend.tells (placement_of g.J.Naming.layout) (front c.args.pass.now.seat) (pass_view c.schedule.new.pass.seat) (pass_view c.carry_out_beside-reply.new.pass.seat) (pass_view c.check_count.new.pass.seat) c.args.e (arc_value c.args.copy.now) c.in-Ok.entry.number c.carry_out_beside-reply.result c.requires.copy c.in-Ok.ensures.since c.carry_out_beside-reply.ensures.ended c.carry_out_beside-reply.ensures.legal
    c.carry_out_beside-reply.ensures.seen c.check_count.ensures.same c.in-Ok.ensures.own c.requires.own.1 c.in-Ok.ensures.counted c.check_count.ensures.counted

pub returns-in-Err-clause-turn : goal.returns-in-Err-clause-turn
returns-in-Err-clause-turn g c = write_refused g.B.Backend.tells (placement_of g.J.Naming.layout) (front c.args.pass.now.seat) (front c.schedule.new.pass.seat) c.args.e c.in-Err.error c.refusal_for.result c.refusal_for.ensures c.in-Err.ensures.err c.in-Err.ensures.legal c.requires.session
