use Rattle.cj_moves.proofs.any_move.why_not_now.Goals as goal

pub returns-in-Schedule : goal.returns-in-Schedule
returns-in-Schedule g c = rw c.in-Schedule.is (c.not_now_schedule.ensures c.in-Schedule.request)

pub returns-in-Read : goal.returns-in-Read
returns-in-Read g c = rw c.in-Read.is (c.not_now_read.ensures c.in-Read.b c.in-Read.select)
