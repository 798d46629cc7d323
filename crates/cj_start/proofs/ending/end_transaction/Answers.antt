use Rattle.cj_start.proofs.StartEnds.{scheduled_open, taken_by_all, taken_open, taken_waits, transaction_ended}
use Rattle.cj_start.proofs.ending.end_transaction.Goals as goal

pub take_on_all-requires : goal.take_on_all-requires
take_on_all-requires g c = scheduled_open c.args.tx c.args.state.now c.schedule_end.new.state c.in_ok-schedule_end.ensures.ok c.requires.free

pub end_entry-requires-clause-open : goal.end_entry-requires-clause-open
end_entry-requires-clause-open g c = taken_open c.args.tx c.args.state.now c.schedule_end.new.state c.in_ok-schedule_end.ensures.ok c.take_on_all.new.state c.take_on_all.ensures.only c.in_ok-take_on_all.ensures.all c.in_ok-take_on_all.ensures.starved c.requires.free

pub end_entry-requires-clause-waits : goal.end_entry-requires-clause-waits
end_entry-requires-clause-waits g c = taken_waits c.args.tx c.args.state.now c.schedule_end.new.state c.in_ok-schedule_end.ensures.ok c.take_on_all.new.state c.take_on_all.ensures.only c.in_ok-take_on_all.ensures.all c.in_ok-take_on_all.ensures.starved c.requires.free

pub end_entry-requires-clause-behind : goal.end_entry-requires-clause-behind
end_entry-requires-clause-behind g c = taken_by_all c.args.tx c.args.state.now c.schedule_end.new.state c.in_ok-schedule_end.ensures.ok c.take_on_all.new.state c.take_on_all.ensures.only c.in_ok-take_on_all.ensures.all c.in_ok-take_on_all.ensures.starved g.B.Backend.tells c.legal.ensures.world c.requires.stands

pub returns-clause-ended : goal.returns-clause-ended
returns-clause-ended g c = transaction_ended c.args.tx c.args.state.now c.schedule_end.new.state c.in_ok-schedule_end.ensures.ok c.take_on_all.new.state c.take_on_all.ensures.only c.in_ok-take_on_all.ensures.all c.in_ok-take_on_all.ensures.starved c.end_entry.new.self c.end_entry.ensures g.B.Backend.tells c.legal.ensures.world c.requires.free c.requires.alone
