use Rattle.cj_calls.proofs.Cited.{finished_starving, open_user}
use Rattle.cj_calls.proofs.write.finish.Goals as goal

pub returns-clause-starved : goal.returns-clause-starved
returns-clause-starved g c =
    finished_starving c.args.s (open_user c.args.state.now.core) c.args.state.now c.take_everywhere.new.state c.end_entry.new.self c.starved-starved.result c.take_everywhere.ensures.taken c.end_entry.ensures c.starved-starved.ensures
