use Rattle.cj_board.specs.Seats.{front, pass_view}
use Rattle.cj_pass.proofs.Passes.{noted_then}
use Rattle.cj_cache_shard.proofs.Finding.{within_seen}
use Rattle.cj_read_path.proofs.reads.look_up_again.Goals as goal

pub look_up-requires : goal.look_up-requires
look_up-requires g c = record { owes = within_seen (front c.args.pass.now.seat) (front c.catch_up.new.pass.seat) c.args.query.now.least c.catch_up.ensures.more.seen.front c.requires.owes }

pub returns-in-Ok-Kept-clause-more : goal.returns-in-Ok-Kept-clause-more
returns-in-Ok-Kept-clause-more g c = noted_then (pass_view c.args.pass.now.seat) (pass_view c.catch_up.new.pass.seat) (pass_view c.look_up.new.pass.seat) c.catch_up.ensures.more c.look_up.ensures.more

pub returns-in-Ok-Absent-clause-more : goal.returns-in-Ok-Absent-clause-more
returns-in-Ok-Absent-clause-more g c = noted_then (pass_view c.args.pass.now.seat) (pass_view c.catch_up.new.pass.seat) (pass_view c.look_up.new.pass.seat) c.catch_up.ensures.more c.look_up.ensures.more
