use Rattle.cj_board.specs.Seats.{front, pass_view}
use Rattle.cj_pass.proofs.Passes.{noted_then}
use Rattle.cj_cache_shard.proofs.Finding.{within_seen}
use Rattle.cj_read_path.proofs.reads.find_kept.Goals as goal

pub look_up_again-requires : goal.look_up_again-requires
look_up_again-requires g c = record { owes = within_seen (front c.args.pass.now.seat) (front c.look_up.new.pass.seat) c.args.query.now.least c.look_up.ensures.more.seen.front c.requires.owes }

pub returns-in-Ok-Behind-clause-more : goal.returns-in-Ok-Behind-clause-more
returns-in-Ok-Behind-clause-more g c = noted_then (pass_view c.args.pass.now.seat) (pass_view c.look_up.new.pass.seat) (pass_view c.look_up_again.new.pass.seat) c.look_up.ensures.more c.look_up_again.ensures.more
