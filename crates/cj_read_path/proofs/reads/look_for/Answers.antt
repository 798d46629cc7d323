use Rattle.cj_board.specs.Seats.{front, pass_view}
use Rattle.cj_pass.proofs.Passes.{noted_then}
use Rattle.cj_cache_shard.proofs.Finding.{within_seen}
use Rattle.cj_read_path.proofs.reads.look_for.Goals as goal

pub look_for-requires : goal.look_for-requires
look_for-requires g c = record { owes = within_seen (front c.args.pass.now.seat) (front c.find_kept.new.pass.seat) c.args.query.now.least c.find_kept.ensures.more.seen.front c.requires.owes }

pub returns-in-None-clause-more : goal.returns-in-None-clause-more
returns-in-None-clause-more g c = noted_then (pass_view c.args.pass.now.seat) (pass_view c.find_kept.new.pass.seat) (pass_view c.look_for.new.pass.seat) c.find_kept.ensures.more c.look_for.ensures.more
