use Rattle.cj_board.specs.Seats.{front}
use Rattle.cj_read_path.proofs.Reading.{all_still, failed_earlier, one_more}
use Rattle.cj_read_path.proofs.reads.try_at.Goals as goal

pub returns-in-Ended-clause-failed : goal.returns-in-Ended-clause-failed
returns-in-Ended-clause-failed g c = λ F before all. all_still F (front c.args.pass.now.seat) (front c.attempt_at.new.pass.seat) c.args.query.now.session c.args.query.now.seq c.args.tries.now.failed c.attempt_at.ensures.seen.front all

pub returns-in-Failed-clause-failed : goal.returns-in-Failed-clause-failed
returns-in-Failed-clause-failed g c = λ F before all.
    let s = c.args.query.now.session in
    let q = c.args.query.now.seq in
    let h = front c.args.pass.now.seat in
    let G = front c.attempt_at.new.pass.seat in
    one_more F h G s q c.args.tries.now.failed c.with_bit-tries.result c.args.b c.attempt_at.ensures.seen.front c.with_bit-tries.ensures.bits all (failed_earlier F h G s q c.args.b before c.in-Failed.ensures.attempt)

pub returns-in-Later-clause-failed : goal.returns-in-Later-clause-failed
returns-in-Later-clause-failed g c = λ F before all. all_still F (front c.args.pass.now.seat) (front c.attempt_at.new.pass.seat) c.args.query.now.session c.args.query.now.seq c.args.tries.now.failed c.attempt_at.ensures.seen.front all
