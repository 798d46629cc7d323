use Rattle.std.proofs.Common.{◌≡◌, ◌⊎◌, bit_or, subst}
use Rattle.cj_model.specs.declared.answer.Answer.{Answer}
use Rattle.cj_model.specs.declared.answer.Reply.TheVariants.{Refused, Rows}
use Rattle.cj_model.specs.declared.codes.TheConstants.{NO_MEMORY}
use Rattle.cj_model.specs.Database.Inserts.{refusal_of_code}
use Rattle.cj_cluster.proofs.Pushed.{prefix_trans}
use Rattle.cj_board.specs.Seats.{front}
use Rattle.cj_place.specs.Layouts.{placement_of}
use Rattle.cj_read_path.proofs.Reading.{all_still, ends_kept, right_told}
use Rattle.cj_read_path.proofs.reads.round.Goals as goal

pub returns-in-Kept-clause-ended : goal.returns-in-Kept-clause-ended
returns-in-Kept-clause-ended g c = λ F before all.
    let query = c.args.query.now in
    let p = placement_of g.J.Naming.layout in
    let m = front c.look_for-looked.new.pass.seat in
    let answer = c.in-Kept.answer in
    let looked = c.in-Kept.ensures.sought in
    let came : ((c.reply_kept.result.0 ≡ Rows answer.value) × (c.reply_kept.result.1 ≡ c.in-Kept.at)) ⊎ ((c.reply_kept.result.0 ≡ Refused (refusal_of_code NO_MEMORY)) × (c.reply_kept.result.1 ≡ query.least)) =
    subst (λ (x : Answer). ((c.reply_kept.result.0 ≡ Rows x) × (c.reply_kept.result.1 ≡ c.in-Kept.at)) ⊎ ((c.reply_kept.result.0 ≡ Refused (refusal_of_code NO_MEMORY)) × (c.reply_kept.result.1 ≡ query.least))) c.deref.ensures c.reply_kept.ensures
    in
    ends_kept g.B.Backend.tells p F m query.session query.seq query.tx query.select.now query.least answer.value c.in-Kept.at c.reply_kept.result.0 c.reply_kept.result.1
    (prefix_trans F (front c.args.pass.now.seat) m before c.look_for-looked.ensures.more.seen.front) (right_told g.J.Naming.tells g.B.Backend.tells p m query.tx query.select.now answer.value c.in-Kept.at c.args.locks.now.told looked.0) looked.1 came

pub returns-in-Kept-clause-failed : goal.returns-in-Kept-clause-failed
returns-in-Kept-clause-failed g c = λ F before all. all_still F (front c.args.pass.now.seat) (front c.look_for-looked.new.pass.seat) c.args.query.now.session c.args.query.now.seq c.args.tries.now.failed c.look_for-looked.ensures.more.seen.front all

pub follow-requires-clause-look : goal.follow-requires-clause-look
follow-requires-clause-look g c = (bit_or c.args.tries.now.failed c.args.tries.now.later, c.in-Looked.ensures.sought)

pub returns-in-Looked-clause-ended : goal.returns-in-Looked-clause-ended
returns-in-Looked-clause-ended g c = λ F before all.
    let h = front c.args.pass.now.seat in
    let m = front c.look_for-looked.new.pass.seat in
    let more = c.look_for-looked.ensures.more.seen.front in
    c.follow.ensures.ended F (prefix_trans F h m before more) (all_still F h m c.args.query.now.session c.args.query.now.seq c.args.tries.now.failed more all)

pub returns-in-Looked-clause-failed : goal.returns-in-Looked-clause-failed
returns-in-Looked-clause-failed g c = λ F before all.
    let h = front c.args.pass.now.seat in
    let m = front c.look_for-looked.new.pass.seat in
    let more = c.look_for-looked.ensures.more.seen.front in
    c.follow.ensures.failed F (prefix_trans F h m before more) (all_still F h m c.args.query.now.session c.args.query.now.seq c.args.tries.now.failed more all)
