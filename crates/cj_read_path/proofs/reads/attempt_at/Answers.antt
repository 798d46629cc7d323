use Rattle.std.proofs.Common.{refl, ap, sym, subst}
use mathlib.Core.List.{IsPrefix}
use Rattle.cj_model.specs.declared.answer.Refusal.{Refusal}
use Rattle.cj_model.specs.declared.answer.Reply.TheVariants.{Refused}
use Rattle.cj_cluster.proofs.Pushed.{prefix_self}
use Rattle.cj_board.specs.declared.view.SeatView.{SeatView}
use Rattle.cj_board.specs.Seats.{front, pass_view}
use Rattle.cj_place.specs.Layouts.{placement_of}
use Rattle.cj_read_path.proofs.Reading.{attempt_earlier, ends_answered, ends_starved}
use Rattle.cj_read_path.proofs.reads.attempt_at.Goals as goal

pub returns-in-Ok-clause-attempt : goal.returns-in-Ok-clause-attempt
returns-in-Ok-clause-attempt g c =
    let query = c.args.query.now in
    ends_answered g.B.Backend.tells (placement_of g.J.Naming.layout) (front c.args.pass.now.seat) (front c.end_answered.new.pass.seat) query.session query.seq query.tx c.args.b query.select.now query.least c.args.owed (pass_view c.ask.new.pass.seat)
    c.in-Ok.answer c.reply_of.result c.in-Ok.position c.requires.serves c.requires.owes c.in-Ok.ensures.answer c.in-Ok.ensures.more.seen.front (subst (λ (v : SeatView). IsPrefix (front c.ask.new.pass.seat) v.front) (sym c.end_answered.ensures.same) (prefix_self (front c.ask.new.pass.seat))) c.reply_of.ensures

pub returns-in-Err-Failed-clause-attempt : goal.returns-in-Err-Failed-clause-attempt
returns-in-Err-Failed-clause-attempt g c =
    let query = c.args.query.now in
    attempt_earlier g.B.Backend.tells (placement_of g.J.Naming.layout) (front c.args.pass.now.seat) (front c.ask.new.pass.seat) (front c.attempt_failed.new.pass.seat) query.session query.seq c.args.b query.tx query.select.now query.least
    c.attempt_failed.result c.ask.ensures.more.seen.front c.attempt_failed.ensures.attempt

pub returns-in-Err-NoMemory-clause-attempt : goal.returns-in-Err-NoMemory-clause-attempt
returns-in-Err-NoMemory-clause-attempt g c =
    let query = c.args.query.now in
    ends_starved g.B.Backend.tells (placement_of g.J.Naming.layout) (front c.args.pass.now.seat) (front c.ask.new.pass.seat) query.session query.seq query.tx query.select.now query.least (Refused c.of_code.result) query.least
    c.ask.ensures.more.seen.front (ap (λ (r : Refusal). Refused r) c.of_code.ensures) refl
