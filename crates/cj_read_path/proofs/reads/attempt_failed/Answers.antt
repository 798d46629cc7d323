use Rattle.std.proofs.Common.{refl, ap}
use Rattle.cj_model.specs.declared.answer.Refusal.{Refusal}
use Rattle.cj_model.specs.declared.answer.Reply.TheVariants.{Refused}
use Rattle.cj_model.specs.declared.codes.TheConstants.{HISTORY_FULL}
use Rattle.cj_board.specs.Seats.{front}
use Rattle.cj_place.specs.Layouts.{placement_of}
use Rattle.cj_read_path.proofs.Reading.{failed_full, failed_unserved}
use Rattle.cj_read_path.proofs.reads.attempt_failed.Goals as goal

pub returns-in-Full-clause-attempt : goal.returns-in-Full-clause-attempt
returns-in-Full-clause-attempt g c =
    let query = c.args.query.now in
    failed_full g.B.Backend.tells (placement_of g.J.Naming.layout) (front c.args.pass.now.seat) (front c.fail_read.new.pass.seat) query.session query.seq query.tx c.args.b query.select.now query.least
    (Refused (record { code = HISTORY_FULL; a = c.in-Full.events; b = 0 })) c.in-Full.events c.in-Full.ensures.fails refl

pub returns-in-Unserved-clause-attempt : goal.returns-in-Unserved-clause-attempt
returns-in-Unserved-clause-attempt g c =
    let query = c.args.query.now in
    failed_unserved g.B.Backend.tells (placement_of g.J.Naming.layout) (front c.args.pass.now.seat) (front c.fail_read.new.pass.seat) query.session query.seq query.tx c.args.b query.select.now query.least
    (Refused c.of_code.result) c.in-Unserved.ensures.fails (ap (λ (r : Refusal). Refused r) c.of_code.ensures)
