use Rattle.cj_board.specs.Seats.{pass_view}
use Rattle.cj_place.specs.Layouts.{placement_of}
use Rattle.cj_read_path.proofs.Reading.{read_counted, read_newer, read_turn, read_tx, read_within}
use Rattle.cj_read_path.proofs.reads.read.Goals as goal

pub returns-clause-turn : goal.returns-clause-turn
returns-clause-turn g c =
    let query = c.args.query.now in
    read_turn g.B.Backend.tells (placement_of g.J.Naming.layout) query.session query.seq query.tx query.user.now query.select.now query.least c.read_until-ended.result.0 c.read_until-ended.result.1
    (pass_view c.args.pass.now.seat) (pass_view c.read_until-ended.new.pass.seat) (pass_view c.check_count.new.pass.seat) c.read_until-ended.ensures.seen c.check_count.ensures.same c.requires.own.0 c.requires.own.1 c.requires.counted c.check_count.ensures.counted
    c.read_until-ended.ensures.legal c.requires.owes c.requires.tx c.read_until-ended.ensures.ended

pub returns-clause-tx : goal.returns-clause-tx
returns-clause-tx g c =
    let query = c.args.query.now in
    read_tx g.B.Backend.tells (placement_of g.J.Naming.layout) query.session query.seq query.tx query.user.now query.select.now query.least c.read_until-ended.result.0 c.read_until-ended.result.1
    (pass_view c.args.pass.now.seat) (pass_view c.read_until-ended.new.pass.seat) (pass_view c.check_count.new.pass.seat) c.read_until-ended.ensures.seen c.check_count.ensures.same c.requires.own.0 c.requires.own.1 c.requires.counted c.check_count.ensures.counted
    c.read_until-ended.ensures.legal c.requires.owes c.requires.tx c.read_until-ended.ensures.ended

pub returns-clause-newer : goal.returns-clause-newer
returns-clause-newer g c =
    let query = c.args.query.now in
    read_newer g.B.Backend.tells (placement_of g.J.Naming.layout) query.session query.seq query.tx query.user.now query.select.now query.least c.read_until-ended.result.0 c.read_until-ended.result.1
    (pass_view c.args.pass.now.seat) (pass_view c.read_until-ended.new.pass.seat) (pass_view c.check_count.new.pass.seat) c.read_until-ended.ensures.seen c.check_count.ensures.same c.requires.own.0 c.requires.own.1 c.requires.counted c.check_count.ensures.counted
    c.read_until-ended.ensures.legal c.requires.owes c.requires.tx c.read_until-ended.ensures.ended

pub returns-clause-counted : goal.returns-clause-counted
returns-clause-counted g c =
    let query = c.args.query.now in
    read_counted g.B.Backend.tells (placement_of g.J.Naming.layout) query.session query.seq query.tx query.user.now query.select.now query.least c.read_until-ended.result.0 c.read_until-ended.result.1
    (pass_view c.args.pass.now.seat) (pass_view c.read_until-ended.new.pass.seat) (pass_view c.check_count.new.pass.seat) c.read_until-ended.ensures.seen c.check_count.ensures.same c.requires.own.0 c.requires.own.1 c.requires.counted c.check_count.ensures.counted
    c.read_until-ended.ensures.legal c.requires.owes c.requires.tx c.read_until-ended.ensures.ended

pub returns-clause-within : goal.returns-clause-within
returns-clause-within g c =
    let query = c.args.query.now in
    read_within g.B.Backend.tells (placement_of g.J.Naming.layout) query.session query.seq query.tx query.user.now query.select.now query.least c.read_until-ended.result.0 c.read_until-ended.result.1
    (pass_view c.args.pass.now.seat) (pass_view c.read_until-ended.new.pass.seat) (pass_view c.check_count.new.pass.seat) c.read_until-ended.ensures.seen c.check_count.ensures.same c.requires.own.0 c.requires.own.1 c.requires.counted c.check_count.ensures.counted
    c.read_until-ended.ensures.legal c.requires.owes c.requires.tx c.read_until-ended.ensures.ended
