use Rattle.cj_board.specs.Seats.{pass_view}
use Rattle.cj_pass.proofs.Passes.{noted_then}
use Rattle.cj_replay.proofs.Restored.{not_enabled, refused_earlier}
use Rattle.cj_replay.proofs.reenabling.reenable.Goals as goal

pub returns-in-Ok-clause-more : goal.returns-in-Ok-clause-more
returns-in-Ok-clause-more g c =
    noted_then (pass_view c.args.pass.now.seat) (pass_view c.catch_up-caught.new.pass.seat) (pass_view c.enable-enabled.new.pass.seat) c.catch_up-caught.ensures.more c.enable-enabled.ensures.more

pub returns-in-Err-enabled-clause-reenables : goal.returns-in-Err-enabled-clause-reenables
returns-in-Err-enabled-clause-reenables g c =
    let v = pass_view c.catch_up-caught.new.pass.seat in
    let w = pass_view c.enable-enabled.new.pass.seat in
    refused_earlier g.J.Naming.layout c.args.b c.args.dump (pass_view c.args.pass.now.seat) v w c.catch_up-caught.ensures.more c.refusal_of.result
    (not_enabled g.J.Naming.layout c.args.b c.args.dump v w c.in-Err-enabled.error c.refusal_of.result c.in-Err-enabled.ensures.enables c.refusal_of.ensures)

pub returns-in-Err-enabled-clause-more : goal.returns-in-Err-enabled-clause-more
returns-in-Err-enabled-clause-more g c =
    noted_then (pass_view c.args.pass.now.seat) (pass_view c.catch_up-caught.new.pass.seat) (pass_view c.enable-enabled.new.pass.seat) c.catch_up-caught.ensures.more c.enable-enabled.ensures.more
