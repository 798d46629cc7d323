use Rattle.std.proofs.Common.{◌≡◌, subst, sym}
use Rattle.cj_cluster.proofs.Pushed.{prefix_trans}
use Rattle.cj_board.specs.Counting.{event_count_of}
use Rattle.cj_board.specs.Seats.{front, pass_view}
use Rattle.cj_pass.proofs.Passes.{noted_same, noted_then}
use Rattle.cj_control.proofs.Callers.{no_transaction}
use Rattle.cj_control.proofs.control.Control.caller.Goals as goal

pub returns-in-Ok-clause-new : goal.returns-in-Ok-clause-new
returns-in-Ok-clause-new g c = subst (λ s. event_count_of s (front c.connect.result.pass.seat) ≡ 0) (sym c.connect.ensures.session) c.connect.ensures.new

pub returns-in-Ok-clause-idle : goal.returns-in-Ok-clause-idle
returns-in-Ok-clause-idle g c = let caller = c.connect.result in no_transaction caller.session (front caller.pass.seat) caller.own.1 c.connect.ensures.legal (returns-in-Ok-clause-new g c)

pub returns-in-Ok-clause-seen : goal.returns-in-Ok-clause-seen
returns-in-Ok-clause-seen g c = prefix_trans (front c.args.pass.now.seat) (front c.«open».new.pass.seat) (front c.connect.result.pass.seat) c.«open».ensures.pass.seen.front c.connect.ensures.seen

pub returns-in-Ok-clause-pass : goal.returns-in-Ok-clause-pass
returns-in-Ok-clause-pass g c =
    let v = pass_view c.args.pass.now.seat in
    let w = pass_view c.«open».new.pass.seat in
    let u = pass_view c.connect.new.pass.seat in
    noted_then v w u c.«open».ensures.pass (noted_same w u c.connect.ensures.pass)
