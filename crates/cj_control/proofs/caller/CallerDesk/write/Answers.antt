use Rattle.std.proofs.Common.{◌≡◌, ◌+◌, ◌≤◌, length, ap, sym, ◌∙◌, subst, arith}
use Rattle.cj_model.specs.declared.request.Entry.{Entry}
use Rattle.cj_model.specs.Sql.PlainRequests.{request_of}
use Rattle.cj_cluster.specs.History.Histories.{log}
use Rattle.cj_board.specs.Counting.{event_count_of}
use Rattle.cj_board.specs.Seats.{front, pass_view}
use Rattle.cj_desk.specs.DeskStates.{next_call, turn_taken, DeskSteps, IsEntryNumber}
use Rattle.cj_locked.specs.Writing.{AreUpTo, WritesTurn}
use Rattle.cj_place.specs.Layouts.{placement_of}
use Rattle.cj_control.specs.Callers.{desk_at}
use Rattle.cj_write_path.specs.Writing.{least_after}
use Rattle.cj_control.proofs.Callers.{owes_after, starved_counted, starved_turn, write_made, write_number, write_tx}
use Rattle.cj_control.proofs.caller.CallerDesk.write.Goals as goal

pub write-number-requires-clause-counted : goal.write-number-requires-clause-counted
write-number-requires-clause-counted g c =
    let self = c.args.self.now in
    subst (λ (x : Entry). event_count_of x.session (front self.pass.seat) ≡ (pass_view self.pass.seat).count) (sym c.in-Ok.ensures.entry) self.counted

pub invariant_of-self : goal.invariant_of-self
invariant_of-self g c =
    let self = c.args.self.now in
    let F = front self.pass.seat in
    let G = front c.write-number.new.pass.seat in
    let s = self.session in
    let number = c.write-number.result.0 in
    let its = ap (λ (x : Entry). x.session) c.in-Ok.ensures.entry in
    let came = c.write-number.ensures.turn self.least self.owes in
    record {
      own = (c.write-number.ensures.own ∙ its, self.own.1, self.own.2);
      counted = subst (λ k. event_count_of k G ≡ (pass_view c.write-number.new.pass.seat).count) its c.write-number.ensures.counted;
      owes = subst (λ k. k ≤ length (log G)) (sym c.least_after-self.ensures) (owes_after number self.least F G came.turn.longer self.owes c.write-number.ensures.within);
      newer = subst (λ (x : Entry). AreUpTo x.session x.seq (log G)) c.in-Ok.ensures.entry came.newer;
    }

pub returns-in-Ok-clause-made : goal.returns-in-Ok-clause-made
returns-in-Ok-clause-made g c =
    let self = c.args.self.now in
    let F = front self.pass.seat in
    let G = front c.write-number.new.pass.seat in
    let number = c.write-number.result.0 in
    let reply = c.write-number.result.1 in
    let layout = g.J.Naming.layout in
    let register = self.control.now.locks.accounts in
    let came = subst (λ (x : Entry). WritesTurn g.B.Backend.tells (placement_of layout) x.session (record { front = F; least = self.least }) x number reply (record { front = G; least = least_after number self.least })) c.in-Ok.ensures.entry (c.write-number.ensures.turn self.least self.owes) in
    let before = desk_at layout register self.session F self.least self.queries in
    subst (λ k. DeskSteps g.B.Backend.tells before (turn_taken (next_call before c.args.tx c.args.user.now (request_of c.args.act) reply)) (desk_at layout register self.session G k (self.queries + 1))) (sym c.least_after-self.ensures)
    (write_made g.B.Backend.tells layout register self.session F G self.least self.queries c.args.tx c.args.user.now c.args.act number reply came)

pub returns-in-Ok-clause-tx : goal.returns-in-Ok-clause-tx
returns-in-Ok-clause-tx g c =
    let self = c.args.self.now in
    let F = front self.pass.seat in
    let G = front c.write-number.new.pass.seat in
    let number = c.write-number.result.0 in
    let reply = c.write-number.result.1 in
    let layout = g.J.Naming.layout in
    let came = subst (λ (x : Entry). WritesTurn g.B.Backend.tells (placement_of layout) x.session (record { front = F; least = self.least }) x number reply (record { front = G; least = least_after number self.least })) c.in-Ok.ensures.entry (c.write-number.ensures.turn self.least self.owes) in
    write_tx g.B.Backend.tells layout self.control.now.locks.accounts self.session F G self.least self.queries c.args.tx c.args.user.now c.args.act number reply came

pub returns-in-Ok-clause-number : goal.returns-in-Ok-clause-number
returns-in-Ok-clause-number g c =
    let self = c.args.self.now in
    let F = front self.pass.seat in
    let G = front c.write-number.new.pass.seat in
    let number = c.write-number.result.0 in
    let reply = c.write-number.result.1 in
    let layout = g.J.Naming.layout in
    let came = subst (λ (x : Entry). WritesTurn g.B.Backend.tells (placement_of layout) x.session (record { front = F; least = self.least }) x number reply (record { front = G; least = least_after number self.least })) c.in-Ok.ensures.entry (c.write-number.ensures.turn self.least self.owes) in
    let register = self.control.now.locks.accounts in
    let before = desk_at layout register self.session F self.least self.queries in
    subst (λ k. IsEntryNumber number c.args.act before (next_call before c.args.tx c.args.user.now (request_of c.args.act) reply) (desk_at layout register self.session G k (self.queries + 1))) (sym c.least_after-self.ensures)
    (write_number g.B.Backend.tells layout register self.session F G self.least self.queries c.args.tx c.args.user.now c.args.act number reply came)

pub invariant_of-self-in-Err : goal.invariant_of-self-in-Err
invariant_of-self-in-Err g c =
    let self = c.args.self.now in
    let v = pass_view self.pass.seat in
    let w = pass_view c.starve-reply.new.pass.seat in
    let came =
    starved_turn g.B.Backend.tells (placement_of g.J.Naming.layout) self.session self.least self.queries c.args.tx c.args.user.now c.args.act v w c.starve-reply.result (self.own.1, self.own.2) self.newer c.requires.can.room c.requires.fits
    self.owes self.own.0 self.counted c.starve-reply.ensures.is c.starve-reply.ensures.seen c.starve-reply.ensures.few c.starve-reply.ensures.legal
    in
    let k = starved_counted self.session v w c.starve-reply.ensures.seen self.own.0 self.counted c.starve-reply.ensures.few in
    record {
      own = (k.0, self.own.1, self.own.2);
      counted = k.1;
      owes = owes_after 0 self.least v.front w.front came.turn.longer self.owes (let least : 0 ≤ length (log w.front) = omega arith in least);
      newer = came.newer;
    }

pub returns-in-Err-clause-made : goal.returns-in-Err-clause-made
returns-in-Err-clause-made g c =
    let self = c.args.self.now in
    let v = pass_view self.pass.seat in
    let w = pass_view c.starve-reply.new.pass.seat in
    let came =
    starved_turn g.B.Backend.tells (placement_of g.J.Naming.layout) self.session self.least self.queries c.args.tx c.args.user.now c.args.act v w c.starve-reply.result (self.own.1, self.own.2) self.newer c.requires.can.room c.requires.fits
    self.owes self.own.0 self.counted c.starve-reply.ensures.is c.starve-reply.ensures.seen c.starve-reply.ensures.few c.starve-reply.ensures.legal
    in
    write_made g.B.Backend.tells g.J.Naming.layout self.control.now.locks.accounts self.session v.front w.front self.least self.queries c.args.tx c.args.user.now c.args.act 0 c.starve-reply.result came

pub returns-in-Err-clause-tx : goal.returns-in-Err-clause-tx
returns-in-Err-clause-tx g c =
    let self = c.args.self.now in
    let v = pass_view self.pass.seat in
    let w = pass_view c.starve-reply.new.pass.seat in
    let came =
    starved_turn g.B.Backend.tells (placement_of g.J.Naming.layout) self.session self.least self.queries c.args.tx c.args.user.now c.args.act v w c.starve-reply.result (self.own.1, self.own.2) self.newer c.requires.can.room c.requires.fits
    self.owes self.own.0 self.counted c.starve-reply.ensures.is c.starve-reply.ensures.seen c.starve-reply.ensures.few c.starve-reply.ensures.legal
    in
    write_tx g.B.Backend.tells g.J.Naming.layout self.control.now.locks.accounts self.session v.front w.front self.least self.queries c.args.tx c.args.user.now c.args.act 0 c.starve-reply.result came

pub returns-in-Err-clause-number : goal.returns-in-Err-clause-number
returns-in-Err-clause-number g c =
    let self = c.args.self.now in
    let v = pass_view self.pass.seat in
    let w = pass_view c.starve-reply.new.pass.seat in
    let came =
    starved_turn g.B.Backend.tells (placement_of g.J.Naming.layout) self.session self.least self.queries c.args.tx c.args.user.now c.args.act v w c.starve-reply.result (self.own.1, self.own.2) self.newer c.requires.can.room c.requires.fits
    self.owes self.own.0 self.counted c.starve-reply.ensures.is c.starve-reply.ensures.seen c.starve-reply.ensures.few c.starve-reply.ensures.legal
    in
    write_number g.B.Backend.tells g.J.Naming.layout self.control.now.locks.accounts self.session v.front w.front self.least self.queries c.args.tx c.args.user.now c.args.act 0 c.starve-reply.result came
