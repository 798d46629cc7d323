use Rattle.std.proofs.Common.{rules, ◌≡◌, ◌≤◌, length, Option, None, Ok, Result, IfOk, slice_get, sym, subst, arith}
use Rattle.cj_model.specs.declared.memory.NoMemory.{NoMemory}
use Rattle.cj_model.specs.declared.request.Entry.{Entry}
use Rattle.cj_cluster.specs.History.Histories.{log}
use Rattle.cj_board.specs.Seats.{front, pass_view}
use Rattle.cj_locked_cell.proofs.Loading.{within_later}
use Rattle.cj_pass.proofs.Passes.{noted_then}
use Rattle.cj_return_path.proofs.Restoring.{no_more, takes_earlier}
use Rattle.cj_return_path.proofs.replays.replay_next.Goals as goal

pub returns-in-Ok-Some-clause-takes : goal.returns-in-Ok-Some-clause-takes
returns-in-Ok-Some-clause-takes g c =
    takes_earlier c.args.b c.args.n c.args.until (pass_view c.args.pass.now.seat) (pass_view c.entry_after.new.pass.seat) (pass_view c.take_next.new.pass.seat) c.entry_after.ensures.more c.take_next.result (c.take_next.ensures.takes c.args.until)

pub returns-in-Ok-Some-clause-more : goal.returns-in-Ok-Some-clause-more
returns-in-Ok-Some-clause-more g c = noted_then (pass_view c.args.pass.now.seat) (pass_view c.entry_after.new.pass.seat) (pass_view c.take_next.new.pass.seat) c.entry_after.ensures.more c.take_next.ensures.more

pub returns-in-Ok-None-clause-takes : goal.returns-in-Ok-None-clause-takes
returns-in-Ok-None-clause-takes g c =
    let F = front c.args.pass.now.seat in
    let G = front c.entry_after.new.pass.seat in
    let done : c.entry_after.result ≡ Ok None = search rules in
    let none : None ≡ slice_get (log G) c.args.n = subst (λ (r : Result (Option Entry) NoMemory). IfOk r (λ (entry : Option Entry). entry ≡ slice_get (log G) c.args.n)) done c.entry_after.ensures.copy in
    let end : length (log G) ≤ c.args.n = no_more (log G) c.args.n (sym none) in
    let within : c.args.until ≤ length (log G) = within_later F G c.entry_after.ensures.more.seen.front c.args.until c.requires.until in
    omega (arith, end, within)
