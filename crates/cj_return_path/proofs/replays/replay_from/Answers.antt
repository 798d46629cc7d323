use Rattle.std.proofs.Common.{rules, ◌≡◌, ◌<◌, ◌≤◌, inr, Option, None, Ok, Result, ℕ, Some, Contains, length, subst, arith}
use Rattle.cj_cluster.specs.History.Histories.{log}
use Rattle.cj_board.specs.Seats.{front, pass_view}
use Rattle.cj_pass.proofs.Passes.{noted_then}
use Rattle.cj_locked_cell.proofs.Loading.{within_later}
use Rattle.cj_return_path.specs.Restoring.{TakesNext}
use Rattle.cj_return_path.specs.declared.restore.RestoreError.{RestoreError}
use Rattle.cj_return_path.proofs.Restoring.{not_taken}
use Rattle.cj_return_path.proofs.replays.replay_from.Goals as goal

pub replay_next-requires-clause-until : goal.replay_next-requires-clause-until
replay_next-requires-clause-until g c = within_later (front c.args.pass.now.seat) (front c.loop.pass.seat) c.loop.invariant.more.seen.front c.args.until c.requires.until

pub returns-in-Ok-None-clause-replays : goal.returns-in-Ok-None-clause-replays
returns-in-Ok-None-clause-replays g c =
    let v = pass_view c.loop.pass.seat in
    let w = pass_view c.replay_next.new.pass.seat in
    let done : c.replay_next.result ≡ Ok None = search rules in
    let end : c.args.until ≤ c.loop.n = subst (λ (r : Result (Option ℕ) RestoreError). TakesNext c.args.b c.loop.n c.args.until v w r) done c.replay_next.ensures.takes in
    (inr end, within_later v.front w.front c.replay_next.ensures.more.seen.front c.loop.n c.loop.invariant.within, c.replay_next.ensures.more.positions (c.args.b, c.loop.n) c.loop.invariant.noted)

pub returns-in-Ok-None-clause-more : goal.returns-in-Ok-None-clause-more
returns-in-Ok-None-clause-more g c = noted_then (pass_view c.args.pass.now.seat) (pass_view c.loop.pass.seat) (pass_view c.replay_next.new.pass.seat) c.loop.invariant.more c.replay_next.ensures.more

pub returns-in-Err-clause-replays : goal.returns-in-Err-clause-replays
returns-in-Err-clause-replays g c =
    not_taken c.args.b c.args.most c.args.until c.loop.n (pass_view c.args.pass.now.seat) (pass_view c.loop.pass.seat) (pass_view c.replay_next.new.pass.seat) c.loop.invariant.more c.in-Err.error c.in-Err.ensures.takes

pub returns-in-Err-clause-more : goal.returns-in-Err-clause-more
returns-in-Err-clause-more g c = noted_then (pass_view c.args.pass.now.seat) (pass_view c.loop.pass.seat) (pass_view c.replay_next.new.pass.seat) c.loop.invariant.more c.replay_next.ensures.more

pub loop-preserved : goal.loop-preserved
loop-preserved g c =
    let v = pass_view c.loop.pass.seat in
    let w = pass_view c.replay_next.new.pass.seat in
    let next = c.in-Ok-Some.next in
    let is : c.replay_next.result ≡ Ok (Some next) = search rules in
    let takes : (c.loop.n < next) × (next ≤ length (log w.front)) × Contains w.position_notes (c.args.b, next) = subst (λ (r : Result (Option ℕ) RestoreError). TakesNext c.args.b c.loop.n c.args.until v w r) is c.replay_next.ensures.takes in
    let less : c.loop.n < next = takes.0 in
    let taken : c.loop.counter ≤ c.loop.n = c.loop.invariant.taken in
    record {
      more = noted_then (pass_view c.args.pass.now.seat) v w c.loop.invariant.more c.replay_next.ensures.more;
      legal = c.replay_next.ensures.legal;
      noted = takes.2;
      within = takes.1;
      taken = omega (arith, less, taken);
    }
