use Rattle.std.proofs.Common.{◌≡◌, All, length, ap, rules, sym, ◌∙◌, subst}
use mathlib.Core.List.{IsPrefix}
use Rattle.std.proofs.lemmas.List.Elements.{All-push}
use Rattle.cj_board.specs.Seats.{front, pass_view}
use Rattle.cj_replica.specs.Cells.{CellState}
use Rattle.cj_pass.proofs.Passes.{noted_then}
use Rattle.cj_control.proofs.Starting.{all_seen, fall_more, moves_one, stays_room}
use Rattle.cj_control.proofs.start.unlocked.Goals as goal

pub returns-then-b-len-clause-more : goal.returns-then-b-len-clause-more
returns-then-b-len-clause-more g c = noted_then (pass_view c.args.pass.now.seat) (pass_view c.loop-lock.pass.seat) (pass_view c.look-b.new.pass.seat) c.loop-lock.invariant.more c.look-b.ensures.more

pub loop-lock-preserved : goal.loop-lock-preserved
loop-lock-preserved g c =
    let l = c.loop-lock in
    let cell = c.look-b.new.self in
    let popped = c.in-Some.ensures.items in
    let pushed = c.push_reserved.ensures.items in
    let placed : c.look-b.result.0 ≡ c.len.result = search rules in
    let counted : c.len.result ≡ length c.pop.new.self.items = c.len.ensures ∙ c.pop.new.self.ok.0 in
    record {
      more = noted_then (pass_view c.args.pass.now.seat) (pass_view l.pass.seat) (pass_view c.look-b.new.pass.seat) l.invariant.more c.look-b.ensures.more;
      legal = c.look-b.ensures.legal;
      count = moves_one c.pop.new.self.items c.push_reserved.new.self.items c.in-Some.lock l.cells.items cell l.locks.items popped l.invariant.count pushed;
      room = stays_room l.invariant.room c.push_reserved.ensures.capacity;
      numbered = fall_more (λ x. x.cell.state.b) l.locks.items c.pop.new.self.items c.in-Some.lock popped l.cells.items c.push_reserved.new.self.items cell pushed l.invariant.numbered (ap (λ (x : CellState). x.b) c.look-b.ensures.state ∙ (sym c.look-b.ensures.is.0 ∙ (placed ∙ counted)));
      seen = subst (λ xs. All (λ x. IsPrefix x.cell.view.front (front c.look-b.new.pass.seat)) xs) (sym pushed)
          (All-push (λ x. IsPrefix x.cell.view.front (front c.look-b.new.pass.seat)) l.cells.items cell (all_seen (λ x. x.cell.view.front) (front l.pass.seat) (front c.look-b.new.pass.seat) l.cells.items c.look-b.ensures.more.seen.front l.invariant.seen) c.look-b.ensures.seen);
    }
