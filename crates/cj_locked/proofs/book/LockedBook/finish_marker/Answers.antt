use Rattle.std.proofs.Common.{◌≡◌, ap, sym, ◌∙◌, subst}
use mathlib.Core.List.{IsPrefix}
use Rattle.cj_board.specs.Seats.{front, pass_view}
use Rattle.cj_book.specs.Books.{BookState}
use Rattle.cj_locked.specs.Marking.{MarksAt}
use Rattle.cj_locked.proofs.Marking.{marked_on}
use Rattle.cj_pass.proofs.Passes.{noted_then}
use Rattle.cj_locked.proofs.book.LockedBook.finish_marker.Goals as goal

pub mark_now-marked-requires : goal.mark_now-marked-requires
mark_now-marked-requires g c =
    let same : front c.tell.new.pass.seat ≡ c.tell.new.self.book.state.history = c.tell.ensures.told ∙ ap (λ (x : BookState). x.history) (sym c.tell.ensures.state) in
    record {
      holds = marked_on g.S.Store.tells g.S.Store.faults (front c.args.pass.now.seat) c.tell.new.self.book.state.history c.args.name.now c.args.b c.args.turn.share.amount c.args.turn.log c.args.appended
          (subst (IsPrefix (front c.args.pass.now.seat)) same c.tell.ensures.more.seen.front) c.requires.holds;
    }

pub returns-clause-more : goal.returns-clause-more
returns-clause-more g c = noted_then (pass_view c.args.pass.now.seat) (pass_view c.tell.new.pass.seat) (pass_view c.tell-2.new.pass.seat) c.tell.ensures.more c.tell-2.ensures.more

pub returns-clause-marks : goal.returns-clause-marks
returns-clause-marks g c =
    let F = front c.args.pass.now.seat in
    let h = c.tell.new.self.book.state.history in
    let same : front c.tell.new.pass.seat ≡ h = c.tell.ensures.told ∙ ap (λ (x : BookState). x.history) (sym c.tell.ensures.state) in
    let holds = c.requires.holds.holds in
    record {
      m = h;
      over = c.mark_now-marked.ensures.over holds.m F holds.turn holds.was_free holds.seen (subst (IsPrefix F) same c.tell.ensures.more.seen.front);
      at = subst (MarksAt h c.args.name.now c.args.b c.mark_now-marked.result) (sym c.tell-2.ensures.told) c.mark_now-marked.ensures.marks;
    }
