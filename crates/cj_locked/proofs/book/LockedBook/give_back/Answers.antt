use Rattle.std.proofs.Common.{ap, sym, ◌∙◌, subst}
use mathlib.Core.List.{IsPrefix}
use Rattle.cj_board.specs.Seats.{front, pass_view}
use Rattle.cj_board.specs.Views.{pass_without_tokens}
use Rattle.cj_book.specs.Books.{BookState}
use Rattle.cj_locked.proofs.Changing.{heard_notes}
use Rattle.cj_locked.proofs.Ending.{same_counted}
use Rattle.cj_locked.proofs.Holding.{given_back, held_over, held_since}
use Rattle.cj_pass.proofs.Passes.{noted_joined}
use Rattle.cj_locked.proofs.Noting.{keeps_learning, still_noted}
use Rattle.cj_locked.proofs.book.LockedBook.give_back.Goals as goal

pub invariant_of-self : goal.invariant_of-self
invariant_of-self g c =
    let old = c.self.inside.book in
    let longer : IsPrefix (front c.args.pass.now.seat) old.state.history = subst (IsPrefix (front c.args.pass.now.seat)) c.tell.ensures.told c.tell.ensures.longer in
    record {
      on = c.tell.ensures.board.0 ∙ c.self.invariant.on;
      laid = ap (λ (x : BookState). x.layout) c.tell.ensures.state ∙ c.self.invariant.laid;
      gives = c.tell.ensures.still_gives c.self.invariant.gives;
      counted = c.audit.ensures.total ∙ (c.self.invariant.counted ∙ sym (same_counted old c.tell.new.self c.tell.ensures.state c.tell.ensures.pending));
      vacant = given_back g.S.Store.tells g.S.Store.faults (front c.args.pass.now.seat) old.state.history c.args.turn.share.amount c.args.turn.log c.requires.holds longer old.pending (c.audit.ensures.whole ∙ c.self.invariant.counted)
          c.tell.new.self c.keep.result.log (ap (λ (x : BookState). x.history) c.tell.ensures.state) c.tell.ensures.pending (c.keep.ensures ∙ c.audit.ensures.log);
      noted = still_noted old.view c.tell.new.self.view (keeps_learning old.view (pass_without_tokens (pass_view c.args.pass.now.seat)) c.tell.new.self.view c.tell.ensures.book) c.self.invariant.noted;
    }

pub returns-clause-held : goal.returns-clause-held
returns-clause-held g c =
    let old = c.self.inside.book in
    let longer : IsPrefix (front c.args.pass.now.seat) old.state.history = subst (IsPrefix (front c.args.pass.now.seat)) c.tell.ensures.told c.tell.ensures.longer in
    held_over g.S.Store.tells g.S.Store.faults (front c.args.pass.now.seat) old.state.history c.args.turn.share.amount c.args.turn.log c.requires.holds longer old.pending (c.audit.ensures.whole ∙ c.self.invariant.counted) (front c.tell.new.p) c.tell.ensures.told

pub returns-clause-since : goal.returns-clause-since
returns-clause-since g c =
    let old = c.self.inside.book in
    let longer : IsPrefix (front c.args.pass.now.seat) old.state.history = subst (IsPrefix (front c.args.pass.now.seat)) c.tell.ensures.told c.tell.ensures.longer in
    λ m H turn free begins seen. held_since m H (front c.args.pass.now.seat) old.state.history c.args.turn.share.amount turn free begins seen longer old.pending (c.audit.ensures.whole ∙ c.self.invariant.counted) (front c.tell.new.p) c.tell.ensures.told

pub returns-clause-more : goal.returns-clause-more
returns-clause-more g c = noted_joined (pass_view c.args.pass.now.seat) (pass_without_tokens c.tell.new.self.view) (pass_view c.tell.new.p) c.tell.ensures.pass c.tell.ensures.longer

pub returns-clause-heard : goal.returns-clause-heard
returns-clause-heard g c = heard_notes c.self.inside.book.view (pass_view c.args.pass.now.seat) c.tell.new.self.view c.tell.ensures.book
