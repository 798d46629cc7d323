use Rattle.std.proofs.Common.{rules, List, length, ap, sym, ◌∙◌}
use Rattle.cj_cluster.specs.declared.event.Event.{Event}
use Rattle.cj_cluster.specs.History.Histories.{is_enabled, log}
use Rattle.cj_board.specs.Seats.{front, pass_view}
use Rattle.cj_board.specs.Views.{pass_without_tokens}
use Rattle.cj_book.specs.Books.{BookState}
use Rattle.cj_locked.specs.Locked.{IsVacant}
use Rattle.cj_locked.proofs.Ending.{same_counted}
use Rattle.cj_locked.proofs.Holding.{holds_turn, taken_vacant}
use Rattle.cj_pass.proofs.Passes.{noted_joined}
use Rattle.cj_locked.proofs.Noting.{keeps_learning, still_noted}
use Rattle.cj_locked.proofs.book.LockedBook.hold.Goals as goal

pub invariant_of-self : goal.invariant_of-self
invariant_of-self g c = record {
  on = c.tell.ensures.board.0 ∙ c.self.invariant.on;
  laid = ap (λ (x : BookState). x.layout) c.tell.ensures.state ∙ c.self.invariant.laid;
  gives = c.tell.ensures.still_gives c.self.invariant.gives;
  counted = c.audit.ensures.total ∙ (c.self.invariant.counted ∙ sym (same_counted c.self.inside.book c.tell.new.self c.tell.ensures.state c.tell.ensures.pending));
  vacant = search rules;
  noted = still_noted c.self.inside.book.view c.tell.new.self.view (keeps_learning c.self.inside.book.view (pass_without_tokens (pass_view c.args.pass.now.seat)) c.tell.new.self.view c.tell.ensures.book) c.self.invariant.noted;
}

pub returns-clause-holds : goal.returns-clause-holds
returns-clause-holds g c =
    let vacant : IsVacant g.S.Store.tells g.S.Store.faults c.self.inside.book c.taken-turn.result.log = taken_vacant g.S.Store.tells g.S.Store.faults c.self.inside.book _ c.taken-turn.result.log c.taken-turn.ensures.log c.self.invariant.vacant in
    holds_turn g.S.Store.tells g.S.Store.faults c.self.inside.book c.taken-turn.result.log c.audit.new.self.log c.audit.new.self.share.amount (front c.tell.new.p) vacant
    (c.audit.ensures.amount ∙ (c.audit.ensures.whole ∙ c.self.invariant.counted)) c.audit.ensures.log c.tell.ensures.told

pub returns-clause-length : goal.returns-clause-length
returns-clause-length g c = c.length-length.ensures ∙ ap (λ (h : List Event). length (log h)) (ap (λ (x : BookState). x.history) c.tell.ensures.state ∙ sym c.tell.ensures.told)

pub returns-clause-enabled : goal.returns-clause-enabled
returns-clause-enabled g c = λ b. c.enabled-enabled.ensures.mask b ∙ ap (λ (h : List Event). is_enabled h b) (ap (λ (x : BookState). x.history) c.tell.ensures.state ∙ sym c.tell.ensures.told)

pub returns-clause-more : goal.returns-clause-more
returns-clause-more g c = noted_joined (pass_view c.args.pass.now.seat) (pass_without_tokens c.tell.new.self.view) (pass_view c.tell.new.p) c.tell.ensures.pass c.tell.ensures.longer
