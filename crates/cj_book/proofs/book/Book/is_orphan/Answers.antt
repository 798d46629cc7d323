use Rattle.std.proofs.Common.{◌≡◌, Bool, true, false, not, is_some, ap, sym, subst, ◌∙◌}
use Rattle.cj_book.proofs.Cited.{KeepsTransactions, SeatedBook, found_among, has_session, log, numbered, orphan_found, orphan_none, placement_of, session_number}
use Rattle.cj_book.proofs.book.Book.is_orphan.Goals as goal

flipped : (a b : Bool) → a ≡ not b → b ≡ not a
flipped a true is = sym (ap not is)
flipped a false is = sym (ap not is)

pub returns-in-Some : goal.returns-in-Some
returns-in-Some c =
    let kept = subst (λ (b : SeatedBook). KeepsTransactions (placement_of c.self.inside.placement) (log b.state.history) c.self.inside.transactions.list) c.self.view_is c.self.invariant.0.follows.transactions in
    let session = c.in-Some.«open».session in
    let here : is_some (numbered session_number c.self.inside.sessions session) ≡ has_session c.args.self.now.state session =
    subst (λ (b : SeatedBook). is_some (numbered session_number c.self.inside.sessions session) ≡ has_session b.state session) c.self.view_is (sym (found_among session_number c.self.inside.sessions session)) in
    flipped _ _ c.is_none.ensures ∙ (ap not (ap is_some c.find-in-Some.ensures ∙ here)
    ∙ sym (orphan_found (placement_of c.self.inside.placement) c.args.self.now.state c.self.inside.transactions.list kept c.args.tx c.in-Some.«open» (sym c.in-Some.ensures)))

pub returns-in-None : goal.returns-in-None
returns-in-None c =
    let kept = subst (λ (b : SeatedBook). KeepsTransactions (placement_of c.self.inside.placement) (log b.state.history) c.self.inside.transactions.list) c.self.view_is c.self.invariant.0.follows.transactions in
    sym (orphan_none (placement_of c.self.inside.placement) c.args.self.now.state c.self.inside.transactions.list kept c.args.tx (sym c.in-None.ensures))
