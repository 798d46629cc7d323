use Rattle.std.proofs.Common.{◌≡◌, true, is_some, ap, sym, subst, ◌∙◌}
use Rattle.cj_book.proofs.Cited.{SeatedBook, both_ways, found_among, has_session, log, numbered, session_number, tx_of, tx_open}
use Rattle.cj_book.proofs.book.Book.open_tx.Goals as goal

pub returns-in-Some : goal.returns-in-Some
returns-in-Some c =
    subst (λ (b : SeatedBook). c.in-Some.«open».tx ≡ tx_of (log b.state.history) c.args.session) c.self.view_is
    (tx_open _ _ _ _ _ _ c.self.invariant.0.follows c.args.session c.in-Some.«open» (sym c.in-Some.ensures))

pub returns-in-None : goal.returns-in-None
returns-in-None c =
    let here : has_session c.args.self.now.state c.args.session ≡ true = c.requires in
    let found : is_some (numbered session_number c.self.inside.sessions c.args.session) ≡ true =
    sym (found_among session_number c.self.inside.sessions c.args.session) ∙ subst (λ (b : SeatedBook). has_session b.state c.args.session ≡ true) (sym c.self.view_is) here in
    absurd (both_ways (is_some (numbered session_number c.self.inside.sessions c.args.session)) (ap is_some (sym c.in-None.ensures)) found)
