use Rattle.std.proofs.Common.{◌≡◌, is_some, ap, sym, subst, ◌∙◌}
use Rattle.cj_book.proofs.Cited.{SeatedBook, found_among, has_session, session_number}
use Rattle.cj_book.proofs.book.Book.is_session_open.Goals as goal

pub returns : goal.returns
returns c =
    subst (λ (b : SeatedBook). c.is_some.result ≡ has_session b.state c.args.session) c.self.view_is
    (c.is_some.ensures ∙ (ap is_some c.find.ensures ∙ sym (found_among session_number c.self.inside.sessions c.args.session)))
