use Rattle.std.proofs.Common.{◌≡◌, ◌<◌, ◌&&◌, true, length, ap, sym, subst, ◌∙◌, arith}
use Rattle.cj_book.proofs.Cited.{SeatedBook, and_parts, hosts_all, in_mask, is_enabled, mask_below, placement_of}
use Rattle.cj_book.specs.Books.{is_candidate}
use Rattle.cj_book.proofs.book.Book.candidates.Goals as goal

pub returns-clause-hosts : goal.returns-clause-hosts
returns-clause-hosts c = λ b.
    let tables = c.args.tables.now in
    subst (λ (s : SeatedBook). in_mask c.hosting.result b ≡ is_candidate s.state tables b) c.self.view_is
    (c.hosting.ensures b ∙ ap (λ on. on && hosts_all (placement_of c.self.inside.placement) b tables) (c.self.invariant.0.history.mask b))

pub returns-clause-below : goal.returns-clause-below
returns-clause-below c =
    mask_below c.hosting.result (λ b there.
    let on : is_enabled c.args.self.now.state.history b ≡ true = subst (λ (s : SeatedBook). is_enabled s.state.history b ≡ true) c.self.view_is
    (sym (c.self.invariant.0.history.mask b) ∙ (and_parts (in_mask c.self.inside.enabled b) _ (sym (c.hosting.ensures b) ∙ there)).0) in
    let below : b < length c.self.inside.placement.names = c.self.invariant.0.history.below b (subst (λ (s : SeatedBook). is_enabled s.state.history b ≡ true) (sym c.self.view_is) on) in
    omega (arith, c.self.invariant.0.history.backend_count))
