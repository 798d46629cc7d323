use Rattle.std.proofs.Common.{◌≡◌, ◌&&◌, bit_and, sym, subst}
use Rattle.cj_book.proofs.Cited.{SeatedBook, history, hosts_all, in_mask, is_enabled, needs, placement_at, placement_of, request_of, servers_of}
use Rattle.cj_book.proofs.book.Book.servers.Goals as goal

pub returns-in-Some : goal.returns-in-Some
returns-in-Some c = λ b.
    subst (λ (s : SeatedBook). in_mask (bit_and c.self.inside.enabled c.hosts.result) b ≡ (is_enabled s.state.history b && hosts_all (placement_at s.state) b (needs (request_of c.args.act.now)))) c.self.view_is
    (servers_of (placement_of c.self.inside.placement) (history c.self.inside.seat) c.args.act.now c.in-Some.table.now c.self.inside.enabled c.hosts.result b (sym c.in-Some.ensures) (c.self.invariant.0.history.mask b) (c.hosts.ensures b))
