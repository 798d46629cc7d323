use Rattle.std.proofs.Common.{rules}
use Rattle.cj_book.proofs.Cited.{placement_at, request_of, served_by_some}
use Rattle.cj_book.proofs.book.Book.is_unserved.Goals as goal

pub returns-else-servers-eq0-clause-served : goal.returns-else-servers-eq0-clause-served
returns-else-servers-eq0-clause-served c =
    λ _. served_by_some (placement_at c.args.self.now.state) c.args.self.now.state.history (request_of c.args.act.now) c.servers.result (search rules) (search rules) c.servers.ensures
