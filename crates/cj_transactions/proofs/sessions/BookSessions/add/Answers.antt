use Rattle.std.proofs.Common.{arith}
use Rattle.cj_transactions.proofs.Cited.{book_session, rises_push, session_number}
use Rattle.cj_transactions.proofs.sessions.BookSessions.add.Goals as goal

pub invariant_of-self : goal.invariant_of-self
invariant_of-self c = record {
  rises = rw c.push_reserved.ensures.items (rises_push session_number c.self.inside.open.items (book_session c.args.number) (rw c.self.view_is c.requires.above) c.self.invariant.rises);
  room = omega (arith, c.self.invariant.room);
}
