use Rattle.std.proofs.Common.{arith}
use Rattle.cj_transactions.proofs.Cited.{book_session, rises_push, session_number}
use Rattle.cj_transactions.proofs.sessions.BookSessions.try_add.Goals as goal

pub invariant_of-self-2 : goal.invariant_of-self-2
invariant_of-self-2 c = record {
  rises = rw c.in_ok-push.ensures.items (rises_push session_number c.self.inside.open.items (book_session c.args.number) (rw c.self.view_is c.requires) c.self.invariant.rises);
  room = omega (arith, c.self.invariant.room, c.push.ensures.capacity);
}
