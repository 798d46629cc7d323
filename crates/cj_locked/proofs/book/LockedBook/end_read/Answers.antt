use Rattle.cj_model.specs.Cluster.Balancing.{one_less}
use Rattle.cj_locked.proofs.Balancing.{locked_after_read}
use Rattle.cj_locked.proofs.book.LockedBook.end_read.Goals as goal

pub invariant_of-self : goal.invariant_of-self
invariant_of-self g c =
    let old = c.self.inside.book in
    locked_after_read g.J.Naming.board g.J.Naming.layout g.S.Store.tells g.S.Store.faults c.self.inside.ledger.total old c.ended.new.self _ c.ended.ensures.seat c.self.invariant
    (record old.state.balance { standing = record old.state.balance.standing { pending = one_less old.state.balance.standing.pending c.args.b } }) c.ended.ensures.state
