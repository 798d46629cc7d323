use Rattle.std.proofs.Common.{arith}
use Rattle.cj_transactions.proofs.Cited.{new_tx, rises_push, tx_number}
use Rattle.cj_transactions.proofs.transactions.OpenTransactions.begin.Goals as goal

pub invariant_of-self : goal.invariant_of-self
invariant_of-self c =
    let above = rw (← c.self.view_is) at c.requires.above in
    rw c.push_reserved.ensures.items (rises_push tx_number c.self.inside.open.items (new_tx c.args.number c.args.session) above c.self.invariant)

pub push_reserved-requires : goal.push_reserved-requires
push_reserved-requires c = let place = rw (← c.self.view_is) at c.requires.place in omega (arith, place)
