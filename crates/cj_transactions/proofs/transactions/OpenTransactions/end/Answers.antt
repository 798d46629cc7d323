use Rattle.std.proofs.Common.{sym, subst}
use Rattle.cj_transactions.proofs.Cited.{IsIndexOf, TransactionList, removed, removed_rises, tx_number, unremoved}
use Rattle.cj_transactions.proofs.transactions.OpenTransactions.end.Goals as goal

pub invariant_of-self : goal.invariant_of-self
invariant_of-self c =
    let at = subst (λ (v : TransactionList). IsIndexOf tx_number v.list c.args.number c.in-Some.place) (sym c.self.view_is) c.in-Some.ensures in
    rw c.remove.ensures.items (removed_rises tx_number c.self.inside.open.items c.self.invariant c.args.number c.in-Some.place at c.remove.result c.remove.ensures.value)

pub returns-in-Some : goal.returns-in-Some
returns-in-Some c =
    let at = subst (λ (v : TransactionList). IsIndexOf tx_number v.list c.args.number c.in-Some.place) (sym c.self.view_is) c.in-Some.ensures in
    rw (← c.self.view_is, c.remove.ensures.items) (removed tx_number c.self.inside.open.items c.self.invariant c.args.number c.in-Some.place at c.remove.result c.remove.ensures.value)

pub returns-in_default : goal.returns-in_default
returns-in_default c = unremoved tx_number c.args.self.now.list c.args.number c.in_default.ensures
