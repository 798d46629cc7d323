use Rattle.std.proofs.Common.{bit_or, refl, sym, subst}
use Rattle.cj_transactions.proofs.Cited.{IsIndexOf, TransactionList, changed, changed_rises, tx_number, unchanged}
use Rattle.cj_transactions.proofs.transactions.OpenTransactions.add_hosts.Goals as goal

pub invariant_of-self : goal.invariant_of-self
invariant_of-self c =
    let at = subst (λ (v : TransactionList). IsIndexOf tx_number v.list c.args.number c.in-Some.place) (sym c.self.view_is) c.in-Some.ensures in
    changed_rises tx_number c.self.inside.open.items c.self.invariant c.args.number c.in-Some.place at c.index_mut.result.now c.index_mut.ensures.value (λ y. record y { wrote = bit_or y.wrote c.args.hosts }) (λ y. refl)

pub returns-in-Some : goal.returns-in-Some
returns-in-Some c =
    let at = subst (λ (v : TransactionList). IsIndexOf tx_number v.list c.args.number c.in-Some.place) (sym c.self.view_is) c.in-Some.ensures in
    rw (← c.self.view_is) (changed tx_number c.self.inside.open.items c.self.invariant c.args.number c.in-Some.place at c.index_mut.result.now c.index_mut.ensures.value (λ y. record y { wrote = bit_or y.wrote c.args.hosts }))

pub returns-in_default : goal.returns-in_default
returns-in_default c = unchanged tx_number (λ y. record y { wrote = bit_or y.wrote c.args.hosts }) c.args.self.now.list c.args.number c.in_default.ensures
