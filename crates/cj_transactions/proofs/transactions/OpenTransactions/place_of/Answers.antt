use Rattle.std.proofs.Common.{Ok, Err, rules}
use Rattle.cj_transactions.proofs.Cited.{answers_always, searched, tx_number}
use Rattle.cj_transactions.proofs.transactions.OpenTransactions.place_of.Goals as goal

pub returns-in-Ok : goal.returns-in-Ok
returns-in-Ok c =
    let facts = c.in-Ok.ensures in
    let by_key = facts.position (λ x. x.number) (answers_always _ _ _ (λ f a r g called. search rules)) in
    rw (← c.self.view_is, ← c.deref.ensures.value) (searched tx_number _ (rw c.deref.ensures.value c.self.invariant) c.args.number (Ok c.in-Ok.place) facts.bound by_key)

pub returns-in-Err : goal.returns-in-Err
returns-in-Err c =
    let facts = c.in-Err.ensures in
    let by_key = facts.position (λ x. x.number) (answers_always _ _ _ (λ f a r g called. search rules)) in
    rw (← c.self.view_is, ← c.deref.ensures.value) (searched tx_number _ (rw c.deref.ensures.value c.self.invariant) c.args.number (Err c.in-Err.field-0) facts.bound by_key)
