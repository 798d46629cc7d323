use Rattle.std.proofs.Common.{sym, ap, ◌∙◌}
use Rattle.cj_transactions.proofs.Cited.{concerns_tx, in_mask, placement_of}
use Rattle.cj_transactions.proofs.transactions.OpenTransactions.concerned.Goals as goal

pub returns-in-None : goal.returns-in-None
returns-in-None c = λ entries keeps fit b.
    ap (λ n. in_mask n b) c.wrote.ensures
    ∙ concerns_tx entries c.args.e.now (placement_of c.args.placement.now) c.args.self.now.list keeps b fit (sym c.in-None.ensures)
