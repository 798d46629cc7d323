use Rattle.std.proofs.Common.{sym, subst}
use Rattle.cj_recovery.specs.Proving.Steps.{BringsNothing}
use Rattle.cj_recovery.proofs.grown.Grown.add.Goals as goal

pub returns-in-Entry-clause-bad : goal.returns-in-Entry-clause-bad
returns-in-Entry-clause-bad c = λ n is.
    let bad = c.add_entry_of.ensures.bad n is in
    (bad.0, subst (BringsNothing c.args.self.now.events.items) (sym c.in-Entry.is) bad.1)
