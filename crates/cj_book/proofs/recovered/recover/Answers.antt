use Rattle.std.proofs.Common.{sym, subst}
use Rattle.cj_recovery.specs.Openings.{OpensTo}
use Rattle.cj_book.proofs.recovered.recover.Goals as goal

pub returns-clause-opens : goal.returns-clause-opens
returns-clause-opens c = subst (OpensTo c.args.items.now) (sym c.in_ok-found.ensures.events) c.in_ok-events.ensures.history
