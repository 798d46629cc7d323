use Rattle.std.proofs.Common.{subst}
use Rattle.cj_cluster.specs.declared.moves.Did.TheVariants.{Done}
use Rattle.cj_tally.specs.Tallies.{IsReportOf}
use Rattle.cj_tally.proofs.Reports.{first_is, report_tallied}
use Rattle.cj_tally.proofs.tally.Tally.took.Goals as goal

pub returns-in-Done-clause-tally : goal.returns-in-Done-clause-tally
returns-in-Done-clause-tally c tells p entries i e was report =
    rw (c.with_bit-self.ensures.value, c.or-self.ensures, first_is c.args.self.now.first_outcome c.in-Done.outcome)
    (report_tallied tells p entries i e c.args.self.now c.args.b (Done c.in-Done.outcome) was (subst (IsReportOf tells p entries i e c.args.b) c.in-Done.is report))
