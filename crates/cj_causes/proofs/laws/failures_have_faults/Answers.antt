use Rattle.cj_causes.proofs.CountedFailures.{failures_counted, log_failures_counted, notes_counted}
use Rattle.cj_causes.proofs.laws.failures_have_faults.Goals as goal

pub returns-clause-backends : goal.returns-clause-backends
returns-clause-backends g c = failures_counted

pub returns-clause-notes : goal.returns-clause-notes
returns-clause-notes g c = notes_counted

pub returns-clause-log : goal.returns-clause-log
returns-clause-log g c = log_failures_counted g.S.Store.tells g.S.Store.faults
