use Rattle.std.proofs.lemmas.List.Elements.{All-nil}
use Rattle.cj_model.proofs.CachingLaws.{all_looked, all_put}
use Rattle.cj_cluster.specs.History.Freshness.{IsFreshAnswer}
use Rattle.cj_cluster.proofs.FreshAnswers.{by_tables, fresh_now, fresh_longer, fresh_next}
use Rattle.cj_cluster.proofs.freshness_laws.caches_stay_fresh.Goals as goal

pub returns-clause-empty : goal.returns-clause-empty
returns-clause-empty c = λ tells entries capacity. All-nil (IsFreshAnswer tells entries)

pub returns-clause-now : goal.returns-clause-now
returns-clause-now c = fresh_now

pub returns-clause-look : goal.returns-clause-look
returns-clause-look c = λ tells entries s cache fresh. all_looked (IsFreshAnswer tells entries) s cache fresh

pub returns-clause-keep : goal.returns-clause-keep
returns-clause-keep c = λ tells entries kept cache here fresh. all_put (IsFreshAnswer tells entries) kept cache here fresh

pub returns-clause-answer : goal.returns-clause-answer
returns-clause-answer c = fresh_longer

pub returns-clause-next : goal.returns-clause-next
returns-clause-next c = fresh_next

pub returns-clause-by_tables : goal.returns-clause-by_tables
returns-clause-by_tables c = by_tables
