use Rattle.cj_completeness.proofs.ShownFailures.{audit_shows, backup_shows, checkpoint_shows, disable_shows, dump_shows, enable_shows, load_shows, orphan_shows, reenable_shows, replay_shows}
use Rattle.cj_completeness.proofs.laws.failures_show_to_administrators.Goals as goal

pub returns-clause-disable : goal.returns-clause-disable
returns-clause-disable g c = λ old new b error is. disable_shows old new b error is

pub returns-clause-checkpoint : goal.returns-clause-checkpoint
returns-clause-checkpoint g c = λ old new name error is. checkpoint_shows old new name error is

pub returns-clause-abort_orphan : goal.returns-clause-abort_orphan
returns-clause-abort_orphan g c = λ tells p old new tx error is. orphan_shows old new tells p tx error is

pub returns-clause-audit : goal.returns-clause-audit
returns-clause-audit g c = λ h old new error is. audit_shows old new h error is

pub returns-clause-begin_dump : goal.returns-clause-begin_dump
returns-clause-begin_dump g c = λ tells l b name old new error is. dump_shows old new tells l b name error is

pub returns-clause-load : goal.returns-clause-load
returns-clause-load g c = λ l b d old new error is. load_shows old new l b d error is

pub returns-clause-replay : goal.returns-clause-replay
returns-clause-replay g c = λ b most old new error is. replay_shows old new b most error is

pub returns-clause-enable : goal.returns-clause-enable
returns-clause-enable g c = λ b old new error is. enable_shows old new b error is

pub returns-clause-reenable : goal.returns-clause-reenable
returns-clause-reenable g c = λ l b d old new error is. reenable_shows old new l b d error is

pub returns-clause-backup : goal.returns-clause-backup
returns-clause-backup g c = λ tells kept l b name old new shelf now error is. backup_shows old new tells kept l b name shelf now error is
