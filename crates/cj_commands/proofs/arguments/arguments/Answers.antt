use Rattle.cj_commands.proofs.Common.{Abort, Backup, Disable, Enable, Show}
use Rattle.cj_commands.proofs.Found.{at_verb}
use Rattle.cj_commands.proofs.arguments.arguments.Goals as goal

pub returns-in-Show : goal.returns-in-Show
returns-in-Show c = at_verb c.args.names.now c.args.verb c.args.rest.now Show c.show.result c.in-Show.is c.show.ensures

pub returns-in-Disable : goal.returns-in-Disable
returns-in-Disable c = at_verb c.args.names.now c.args.verb c.args.rest.now Disable c.disable.result c.in-Disable.is c.disable.ensures

pub returns-in-Enable : goal.returns-in-Enable
returns-in-Enable c = at_verb c.args.names.now c.args.verb c.args.rest.now Enable c.enable.result c.in-Enable.is c.enable.ensures

pub returns-in-Backup : goal.returns-in-Backup
returns-in-Backup c = at_verb c.args.names.now c.args.verb c.args.rest.now Backup c.backup.result c.in-Backup.is c.backup.ensures

pub returns-in-Abort : goal.returns-in-Abort
returns-in-Abort c = at_verb c.args.names.now c.args.verb c.args.rest.now Abort c.abort.result c.in-Abort.is c.abort.ensures
