-- The lines that the console writes.
use Rattle.std.specs.Prelude.{ℕ, List, [], ◌∷◌, ◌++◌, codes}
use Rattle.std.specs.Fmt.{decimal}
use Rattle.cj_cluster.specs.Script.Lines.{with_line_feed}
use Rattle.cj_administration.specs.declared.administration.AdminError.{AdminError}
use Rattle.cj_administration.specs.declared.administration.AdminError.TheVariants as admin
use Rattle.cj_replay.specs.declared.reenabling.ReplayError.{ReplayError}
use Rattle.cj_replay.specs.declared.reenabling.ReplayError.TheVariants as replay
use Rattle.cj_backup.specs.declared.backing.BackupError.{BackupError}
use Rattle.cj_backup.specs.declared.backing.BackupError.TheVariants as backup
use Rattle.cj_console.specs.declared.answer.Answer.{Answer}
use Rattle.cj_console.specs.declared.answer.Answer.TheVariants as answers

-- the refusal of this name
abbrev pub refused : List ℕ → List ℕ
refused name = codes "refused " ++ name

-- the refusal of this name, with a number
abbrev pub refused_with : List ℕ → ℕ → List ℕ
refused_with name n = refused name ++ 32 ∷ decimal n

-- the refusal of this name, with a table's name unless that is empty
abbrev pub refused_for : List ℕ → List ℕ → List ℕ
refused_for name [] = refused name
refused_for name (b ∷ table) = refused name ++ 32 ∷ b ∷ table

abbrev pub admin_text : AdminError → List ℕ
admin_text admin.NotEnabled = refused (codes "NotEnabled")
admin_text admin.NameTaken = refused (codes "NameTaken")
admin_text (admin.NotOrphan tx) = refused_with (codes "NotOrphan") tx
admin_text (admin.HistoryFull n) = refused_with (codes "HistoryFull") n
admin_text admin.LogFault = refused (codes "LogFault")
admin_text (admin.Fault b) = refused_with (codes "Fault") b
admin_text admin.NoMemory = refused (codes "NoMemory")

abbrev pub replay_text : ReplayError → List ℕ
replay_text replay.AlreadyEnabled = refused (codes "AlreadyEnabled")
replay_text (replay.NeedsDump seen) = refused (codes "NeedsDump")
replay_text (replay.Failed b) = refused (codes "Failed")
replay_text replay.Starved = refused (codes "Starved")
replay_text (replay.DumpLacks table) = refused_for (codes "DumpLacks") table
replay_text (replay.DumpAhead n) = refused_with (codes "DumpAhead") n
replay_text (replay.HistoryFull n) = refused_with (codes "HistoryFull") n
replay_text replay.NoMemory = refused (codes "NoMemory")

abbrev pub backup_text : BackupError → List ℕ
backup_text backup.NotEnabled = refused (codes "NotEnabled")
backup_text backup.NameTaken = refused (codes "NameTaken")
backup_text (backup.LastHost table) = refused_for (codes "LastHost") table
backup_text (backup.Failed b) = refused (codes "BackendFault")
backup_text backup.StoreFault = refused (codes "StoreFault")
backup_text backup.LogFault = refused (codes "LogFault")
backup_text (backup.HistoryFull n) = refused_with (codes "HistoryFull") n
backup_text backup.NoMemory = refused (codes "NoMemory")

-- the lines of an answer, each with its line feed
abbrev pub answer_text : Answer → List ℕ
answer_text (answers.Lines text) = text
answer_text answers.Done = with_line_feed (codes "ok")
answer_text (answers.Number n) = with_line_feed (codes "ok " ++ decimal n)
answer_text (answers.CacheCounts hits misses) = with_line_feed (codes "hits=" ++ decimal hits ++ codes " misses=" ++ decimal misses)
answer_text answers.NoCommand = with_line_feed (refused (codes "Command"))
answer_text answers.NoBackend = with_line_feed (refused (codes "Backend"))
answer_text answers.NoDump = with_line_feed (refused (codes "Dump"))
answer_text answers.StoreFault = with_line_feed (refused (codes "StoreFault"))
answer_text (answers.BadRecord offset) = with_line_feed (refused_with (codes "BadRecord") offset)
answer_text answers.NoMemory = with_line_feed (refused (codes "NoMemory"))
answer_text (answers.Refused error) = with_line_feed (admin_text error)
answer_text (answers.NotReenabled error) = with_line_feed (replay_text error)
answer_text (answers.NotBackedUp error) = with_line_feed (backup_text error)
