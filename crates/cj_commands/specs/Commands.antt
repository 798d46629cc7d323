-- The lines of the administrator's console, and the commands that they are.
use Rattle.std.specs.Prelude.{◌≡◌, ◌⊎◌, ℕ, ◌<◌, true, List, [], ◌∷◌, length, codes, position}
use Rattle.std.specs.declared.option.Option.TheVariants.{None, Some}
use Rattle.std.specs.Str.{bytes_eq}
use Rattle.cj_model.specs.Sql.Names.{is_name}
use Rattle.cj_cluster.specs.Script.Lines.{HasNoSpace, IsNumber, NamesBackend, NamesDump, words}
use Rattle.cj_commands.specs.declared.command.Command.{Command}
use Rattle.cj_commands.specs.declared.command.Command.TheVariants.{Abort, Audit, Backup, Checkpoint, Disable, Enable, Quit, ShowBackends, ShowCache, ShowLog}

-- The line, without its LF, is the command. Backends go by these names.
abbrev pub CommandLine : List (List ℕ) → List ℕ → Command → Type 0
CommandLine names line ShowBackends = line ≡ codes "show backends"
CommandLine names line (ShowLog from to) =
    (first : List ℕ) × (last : List ℕ) × IsNumber first from × IsNumber last to × (line ≡ words (codes "show" ∷ codes "log" ∷ first ∷ last ∷ []))
CommandLine names line ShowCache = line ≡ codes "show cache"
CommandLine names line Audit = line ≡ codes "audit"
CommandLine names line (Checkpoint name) = (is_name name ≡ true) × (line ≡ words (codes "checkpoint" ∷ name ∷ []))
CommandLine names line (Disable b) = NamesBackend names line (codes "disable") b
CommandLine names line (Enable b None) = NamesBackend names line (codes "enable") b
CommandLine names line (Enable b (Some name)) = NamesDump names line (codes "enable") b name
CommandLine names line (Backup b name) = NamesDump names line (codes "backup") b name
CommandLine names line (Abort tx) = (number : List ℕ) × IsNumber number tx × (line ≡ words (codes "abort" ∷ number ∷ []))
CommandLine names line Quit = line ≡ codes "quit"

-- the word could be a backend's name, and no backend has it
pub record IsNoBackend (names : List (List ℕ)) (z : List ℕ) : Type 0 where
  pub word : HasNoSpace z
  pub some : 0 < length z
  pub unnamed : position (bytes_eq z) names ≡ None

-- the line "VERB B", where no backend has the name B
abbrev pub LacksBackend : List (List ℕ) → List ℕ → List ℕ → Type 0
LacksBackend names line verb = (word : List ℕ) × IsNoBackend names word × (line ≡ words (verb ∷ word ∷ []))

-- the line "VERB B NAME", where no backend has the name B
abbrev pub LacksBackendOfDump : List (List ℕ) → List ℕ → List ℕ → Type 0
LacksBackendOfDump names line verb =
    (word : List ℕ) × (name : List ℕ) × IsNoBackend names word × (is_name name ≡ true) × (line ≡ words (verb ∷ word ∷ name ∷ []))

-- the line has the form of `disable B`, `enable B`, `enable B NAME` or `backup B NAME`, and no backend has the name B
abbrev pub NamesNoBackend : List (List ℕ) → List ℕ → Type 0
NamesNoBackend names line =
    (LacksBackend names line (codes "disable") ⊎ LacksBackend names line (codes "enable"))
    ⊎ (LacksBackendOfDump names line (codes "enable") ⊎ LacksBackendOfDump names line (codes "backup"))

-- the line is no command, and it doesn't name a backend that there isn't
abbrev pub IsNoCommand : List (List ℕ) → List ℕ → Type 0
IsNoCommand names line = ((command : Command) → CommandLine names line command → ⊥) × (NamesNoBackend names line → ⊥)
