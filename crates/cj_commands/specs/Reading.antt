-- How a line is read, from its first word on, for proofs alone. What it asks for is said in Commands, and is shown to
-- be the same.
use Rattle.std.specs.Prelude.{◌≡◌, ◌⊎◌, ℕ, true, List, ◌∷◌, ◌++◌, codes, if◌then◌else◌}
use Rattle.std.specs.declared.option.Option.{Option}
use Rattle.std.specs.declared.option.Option.TheVariants.{None, Some}
use Rattle.std.specs.declared.result.Result.{Result}
use Rattle.std.specs.declared.result.Result.TheVariants.{Err, Ok}
use Rattle.std.specs.Str.{bytes_eq}
use Rattle.cj_model.specs.Sql.Names.{is_name}
use Rattle.cj_cluster.specs.Script.Lines.{IsBackend, IsNumber}
use Rattle.cj_words.specs.Words.{IsNamed, IsNumbered}
use Rattle.cj_commands.specs.Commands.{IsNoBackend}
use Rattle.cj_commands.specs.declared.command.Command.{Command}
use Rattle.cj_commands.specs.declared.command.Command.TheVariants as command
use Rattle.cj_commands.specs.declared.command.Unread.{Unread}
use Rattle.cj_commands.specs.declared.command.Unread.TheVariants.{NoBackend, NoCommand}
use Rattle.cj_commands.specs.declared.verb.Verb.{Verb}
use Rattle.cj_commands.specs.declared.verb.Verb.TheVariants.{Abort, Backup, Checkpoint, Disable, Enable, Show}

-- what a text was read as: such a value, or one for which a backend is lacking, or neither of both
abbrev pub IsReadAs : {A : Type 0} → (A → Type 0) → Type 0 → Result A Unread → Type 0
IsReadAs Is Lacks (Ok x) = Is x
IsReadAs Is Lacks (Err NoBackend) = Lacks
IsReadAs {A} Is Lacks (Err NoCommand) = ((x : A) → Is x → ⊥) × (Lacks → ⊥)

-- ---- verbs

-- the word of a verb
abbrev pub verb_word : Verb → List ℕ
verb_word Show = codes "show"
verb_word Checkpoint = codes "checkpoint"
verb_word Disable = codes "disable"
verb_word Enable = codes "enable"
verb_word Backup = codes "backup"
verb_word Abort = codes "abort"

-- the verb that the word is
abbrev pub verb_named : List ℕ → Option Verb
verb_named word =
    if bytes_eq word (verb_word Show) then Some Show
    else (if bytes_eq word (verb_word Checkpoint) then Some Checkpoint
    else (if bytes_eq word (verb_word Disable) then Some Disable
    else (if bytes_eq word (verb_word Enable) then Some Enable
    else (if bytes_eq word (verb_word Backup) then Some Backup
    else (if bytes_eq word (verb_word Abort) then Some Abort
    else None)))))

-- ---- what follows a verb

-- two numbers with a space between them
abbrev pub IsRange : List ℕ → ℕ × ℕ → Type 0
IsRange rest (from, to) = (last : List ℕ) × IsNumbered rest from last × IsNumber last to

-- the word `log`, a space and two numbers
abbrev pub IsLogRange : List ℕ → ℕ × ℕ → Type 0
IsLogRange rest range = (numbers : List ℕ) × IsRange numbers range × (rest ≡ codes "log" ++ 32 ∷ numbers)

-- the arguments say what is to be shown
abbrev pub AsksToShow : List ℕ → Command → Type 0
AsksToShow rest c =
    (((rest ≡ codes "backends") × (c ≡ command.ShowBackends)) ⊎ ((rest ≡ codes "cache") × (c ≡ command.ShowCache)))
    ⊎ ((range : ℕ × ℕ) × IsLogRange rest range × (c ≡ command.ShowLog range.0 range.1))

-- a backend's name, a space and a name
abbrev pub HasBackendAndName : List (List ℕ) → List ℕ → ℕ × List ℕ → Type 0
HasBackendAndName names rest (b, name) = IsNamed names rest b name × (is_name name ≡ true)

-- a word that no backend has as its name, a space and a name
pub record LacksNamed (names : List (List ℕ)) (rest : List ℕ) : Type 0 where
  pub word : List ℕ
  pub name : List ℕ
  pub lacks : IsNoBackend names word
  pub named : is_name name ≡ true
  pub parts : rest ≡ word ++ 32 ∷ name

-- the argument is a checkpoint's name
abbrev pub AsksToCheckpoint : List ℕ → Command → Type 0
AsksToCheckpoint rest c = (is_name rest ≡ true) × (c ≡ command.Checkpoint rest)

-- the argument is a backend's name
abbrev pub AsksToDisable : List (List ℕ) → List ℕ → Command → Type 0
AsksToDisable names rest c = (b : ℕ) × IsBackend names rest b × (c ≡ command.Disable b)

-- the arguments are a backend's name, alone or with that of a dump
abbrev pub AsksToEnable : List (List ℕ) → List ℕ → Command → Type 0
AsksToEnable names rest c =
    ((b : ℕ) × IsBackend names rest b × (c ≡ command.Enable b None))
    ⊎ ((b : ℕ) × (name : List ℕ) × HasBackendAndName names rest (b, name) × (c ≡ command.Enable b (Some name)))

-- the arguments are a word that could be a backend's name and is none's, alone or with the name of a dump
abbrev pub LacksToEnable : List (List ℕ) → List ℕ → Type 0
LacksToEnable names rest = IsNoBackend names rest ⊎ LacksNamed names rest

-- the arguments are a backend's name and that of a dump
abbrev pub AsksToBackup : List (List ℕ) → List ℕ → Command → Type 0
AsksToBackup names rest c = (b : ℕ) × (name : List ℕ) × HasBackendAndName names rest (b, name) × (c ≡ command.Backup b name)

-- the argument is a transaction's number
abbrev pub AsksToAbort : List ℕ → Command → Type 0
AsksToAbort rest c = (tx : ℕ) × IsNumber rest tx × (c ≡ command.Abort tx)

-- after this verb and a space these are the arguments of the command
abbrev pub AsksFor : List (List ℕ) → Verb → List ℕ → Command → Type 0
AsksFor names Show rest c = AsksToShow rest c
AsksFor names Checkpoint rest c = AsksToCheckpoint rest c
AsksFor names Disable rest c = AsksToDisable names rest c
AsksFor names Enable rest c = AsksToEnable names rest c
AsksFor names Backup rest c = AsksToBackup names rest c
AsksFor names Abort rest c = AsksToAbort rest c

-- after this verb and a space these are arguments of its form, in which no backend has the name that is given
abbrev pub LacksAmong : List (List ℕ) → Verb → List ℕ → Type 0
LacksAmong names Show rest = ⊥
LacksAmong names Checkpoint rest = ⊥
LacksAmong names Disable rest = IsNoBackend names rest
LacksAmong names Enable rest = LacksToEnable names rest
LacksAmong names Backup rest = LacksNamed names rest
LacksAmong names Abort rest = ⊥

-- the command of a line that is one word
abbrev pub IsOneWordCommand : List ℕ → Command → Type 0
IsOneWordCommand word c = ((word ≡ codes "audit") × (c ≡ command.Audit)) ⊎ ((word ≡ codes "quit") × (c ≡ command.Quit))
