-- How a line is read: its first word, the verb that it is, and what follows.
use Rattle.std.specs.Prelude.{◌≡◌, ℕ, List, [], ◌∷◌, codes, map, if◌then◌else◌, true}
use Rattle.std.specs.declared.option.Option.{Option}
use Rattle.std.specs.declared.option.Option.TheVariants.{None, Some}
use Rattle.std.specs.Str.{bytes_eq}
use Rattle.cj_model.specs.declared.request.Request.{Request}
use Rattle.cj_model.specs.declared.request.Request.TheVariants as request
use Rattle.cj_model.specs.declared.select.Select.{Select}
use Rattle.cj_cluster.specs.declared.moves.Move.{Move}
use Rattle.cj_cluster.specs.declared.moves.Move.TheVariants as move
use Rattle.cj_model.specs.Sql.Names.{is_name}
use Rattle.cj_cluster.specs.Script.Lines.{IsUser, IsNumber, IsBackend, IsPlainSql, IsWrite}
use Rattle.cj_script.specs.declared.verb.Verb.{Verb}
use Rattle.cj_script.specs.declared.verb.Verb.TheVariants.{Open, Close, Write, Abort, Apply, End, Read, Arm, Disable, Replay, Enable, Mark, Dump, Load}
use Rattle.cj_script.specs.declared.verb.TheConstants.{VERBS}
use Rattle.cj_words.specs.Words.{IsNamed, IsNumbered}

-- ---- verbs

abbrev pub find_verb : List (List ℕ × Verb) → List ℕ → Option Verb
find_verb [] word = None
find_verb (v ∷ vs) word = if bytes_eq v.0 word then Some v.1 else find_verb vs word

-- the verb that the word is
unfoldable pub verb_of : List ℕ → Option Verb
verb_of = find_verb (map (λ v. (v.0.now, v.1)) VERBS)

-- the word of a verb
abbrev pub word_of : Verb → List ℕ
word_of Open = codes "open"
word_of Close = codes "close"
word_of Write = codes "write"
word_of Abort = codes "abort"
word_of Apply = codes "apply"
word_of End = codes "end"
word_of Read = codes "read"
word_of Arm = codes "arm"
word_of Disable = codes "disable"
word_of Replay = codes "replay"
word_of Enable = codes "enable"
word_of Mark = codes "mark"
word_of Dump = codes "dump"
word_of Load = codes "load"

-- ---- what follows a verb

abbrev pub ReadsOpen : List ℕ → Move → Type 0
ReadsOpen rest m = IsUser rest × (m ≡ move.Open rest)

abbrev pub ReadsClose : List ℕ → Move → Type 0
ReadsClose rest m = (s : ℕ) × IsNumber rest s × (m ≡ move.Close s)

-- the arguments are a session's number and a write
pub record SaysWrite (rest : List ℕ) (m : Move) : Type 0 where
  pub session : ℕ
  pub sql : List ℕ
  pub numbered : IsNumbered rest session sql
  pub request : Request
  pub reads : IsWrite sql request
  pub is : m ≡ move.Schedule session request

abbrev pub ReadsAbort : List ℕ → Move → Type 0
ReadsAbort rest m = (tx : ℕ) × IsNumber rest tx × (m ≡ move.Abort tx)

-- the arguments are a session's number, a backend's name and a query
pub record Queries (names : List (List ℕ)) (rest : List ℕ) (m : Move) : Type 0 where
  pub session : ℕ
  pub more : List ℕ
  pub numbered : IsNumbered rest session more
  pub b : ℕ
  pub sql : List ℕ
  pub named : IsNamed names more b sql
  pub select : Select
  pub reads : IsPlainSql sql (request.Select select)
  pub is : m ≡ move.Read session b select

-- the query that a request is, if it is one
abbrev pub IsQuery : Request → Option Select → Type 0
IsQuery r None = (x : Select) → r ≡ request.Select x → ⊥
IsQuery r (Some x) = r ≡ request.Select x

-- the argument is a backend's name
abbrev pub Names : List (List ℕ) → (ℕ → Move) → List ℕ → Move → Type 0
Names names make rest m = (b : ℕ) × IsBackend names rest b × (m ≡ make b)

-- the argument is the name of a marker
abbrev pub ReadsMark : List ℕ → Move → Type 0
ReadsMark rest m = (is_name rest ≡ true) × (m ≡ move.Mark rest)

-- the arguments are a backend's name and that of a dump
abbrev pub NamesBackendAndDump : List (List ℕ) → List ℕ → ℕ × List ℕ → Type 0
NamesBackendAndDump names rest (b, name) = IsNamed names rest b name × (is_name name ≡ true)

-- the arguments are a backend's name and that of a dump, and the move is made of both
abbrev pub OfDump : List (List ℕ) → (ℕ → List ℕ → Move) → List ℕ → Move → Type 0
OfDump names make rest m = (b : ℕ) × (name : List ℕ) × NamesBackendAndDump names rest (b, name) × (m ≡ make b name)

-- after this verb and a space these are the arguments of the move
abbrev pub Arguments : List (List ℕ) → Verb → List ℕ → Move → Type 0
Arguments names Open rest m = ReadsOpen rest m
Arguments names Close rest m = ReadsClose rest m
Arguments names Write rest m = SaysWrite rest m
Arguments names Abort rest m = ReadsAbort rest m
Arguments names Apply rest m = Names names move.Apply rest m
Arguments names End rest m = ⊥
Arguments names Read rest m = Queries names rest m
Arguments names Arm rest m = Names names move.Arm rest m
Arguments names Disable rest m = Names names move.Disable rest m
Arguments names Replay rest m = Names names move.Replay rest m
Arguments names Enable rest m = Names names move.Enable rest m
Arguments names Mark rest m = ReadsMark rest m
Arguments names Dump rest m = OfDump names move.Dump rest m
Arguments names Load rest m = OfDump names move.Load rest m

-- the move of a line that is one word
abbrev pub IsOneWordMove : List ℕ → Move → Type 0
IsOneWordMove word m = (word ≡ codes "end") × (m ≡ move.End)
