-- What the words after the program's name ask for.
use Rattle.std.specs.Prelude.{◌≡◌, ◌⊎◌, ◌≤◌, nat_le, ◌==◌, ℕ, Bool, true, false, not, ◌&&◌, List, [], ◌∷◌, ◌++◌, length, codes}
use Rattle.std.specs.Char.{is_ascii_digit}
use Rattle.std.specs.List.{list_all}
use Rattle.std.specs.Str.Parse.{digits_value}
use Rattle.cj_args.specs.declared.asked.Verb.{Verb}
use Rattle.cj_args.specs.declared.asked.Verb.TheVariants as verb
use Rattle.cj_args.specs.declared.asked.Topic.TheVariants as topic
use Rattle.cj_args.specs.declared.asked.Command.{Command}
use Rattle.cj_args.specs.declared.asked.Command.TheVariants as command
use Rattle.cj_args.specs.declared.asked.Asked.{Asked}
use Rattle.cj_args.specs.declared.asked.Asked.TheVariants as asked
use Rattle.cj_args.specs.declared.numbers.TheConstants.{DIGIT_LIMIT}
use Rattle.cj_args.specs.declared.parts.TheConstants.{COUNT_LIMIT}

-- a word that names a configuration: not empty, and no option
abbrev pub names_file : List ℕ → Bool
names_file [] = false
names_file (first ∷ rest) = not (first == 45)

-- 1 to DIGIT_LIMIT decimal digits
abbrev pub is_numeral : List ℕ → Bool
is_numeral word = nat_le 1 (length word) && nat_le (length word) DIGIT_LIMIT && list_all is_ascii_digit word

-- the word is 1 to DIGIT_LIMIT digits, which write this number
abbrev pub IsNumeralOf : List ℕ → ℕ → Type 0
IsNumeralOf word n = (is_numeral word ≡ true) × (n ≡ digits_value 10 word)

-- an option with its number in two words, as `--seed 1`, or in one, as `--seed=1`
abbrev pub IsOption : List ℕ → List (List ℕ) → ℕ → Type 0
IsOption name words n = (number : List ℕ) × IsNumeralOf number n × ((words ≡ name ∷ number ∷ []) ⊎ (words ≡ (name ++ codes "=" ++ number) ∷ []))

-- the words of three parts, each once, in any order
abbrev pub InAnyOrder : List (List ℕ) → List (List ℕ) → List (List ℕ) → List (List ℕ) → Type 0
InAnyOrder words a b c =
    ((words ≡ a ++ (b ++ c)) ⊎ (words ≡ a ++ (c ++ b)))
    ⊎ (((words ≡ b ++ (a ++ c)) ⊎ (words ≡ b ++ (c ++ a)))
    ⊎ ((words ≡ c ++ (a ++ b)) ⊎ (words ≡ c ++ (b ++ a))))

-- the words are CONF, `--seed N` and `--count N`, each once
pub record IsWorkload (words : List (List ℕ)) (conf : List ℕ) (seed count : ℕ) : Type 0 where
  pub seed_words : List (List ℕ)
  pub count_words : List (List ℕ)
  pub file : names_file conf ≡ true
  pub seeded : IsOption (codes "--seed") seed_words seed
  pub counted : IsOption (codes "--count") count_words count
  pub least : 1 ≤ count
  pub most : count ≤ COUNT_LIMIT
  pub order : InAnyOrder words (conf ∷ []) seed_words count_words

-- the word of a command
abbrev pub word_of : Verb → List ℕ
word_of verb.Pipe = codes "pipe"
word_of verb.Script = codes "script"
word_of verb.Log = codes "log"
word_of verb.Gen = codes "gen"
word_of verb.Serve = codes "serve"

-- the words are the command's word and CONF after it
abbrev pub IsOverFile : Verb → List (List ℕ) → List ℕ → Type 0
IsOverFile v words conf = (words ≡ word_of v ∷ conf ∷ []) × (names_file conf ≡ true)

-- the words of a command
abbrev pub Says : List (List ℕ) → Command → Type 0
Says words (command.Pipe conf) = IsOverFile verb.Pipe words conf
Says words (command.Script conf) = IsOverFile verb.Script words conf
Says words (command.Log conf) = IsOverFile verb.Log words conf
Says words (command.Gen conf seed count) = (rest : List (List ℕ)) × (words ≡ word_of verb.Gen ∷ rest) × IsWorkload rest conf seed count

-- the words are `serve`, a configuration and an address
abbrev pub AsksToServeAt : List (List ℕ) → (conf address : List ℕ) → Type 0
AsksToServeAt words conf address = (words ≡ word_of verb.Serve ∷ conf ∷ address ∷ []) × (names_file conf ≡ true) × (names_file address ≡ true)

-- the words ask for work: they are a command's, or ask to serve
abbrev pub SaysWork : List (List ℕ) → Type 0
SaysWork words = ((c : Command) × Says words c) ⊎ ((conf : List ℕ) × (address : List ℕ) × AsksToServeAt words conf address)

-- the configuration's file of a command
abbrev pub file_of : Command → List ℕ
file_of (command.Pipe conf) = conf
file_of (command.Script conf) = conf
file_of (command.Log conf) = conf
file_of (command.Gen conf seed count) = conf

-- this is the configuration's file of what the words ask for
abbrev pub NamesConf : List (List ℕ) → List ℕ → Type 0
NamesConf words conf = ((c : Command) × Says words c × (conf ≡ file_of c)) ⊎ ((address : List ℕ) × AsksToServeAt words conf address)

-- what the words ask for
abbrev pub AsksCommand : List (List ℕ) → Asked → Type 0
AsksCommand words (asked.Command c) = Says words c
AsksCommand words (asked.Serve conf address) = AsksToServeAt words conf address
AsksCommand words (asked.Help topic.Program) = words ≡ codes "--help" ∷ []
AsksCommand words (asked.Help (topic.Command v)) = words ≡ word_of v ∷ codes "--help" ∷ []
AsksCommand words asked.Version = words ≡ codes "--version" ∷ []
