-- How the words are read, from the first on, for proofs alone. What they ask for is said in Words, and is shown to be
-- the same.
use Rattle.std.specs.Prelude.{ℕ, nat_lt, Bool, false, ◌&&◌, ◌||◌, List, [], ◌∷◌, length, take, drop, codes, if◌then◌else◌, option_map}
use Rattle.std.specs.declared.option.Option.{Option}
use Rattle.std.specs.declared.option.Option.TheVariants.{None, Some}
use Rattle.std.specs.Str.{bytes_eq}
use Rattle.std.specs.Str.Parse.{digits_value}
use Rattle.cj_args.specs.Words.{file_of, names_file, is_numeral}
use Rattle.cj_args.specs.declared.asked.Verb.{Verb}
use Rattle.cj_args.specs.declared.asked.Verb.TheVariants as verb
use Rattle.cj_args.specs.declared.asked.Topic.TheVariants as topic
use Rattle.cj_args.specs.declared.asked.Command.{Command}
use Rattle.cj_args.specs.declared.asked.Command.TheVariants as command
use Rattle.cj_args.specs.declared.asked.Asked.{Asked}
use Rattle.cj_args.specs.declared.asked.Asked.TheVariants as asked
use Rattle.cj_args.specs.declared.parts.Part.{Part as CodePart}
use Rattle.cj_args.specs.declared.parts.Part.TheVariants as code
use Rattle.cj_args.specs.declared.parts.TheConstants.{COUNT_LIMIT}

-- a part of a workload's words
pub data Part : Type 0 where
  Conf : List ℕ → Part
  Seed : ℕ → Part
  Count : ℕ → Part

-- the part that a part of the code is
abbrev pub part_view : CodePart → Part
part_view (code.Conf word) = Conf word.now
part_view (code.Seed n) = Seed n
part_view (code.Count n) = Count n

abbrev pub number_of : List ℕ → Option ℕ
number_of word = if is_numeral word then Some (digits_value 10 word) else None

abbrev pub next_word : List (List ℕ) → Option (List ℕ × List (List ℕ))
next_word [] = None
next_word (word ∷ words) = Some (word, words)

abbrev pub behind : List ℕ → List ℕ → Option (List ℕ)
behind front word = if bytes_eq (take (length front) word) front then Some (drop (length front) word) else None

abbrev pub with_rest : {A : Type 0} → List (List ℕ) → Option A → Option (A × List (List ℕ))
with_rest rest None = None
with_rest rest (Some x) = Some (x, rest)

abbrev pub value : List ℕ → List ℕ → List (List ℕ) → Option (List ℕ × List (List ℕ))
value name assigned [] = None
value name assigned (word ∷ rest) = if bytes_eq word name then next_word rest else with_rest rest (behind assigned word)

abbrev pub conf : List (List ℕ) → Option (Part × List (List ℕ))
conf [] = None
conf (word ∷ rest) = if names_file word then Some (Conf word, rest) else None

abbrev pub as_seed : Option ℕ → Option Part
as_seed None = None
as_seed (Some n) = Some (Seed n)

abbrev pub as_count : Option ℕ → Option Part
as_count None = None
as_count (Some n) = if nat_lt n 1 || nat_lt COUNT_LIMIT n then None else Some (Count n)

-- the part that an option's value makes, with the words after it
abbrev pub numbered : (Option ℕ → Option Part) → Option (List ℕ × List (List ℕ)) → Option (Part × List (List ℕ))
numbered make None = None
numbered make (Some r) = with_rest r.1 (make (number_of r.0))

abbrev pub seed : List (List ℕ) → Option (Part × List (List ℕ))
seed words = numbered as_seed (value (codes "--seed") (codes "--seed=") words)

abbrev pub count : List (List ℕ) → Option (Part × List (List ℕ))
count words = numbered as_count (value (codes "--count") (codes "--count=") words)

abbrev pub or_else : {A : Type 0} → Option A → Option A → Option A
or_else None y = y
or_else (Some x) y = Some x

abbrev pub part : List (List ℕ) → Option (Part × List (List ℕ))
part words = or_else (conf words) (or_else (seed words) (count words))

abbrev pub each_once : Part → Part → Part → Option (List ℕ × ℕ × ℕ)
each_once (Conf c) (Seed s) (Count n) = Some (c, s, n)
each_once (Conf c) (Count n) (Seed s) = Some (c, s, n)
each_once (Seed s) (Conf c) (Count n) = Some (c, s, n)
each_once (Count n) (Conf c) (Seed s) = Some (c, s, n)
each_once (Seed s) (Count n) (Conf c) = Some (c, s, n)
each_once (Count n) (Seed s) (Conf c) = Some (c, s, n)
each_once a b c = None

abbrev pub third : Part → Part → Option (Part × List (List ℕ)) → Option (List ℕ × ℕ × ℕ)
third a b None = None
third a b (Some (c, [])) = each_once a b c
third a b (Some (c, word ∷ words)) = None

abbrev pub second : Part → Option (Part × List (List ℕ)) → Option (List ℕ × ℕ × ℕ)
second a None = None
second a (Some r) = third a r.0 (part r.1)

abbrev pub first : Option (Part × List (List ℕ)) → Option (List ℕ × ℕ × ℕ)
first None = None
first (Some r) = second r.0 (part r.1)

abbrev pub workload : List (List ℕ) → Option (List ℕ × ℕ × ℕ)
workload words = first (part words)

abbrev pub as_command : Option (List ℕ × ℕ × ℕ) → Option Command
as_command None = None
as_command (Some w) = Some (command.Gen w.0 w.1 w.2)

abbrev pub workload_command : List (List ℕ) → Option Command
workload_command words = as_command (workload words)

abbrev pub file_command : Verb → List ℕ → Option Command
file_command verb.Pipe conf = Some (command.Pipe conf)
file_command verb.Script conf = Some (command.Script conf)
file_command verb.Log conf = Some (command.Log conf)
file_command verb.Gen conf = None
file_command verb.Serve conf = None

abbrev pub only_conf : List (List ℕ) → Option (List ℕ)
only_conf [] = None
only_conf (word ∷ []) = if names_file word then Some word else None
only_conf (word ∷ next ∷ words) = None

abbrev pub over_file : Verb → Option (List ℕ) → Option Command
over_file v None = None
over_file v (Some conf) = file_command v conf

abbrev pub command_of : Verb → List (List ℕ) → Option Command
command_of verb.Gen words = workload_command words
command_of v words = over_file v (only_conf words)

abbrev pub is_only : List ℕ → List (List ℕ) → Bool
is_only word [] = false
is_only word (w ∷ []) = bytes_eq w word
is_only word (w ∷ next ∷ words) = false

abbrev pub serving_parts : List (List ℕ) → Option (List ℕ × List ℕ)
serving_parts [] = None
serving_parts (conf ∷ []) = None
serving_parts (conf ∷ address ∷ []) = if names_file conf && names_file address then Some (conf, address) else None
serving_parts (conf ∷ address ∷ next ∷ words) = None

abbrev pub as_serving : Option (List ℕ × List ℕ) → Option Asked
as_serving None = None
as_serving (Some parts) = Some (asked.Serve parts.0 parts.1)

abbrev pub serving : List (List ℕ) → Option Asked
serving words = as_serving (serving_parts words)

abbrev pub as_work : Option Command → Option Asked
as_work None = None
as_work (Some c) = Some (asked.Command c)

abbrev pub work_of : Verb → List (List ℕ) → Option Asked
work_of verb.Serve words = serving words
work_of v words = as_work (command_of v words)

abbrev pub or_help : Verb → List (List ℕ) → Option Asked → Option Asked
or_help v words None = if is_only (codes "--help") words then Some (asked.Help (topic.Command v)) else None
or_help v words (Some a) = Some a

abbrev pub asked_of_verb : Verb → List (List ℕ) → Option Asked
asked_of_verb v words = or_help v words (work_of v words)

abbrev pub asked_of_program : List (List ℕ) → Option Asked
asked_of_program words = if is_only (codes "--help") words then Some (asked.Help topic.Program) else if is_only (codes "--version") words then Some asked.Version else None

abbrev pub verb_of : List ℕ → Option Verb
verb_of word =
    if bytes_eq word (codes "pipe") then Some verb.Pipe else if bytes_eq word (codes "script") then Some verb.Script
    else if bytes_eq word (codes "log") then Some verb.Log else if bytes_eq word (codes "gen") then Some verb.Gen
    else if bytes_eq word (codes "serve") then Some verb.Serve else None

abbrev pub by_verb : List (List ℕ) → List (List ℕ) → Option Verb → Option Asked
by_verb words rest None = asked_of_program words
by_verb words rest (Some v) = asked_of_verb v rest

abbrev pub asked_of : List (List ℕ) → Option Asked
asked_of [] = None
asked_of (word ∷ rest) = by_verb (word ∷ rest) rest (verb_of word)

-- the configuration's file of what a verb asks for with these words after it
abbrev pub file_of_verb : Verb → List (List ℕ) → Option (List ℕ)
file_of_verb verb.Serve rest = option_map (λ parts. parts.0) (serving_parts rest)
file_of_verb v rest = option_map file_of (command_of v rest)

abbrev pub of_verb : List (List ℕ) → Option Verb → Option (List ℕ)
of_verb rest None = None
of_verb rest (Some v) = file_of_verb v rest

-- the configuration's file of what the words ask for
abbrev pub file_in : List (List ℕ) → Option (List ℕ)
file_in [] = None
file_in (word ∷ rest) = of_verb rest (verb_of word)

-- the address at which the words ask to serve
abbrev pub address_in : List (List ℕ) → Option (List ℕ)
address_in [] = None
address_in (word ∷ rest) = if bytes_eq word (codes "serve") then option_map (λ parts. parts.1) (serving_parts rest) else None
