-- What a line says of a case.
use Rattle.std.specs.Prelude.{◌≡◌, ℕ, ◌+◌, ◌-◌, ◌*◌, ◌^◌, ◌==◌, ◌&&◌, not, Bool, true, false, List, [], ◌∷◌, ◌++◌}
use Rattle.std.specs.Prelude.{length, codes, map, nat_lt, string_bytes, String, if◌then◌else◌}
use Rattle.std.specs.Char.{is_ascii_digit}
use Rattle.std.specs.declared.option.Option.{Option}
use Rattle.std.specs.declared.option.Option.TheVariants.{None, Some}
use Rattle.std.specs.Global.{Global, Vec}
use Rattle.std.specs.List.{list_all}
use Rattle.std.specs.Option.{option_map, unwrap_or}
use Rattle.std.specs.Str.{bytes_eq, is_utf8}
use Rattle.cj_model.specs.declared.message.Message.TheVariants as messages
use Rattle.cj_model.specs.Wire.Frames.{frame}
use Rattle.cj_outside.specs.Causes.{next}
use Rattle.cj_cases.specs.Cases.{CaseState, FailingCalls, fresh}
use Rattle.cj_cases.specs.Spellings.{spelled}
use Rattle.cj_cases.specs.declared.verb.Verb.{Verb}
use Rattle.cj_cases.specs.declared.verb.Verb.TheVariants.{Configuration, Case, Words, Log, Input, InputLine, Query}
use Rattle.cj_cases.specs.declared.verb.Verb.TheVariants.{Pieces, Fails, Show}
use Rattle.cj_cases.specs.declared.verb.Object.{Object}
use Rattle.cj_cases.specs.declared.verb.Object.TheVariants as objects
use Rattle.cj_cases.specs.declared.verb.TheConstants.{VERBS}

abbrev pub items_of : Option (Vec ℕ) → Option (List ℕ)
items_of bytes = option_map (λ v. v.items) bytes

-- the bytes of the words
abbrev pub word_items : Option (Vec (String Global)) → Option (List (List ℕ))
word_items words = option_map (λ v. map string_bytes v.items) words

-- ---- parts of a text

-- what comes before the first such byte, or all if there is none
abbrev pub before : ℕ → List ℕ → List ℕ
before c [] = []
before c (b ∷ bytes) = if b == c then [] else b ∷ before c bytes

-- what comes after the first such byte
abbrev pub behind : ℕ → List ℕ → Option (List ℕ)
behind c [] = None
behind c (b ∷ bytes) = if b == c then Some bytes else behind c bytes

-- the parts, of which the first is one byte longer
abbrev pub longer_by : ℕ → List (List ℕ) → List (List ℕ)
longer_by b [] = (b ∷ []) ∷ []
longer_by b (part ∷ parts) = (b ∷ part) ∷ parts

-- the parts between these bytes
abbrev pub parts_between : ℕ → List ℕ → List (List ℕ)
parts_between c [] = [] ∷ []
parts_between c (b ∷ bytes) = if b == c then [] ∷ parts_between c bytes else longer_by b (parts_between c bytes)

-- the parts of what is left after such a byte, if anything is
abbrev pub parts_behind : ℕ → Option (List ℕ) → List (List ℕ)
parts_behind c None = []
parts_behind c (Some bytes) = parts_between c bytes

-- the lines of a text; after its last LF comes one more, which may be empty
abbrev pub lines_of : List ℕ → List (List ℕ)
lines_of bytes = parts_between 10 bytes

-- what comes before the first space
abbrev pub first_word : List ℕ → List ℕ
first_word line = before 32 line

-- what comes after the first space; nothing if there is none
abbrev pub behind_word : List ℕ → List ℕ
behind_word line = unwrap_or (behind 32 line) []

-- ---- words and numbers

abbrev pub is_word : List ℕ → Bool
is_word bytes = not (length bytes == 0) && is_utf8 bytes

-- the words of a command, with one space between each two, of UTF-8 and none of them empty; none of nothing
abbrev pub words_of : List ℕ → Option (List (List ℕ))
words_of text =
    if length text == 0 then Some []
    else if list_all is_word (parts_between 32 text) then Some (parts_between 32 text)
    else None

-- n followed by this digit, if it is one and they are a `u64`
abbrev pub with_digit : ℕ → ℕ → Option ℕ
with_digit n b = if is_ascii_digit b && nat_lt (10 * n + (b - 48)) (2 ^ 64) then Some (10 * n + (b - 48)) else None

-- n followed by these digits
abbrev pub number_from : ℕ → List ℕ → Option ℕ
number_from n [] = Some n
number_from n (b ∷ bytes) = elim (with_digit n b) [ Some m ↦ number_from m bytes | None ↦ None ]

-- a number in decimal digits, without a leading 0 unless it is 0
abbrev pub number_of : List ℕ → Option ℕ
number_of [] = None
number_of (b ∷ []) = number_from 0 (b ∷ [])
number_of (b ∷ d ∷ bytes) = if b == 48 then None else number_from 0 (b ∷ d ∷ bytes)

-- ---- verbs

abbrev pub find_word : {A : Type 0} → List (List ℕ × A) → List ℕ → Option A
find_word [] word = None
find_word (entry ∷ entries) word = if bytes_eq entry.0 word then Some entry.1 else find_word entries word

-- the verb that the word is
unfoldable pub verb_of : List ℕ → Option Verb
verb_of = find_word (map (λ v. (v.0.now, v.1)) VERBS)

-- the object that the word is
abbrev pub object_of : List ℕ → Option Object
object_of word =
    if bytes_eq word (codes "configuration") then Some objects.Configuration
    else if bytes_eq word (codes "log") then Some objects.Log
    else if bytes_eq word (codes "input") then Some objects.Input
    else if bytes_eq word (codes "output") then Some objects.Output
    else if bytes_eq word (codes "errors") then Some objects.Errors
    else None

-- ---- what is said

-- the failing calls, with this one of the object
abbrev pub failing_in : FailingCalls → Object → ℕ → FailingCalls
failing_in f objects.Configuration n = record f { configuration = f.configuration ++ n ∷ [] }
failing_in f objects.Log n = record f { log = f.log ++ n ∷ [] }
failing_in f objects.Input n = record f { input = f.input ++ n ∷ [] }
failing_in f objects.Output n = record f { output = f.output ++ n ∷ [] }
failing_in f objects.Errors n = record f { errors = f.errors ++ n ∷ [] }

abbrev pub with_failing : CaseState → Option Object → Option ℕ → Option CaseState
with_failing c (Some object) (Some n) = Some (record c { fails = failing_in c.fails object n })
with_failing c (Some object) None = None
with_failing c None n = None

abbrev pub with_pieces : CaseState → Option ℕ → Option CaseState
with_pieces c None = None
with_pieces c (Some n) = if n == 0 then None else Some (record c { piece_limit = n })

abbrev pub with_input : CaseState → List ℕ → CaseState
with_input c bytes = record c { input = c.input ++ bytes }

-- a text's frame, where the length of kind and text can be written in it
abbrev pub with_query : CaseState → Option (List ℕ) → Option CaseState
with_query c None = None
with_query c (Some text) =
    if nat_lt (length text + 1) (2 ^ 32) then Some (with_input c (frame (messages.Query text))) else None

-- the next case of this name: all but the configuration is new
abbrev pub begun : CaseState → List ℕ → CaseState
begun c name = fresh (next c.number) name c.configuration []

abbrev pub with_configuration : CaseState → List ℕ → CaseState
with_configuration c bytes = record c { configuration = bytes }

-- the case with one more line of configuration
abbrev pub with_configuration_line : CaseState → List ℕ → CaseState
with_configuration_line c bytes = with_configuration c (c.configuration ++ bytes ++ 10 ∷ [])

abbrev pub with_log : CaseState → List ℕ → CaseState
with_log c bytes = record c { log = c.log ++ bytes }

-- what is said of a case that was begun
abbrev pub said_of_case : CaseState → Verb → List ℕ → Option CaseState
said_of_case c Configuration text = None
said_of_case c Case text = None
said_of_case c Words text = option_map (λ words. record c { words = words }) (words_of text)
said_of_case c Log text = option_map (with_log c) (spelled text)
said_of_case c Input text = option_map (with_input c) (spelled text)
said_of_case c InputLine text = option_map (λ bytes. with_input c (bytes ++ 10 ∷ [])) (spelled text)
said_of_case c Query text = with_query c (spelled text)
said_of_case c Pieces text = with_pieces c (number_of text)
said_of_case c Fails text = with_failing c (object_of (first_word text)) (number_of (behind_word text))
said_of_case c Show text = if bytes_eq text (codes "log") then Some (record c { shows_log = true }) else None

-- what is said by this verb and the text after it: before the first case only the configuration, or that a case
-- begins
abbrev pub said_by : CaseState → Option Verb → List ℕ → Option CaseState
said_by c None text = None
said_by c (Some Configuration) text = option_map (with_configuration_line c) (spelled text)
said_by c (Some Case) text = option_map (begun c) (spelled text)
said_by c (Some verb) text = if c.number == 0 then None else said_of_case c verb text

-- a line that says nothing: it is empty, or begins with #
abbrev pub is_remark : List ℕ → Bool
is_remark [] = true
is_remark (b ∷ bytes) = b == 35

-- What is known of a case after a line that runs nothing; none where the line is no directive.
abbrev pub said : CaseState → List ℕ → Option CaseState
said c line =
    if is_remark line then Some c
    else if bytes_eq line (codes "configuration") then Some (with_configuration c [])
    else said_by c (verb_of (first_word line)) (behind_word line)

-- whether a call that took a line found a directive; then the case is as the directive says, and else as before
abbrev pub SaysOfCase : Option CaseState → CaseState → CaseState → Bool → Type 0
SaysOfCase wanted old new true = wanted ≡ Some new
SaysOfCase wanted old new false = (wanted ≡ None) × (new ≡ old)
