-- What the words are read as is what they ask for.
use Rattle.std.proofs.Common.{◌≡◌, refl, sym, ap, subst, ◌∙◌, ℕ, Bool, true, false, ◌&&◌, List, [], ◌∷◌, codes, Bor, inl, inr}
use Rattle.std.specs.Prelude.{IfErr, IfSome, IsNone, IsSome, option_copied, option_map, if◌then◌else◌}
use Rattle.std.specs.declared.option.Option.{Option}
use Rattle.std.specs.declared.result.Result.{Result}
use Rattle.std.specs.declared.result.Result.TheVariants.{Ok, Err}
use Rattle.std.specs.declared.option.Option.TheVariants.{None, Some}
use Rattle.std.specs.Str.{bytes_eq}
use Rattle.std.proofs.lemmas.Bool.{and_parts}
use Rattle.std.proofs.lemmas.Option.{some_pair_parts}
use Rattle.std.proofs.lemmas.Slice.Eq.{bytes_eq-Decides}
use Rattle.cj_args.specs.Words.{names_file, word_of, file_of, Says, SaysWork, AsksCommand, AsksToServeAt, NamesConf}
use Rattle.cj_args.specs.Proving.{next_word, only_conf, over_file, as_command, workload, command_of, is_only, or_help, asked_of_verb, asked_of_program, verb_of, by_verb, asked_of, of_verb, file_of_verb, file_in, serving_parts, as_serving, as_work, work_of, address_in}
use Rattle.cj_args.specs.declared.asked.Verb.{Verb}
use Rattle.cj_args.specs.declared.asked.Verb.TheVariants as verb
use Rattle.cj_args.specs.declared.asked.Topic.TheVariants as topic
use Rattle.cj_args.specs.declared.asked.Command.{Command}
use Rattle.cj_args.specs.declared.asked.Command.TheVariants as command
use Rattle.cj_args.specs.declared.asked.Asked.{Asked}
use Rattle.cj_args.specs.declared.asked.Asked.TheVariants as asked
use Rattle.cj_args.proofs.Picks.{pick}
use Rattle.cj_args.proofs.Workloads.{AreOf, workload_is, workload_read}

-- ---- what is read is asked for

same_word : (word name : List ℕ) → bytes_eq word name ≡ true → word ≡ name
same_word word name e = (bytes_eq-Decides word name).0 e

only_is : (name : List ℕ) (words : List (List ℕ)) → is_only name words ≡ true → words ≡ name ∷ []
only_is name [] e = absurd (cc)
only_is name (w ∷ []) e = ap (λ x. x ∷ []) (same_word w name e)
only_is name (w ∷ next ∷ words) e = absurd (cc)

verb_is : (word : List ℕ) → IfSome (verb_of word) (λ v. word ≡ word_of v)
verb_is word =
    pick (λ v. word ≡ word_of v) (bytes_eq word (codes "pipe")) verb.Pipe _ (same_word word (codes "pipe"))
    (pick (λ v. word ≡ word_of v) (bytes_eq word (codes "script")) verb.Script _ (same_word word (codes "script"))
    (pick (λ v. word ≡ word_of v) (bytes_eq word (codes "log")) verb.Log _ (same_word word (codes "log"))
    (pick (λ v. word ≡ word_of v) (bytes_eq word (codes "gen")) verb.Gen _ (same_word word (codes "gen"))
    (pick (λ v. word ≡ word_of v) (bytes_eq word (codes "serve")) verb.Serve None (same_word word (codes "serve")) tt))))

program_is : (words : List (List ℕ)) → IfSome (asked_of_program words) (AsksCommand words)
program_is words =
    pick (AsksCommand words) (is_only (codes "--help") words) (asked.Help topic.Program) _ (only_is (codes "--help") words)
    (pick (AsksCommand words) (is_only (codes "--version") words) asked.Version None (only_is (codes "--version") words) tt)

conf_is : (words : List (List ℕ)) → IfSome (only_conf words) (λ conf. (words ≡ conf ∷ []) × (names_file conf ≡ true))
conf_is [] = tt
conf_is (word ∷ []) = pick (λ conf. (word ∷ [] ≡ conf ∷ []) × (names_file conf ≡ true)) (names_file word) word None (λ e. (refl, e)) tt
conf_is (word ∷ next ∷ words) = tt

over_is : (v : Verb) (rest : List (List ℕ)) (o : Option (List ℕ)) → IfSome o (λ conf. (rest ≡ conf ∷ []) × (names_file conf ≡ true)) → IfSome (over_file v o) (Says (word_of v ∷ rest))
over_is v rest None h = tt
over_is verb.Pipe rest (Some conf) h = (ap (λ (z : List (List ℕ)). word_of verb.Pipe ∷ z) h.0, h.1)
over_is verb.Script rest (Some conf) h = (ap (λ (z : List (List ℕ)). word_of verb.Script ∷ z) h.0, h.1)
over_is verb.Log rest (Some conf) h = (ap (λ (z : List (List ℕ)). word_of verb.Log ∷ z) h.0, h.1)
over_is verb.Gen rest (Some conf) h = tt
over_is verb.Serve rest (Some conf) h = tt

gen_is : (rest : List (List ℕ)) (o : Option (List ℕ × ℕ × ℕ)) → IfSome o (AreOf rest) → IfSome (as_command o) (Says (word_of verb.Gen ∷ rest))
gen_is rest None h = tt
gen_is rest (Some w) h = (rest, refl, h)

command_is : (v : Verb) (rest : List (List ℕ)) → IfSome (command_of v rest) (Says (word_of v ∷ rest))
command_is verb.Pipe rest = over_is verb.Pipe rest (only_conf rest) (conf_is rest)
command_is verb.Script rest = over_is verb.Script rest (only_conf rest) (conf_is rest)
command_is verb.Log rest = over_is verb.Log rest (only_conf rest) (conf_is rest)
command_is verb.Gen rest = gen_is rest (workload rest) (workload_is rest)
command_is verb.Serve rest = over_is verb.Serve rest (only_conf rest) (conf_is rest)

-- both words are files
both : (conf address : List ℕ) → (names_file conf && names_file address) ≡ true → (names_file conf ≡ true) × (names_file address ≡ true)
both conf address e = and_parts (names_file conf) (names_file address) e

parts_are : (rest : List (List ℕ)) → IfSome (serving_parts rest) (λ parts. AsksToServeAt (word_of verb.Serve ∷ rest) parts.0 parts.1)
parts_are [] = tt
parts_are (conf ∷ []) = tt
parts_are (conf ∷ address ∷ []) = pick (λ (parts : List ℕ × List ℕ). AsksToServeAt (word_of verb.Serve ∷ conf ∷ address ∷ []) parts.0 parts.1) (names_file conf && names_file address) (conf, address) None (λ e. let parts = both conf address e in (refl, parts.0, parts.1)) tt
parts_are (conf ∷ address ∷ next ∷ words) = tt

serving_is : (rest : List (List ℕ)) (o : Option (List ℕ × List ℕ)) → IfSome o (λ parts. AsksToServeAt (word_of verb.Serve ∷ rest) parts.0 parts.1) → IfSome (as_serving o) (AsksCommand (word_of verb.Serve ∷ rest))
serving_is rest None h = tt
serving_is rest (Some parts) h = h

as_work_is : (words : List (List ℕ)) (o : Option Command) → IfSome o (Says words) → IfSome (as_work o) (AsksCommand words)
as_work_is words None h = tt
as_work_is words (Some c) h = h

work_is : (v : Verb) (rest : List (List ℕ)) → IfSome (work_of v rest) (AsksCommand (word_of v ∷ rest))
work_is verb.Pipe rest = as_work_is _ _ (command_is verb.Pipe rest)
work_is verb.Script rest = as_work_is _ _ (command_is verb.Script rest)
work_is verb.Log rest = as_work_is _ _ (command_is verb.Log rest)
work_is verb.Gen rest = as_work_is _ _ (command_is verb.Gen rest)
work_is verb.Serve rest = serving_is rest (serving_parts rest) (parts_are rest)

help_is : (v : Verb) (rest : List (List ℕ)) (o : Option Asked) → IfSome o (AsksCommand (word_of v ∷ rest)) → IfSome (or_help v rest o) (AsksCommand (word_of v ∷ rest))
help_is v rest None h = pick (AsksCommand (word_of v ∷ rest)) (is_only (codes "--help") rest) (asked.Help (topic.Command v)) None (λ e. ap (λ (z : List (List ℕ)). word_of v ∷ z) (only_is (codes "--help") rest e)) tt
help_is v rest (Some a) h = h

by_verb_is : (word : List ℕ) (rest : List (List ℕ)) (o : Option Verb) → IfSome o (λ v. word ≡ word_of v) → IfSome (by_verb (word ∷ rest) rest o) (AsksCommand (word ∷ rest))
by_verb_is word rest None h = program_is (word ∷ rest)
by_verb_is word rest (Some v) h = subst (λ (w : List ℕ). IfSome (asked_of_verb v rest) (AsksCommand (w ∷ rest))) (sym h) (help_is v rest (work_of v rest) (work_is v rest))

pub asked_is : (words : List (List ℕ)) → IfSome (asked_of words) (AsksCommand words)
asked_is [] = tt
asked_is (word ∷ rest) = by_verb_is word rest (verb_of word) (verb_is word)

-- ---- where work is read, the words ask for it

-- what holds anyway holds at an error
pub if_err : {T E : Type 0} {P : Type 0} (r : Result T E) → P → IfErr r (λ e. P)
if_err (Ok x) p = tt
if_err (Err e) p = p

as_work_some : (o : Option Command) → IsSome o → IsSome (as_work o)
as_work_some None some = some
as_work_some (Some command) some = refl

no_serving : (o : Option (List ℕ)) → IsSome (over_file verb.Serve o) → ⊥
no_serving None some = absurd (cc)
no_serving (Some conf) some = absurd (cc)

-- a verb with a command has work
pub work_some : (v : Verb) (rest : List (List ℕ)) → IsSome (command_of v rest) → IsSome (work_of v rest)
work_some verb.Pipe rest some = as_work_some (command_of verb.Pipe rest) some
work_some verb.Script rest some = as_work_some (command_of verb.Script rest) some
work_some verb.Log rest some = as_work_some (command_of verb.Log rest) some
work_some verb.Gen rest some = as_work_some (command_of verb.Gen rest) some
work_some verb.Serve rest some = absurd (no_serving (only_conf rest) some)

command_says : (words : List (List ℕ)) (o : Option Command) → IfSome o (Says words) → IsSome (as_work o) → SaysWork words
command_says words None h some = absurd (cc)
command_says words (Some command) h some = inl (command, h)

serving_says : (rest : List (List ℕ)) (o : Option (List ℕ × List ℕ)) → IfSome o (λ parts. AsksToServeAt (word_of verb.Serve ∷ rest) parts.0 parts.1) → IsSome (as_serving o) → SaysWork (word_of verb.Serve ∷ rest)
serving_says rest None h some = absurd (cc)
serving_says rest (Some parts) h some = inr (parts.0, parts.1, h)

work_says : (v : Verb) (rest : List (List ℕ)) → IsSome (work_of v rest) → SaysWork (word_of v ∷ rest)
work_says verb.Pipe rest some = command_says _ _ (command_is verb.Pipe rest) some
work_says verb.Script rest some = command_says _ _ (command_is verb.Script rest) some
work_says verb.Log rest some = command_says _ _ (command_is verb.Log rest) some
work_says verb.Gen rest some = command_says _ _ (command_is verb.Gen rest) some
work_says verb.Serve rest some = serving_says rest (serving_parts rest) (parts_are rest) some

pub work_said : (words rest : List (List ℕ)) (word : List ℕ) (v : Verb) → next_word words ≡ Some (word, rest) → verb_of word ≡ Some v → IsSome (work_of v rest) → SaysWork words
work_said [] rest word v next verb some = absurd (cc)
work_said (first ∷ behind) rest word v next verb some =
    let parts = some_pair_parts first word behind rest next in
    let is : word ≡ word_of v = subst (λ (o : Option Verb). IfSome o (λ v. word ≡ word_of v)) verb (verb_is word) in
    let same : word_of v ∷ rest ≡ first ∷ behind = cc in
    subst SaysWork same (work_says v rest some)

-- ---- what is asked for is read

at_words : (words said : List (List ℕ)) (a : Asked) → words ≡ said → asked_of said ≡ Some a → asked_of words ≡ Some a
at_words words said a e h = ap asked_of e ∙ h

pub asked_read : (words : List (List ℕ)) (a : Asked) → AsksCommand words a → asked_of words ≡ Some a
asked_read words (asked.Command (command.Pipe conf)) h = at_words words _ _ h.0 (rw h.1 refl)
asked_read words (asked.Command (command.Script conf)) h = at_words words _ _ h.0 (rw h.1 refl)
asked_read words (asked.Command (command.Log conf)) h = at_words words _ _ h.0 (rw h.1 refl)
asked_read words (asked.Command (command.Gen conf seed count)) h = at_words words _ _ h.1 (rw (workload_read h.0 conf seed count h.2) refl)
asked_read words (asked.Serve conf address) h = at_words words _ _ h.0 (rw h.1 (rw h.2 refl))
asked_read words (asked.Help topic.Program) h = at_words words _ _ h refl
asked_read words (asked.Help (topic.Command verb.Pipe)) h = at_words words _ _ h refl
asked_read words (asked.Help (topic.Command verb.Script)) h = at_words words _ _ h refl
asked_read words (asked.Help (topic.Command verb.Log)) h = at_words words _ _ h refl
asked_read words (asked.Help (topic.Command verb.Gen)) h = at_words words _ _ h refl
asked_read words (asked.Help (topic.Command verb.Serve)) h = at_words words _ _ h refl
asked_read words asked.Version h = at_words words _ _ h refl

-- ---- the configuration's file

file_named : (words : List (List ℕ)) (o : Option Command) → IfSome o (Says words) → IfSome (option_map file_of o) (NamesConf words)
file_named words None h = tt
file_named words (Some c) h = inl (c, h, refl)

first_named : (rest : List (List ℕ)) (o : Option (List ℕ × List ℕ)) → IfSome o (λ parts. AsksToServeAt (word_of verb.Serve ∷ rest) parts.0 parts.1) → IfSome (option_map (λ parts. parts.0) o) (NamesConf (word_of verb.Serve ∷ rest))
first_named rest None h = tt
first_named rest (Some parts) h = inr (parts.1, h)

conf_named : (v : Verb) (rest : List (List ℕ)) → IfSome (file_of_verb v rest) (NamesConf (word_of v ∷ rest))
conf_named verb.Pipe rest = file_named _ _ (command_is verb.Pipe rest)
conf_named verb.Script rest = file_named _ _ (command_is verb.Script rest)
conf_named verb.Log rest = file_named _ _ (command_is verb.Log rest)
conf_named verb.Gen rest = file_named _ _ (command_is verb.Gen rest)
conf_named verb.Serve rest = first_named rest (serving_parts rest) (parts_are rest)

named_behind : (word : List ℕ) (rest : List (List ℕ)) (o : Option Verb) → IfSome o (λ v. word ≡ word_of v) → IfSome (of_verb rest o) (NamesConf (word ∷ rest))
named_behind word rest None h = tt
named_behind word rest (Some v) h = subst (λ (w : List ℕ). IfSome (file_of_verb v rest) (NamesConf (w ∷ rest))) (sym h) (conf_named v rest)

conf_in_is : (words : List (List ℕ)) → IfSome (file_in words) (NamesConf words)
conf_in_is [] = tt
conf_in_is (word ∷ rest) = named_behind word rest (verb_of word) (verb_is word)

conf_read : (words : List (List ℕ)) (conf : List ℕ) → NamesConf words conf → file_in words ≡ Some conf
conf_read words conf (inl (command.Pipe file, h, e)) = ap file_in h.0 ∙ rw h.1 (ap Some (sym e))
conf_read words conf (inl (command.Script file, h, e)) = ap file_in h.0 ∙ rw h.1 (ap Some (sym e))
conf_read words conf (inl (command.Log file, h, e)) = ap file_in h.0 ∙ rw h.1 (ap Some (sym e))
conf_read words conf (inl (command.Gen file seed count, h, e)) = ap file_in h.1 ∙ rw (workload_read h.0 file seed count h.2) (ap Some (sym e))
conf_read words conf (inr (address, h)) = ap file_in h.0 ∙ rw h.1 (rw h.2 refl)

copied_named : (words : List (List ℕ)) (r : Option (Bor (List ℕ))) (o : Option (List ℕ)) → option_copied r ≡ o → IfSome o (NamesConf words) → IfSome r (λ conf. NamesConf words conf.now)
copied_named words None o e h = tt
copied_named words (Some conf) None e h = absurd (cc)
copied_named words (Some conf) (Some other) e h = let same : other ≡ conf.now = cc in subst (NamesConf words) same h

pub conf_is_named : (words : List (List ℕ)) (r : Option (Bor (List ℕ))) → option_copied r ≡ file_in words → IfSome r (λ conf. NamesConf words conf.now)
conf_is_named words r e = copied_named words r (file_in words) e (conf_in_is words)

none_copied : (r : Option (Bor (List ℕ))) (conf : List ℕ) → option_copied r ≡ Some conf → IsNone r → ⊥
none_copied None conf e none = absurd (cc)
none_copied (Some other) conf e none = absurd (cc)

pub no_conf : (words : List (List ℕ)) (r : Option (Bor (List ℕ))) → option_copied r ≡ file_in words → IsNone r → (conf : List ℕ) → NamesConf words conf → ⊥
no_conf words r e none conf names = none_copied r conf (e ∙ conf_read words conf names) none

-- ---- the address

serves_behind : (word : List ℕ) (rest : List (List ℕ)) (is : Bool) (o : Option (List ℕ × List ℕ)) → (is ≡ true → word ≡ codes "serve") → IfSome o (λ parts. AsksToServeAt (word_of verb.Serve ∷ rest) parts.0 parts.1)
    → IfSome (if is then option_map (λ parts. parts.1) o else None) (λ address. (conf : List ℕ) × AsksToServeAt (word ∷ rest) conf address)
serves_behind word rest false o same h = tt
serves_behind word rest true None same h = tt
serves_behind word rest true (Some parts) same h =
    (parts.0, subst (λ (w : List ℕ). AsksToServeAt (w ∷ rest) parts.0 parts.1) (sym (same refl)) h)

address_is : (words : List (List ℕ)) → IfSome (address_in words) (λ address. (conf : List ℕ) × AsksToServeAt words conf address)
address_is [] = tt
address_is (word ∷ rest) =
    serves_behind word rest (bytes_eq word (codes "serve")) (serving_parts rest) (same_word word (codes "serve")) (parts_are rest)

address_read : (words : List (List ℕ)) (conf address : List ℕ) → AsksToServeAt words conf address → address_in words ≡ Some address
address_read words conf address h = ap address_in h.0 ∙ rw h.1 (rw h.2 refl)

copied_address : (words : List (List ℕ)) (r : Option (Bor (List ℕ))) (o : Option (List ℕ)) → option_copied r ≡ o → IfSome o (λ address. (conf : List ℕ) × AsksToServeAt words conf address) → IfSome r (λ address. (conf : List ℕ) × AsksToServeAt words conf address.now)
copied_address words None o e h = tt
copied_address words (Some address) None e h = absurd (cc)
copied_address words (Some address) (Some other) e h = let same : other ≡ address.now = cc in subst (λ (a : List ℕ). (conf : List ℕ) × AsksToServeAt words conf a) same h

pub address_is_named : (words : List (List ℕ)) (r : Option (Bor (List ℕ))) → option_copied r ≡ address_in words → IfSome r (λ address. (conf : List ℕ) × AsksToServeAt words conf address.now)
address_is_named words r e = copied_address words r (address_in words) e (address_is words)

pub no_address : (words : List (List ℕ)) (r : Option (Bor (List ℕ))) → option_copied r ≡ address_in words → IsNone r → (conf address : List ℕ) → AsksToServeAt words conf address → ⊥
no_address words r e none conf address serves = none_copied r address (e ∙ address_read words conf address serves) none
