-- What is no name, and what a name is.
use Rattle.std.proofs.Common.{◌≡◌, ℕ, ◌<◌, true, List, [], ◌∷◌, length, map, refl, arith}
use Rattle.std.specs.declared.option.Option.TheVariants.{None}
use Rattle.std.specs.List.{list_all}
use Rattle.std.proofs.lemmas.Bool.{and_from, lt-leb}
use Rattle.cj_model.proofs.Common.{NAME_LIMIT, nat_tests}
use Rattle.cj_model.specs.Sql.Names.{lower, begins_name, continues_name, is_spelled_as_name, is_name, name_of}
use Rattle.cj_model.specs.Sql.Lexical.{is_letter, is_word, EachByte, IsWordSpelling}

-- what is too long is no name
pub long_is_no_name : (bytes : List ℕ) → NAME_LIMIT < length bytes → name_of bytes ≡ None
unfolding is_name
long_is_no_name bytes h = rw (lt-leb (length bytes) NAME_LIMIT h) refl

-- a letter in lower case begins a name
letter_begins : (b : ℕ) → is_letter b ≡ true → begins_name (lower b) ≡ true
letter_begins b h = grind (arith, nat_tests, h)

-- a byte of a word in lower case goes on with a name
word_continues : (b : ℕ) → is_word b ≡ true → continues_name (lower b) ≡ true
word_continues b h = grind (arith, nat_tests, h)

-- so do all bytes of a word
all_continue : (z : List ℕ) → EachByte is_word z → list_all continues_name (map lower z) ≡ true
all_continue [] h = refl
all_continue (b ∷ z) h = and_from (continues_name (lower b)) (list_all continues_name (map lower z)) (word_continues b h.0) (all_continue z h.1)

-- a word in lower case is spelled as a name
pub spelled_as_name : (z : List ℕ) → IsWordSpelling z → is_spelled_as_name (map lower z) ≡ true
spelled_as_name [] h = absurd h
spelled_as_name (b ∷ z) h = and_from (begins_name (lower b)) (list_all continues_name (map lower z)) (letter_begins b h.0) (all_continue z h.1)
