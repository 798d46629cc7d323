-- Words and names: in lower case, the words of at most 32 bytes are names.
use Rattle.std.proofs.Common.{◌≡◌, refl, ℕ, ◌≤◌, true, nat_le, List, length, map, inl, inr, arith}
use Rattle.std.specs.declared.option.Option.TheVariants.{Some}
use Rattle.std.proofs.lemmas.Bool.Decides.{nat_tests}
use Rattle.std.proofs.lemmas.List.{length-map}
use Rattle.cj_model.specs.Sql.Names.{lower, is_spelled_as_name, is_name, name_of}
use Rattle.cj_model.specs.Sql.Lexical.{IsWordSpelling}
use Rattle.cj_model.proofs.Names.{spelled_as_name}
use Rattle.cj_lex.proofs.Choices.{chosen, both}

-- a word of at most 32 bytes is a name
pub word_is_name : (z : List ℕ) → IsWordSpelling z → length z ≤ 32 → name_of (map lower z) ≡ Some (map lower z)
unfolding is_name
word_is_name z w h =
    let l = length-map z lower in
    let short : nat_le (length (map lower z)) 32 ≡ true = grind (arith, nat_tests, h, l) in
    rw (short, spelled_as_name z w) refl

-- bytes that are a name are that name
pub name_is : (bytes name : List ℕ) → name_of bytes ≡ Some name → bytes ≡ name
unfolding is_name
name_is bytes name h = elim (chosen (is_name bytes) _ _ _ h) [ inl e ↦ let k = e.1 in cc | inr e ↦ absurd (let k = e.1 in cc) ]

-- and are at most 32, as the word was
pub name_is_short : (z name : List ℕ) → name_of (map lower z) ≡ Some name → length z ≤ 32
unfolding is_name
name_is_short z name h = elim (chosen (is_name (map lower z)) _ _ _ h) [
  | inl e ↦
      let k = both (nat_le (length (map lower z)) 32) (is_spelled_as_name (map lower z)) e.0 in
      let l = length-map z lower in
      grind (arith, nat_tests, k.0, l)
  | inr e ↦ absurd (let k = e.1 in cc)
]
