use Rattle.std.proofs.Common.{◌≡◌, ◌++◌, map, string_bytes, true}
use Rattle.std.specs.List.{list_all}
use Rattle.std.specs.Option.{option_copied}
use Rattle.cj_cases.specs.Lines.{is_word, parts_behind, parts_between}
use Rattle.cj_cases.proofs.Cutting.{left_length}
use Rattle.cj_cases.proofs.words.words_of.Given as goal

-- the parts of the text are the words so far and those of the rest
abbrev pub invariant-loop-rest : goal.invariant-loop-rest
invariant-loop-rest l = record {
  parts : parts_between 32 l.text ≡ map string_bytes l.words.items ++ parts_behind 32 (option_copied l.rest);
  words : list_all is_word (map string_bytes l.words.items) ≡ true;
}

abbrev pub decreases-loop-rest : goal.decreases-loop-rest
decreases-loop-rest l = left_length (option_copied l.rest)
