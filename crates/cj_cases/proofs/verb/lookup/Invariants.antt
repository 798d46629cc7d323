use Rattle.std.proofs.Common.{◌≡◌, length, map}
use Rattle.cj_cases.specs.Lines.{find_word}
use Rattle.cj_cases.proofs.verb.lookup.Given as goal

-- the word is found in what is left exactly as in the whole table
abbrev pub invariant-loop-table : goal.invariant-loop-table
invariant-loop-table l = find_word (map (λ v. (v.0.now, v.1)) l.table) l.word
    ≡ find_word (map (λ v. (v.0.now, v.1)) l.initial.table) l.word

abbrev pub decreases-loop-table : goal.decreases-loop-table
decreases-loop-table l = length l.table
