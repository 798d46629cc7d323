use Rattle.std.proofs.Common.{◌≡◌, ℕ, List, ◌∷◌, [], ap, get_or, codes, arith}
use Rattle.cj_program_tests.proofs.NoDumps.{new_has_none, other_has_none}
use Rattle.cj_program_tests.proofs.handed.bytes_of.Goals as goal

pub returns-in-Empty : goal.returns-in-Empty
returns-in-Empty c = new_has_none (67 ∷ 74 ∷ 68 ∷ 49 ∷ 0 ∷ []) (omega arith)

pub returns-in-Foreign : goal.returns-in-Foreign
returns-in-Foreign c = other_has_none (codes "no file") (omega arith) (λ same. let first : 110 ≡ 67 = ap (λ (l : List ℕ). get_or l 0 0) same in omega (arith, first))
