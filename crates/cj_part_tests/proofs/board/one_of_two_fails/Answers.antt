use Rattle.std.proofs.Common.{◌≡◌, ◌≤◌, ℕ, Bool, true, false, List, [], length, None, Some, sym, ◌∙◌, subst, arith}
use Rattle.std.specs.Prelude.{if◌then◌else◌}
use Rattle.cj_board.proofs.Common.{Entry, IsFitEntry, USER_LIMIT}
use Rattle.cj_part_tests.proofs.BoardRows.{first_fits}
use Rattle.cj_part_tests.proofs.board.one_of_two_fails.Goals as goal

-- a text that was found is of these bytes
of_bytes : (b : Bool) (xs user : List ℕ) → Some user ≡ (if b then Some xs else None) → user ≡ xs
of_bytes true xs user is = cc is
of_bytes false xs user is = absurd (cc is)

pub change-requires : goal.change-requires
change-requires g c =
    let none : c.in-Some.user ≡ [] = of_bytes _ c.new.result.items c.in-Some.user c.in-Some.ensures ∙ c.new.ensures.items in
    let short : length c.in-Some.user ≤ USER_LIMIT = subst (λ (u : List ℕ). length u ≤ USER_LIMIT) (sym none) (omega arith) in
    subst (λ (e : Entry). IsFitEntry [] e) (sym c.in-Ok.ensures) (first_fits c.in-Some.user short)
