use Rattle.std.proofs.Common.{◌≡◌, ◌≤◌, List, [], ◌∷◌, length, refl, sym, subst, arith}
use Rattle.cj_board.proofs.Common.{Entry, IsFitEntry, log, USER_LIMIT}
use Rattle.cj_part_tests.proofs.BoardRows.{first_entry, first_fits}
use Rattle.cj_part_tests.proofs.own_passes.begin.Goals as goal

none_of : (entries : List Entry) → length entries ≡ 0 → entries ≡ []
none_of [] is = refl
none_of (e ∷ entries) is = absurd (omega (arith, is))

pub schedule_own-requires-clause-fit : goal.schedule_own-requires-clause-fit
schedule_own-requires-clause-fit g c idle =
    let short : length c.args.user ≤ USER_LIMIT = omega (arith, c.len.ensures) in
    let none : length (log c.args.book.now.state.history) ≡ 0 = omega (arith, c.length.ensures) in
    subst (λ (before : List Entry). IsFitEntry before (first_entry c.args.user)) (sym (none_of _ none)) (first_fits c.args.user short)
