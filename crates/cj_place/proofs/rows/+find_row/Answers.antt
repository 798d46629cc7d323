use Rattle.std.proofs.Common.{◌≡◌, ◌≢◌, ℕ, ◌<◌, ◌+◌, ◌-◌, ◌/◌, ◌==◌, false, List, length, take, drop, Less, Equal, Greater, ap, sym, subst, ◌∙◌, arith, length-drop}
use Rattle.std.proofs.lemmas.Bool.{eqb-false}
use Rattle.std.proofs.lemmas.List.{length-take-le, take_all}
use Rattle.cj_place.proofs.Common.{HostRow, Rises, by_row, bytes_eq, find, given_rows, name_cmp}
use Rattle.cj_place.proofs.Halves.{earlier_rises, later_rises, found_earlier, found_here, found_later}
use Rattle.cj_place.proofs.rows.+find_row.Goals as goal

half_below : (n : ℕ) → false ≡ (n == 0) → n / 2 < n
half_below n h = let some : n ≢ 0 = eqb-false n 0 (sym h) in omega arith

-- a part to the end
to_end : (rows : List HostRow) (n : ℕ) → take (length rows - n) (drop n rows) ≡ drop n rows
to_end rows n = take_all (length rows - n) (drop n rows) (omega (arith, length-drop n rows))

pub find_row-requires : goal.find_row-requires
find_row-requires t c =
    let rows : List HostRow = c.args.rows.now in
    let within : length rows / 2 < length rows = half_below (length rows) c.if-is_empty.ensures in
    let shorter : length (take (length rows / 2) rows) < t = omega (arith, c.decreases, length-take-le (length rows / 2) rows (omega arith)) in
    (shorter, earlier_rises c.args.table.now rows (length rows / 2) c.index-rows-middle.result within c.index-rows-middle.is c.requires)

pub find_row-requires-in-Greater : goal.find_row-requires-in-Greater
find_row-requires-in-Greater t c =
    let rows : List HostRow = c.args.rows.now in
    let within : length rows / 2 < length rows = half_below (length rows) c.if-is_empty.ensures in
    let shorter : length (take (length rows - (length rows / 2 + 1)) (drop (length rows / 2 + 1) rows)) < t =
    omega (arith, c.decreases, ap length (to_end rows (length rows / 2 + 1)), length-drop (length rows / 2 + 1) rows) in
    (shorter, subst (λ (rs : List HostRow). Rises by_row (given_rows rs)) (sym (to_end rows (length rows / 2 + 1))) (later_rises c.args.table.now rows (length rows / 2) c.index-rows-middle.result within c.index-rows-middle.is c.requires))

pub returns-in-Less : goal.returns-in-Less
returns-in-Less t c =
    let rows : List HostRow = c.args.rows.now in
    let within : length rows / 2 < length rows = half_below (length rows) c.if-is_empty.ensures in
    let row = c.index-rows-middle.result in
    let below : name_cmp c.args.table.now row.given.table ≡ Less =
    ap (λ n. name_cmp n row.given.table) (sym c.as_slice.ensures.value) ∙ ap (name_cmp c.as_slice.result.now) (sym c.as_slice-2.ensures.value) ∙ sym c.in-Less.ensures in
    c.find_row.ensures ∙ sym (found_earlier c.args.table.now rows (length rows / 2) row within c.index-rows-middle.is c.requires below)

pub returns-in-Equal : goal.returns-in-Equal
returns-in-Equal t c =
    let rows : List HostRow = c.args.rows.now in
    let within : length rows / 2 < length rows = half_below (length rows) c.if-is_empty.ensures in
    let row = c.index-rows-middle.result in
    let equal : name_cmp c.args.table.now row.given.table ≡ Equal =
    ap (λ n. name_cmp n row.given.table) (sym c.as_slice.ensures.value) ∙ ap (name_cmp c.as_slice.result.now) (sym c.as_slice-2.ensures.value) ∙ sym c.in-Equal.ensures in
    sym (found_here c.args.table.now rows (length rows / 2) row within c.index-rows-middle.is c.requires equal)

pub returns-in-Greater : goal.returns-in-Greater
returns-in-Greater t c =
    let rows : List HostRow = c.args.rows.now in
    let within : length rows / 2 < length rows = half_below (length rows) c.if-is_empty.ensures in
    let row = c.index-rows-middle.result in
    let above : name_cmp c.args.table.now row.given.table ≡ Greater =
    ap (λ n. name_cmp n row.given.table) (sym c.as_slice.ensures.value) ∙ ap (name_cmp c.as_slice.result.now) (sym c.as_slice-2.ensures.value) ∙ sym c.in-Greater.ensures in
    c.find_row-in-Greater.ensures
    ∙ ap (find (λ (r : HostRow). bytes_eq r.given.table c.args.table.now)) (to_end rows (length rows / 2 + 1))
    ∙ sym (found_later c.args.table.now rows (length rows / 2) row within c.index-rows-middle.is c.requires above)
