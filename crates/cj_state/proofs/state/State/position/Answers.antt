use Rattle.std.proofs.Common.{◌≡◌, ◌<◌, Some, List, length, slice_get, ap, sym, ◌∙◌}
use Rattle.cj_state.proofs.Cited.{SeatedCell, WorldState, position_at, slice_get-get_or, stands_in}
use Rattle.cj_state.proofs.state.State.position.Goals as goal

pub returns-in-Some : goal.returns-in-Some
returns-in-Some g c =
    let w = c.self.inside in
    let lt : c.args.b < length c.deref.result.now = c.in-Some.ensures.lookup.3.0 in
    let found : slice_get c.deref.result.now c.args.b ≡ Some c.in-Some.cell.now = slice_get-get_or c.deref.result.now c.args.b c.in-Some.cell.now lt ∙ ap (λ (z : SeatedCell). Some z) (sym c.in-Some.ensures.lookup.1) in
    let there : slice_get w.cells.items c.args.b ≡ Some c.in-Some.cell.now = ap (λ (xs : List SeatedCell). slice_get xs c.args.b) (sym c.deref.ensures.value) ∙ found in
    c.position.ensures ∙ (stands_in w.cells.items c.args.b c.in-Some.cell.now there ∙ ap (λ (x : WorldState). position_at x.core c.args.b) c.self.view_is)
