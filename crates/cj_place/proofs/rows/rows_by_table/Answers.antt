use Rattle.std.proofs.Common.{◌∙◌, ℕ, List, sym, ap, subst}
use Rattle.std.specs.Global.{Vec}
use Rattle.std.specs.Map.{values_of}
use Rattle.std.proofs.lemmas.Map.Views.{All-values-insert_entry}
use Rattle.cj_place.proofs.Common.{All, HostRow, IsMasked, PlaceRow, by_row, fold, given_rows, put_by}
use Rattle.cj_place.proofs.Placing.{HasTable, bytes_cmp, given_put, tables_put}
use Rattle.cj_place.proofs.rows.rows_by_table.Goals as goal

-- where the table had a row, that is dropped
pub loop-row-preserved : goal.loop-row-preserved
loop-row-preserved c =
    let i = c.loop-row.invariant in
    let rest : List PlaceRow = c.next.new.self.rest.items in
    let placed : List (Vec ℕ × HostRow) = c.loop-row.placed.entries in
    let table : Vec ℕ = c.in_ok-table.table in
    let row : HostRow = c.host_row.result in
    let is : HasTable (table, row) = c.in_ok-table.ensures.items ∙ c.as_slice.ensures.value ∙ sym (ap (λ (r : PlaceRow). r.table) c.host_row.ensures.given) in
    record {
      can_next = tt;
      is_finite = tt;
      tables = subst (All HasTable) (sym c.in_ok-insert.ensures.entries) (tables_put placed table row is i.tables);
      masks = subst (λ (es : List (Vec ℕ × HostRow)). All (IsMasked c.args.names.now) (values_of es)) (sym c.in_ok-insert.ensures.entries) (All-values-insert_entry bytes_cmp table row (IsMasked c.args.names.now) placed i.masks c.host_row.ensures.mask);
      all = ap (λ (es : List (Vec ℕ × HostRow)). fold (put_by by_row) (given_rows (values_of es)) rest) c.in_ok-insert.ensures.entries
          ∙ ap (λ (rs : List PlaceRow). fold (put_by by_row) rs rest) (given_put placed table row is i.tables ∙ ap (put_by by_row (given_rows (values_of placed))) c.host_row.ensures.given)
          ∙ ap (λ (rs : List PlaceRow). fold (put_by by_row) (given_rows (values_of placed)) rs) (sym c.in-Some.ensures.steps.0) ∙ i.all;
    }

pub loop-row-preserved-in_ok-insert : goal.loop-row-preserved-in_ok-insert
loop-row-preserved-in_ok-insert c =
    let i = c.loop-row.invariant in
    let rest : List PlaceRow = c.next.new.self.rest.items in
    let placed : List (Vec ℕ × HostRow) = c.loop-row.placed.entries in
    let table : Vec ℕ = c.in_ok-table.table in
    let row : HostRow = c.host_row.result in
    let is : HasTable (table, row) = c.in_ok-table.ensures.items ∙ c.as_slice.ensures.value ∙ sym (ap (λ (r : PlaceRow). r.table) c.host_row.ensures.given) in
    record {
      can_next = tt;
      is_finite = tt;
      tables = subst (All HasTable) (sym c.in_ok-insert.ensures.entries) (tables_put placed table row is i.tables);
      masks = subst (λ (es : List (Vec ℕ × HostRow)). All (IsMasked c.args.names.now) (values_of es)) (sym c.in_ok-insert.ensures.entries) (All-values-insert_entry bytes_cmp table row (IsMasked c.args.names.now) placed i.masks c.host_row.ensures.mask);
      all = ap (λ (es : List (Vec ℕ × HostRow)). fold (put_by by_row) (given_rows (values_of es)) rest) c.in_ok-insert.ensures.entries
          ∙ ap (λ (rs : List PlaceRow). fold (put_by by_row) rs rest) (given_put placed table row is i.tables ∙ ap (put_by by_row (given_rows (values_of placed))) c.host_row.ensures.given)
          ∙ ap (λ (rs : List PlaceRow). fold (put_by by_row) (given_rows (values_of placed)) rs) (sym c.in-Some.ensures.steps.0) ∙ i.all;
    }
