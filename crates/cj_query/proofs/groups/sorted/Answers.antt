use Rattle.std.proofs.Common.{◌≡◌, List, map, ap, subst, ◌∙◌}
use Rattle.cj_query.proofs.Cited.{IfOk, RankedRow, Value, deref, leads_before, led_by, led_rows, rows_seen, sorted_by, take_all}
use Rattle.cj_query.proofs.groups.sorted.Goals as goal

pub returns : goal.returns
returns c =
    let place = c.args.place in
    subst (λ (rows : List (List Value)). IfOk c.rows_of.result (λ out. map deref out.items ≡ rows))
    (ap rows_seen c.deref.ensures.value
    ∙ ap (map (λ (x : RankedRow). x.1))
    (c.in_ok-sort_by_lead.ensures
    ∙ ap (sorted_by leads_before) (c.loop-row.invariant ∙ ap (λ rows. map (led_by place) (map deref rows)) (take_all c.loop-row.row-index c.args.rows.now c.loop-row-test.false)))
    ∙ led_rows place (map deref c.args.rows.now))
    c.rows_of.ensures
