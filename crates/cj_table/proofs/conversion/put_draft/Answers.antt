use Rattle.std.proofs.Common.{◌≡◌, List, subst}
use Rattle.cj_table.proofs.Cited.{OnOk, Schema, Slot, TurnsInto, Value, change_into, draft_put, seen}
use Rattle.cj_table.proofs.conversion.put_draft.Goals as goal

pub change-requires-clause-change : goal.change-requires-clause-change
change-requires-clause-change c =
    let s = c.args.stored.now in
    let d = c.args.draft in
    let turns : TurnsInto s.base.schema.key (seen s d.tx).rows d.table.rows c.in_ok-changes.changes =
    subst (λ (rows : List (List Value)). TurnsInto s.base.schema.key rows d.table.rows c.in_ok-changes.changes) c.scan.ensures
    (subst (λ (schema : Schema). TurnsInto schema.key c.scan.result d.table.rows c.in_ok-changes.changes) c.schema.ensures c.in_ok-changes.ensures) in
    change_into s.base.schema.key (seen s d.tx).rows d.table.rows c.in_ok-changes.changes c.len-count.result turns.rises turns.rows c.len-count.ensures

pub returns : goal.returns
returns c =
    let s = c.args.stored.now in
    let d = c.args.draft in
    let turns : TurnsInto s.base.schema.key (seen s d.tx).rows d.table.rows c.in_ok-changes.changes =
    subst (λ (rows : List (List Value)). TurnsInto s.base.schema.key rows d.table.rows c.in_ok-changes.changes) c.scan.ensures
    (subst (λ (schema : Schema). TurnsInto schema.key c.scan.result d.table.rows c.in_ok-changes.changes) c.schema.ensures c.in_ok-changes.ensures) in
    subst (λ (t : Slot). OnOk c.change.result (c.change.new.self ≡ t)) (draft_put s d c.requires.none c.requires.slot c.in_ok-changes.changes turns) c.change.ensures.ok
