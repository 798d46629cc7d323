use Rattle.std.proofs.Common.{◌≡◌, ◌+◌, false, length, arith, sym, ap, ◌∙◌}
use Rattle.cj_dml.proofs.Cited.{ROW_LIMIT, Schema, from_some, has_key, insert_leaves, le-ltb, list_any, none_of, past, puts_once}
use Rattle.cj_dml.proofs.insert.with_rows.Goals as goal

pub returns : goal.returns
returns c =
    let t = c.args.view.now in
    let new = c.args.rows in
    let there : list_any (has_key t.schema.key t.rows) new ≡ false = ap (list_any (has_key t.schema.key t.rows)) (sym c.as_slice.ensures) ∙ sym c.has_key_of.ensures ∙ c.if-has_key_of.false in
    let parts = from_some _ _ _ (sym c.in-Some.is ∙ c.in_ok-changes.ensures ∙ ap (λ (s : Schema). puts_once s.key new) c.schema.ensures) in
    past t _ _ _ _ (none_of _ _ there parts.0)
    (past t _ _ _ _ (le-ltb ROW_LIMIT (length t.rows + length new) (omega (arith, c.if-count-gt-ROW_LIMIT.false, c.count.ensures, c.len-added.ensures)))
    (insert_leaves t c.legal.ensures _ new there parts.0 parts.1 (omega (arith, c.count.ensures, c.len-added.ensures)) c.len-added.ensures))
