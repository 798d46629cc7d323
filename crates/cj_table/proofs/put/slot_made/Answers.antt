use Rattle.std.proofs.Common.{sym, ap, ◌∙◌}
use Rattle.cj_table.proofs.Cited.{Some, from_some, putting, slot_put}
use Rattle.cj_table.proofs.put.slot_made.Goals as goal

pub of-requires : goal.of-requires
of-requires c = putting c.args.schema c.args.rows c.in-Some.changes (from_some _ _ _ (sym c.in-Some.is ∙ c.in_ok-changes.ensures)) c.len-count.result c.len-count.ensures

pub returns : goal.returns
returns c =
    ap Some c.in_ok-slot.ensures
    ∙ slot_put c.args.schema c.args.rows c.in-Some.changes (from_some _ _ _ (sym c.in-Some.is ∙ c.in_ok-changes.ensures))
    (sym c.may_be_table.ensures ∙ c.if-not-may_be_table.false)
