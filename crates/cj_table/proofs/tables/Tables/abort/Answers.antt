use Rattle.std.proofs.Common.{map, sym, ap, subst, ◌∙◌}
use Rattle.cj_table.proofs.Cited.{IsDatabase, aborted, aborted_keeps}
use Rattle.cj_table.proofs.tables.Tables.abort.Goals as goal

pub invariant_of-self : goal.invariant_of-self
invariant_of-self c =
    let after = c.in_ok-self-inside.ensures ∙ ap (map (aborted c.args.tx)) c.deref.ensures.value in
    subst IsDatabase (sym after) (aborted_keeps c.args.tx c.self.inside.slots.items c.self.invariant)
