use Rattle.std.proofs.Common.{map, sym, ap, subst, ◌∙◌}
use Rattle.cj_table.proofs.Cited.{IsDatabase, committed, committed_keeps}
use Rattle.cj_table.proofs.tables.Tables.commit.Goals as goal

pub invariant_of-self : goal.invariant_of-self
invariant_of-self c =
    let after = c.in_ok-self-inside.ensures ∙ ap (map (committed c.args.tx)) c.deref.ensures.value in
    subst IsDatabase (sym after) (committed_keeps c.args.tx c.self.inside.slots.items c.self.invariant)
