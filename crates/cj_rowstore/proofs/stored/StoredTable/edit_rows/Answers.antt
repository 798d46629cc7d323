use Rattle.std.proofs.Common.{map, ap, ◌∙◌}
use Rattle.cj_rowstore.proofs.Cited.{None, Slot, edited_own, holds_again, shown_again, values_of}
use Rattle.cj_rowstore.proofs.stored.StoredTable.edit_rows.Goals as goal

pub invariant_of-self-2 : goal.invariant_of-self-2
invariant_of-self-2 g c =
    let i = c.self.inside in
    let s = i.schema in
    let new = edited_own s i.base c.edit_rows.new.self (g.R.RowEdit.edited c.args.by.now) i.draft c.args.self.now c.self.view_is c.requires.keys c.self.invariant c.in_ok-edit_rows.ensures.ok in
    holds_again s i.base c.edit_rows.new.self i.draft (map (g.R.RowEdit.edited c.args.by.now) (values_of i.base)) new c.self.invariant

pub returns-clause-ok : goal.returns-clause-ok
returns-clause-ok g c =
    let i = c.self.inside in
    let s = i.schema in
    let f = g.R.RowEdit.edited c.args.by.now in
    let new = edited_own s i.base c.edit_rows.new.self f i.draft c.args.self.now c.self.view_is c.requires.keys c.self.invariant c.in_ok-edit_rows.ensures.ok in
    shown_again s i.base c.edit_rows.new.self i.draft (map f (values_of i.base)) (ap (λ (t : Slot). t.draft) c.self.view_is ∙ c.requires.free) new
    ∙ ap (λ (t : Slot). record { base = record { schema = t.base.schema; rows = map f t.base.rows }; draft = None }) c.self.view_is
