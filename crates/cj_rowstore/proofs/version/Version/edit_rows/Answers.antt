use Rattle.std.proofs.Common.{◌∙◌, length, ap, sym}
use Rattle.std.proofs.lemmas.List.{length-map}
use Rattle.cj_rowstore.proofs.Cited.{retained_all}
use Rattle.cj_rowstore.proofs.version.Version.edit_rows.Goals as goal

pub invariant_of-self-2 : goal.invariant_of-self-2
invariant_of-self-2 g c =
    let f = g.R.RowEdit.edited c.args.by.now in
    c.self.invariant ∙ sym (ap length (c.in_ok-retain.ensures.ok ∙ retained_all f c.self.inside.rows) ∙ length-map c.self.inside.rows (λ e. (e.0, f e.1)))
