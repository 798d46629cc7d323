use Rattle.std.proofs.Common.{◌∙◌, length, ap, sym}
use Rattle.cj_rowstore.proofs.Cited.{KeyedRows, merged, merged_only, rise_from, value_cmp, value_exact, value_total}
use Rattle.cj_rowstore.proofs.version.Version.change.Goals as goal

pub invariant_of-self-2 : goal.invariant_of-self-2
invariant_of-self-2 c =
    let es = c.self.inside.rows in
    let only = merged_only value_cmp value_total value_exact es c.args.changes c.take_first.new.self (c.in-Some.key, c.in-Some.row) (rise_from value_cmp es c.rises.ensures) c.in-Some.ensures (sym c.len.ensures ∙ c.if-len-ne1.false) in
    c.requires ∙ ap (λ (l : KeyedRows). length (merged value_cmp l c.args.changes)) (sym c.self.view_is) ∙ sym (ap length (c.in_ok-change.ensures.ok ∙ only))

pub returns-clause-ok : goal.returns-clause-ok
returns-clause-ok c =
    let es = c.self.inside.rows in
    let only = merged_only value_cmp value_total value_exact es c.args.changes c.take_first.new.self (c.in-Some.key, c.in-Some.row) (rise_from value_cmp es c.rises.ensures) c.in-Some.ensures (sym c.len.ensures ∙ c.if-len-ne1.false) in
    c.in_ok-change.ensures.ok ∙ only ∙ ap (λ (l : KeyedRows). merged value_cmp l c.args.changes) c.self.view_is
