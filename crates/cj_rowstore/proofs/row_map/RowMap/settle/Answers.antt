use Rattle.std.proofs.Common.{◌∙◌, sym, subst}
use Rattle.cj_rowstore.proofs.Cited.{RowEntries, SettlesRow, settles_changed, settles_gone, settles_same}
use Rattle.cj_rowstore.proofs.row_map.RowMap.settle.Goals as goal

pub returns-then-has-clause-settles : goal.returns-then-has-clause-settles
returns-then-has-clause-settles c =
    subst (λ (es : RowEntries). SettlesRow c.args.key c.args.row.now c.args.self.now es) (sym c.remove.ensures.entries)
    (settles_same c.args.self.now c.args.key c.args.row.now c.rises.ensures (c.has.ensures.0 c.if-has.true))

pub returns-then-knows-clause-settles : goal.returns-then-knows-clause-settles
returns-then-knows-clause-settles c = settles_changed c.args.self.now c.args.key c.args.row.now c.rises.ensures (sym c.knows.ensures ∙ c.if-knows.true)

pub returns-clause-settles : goal.returns-clause-settles
returns-clause-settles c =
    subst (λ (es : RowEntries). SettlesRow c.args.key c.args.row.now c.args.self.now es) (sym c.in_ok-insert.ensures.ok)
    (settles_gone c.args.self.now c.args.key c.args.row.now c.rises.ensures (sym c.knows.ensures ∙ c.if-knows.false))
