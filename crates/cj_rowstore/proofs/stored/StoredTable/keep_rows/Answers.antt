use Rattle.std.proofs.Common.{length, ap, sym, ◌∙◌}
use Rattle.cj_rowstore.proofs.Cited.{None, Slot, filter, holds_again, passing_counted, passing_own, shown_again, values_of}
use Rattle.cj_rowstore.proofs.stored.StoredTable.keep_rows.Goals as goal

pub keep_rows-requires : goal.keep_rows-requires
keep_rows-requires g c =
    let i = c.self.inside in
    let p = g.T.RowTest.passes c.args.by.now in
    c.requires.count ∙ ap (λ (t : Slot). length (filter p t.base.rows)) (sym c.self.view_is) ∙ passing_counted i.schema i.base p i.draft c.self.invariant

pub invariant_of-self-2 : goal.invariant_of-self-2
invariant_of-self-2 g c =
    let i = c.self.inside in
    let s = i.schema in
    let new = passing_own s i.base (g.T.RowTest.passes c.args.by.now) i.draft c.self.invariant c.keep_rows.new.self c.in_ok-keep_rows.ensures.ok in
    holds_again s i.base c.keep_rows.new.self i.draft (filter (g.T.RowTest.passes c.args.by.now) (values_of i.base)) new c.self.invariant

pub returns-clause-ok : goal.returns-clause-ok
returns-clause-ok g c =
    let i = c.self.inside in
    let s = i.schema in
    let p = g.T.RowTest.passes c.args.by.now in
    let new = passing_own s i.base p i.draft c.self.invariant c.keep_rows.new.self c.in_ok-keep_rows.ensures.ok in
    shown_again s i.base c.keep_rows.new.self i.draft (filter p (values_of i.base)) (ap (λ (t : Slot). t.draft) c.self.view_is ∙ c.requires.free) new
    ∙ ap (λ (t : Slot). record { base = record { schema = t.base.schema; rows = filter p t.base.rows }; draft = None }) c.self.view_is
