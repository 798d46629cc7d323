use Rattle.std.proofs.Common.{List, refl, sym, ap, subst, ◌++◌, ◌∷◌, [], ◌∙◌}
use Rattle.cj_shelf.proofs.Common.{Label, LeavesOnly, dump_bytes}
use Rattle.cj_shelf.specs.Shelves.{ShelfState, IsBeforeOrAfter}
use Rattle.cj_shelf.specs.Proving.{dumps_in}
use Rattle.cj_shelf.proofs.Listed.{agrees_more, dumps_more}
use Rattle.cj_shelf.proofs.Stops.{leaves, leaves_now, keeps}
use Rattle.cj_shelf.proofs.shelf.Shelf.add.Goals as goal

pub returns-in_err-body-clause-any_moment : goal.returns-in_err-body-clause-any_moment
returns-in_err-body-clause-any_moment g c = λ t.
    let s = g.D.Store in
    let d = c.args.d.now in
    leaves s.tells c.self.inside.records c.self.inside.labels.items d t c.self.invariant _ c.self.view_is s.moment s.since _ (dump_bytes d) c.encode.ensures.legal refl (c.legal.ensures.now t (dump_bytes d))

pub returns-then-is_err-clause-any_moment : goal.returns-then-is_err-clause-any_moment
returns-then-is_err-clause-any_moment g c = λ t.
    let s = g.D.Store in
    let kept = c.self.inside.records in
    subst (λ (v : ShelfState g.row.D.Denot). LeavesOnly s.moment s.since v.store kept.store (IsBeforeOrAfter v c.args.d.now)) c.self.view_is (leaves_now s.tells kept c.self.inside.labels.items c.args.d.now t c.self.invariant s.moment s.since (c.legal.ensures.now t))

pub returns-in_err-at-clause-any_moment : goal.returns-in_err-at-clause-any_moment
returns-in_err-at-clause-any_moment g c = λ t.
    let s = g.D.Store in
    leaves s.tells c.self.inside.records c.self.inside.labels.items c.args.d.now t c.self.invariant _ c.self.view_is s.moment s.since _ _ c.encode.ensures.legal (sym (c.deref.ensures.value ∙ c.in_ok-body.ensures.bytes)) (c.append.ensures.any_moment t)

pub returns-clause-any_moment : goal.returns-clause-any_moment
returns-clause-any_moment g c = λ t.
    let s = g.D.Store in
    leaves s.tells c.self.inside.records c.self.inside.labels.items c.args.d.now t c.self.invariant _ c.self.view_is s.moment s.since _ _ c.encode.ensures.legal (sym (c.deref.ensures.value ∙ c.in_ok-body.ensures.bytes)) (c.append.ensures.any_moment t)

pub invariant_of-self-2 : goal.invariant_of-self-2
invariant_of-self-2 g c =
    let label : Label = record { name = c.copy-name.result; at = c.in_ok-at.at } in
    agrees_more g.D.Store.tells c.self.inside.records c.append.new.self c.self.inside.labels.items c.push_reserved.new.self.items c.deref.result.now c.args.d.now label c.self.invariant c.append.ensures.magic (c.push_reserved.ensures.items ∙ ap (λ (ls : List Label). ls ++ label ∷ []) c.reserve.ensures.items) c.in_ok-at.ensures.counts.0
    c.in_ok-at.ensures.list c.encode.ensures.legal (c.deref.ensures.value ∙ c.in_ok-body.ensures.bytes) c.copy-name.ensures

pub returns-clause-dumps : goal.returns-clause-dumps
returns-clause-dumps g c = λ t.
    dumps_more c.self.inside.records.list c.append.new.self.list c.deref.result.now c.args.d.now (c.self.invariant.labels t).dumps (c.in_ok-at.ensures.list t).0 c.encode.ensures.legal (c.deref.ensures.value ∙ c.in_ok-body.ensures.bytes)
    ∙ ap (λ (v : ShelfState g.row.D.Denot). v.dumps ++ c.args.d.now ∷ []) c.self.view_is

pub returns-clause-safe : goal.returns-clause-safe
returns-clause-safe g c = λ t image now.
    let new = c.append.new.self in
    let agrees = invariant_of-self-2 g c in
    keeps image new.magic new.list (dumps_in new.list) agrees.magic (agrees.labels t).dumps (c.in_ok-at.ensures.safe t image now)
