use Rattle.std.proofs.Common.{[], ◌∷◌, ◌++◌, ap, refl, sym, subst, ◌∙◌}
use Rattle.cj_log.proofs.Common.{IsBeforeOrAfter, LeavesOnly, LogState, item_bytes, items_in}
use Rattle.cj_records.specs.Records as records
use Rattle.cj_log.proofs.Stops.{agrees_more, items_more, keeps, leaves_map, logged_at, items_of}
use Rattle.cj_log.proofs.log.Log.append.Goals as goal

pub returns-in_default-clause-any_moment : goal.returns-in_default-clause-any_moment
returns-in_default-clause-any_moment g c = λ t.
    let s = g.S.Store in
    let kept = c.self.inside.records in
    let items = items_in c.self.inside.records.list in
    subst (λ (v : LogState g.row.S.Denot). LeavesOnly s.moment s.since v.store v.store (IsBeforeOrAfter v c.args.item)) c.self.view_is
    (leaves_map s.moment s.since kept.store _ (records.IsBeforeOrAfter kept (item_bytes c.args.item)) (IsBeforeOrAfter (logged_at kept items) c.args.item) (c.legal.ensures.now t (item_bytes c.args.item))
    (λ image f. items_of s.tells kept items c.args.item (item_bytes c.args.item) image t c.self.invariant c.legal_item.ensures refl f))

pub returns-in-Ok-append-clause-any_moment : goal.returns-in-Ok-append-clause-any_moment
returns-in-Ok-append-clause-any_moment g c = λ t.
    let s = g.S.Store in
    let kept = c.self.inside.records in
    let items = items_in c.self.inside.records.list in
    subst (λ (v : LogState g.row.S.Denot). LeavesOnly s.moment s.since v.store c.append.new.self.store (IsBeforeOrAfter v c.args.item)) c.self.view_is
    (leaves_map s.moment s.since kept.store _ (records.IsBeforeOrAfter kept c.deref.result.now) (IsBeforeOrAfter (logged_at kept items) c.args.item) (c.append.ensures.any_moment t)
    (λ image f. items_of s.tells kept items c.args.item c.deref.result.now image t c.self.invariant c.legal_item.ensures (sym (c.deref.ensures.value ∙ c.in-Ok.ensures.body)) f))

pub returns-clause-any_moment : goal.returns-clause-any_moment
returns-clause-any_moment g c = λ t.
    let s = g.S.Store in
    let kept = c.self.inside.records in
    let items = items_in c.self.inside.records.list in
    subst (λ (v : LogState g.row.S.Denot). LeavesOnly s.moment s.since v.store c.append.new.self.store (IsBeforeOrAfter v c.args.item)) c.self.view_is
    (leaves_map s.moment s.since kept.store _ (records.IsBeforeOrAfter kept c.deref.result.now) (IsBeforeOrAfter (logged_at kept items) c.args.item) (c.append.ensures.any_moment t)
    (λ image f. items_of s.tells kept items c.args.item c.deref.result.now image t c.self.invariant c.legal_item.ensures (sym (c.deref.ensures.value ∙ c.in-Ok.ensures.body)) f))

pub invariant_of-self : goal.invariant_of-self
invariant_of-self g c =
    agrees_more g.S.Store.tells c.self.inside.records c.append.new.self c.deref.result.now c.args.item c.self.invariant c.append.ensures.magic c.in-Ok-append.ensures.list (c.deref.ensures.value ∙ c.in-Ok.ensures.body) c.legal_item.ensures

pub returns-in-Ok-append-clause-items : goal.returns-in-Ok-append-clause-items
returns-in-Ok-append-clause-items g c = λ t.
    items_more c.self.inside.records.list c.append.new.self.list c.deref.result.now c.args.item (c.in-Ok-append.ensures.list t).0 (c.deref.ensures.value ∙ c.in-Ok.ensures.body) c.legal_item.ensures
    ∙ ap (λ (v : LogState g.row.S.Denot). v.items ++ c.args.item ∷ []) c.self.view_is

pub returns-in-Ok-append-clause-safe : goal.returns-in-Ok-append-clause-safe
returns-in-Ok-append-clause-safe g c = λ t image now.
    let l = agrees_more g.S.Store.tells c.self.inside.records c.append.new.self c.deref.result.now c.args.item c.self.invariant c.append.ensures.magic c.in-Ok-append.ensures.list (c.deref.ensures.value ∙ c.in-Ok.ensures.body) c.legal_item.ensures in
    keeps image c.append.new.self.magic c.append.new.self.list (items_in c.append.new.self.list) l.magic (l.bodies t) (l.each t) (c.in-Ok-append.ensures.safe t image now)
