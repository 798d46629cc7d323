use Rattle.std.proofs.Common.{◌≡◌, ◌<◌, length, ap, sym, subst, arith}
use Rattle.cj_records.proofs.Common.{ReadsPart, RecordList, bodies_at, body_at, length-map}
use Rattle.cj_records.proofs.Unchanged.{reads}
use Rattle.cj_records.proofs.records.Records.read.Goals as goal

pub returns-then-place-clause-body : goal.returns-then-place-clause-body
returns-then-place-clause-body g c = λ t.
    let held = g.S.Store.held in
    let r = c.self.inside in
    let list : bodies_at (held r.store) r.places.items ≡ c.args.self.now.list = ap (λ (v : RecordList g.row.S.Denot). v.list) c.self.view_is in
    let store : r.store ≡ c.args.self.now.store = ap (λ (v : RecordList g.row.S.Denot). v.store) c.self.view_is in
    let within : c.args.n < length r.places.items = omega (arith, c.requires, ap length list, length-map r.places.items (body_at (held r.store))) in
    reads c.args.self.now (held r.store) r.magic r.places.items r.end c.args.n r.torn c.index-place.result.now c.read_small.result list c.self.invariant.0.within (c.self.invariant.0.laid t) within c.index-place.ensures
    (subst (λ (x : g.row.S.Denot). ReadsPart (held x) c.index-place.result.now c.read_small.result) (sym store) (c.read_small.ensures.body t))

pub returns-else-place-clause-body : goal.returns-else-place-clause-body
returns-else-place-clause-body g c = λ t.
    let held = g.S.Store.held in
    let r = c.self.inside in
    let list : bodies_at (held r.store) r.places.items ≡ c.args.self.now.list = ap (λ (v : RecordList g.row.S.Denot). v.list) c.self.view_is in
    let store : r.store ≡ c.args.self.now.store = ap (λ (v : RecordList g.row.S.Denot). v.store) c.self.view_is in
    let within : c.args.n < length r.places.items = omega (arith, c.requires, ap length list, length-map r.places.items (body_at (held r.store))) in
    reads c.args.self.now (held r.store) r.magic r.places.items r.end c.args.n r.torn c.index-place.result.now c.read_large.result list c.self.invariant.0.within (c.self.invariant.0.laid t) within c.index-place.ensures
    (subst (λ (x : g.row.S.Denot). ReadsPart (held x) c.index-place.result.now c.read_large.result) (sym store) (c.read_large.ensures.body t))
