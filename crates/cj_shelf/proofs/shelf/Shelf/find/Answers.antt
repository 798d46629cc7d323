use Rattle.std.proofs.Common.{◌≡◌, ℕ, List, true, Some, Err, ◌∙◌, sym, ap, subst}
use Rattle.cj_shelf.proofs.Common.{Label, bytes_eq, bytes_eq-Decides, dump_bytes}
use Rattle.cj_shelf.specs.Shelves.{ShelfState, is_shelved, first_of, GivesFirst}
use Rattle.cj_shelf.specs.Proving.{labelled, IsFirstPlace, dumps_in, FindsDump}
use Rattle.cj_shelf.proofs.Looked.{none_first, found, refused}
use Rattle.cj_shelf.proofs.shelf.Shelf.find.Goals as goal

pub returns-in_default-clause-first : goal.returns-in_default-clause-first
returns-in_default-clause-first g c = λ t.
    let name = c.args.name.now in
    let names = ap labelled c.deref.ensures.value ∙ (c.self.invariant.labels t).names in
    sym (ap (λ (v : ShelfState g.row.D.Denot). first_of name v.dumps) (sym c.self.view_is) ∙ none_first name (dumps_in c.self.inside.records.list) (ap (is_shelved name) (sym names) ∙ c.in_default.ensures))

pub returns-in_err-d-clause-first : goal.returns-in_err-d-clause-first
returns-in_err-d-clause-first g c = λ t.
    let list = c.self.inside.records.list in
    subst (λ (v : ShelfState g.row.D.Denot). GivesFirst c.args.name.now v.dumps c.from_residual-in_err-d.result) c.self.view_is
    (refused c.args.name.now list c.self.inside.labels.items c.in-Some.place c.in_ok-body.body.items (c.self.invariant.labels t) (c.in_ok-body.ensures.body t) c.index.result.now.at c.in_err-d.field-0.0 c.from_residual-in_err-d.result
    (subst (λ (b : List ℕ). FindsDump b c.index.result.now.at (Err c.in_err-d.field-0.0)) c.deref-2.ensures.value c.in_err-d.ensures) c.from_residual-in_err-d.ensures.1)

pub returns-then-not-is-clause-first : goal.returns-then-not-is-clause-first
returns-then-not-is-clause-first g c = λ t.
    let body = c.in_ok-body.body.items in
    let first = subst (λ (ls : List Label). IsFirstPlace c.args.name.now (labelled ls) (Some c.in-Some.place)) c.deref.ensures.value c.in-Some.ensures in
    let its : body ≡ dump_bytes c.in_ok-d.d = sym c.deref-2.ensures.value ∙ c.in_ok-d.ensures.0 in
    let named = (found c.args.name.now c.self.inside.records.list c.self.inside.labels.items c.in-Some.place body (c.self.invariant.labels t) (c.in_ok-body.ensures.body t) c.in_ok-d.d first its c.in_ok-d.ensures.1).1 in
    let same : bytes_eq c.in_ok-d.d.name c.args.name.now ≡ true = (bytes_eq-Decides c.in_ok-d.d.name c.args.name.now).1 named in
    absurd (cc (same, c.if-not-is.ensures))

pub returns-clause-first : goal.returns-clause-first
returns-clause-first g c = λ t.
    let name = c.args.name.now in
    let list = c.self.inside.records.list in
    let body = c.in_ok-body.body.items in
    let first = subst (λ (ls : List Label). IsFirstPlace name (labelled ls) (Some c.in-Some.place)) c.deref.ensures.value c.in-Some.ensures in
    let its : body ≡ dump_bytes c.in_ok-d.d = sym c.deref-2.ensures.value ∙ c.in_ok-d.ensures.0 in
    let is = (found name list c.self.inside.labels.items c.in-Some.place body (c.self.invariant.labels t) (c.in_ok-body.ensures.body t) c.in_ok-d.d first its c.in_ok-d.ensures.1).0 in
    sym (ap (λ (v : ShelfState g.row.D.Denot). first_of name v.dumps) (sym c.self.view_is) ∙ is)
