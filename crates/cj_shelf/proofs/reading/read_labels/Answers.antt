use Rattle.std.proofs.Common.{◌≡◌, ◌+◌, ◌^◌, ◌-◌, min, ℕ, true, List, ◌++◌, length, Some, Err, ◌∙◌, sym, ap, subst, arith, length-append, ◌∷◌, []}
use Rattle.std.specs.Prelude.{slice_get}
use Rattle.cj_shelf.proofs.Common.{Label, dump_bytes}
use Rattle.cj_records.specs.RecordFiles.{front_bytes}
use Rattle.cj_records.proofs.Unchanged.{same_then}
use Rattle.cj_shelf.specs.Proving.{Labels, FindsDump}
use Rattle.cj_shelf.proofs.Listed.{one_more, there_more, labels_more, labels_refused}
use Rattle.cj_shelf.proofs.reading.read_labels.Goals as goal

pub returns-in_err-d-clause-labels : goal.returns-in_err-d-clause-labels
returns-in_err-d-clause-labels g c = λ t.
    let i = c.loop-n.invariant in
    let body = c.in_ok-body.body.items in
    let e = c.in_err-d.field-0.0 in
    let read = subst (λ (xs : List (List ℕ)). slice_get xs c.loop-n.n ≡ Some body) (i.same.list t) (c.in_ok-body.ensures.body t) in
    labels_refused c.args.records.now.list c.loop-n.n c.loop-n.at body c.loop-n.labels.items e c.from_residual-in_err-d.result (i.labels t) (i.there t) read (subst (λ (b : List ℕ). FindsDump b c.loop-n.at (Err e)) c.deref.ensures.value c.in_err-d.ensures) c.from_residual-in_err-d.ensures.1

pub loop-n-preserved : goal.loop-n-preserved
loop-n-preserved g c =
    let list = c.args.records.now.list in
    let n = c.loop-n.n in
    let body = c.in_ok-body.body.items in
    let i = c.loop-n.invariant in
    let pushed = c.in-Ok.ensures.items in
    let label : Label = record { name = c.copy-name.result; at = c.loop-n.at } in
    let read = λ (t : g.D.Store.tells ≡ true). subst (λ (xs : List (List ℕ)). slice_get xs n ≡ Some body) (i.same.list t) (c.in_ok-body.ensures.body t) in
    let is : body ≡ dump_bytes c.in_ok-d.d = sym c.deref.ensures.value ∙ c.in_ok-d.ensures.0 in
    let len : c.len.result ≡ length body = c.len.ensures ∙ sym c.deref.ensures.len ∙ ap length c.deref.ensures.value in
    let sum : c.saturating_add-at.result ≡ min (c.loop-n.at + (9 + length body)) (2 ^ 64 - 1) = c.saturating_add-at.ensures ∙ ap (λ (k : ℕ). min (c.loop-n.at + (9 + k)) (2 ^ 64 - 1)) len in
    record {
      same = same_then g.D.Store.tells g.D.Store.held c.args.records.now c.loop-n.records c.read.new.self i.same c.in_ok-body.ensures.same;
      labels = λ t. rw pushed (subst (λ (bs : List (List ℕ)). Labels bs (c.loop-n.labels.items ++ label ∷ [])) (sym (one_more list n body (read t))) (labels_more _ c.loop-n.labels.items body c.in_ok-d.d label (i.labels t) c.in_ok-d.ensures.1 is c.copy-name.ensures));
      there = λ t. there_more list n c.loop-n.at c.args.records.now.end c.saturating_add-at.result body (i.there t) sum (c.legal.ensures.end t ∙ ap (λ (m : List ℕ). length (front_bytes m list)) c.requires) (omega (arith, c.legal.ensures.limit)) (read t);
      count = rw pushed (length-append c.loop-n.labels.items (label ∷ []) ∙ ap (λ (k : ℕ). k + 1) i.count);
      faults = c.in_ok-body.ensures.cause.uncounted (λ failed. absurd cc) ∙ i.faults;
    }
