use Rattle.std.proofs.Common.{◌≡◌, ◌+◌, ◌-◌, ◌^◌, min, ℕ, true, List, length, Some, ◌∙◌, sym, ap, subst, arith}
use Rattle.cj_log.proofs.Common.{IsNoItem, front_bytes, item_bytes, slice_get}
use Rattle.cj_records.proofs.Unchanged.{same_then}
use Rattle.cj_log.proofs.Listed.{bad_in, bodies_more, each_more, there_more}
use Rattle.cj_log.proofs.log.read_items.Goals as goal

pub returns-in-Err-NoItem-clause-items : goal.returns-in-Err-NoItem-clause-items
returns-in-Err-NoItem-clause-items g c = λ t.
    let i = c.loop-n.invariant in
    let bad = rw c.in-Err-NoItem.field-0-is at c.in-Err-NoItem.ensures in
    let read = subst (λ (xs : List (List ℕ)). slice_get xs c.loop-n.n ≡ Some c.in_ok-body.body.items) (i.same.list t) (c.in_ok-body.ensures.body t) in
    bad_in c.args.records.now.list c.loop-n.n c.loop-n.at c.in_ok-body.body.items c.loop-n.items.items (i.bodies t) (i.there t) read (subst IsNoItem c.deref.ensures.value bad) i.each

pub loop-n-preserved : goal.loop-n-preserved
loop-n-preserved g c =
    let list = c.args.records.now.list in
    let n = c.loop-n.n in
    let body = c.in_ok-body.body.items in
    let i = c.loop-n.invariant in
    let pushed = c.in_ok-push-in-Ok.ensures.items in
    let read = λ (t : g.S.Store.tells ≡ true). subst (λ (xs : List (List ℕ)). slice_get xs n ≡ Some body) (i.same.list t) (c.in_ok-body.ensures.body t) in
    let is : body ≡ item_bytes c.in-Ok.item = sym c.deref.ensures.value ∙ c.in-Ok.ensures.0 in
    let bodies = λ (t : g.S.Store.tells ≡ true). bodies_more list n body c.loop-n.items.items c.in-Ok.item (i.bodies t) (read t) is in
    let len : c.len.result ≡ length body = c.len.ensures ∙ sym c.deref.ensures.len ∙ ap length c.deref.ensures.value in
    let sum : c.saturating_add-at.result ≡ min (c.loop-n.at + (9 + length body)) (2 ^ 64 - 1) = c.saturating_add-at.ensures ∙ ap (λ (k : ℕ). min (c.loop-n.at + (9 + k)) (2 ^ 64 - 1)) len in
    record {
      same = same_then g.S.Store.tells g.S.Store.held c.args.records.now c.loop-n.records c.read.new.self i.same c.in_ok-body.ensures.same;
      bodies = λ t. rw pushed (bodies t);
      there = λ t. rw pushed (there_more list n c.loop-n.at c.args.records.now.end c.saturating_add-at.result body c.loop-n.items.items _ (i.there t) sum (c.legal.ensures.end t ∙ ap (λ (m : List ℕ). length (front_bytes m list)) c.requires) (omega (arith, c.legal.ensures.limit)) (i.bodies t) (bodies t) (read t));
      each = rw pushed (each_more c.loop-n.items.items c.in-Ok.item i.each c.in-Ok.ensures.1);
      faults = c.in_ok-body.ensures.cause.uncounted (λ failed. absurd cc) ∙ i.faults;
    }
