use Rattle.std.proofs.Common.{rules, ◌≡◌, ap, sym, ◌∙◌, subst}
use Rattle.cj_board.specs.Seats.{front, pass_view}
use Rattle.cj_board.specs.Views.{pass_of, pass_without_tokens}
use Rattle.cj_place.specs.Layouts.{placement_of}
use Rattle.cj_book.specs.Books.{placement_at, BookState}
use Rattle.cj_locked.specs.Failures.{FailsAt}
use Rattle.cj_locked.proofs.Ending.{same_counted}
use Rattle.cj_locked.proofs.Failing.{failed_amount, failed_since, failed_state, failed_vacant, gives_on, learned_tokens, read_ended, seen_split}
use Rattle.cj_pass.proofs.Passes.{noted_joined, seen_then}
use Rattle.cj_locked.proofs.Noting.{keeps_learning, keeps_same, still_noted}
use Rattle.cj_locked.proofs.book.LockedBook.fail_read.Goals as goal

pub fail_now-failure-requires-clause-fault : goal.fail_now-failure-requires-clause-fault
fail_now-failure-requires-clause-fault g c = learned_tokens c.self.inside.book.view (pass_view c.args.pass.now.seat) c.learn.new.self.view c.args.b c.learn.ensures.book c.requires.fault

pub invariant_of-self : goal.invariant_of-self
invariant_of-self g c =
    let old = c.self.inside.book in
    let learned = c.learn.new.self in
    let failed = c.fail_now-failure.new.book in
    let last = c.tell.new.self in
    let now : last.state ≡ read_ended failed.state c.args.b = c.tell.ensures.state ∙ c.ended.ensures.state in
    let history : last.state.history ≡ failed.state.history = ap (λ (x : BookState). x.history) now in
    let pending = c.tell.ensures.pending ∙ (c.ended.ensures.seat.2 ∙ c.fail_now-failure.ensures.pending) in
    let at : FailsAt (placement_at learned.state) learned.state.history c.args.session c.args.seq c.args.b c.args.select.now c.fail_now-failure.result failed.state.history = c.fail_now-failure.ensures.fails in
    record {
      on = c.tell.ensures.board.0 ∙ (c.ended.ensures.seat.0 ∙ (c.fail_now-failure.ensures.board ∙ (c.learn.ensures.board.0 ∙ c.self.invariant.on)));
      laid = ap (λ (x : BookState). x.layout) now ∙ (ap (λ (x : BookState). x.layout) c.fail_now-failure.ensures.state ∙ (ap (λ (x : BookState). x.layout) c.learn.ensures.state ∙ c.self.invariant.laid));
      gives = c.tell.ensures.still_gives
          (gives_on failed c.ended.new.self (ap (λ (x : BookState). x.greatest) c.ended.ensures.state) c.ended.ensures.seat.1 (c.fail_now-failure.ensures.still_gives (c.learn.ensures.still_gives c.self.invariant.gives)));
      counted = c.self.invariant.counted
          ∙ (sym (same_counted old learned c.learn.ensures.state c.learn.ensures.pending)
          ∙ failed_amount (placement_at learned.state) learned.state.history failed.state.history c.args.session c.args.seq c.args.b c.args.select.now c.fail_now-failure.result at learned.pending last.pending last.state.history history pending);
      vacant = failed_vacant (placement_at learned.state) learned.state.history failed.state.history c.args.session c.args.seq c.args.b c.args.select.now c.fail_now-failure.result at g.S.Store.tells g.S.Store.faults old last
          (sym (ap (λ (x : BookState). x.history) c.learn.ensures.state)) history (pending ∙ c.learn.ensures.pending) _ c.self.invariant.vacant;
      noted = still_noted c.ended.new.self.view last.view (keeps_learning c.ended.new.self.view (pass_without_tokens (pass_view c.learn.new.p)) last.view c.tell.ensures.book)
          (still_noted failed.view c.ended.new.self.view (keeps_same failed.view c.ended.new.self.view c.ended.ensures.seat.1)
          (c.fail_now-failure.ensures.noted
          (still_noted old.view learned.view (keeps_learning old.view (pass_of (pass_view c.args.pass.now.seat)) learned.view c.learn.ensures.book) c.self.invariant.noted)));
    }

pub returns-clause-fails : goal.returns-clause-fails
returns-clause-fails g c =
    let learned = c.learn.new.self in
    let failed = c.fail_now-failure.new.book in
    let laid : placement_at learned.state ≡ placement_of g.J.Naming.layout = ap placement_of (ap (λ (x : BookState). x.layout) c.learn.ensures.state ∙ c.self.invariant.laid) in
    let now : front c.tell.new.p ≡ failed.state.history = c.tell.ensures.told ∙ ap (λ (x : BookState). x.history) c.ended.ensures.state in
    failed_since (placement_at learned.state) learned.state.history failed.state.history c.args.session c.args.seq c.args.b c.args.select.now c.fail_now-failure.result c.fail_now-failure.ensures.fails (front c.args.pass.now.seat) (front c.tell.new.p)
    (placement_of g.J.Naming.layout) c.learn.ensures.seen laid now

pub returns-clause-state : goal.returns-clause-state
returns-clause-state g c =
    let was : c.args.self.now.book.state ≡ c.self.inside.book.state = search rules in
    let failed = c.fail_now-failure.new.book in
    let one : failed.state ≡ record c.self.inside.book.state { history = failed.state.history } = c.fail_now-failure.ensures.state ∙ ap (λ (x : BookState). record x { history = failed.state.history }) c.learn.ensures.state in
    let told : front c.tell.new.p ≡ c.tell.new.self.state.history = c.tell.ensures.told ∙ sym (ap (λ (x : BookState). x.history) c.tell.ensures.state) in
    subst (λ (x : BookState). c.tell.new.self.state ≡ record (read_ended x c.args.b) { history = front c.tell.new.p }) (sym was)
    (failed_state c.self.inside.book.state failed.state c.tell.new.self.state c.args.b (front c.tell.new.p) one (c.tell.ensures.state ∙ c.ended.ensures.state) told)

pub returns-clause-seen : goal.returns-clause-seen
returns-clause-seen g c =
    let told = noted_joined (pass_view c.learn.new.p) (pass_without_tokens c.tell.new.self.view) (pass_view c.tell.new.p) c.tell.ensures.pass c.tell.ensures.longer in
    seen_then (pass_view c.args.pass.now.seat) (pass_view c.learn.new.p) (pass_view c.tell.new.p) (seen_split (pass_view c.args.pass.now.seat) (pass_view c.learn.new.p) c.learn.ensures.pass) told.seen
