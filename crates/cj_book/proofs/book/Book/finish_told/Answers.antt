use Rattle.std.proofs.Common.{◌≡◌, ◌<◌, ◌≤◌, ◌+◌, ℕ, List, Some, inl, ap, sym, ◌∙◌, subst}
use Rattle.cj_book.proofs.Cited.{CanCount, Event, LogFailed, Sched, SeatView, entry_counts, event_count_of, event_or_fault, failure_counts, finished_greatest, finished_own, low_sessions, next_session, own_can_count, own_front, own_gives, own_same, pass_view, still_own}
use Rattle.cj_book.proofs.book.Book.finish_told.Goals as goal

pub finish_entry-result-requires-clause-given : goal.finish_entry-result-requires-clause-given
finish_entry-result-requires-clause-given c = inl (c.requires.own.1, c.requires.given)

pub finish_entry-result-requires-clause-counted : goal.finish_entry-result-requires-clause-counted
finish_entry-result-requires-clause-counted c =
    let e = c.args.e in
    let book = c.args.self.now in
    let w = pass_view c.check_count.new.p in
    let legal = c.legal.ensures.legal in
    let own_before = c.requires.own.0 in
    let own = ap (λ (v : SeatView). v.own_session) c.check_count.ensures.pass ∙ own_before in
    let few = subst (λ (x : ℕ × List Event × ℕ). event_count_of x.0 x.1 ≤ x.2) (λ i. (own_before i, c.requires.told i, sym (ap (λ (v : SeatView). v.count) c.check_count.ensures.pass) i))
    (c.check_count.ensures.counted (subst (λ n. 0 < n) (sym own_before) c.requires.own.1)) in
    subst (λ own. CanCount book own (Sched e) × CanCount book own (LogFailed e.session e.seq)) (sym c.taken-counter.ensures.own) (
      own_can_count book w (Sched e) e.session own c.requires.own.1 few (λ t. entry_counts t book.state.history e legal c.requires.own.1),
      own_can_count book w (LogFailed e.session e.seq) e.session own c.requires.own.1 few (λ t. failure_counts t book.state.history e.session e.seq),
    )

pub put_back-requires : goal.put_back-requires
put_back-requires c = record { some = still_own (event_or_fault (Sched c.args.e) (LogFailed c.args.e.session c.args.e.seq) c.finish_entry-result.result) c.args.self.now.view c.taken-counter.ensures.own c.finish_entry-result.ensures.own }

pub check_count-requires-2 : goal.check_count-requires-2
check_count-requires-2 c = record { board = (c.put_back.ensures.board _ c.finish_entry-result.ensures.on).0 }

pub returns-clause-board : goal.returns-clause-board
returns-clause-board c = (c.finish_entry-result.ensures.board, c.check_count-2.ensures.board ∙ ((c.put_back.ensures.board _ c.finish_entry-result.ensures.on).0 ∙ sym c.requires.board.1))

pub returns-clause-seat : goal.returns-clause-seat
returns-clause-seat c =
    let o = event_or_fault (Sched c.args.e) (LogFailed c.args.e.session c.args.e.seq) c.finish_entry-result.result in
    let taken = c.taken-counter.ensures.own ∙ ap (λ (z : SeatView). Some z) c.check_count.ensures.pass in
    (finished_own c.args.self.now.view (pass_view c.args.p.now) c.finish_entry-result.new.self.view (pass_view c.put_back.new.p) _ _ o taken c.finish_entry-result.ensures.seat c.finish_entry-result.ensures.own c.put_back.ensures.own).0

pub returns-clause-pass : goal.returns-clause-pass
returns-clause-pass c =
    let o = event_or_fault (Sched c.args.e) (LogFailed c.args.e.session c.args.e.seq) c.finish_entry-result.result in
    let taken = c.taken-counter.ensures.own ∙ ap (λ (z : SeatView). Some z) c.check_count.ensures.pass in
    c.check_count-2.ensures.pass
    ∙ (finished_own c.args.self.now.view (pass_view c.args.p.now) c.finish_entry-result.new.self.view (pass_view c.put_back.new.p) _ _ o taken c.finish_entry-result.ensures.seat c.finish_entry-result.ensures.own c.put_back.ensures.own).1

pub returns-clause-told : goal.returns-clause-told
returns-clause-told c =
    let o = event_or_fault (Sched c.args.e) (LogFailed c.args.e.session c.args.e.seq) c.finish_entry-result.result in
    let v = c.args.self.now.view in
    let w = pass_view c.args.p.now in
    let front_of : SeatView → List Event = λ u. u.front in
    ap front_of (returns-clause-pass c) ∙ (own_front v w o (c.requires.told ∙ sym c.legal.ensures.front) ∙ (sym (ap front_of (returns-clause-seat c)) ∙ c.legal-2.ensures.front))

pub returns-clause-counted : goal.returns-clause-counted
returns-clause-counted c =
    let o = event_or_fault (Sched c.args.e) (LogFailed c.args.e.session c.args.e.seq) c.finish_entry-result.result in
    let same = c.check_count-2.ensures.pass in
    let own = ap (λ (u : SeatView). u.own_session) (sym same ∙ returns-clause-pass c) ∙ (own_same c.args.self.now.view (pass_view c.args.p.now) o ∙ c.requires.own.0) in
    let front = ap (λ (u : SeatView). u.front) (sym same) ∙ returns-clause-told c in
    subst (λ (x : ℕ × List Event × ℕ). event_count_of x.0 x.1 ≤ x.2) (λ i. (own i, front i, sym (ap (λ (u : SeatView). u.count) same) i))
    (c.check_count-2.ensures.counted (subst (λ n. 0 < n) (sym own) c.requires.own.1))

pub returns-clause-still_gives : goal.returns-clause-still_gives
returns-clause-still_gives c = λ gives.
    let e = c.args.e in
    let old = c.args.self.now in
    let r = c.finish_entry-result in
    let o = event_or_fault (Sched e) (LogFailed e.session e.seq) r.result in
    let same = finished_greatest old.state e c.args.appended r.new.self.state r.ensures.state in
    let next = own_gives old.view (pass_view c.args.p.now) old.state.greatest o (low_sessions old.state.greatest e r.result c.requires.given) gives in
    subst (λ (x : ℕ × SeatView). x.0 + 1 ≡ next_session x.1) (λ k. (sym same k, sym (returns-clause-seat c) k)) next
