use Rattle.std.proofs.Common.{◌≡◌, ◌+◌, [], ◌∷◌, ◌++◌, length, map, ap, sym, subst, refl, ◌∙◌, arith}
use Rattle.cj_book.proofs.Cited.{Entry, HasCountNotes, IsLegal, LogFailed, Sched, book_view, by_tables, entry_ready, follows_log_failed, follows_sched, given_after, hearing, history, kept_log_failed, kept_sched, legal_push, log, numbers_after, numbers_before, own_view, placement_of, seen_after, session_number, sessions_after, transactions_after, without_touched}
use Rattle.cj_book.proofs.book.Book.finish_entry.Goals as goal

-- ---- the log's store failed

pub announce-requires-clause-legal : goal.announce-requires-clause-legal
announce-requires-clause-legal c =
    let b = c.self.inside in
    let pending = rw (← c.self.view_is) at c.requires.pending in
    let ready = entry_ready (history b.seat) _ _ _ b.pending c.self.invariant.1 pending in
    let space = ready.space in
    (follows_log_failed _ _ _ _ _ _ c.self.invariant.0.follows c.args.e.session c.args.e.seq (omega (arith, space)) ready.idle).legal

pub announce-requires-clause-unfailed : goal.announce-requires-clause-unfailed
announce-requires-clause-unfailed c = λ b. refl

pub announce-requires-clause-unplaced : goal.announce-requires-clause-unplaced
announce-requires-clause-unplaced c = λ notes. tt

pub announce-requires-clause-counts : goal.announce-requires-clause-counts
announce-requires-clause-counts c = let counted = rw (← c.self.view_is) at c.requires.counted in counted.1

pub invariant_of-self-in-Err-Failed : goal.invariant_of-self-in-Err-Failed
invariant_of-self-in-Err-Failed c =
    let b = c.self.inside in
    let pending = rw (← c.self.view_is) at c.requires.pending in
    let ready = entry_ready (history b.seat) _ _ _ b.pending c.self.invariant.1 pending in
    let space = ready.space in
    rw (seen_after (LogFailed c.args.e.session c.args.e.seq) (own_view c.args.counter.now) (book_view b.seat) c.announce.ensures.book, given_after (LogFailed c.args.e.session c.args.e.seq) (own_view c.args.counter.now) (book_view b.seat) c.announce.ensures.book)
    (kept_log_failed c.self.invariant.0 c.args.e.session c.args.e.seq (omega (arith, space)) ready.idle, tt)

-- ---- the entry comes

pub follow-requires-clause-above : goal.follow-requires-clause-above
follow-requires-clause-above c =
    let b = c.self.inside in
    let count = rw (← c.self.view_is) at c.length-number.ensures in
    numbers_before (placement_of b.placement) (log (history b.seat)) b.transactions.list (c.length-number.result + 1) c.args.e c.self.invariant.0.follows.transactions (ap (λ n. n + 1) count)

pub follow-requires-clause-place : goal.follow-requires-clause-place
follow-requires-clause-place c =
    let b = c.self.inside in
    let pending = rw (← c.self.view_is) at c.requires.pending in
    (entry_ready (history b.seat) _ _ _ b.pending c.self.invariant.1 pending).tx_place

pub put_entry-requires-clause-room : goal.put_entry-requires-clause-room
put_entry-requires-clause-room c =
    let b = c.self.inside in
    let pending = rw (← c.self.view_is) at c.requires.pending in
    let place = (entry_ready (history b.seat) _ _ _ b.pending c.self.invariant.1 pending).place in
    omega (arith, place)

pub put_entry-requires-clause-legal : goal.put_entry-requires-clause-legal
put_entry-requires-clause-legal c =
    let b = c.self.inside in
    let h = history b.seat in
    let pending = rw (← c.self.view_is) at c.requires.pending in
    let fit = rw (← c.self.view_is) at c.requires.fit in
    let ready = entry_ready h _ _ _ b.pending c.self.invariant.1 pending in
    let space = ready.space in
    subst (λ (x : Entry). IsLegal (h ++ Sched x ∷ [])) (sym c.filled.ensures) (legal_push h (Sched c.args.e) c.self.invariant.0.follows.legal (omega (arith, space)) (ready.idle, fit))

pub put_entry-requires-clause-counts : goal.put_entry-requires-clause-counts
put_entry-requires-clause-counts c =
    let v = book_view c.self.inside.seat in
    let u = hearing (own_view c.args.counter.now) v in
    let counted = rw (← c.self.view_is) at c.requires.counted in
    subst (λ (x : Entry). HasCountNotes u.given v.front u.count_notes (Sched x)) (sym c.filled.ensures) counted.0

pub invariant_of-self-2 : goal.invariant_of-self-2
invariant_of-self-2 c =
    let b = c.self.inside in
    let k = c.self.invariant.0 in
    let h = history b.seat in
    let e = c.args.e in
    let hosts = c.args.prepared.hosts in
    let pending = rw (← c.self.view_is) at c.requires.pending in
    let fit = rw (← c.self.view_is) at c.requires.fit in
    let given = rw (← c.self.view_is) at c.requires.given in
    let prepared = rw (← c.self.view_is) at c.requires.prepared in
    let ready = entry_ready h _ _ _ b.pending c.self.invariant.1 pending in
    let count = rw (← c.self.view_is) at c.length-number.ensures in
    let space = ready.space in
    let entries : c.put_entry.new.entries.items ≡ b.entries.items ++ e ∷ [] = c.put_entry.ensures.entries ∙ ap (λ (x : Entry). b.entries.items ++ x ∷ []) c.filled.ensures in
    let events : history c.put_entry.new.seat ≡ h ++ Sched e ∷ [] = seen_after (Sched c.filled.result) (own_view c.args.counter.now) (book_view b.seat) c.put_entry.ensures.view ∙ ap (λ (x : Entry). h ++ Sched x ∷ []) c.filled.ensures in
    let sessions : c.follow-2.new.self ≡ sessions_after b.sessions (length (log h) + 1) e e.act = c.follow-2.ensures ∙ ap (λ n. sessions_after b.sessions (n + 1) e e.act) count in
    let transactions : c.follow.new.self.list ≡ transactions_after b.transactions.list (length (log h) + 1) hosts e e.act = c.follow.ensures ∙ ap (λ n. transactions_after b.transactions.list (n + 1) hosts e e.act) count in
    let follows = follows_sched _ _ _ _ _ _ k.follows b.balancer b.cache e hosts b.enabled fit given ready.idle (omega (arith, space)) prepared.hosts k.history.mask in
    let owners = given_after (Sched c.filled.result) (own_view c.args.counter.now) (book_view b.seat) c.put_entry.ensures.view in
    rw (entries, events, owners, sessions, transactions) (kept_sched k e ready.idle space follows (numbers_after (log h) e b.sessions (length (log h) + 1)), tt)

pub returns-clause-state : goal.returns-clause-state
returns-clause-state c =
    let b = c.self.inside in
    let h = history b.seat in
    let e = c.args.e in
    let prepared = rw (← c.self.view_is) at c.requires.prepared in
    let events : history c.put_entry.new.seat ≡ h ++ Sched e ∷ [] = seen_after (Sched c.filled.result) (own_view c.args.counter.now) (book_view b.seat) c.put_entry.ensures.view ∙ ap (λ (x : Entry). h ++ Sched x ∷ []) c.filled.ensures in
    let numbers : map session_number c.follow-2.new.self ≡ map session_number b.sessions = ap (map session_number) c.follow-2.ensures ∙ numbers_after (log h) e b.sessions (c.length-number.result + 1) in
    let touched : c.drop_needing.new.self ≡ without_touched (log h) e b.cache = c.drop_needing.ensures ∙ by_tables (log h) e c.args.prepared.tables b.cache prepared.tables in
    rw (← c.self.view_is, c.in-Ok.is, events, numbers, touched) refl
