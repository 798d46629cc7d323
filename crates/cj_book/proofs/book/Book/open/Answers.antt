use Rattle.std.proofs.Common.{◌≡◌, ℕ, ◌<◌, ◌≤◌, List, length, Err, ap, sym, ◌∙◌, subst, arith, refl}
use Rattle.cj_book.proofs.Cited.{BadEntry, Begins, HasBadEntry, LogItem, OpensTo, SeatView, StartError, Starts, book_view, follows_opening, gate_shut, greatest_within, history, items_refused, keeps_opened, opening_counted, opening_gives}
use Rattle.std.proofs.lemmas.List.Elements.{All-nil}
use Rattle.cj_book.proofs.book.Book.open.Goals as goal

pub invariant_of-book : goal.invariant_of-book
invariant_of-book g c =
    let layout = c.args.parts.placement in
    let faults = g.S.Store.faults in
    let items = c.in-Ok.opened.1 in
    let h = history c.recover.new.seat in
    let found = c.in-Ok-recover.found in
    let kept = c.in-Ok-recover.ensures.kept in
    let opens = subst (λ (l : List LogItem). OpensTo l h) c.as_slice.ensures c.in-Ok-recover.ensures.opens in
    let done : c.len.result ≡ length found.entries.items = omega arith in
    let count : c.count.result ≡ length layout.names = c.count.ensures.count in
    let some : 0 < c.count.result = c.count.ensures.some in
    let most : c.count.result ≤ 16 = c.count.ensures.most in
    let backends : (0 < length layout.names) × (length layout.names ≤ 16) = (omega arith, omega arith) in (
      record {
        history = rw done (keeps_opened layout items h opens (length layout.names) found.entries.items backends kept.entries);
        follows = rw c.in-Ok-new.ensures (follows_opening layout items h opens found kept);
        marked = kept.marked;
        within = rw kept.greatest (greatest_within h opens.legal);
        owned = rw (ap (λ (v : SeatView). v.given) c.in-Ok-recover.ensures.view ∙ c.requires.none.1) (All-nil _);
      },
      tt,
    )

pub returns-in-Ok-recover-clause-follows : goal.returns-in-Ok-recover-clause-follows
returns-in-Ok-recover-clause-follows g c =
    let faults = g.S.Store.faults in
    let items = c.in-Ok.opened.1 in
    let h = history c.recover.new.seat in
    let opens = subst (λ (l : List LogItem). OpensTo l h) c.as_slice.ensures c.in-Ok-recover.ensures.opens in
    record {
      logged = λ t. opens.same ∙ sym (c.in-Ok.ensures.bytes t).1;
      gate = gate_shut g.S.Store.tells c.in-Ok.opened.0.torn h (λ t. c.in-Ok.ensures.shut);
      faults = opening_counted h (faults c.of-opened_with.result.value) (faults c.in-Ok.opened.0.store) opens.opening (c.in-Ok.ensures.cause ∙ sym (ap faults c.of-opened_with.ensures));
    }

pub returns-in-Err-recover-clause-bytes : goal.returns-in-Err-recover-clause-bytes
returns-in-Err-recover-clause-bytes g c = λ t.
    let held = g.S.Store.held in
    let old = held c.args.store in
    let items = c.in-Ok.opened.1 in
    let store = c.into_store-in-Err-recover.result in
    let opened = c.in-Ok.ensures.bytes t in
    let begins = subst (λ (s : g.row.S.Denot). Begins old (held s)) (sym c.into_store-in-Err-recover.ensures) opened.2 in
    let bad : (n : ℕ) → c.in-Err-recover.error ≡ BadEntry n → HasBadEntry items n = λ n is.
    subst (λ (l : List LogItem). HasBadEntry l n) c.as_slice.ensures (c.in-Err-recover.ensures.bad n (ap (λ x. Err x) is)) in
    subst (λ (error : StartError). Starts held old (Err (error, store))) (sym c.entry_error.ensures) (items_refused held old items c.in-Err-recover.error store opened.0 begins bad)

pub returns-in-Ok-recover-clause-gives : goal.returns-in-Ok-recover-clause-gives
returns-in-Ok-recover-clause-gives g c = λ none.
    let v = book_view c.recover.new.seat in
    let h = history c.recover.new.seat in
    let opens = subst (λ (l : List LogItem). OpensTo l h) c.as_slice.ensures c.in-Ok-recover.ensures.opens in
    let last = ap (λ (u : SeatView). u.last_given) c.in-Ok-recover.ensures.view ∙ none in
    opening_gives h c.in-Ok-recover.found.greatest v opens.opening refl last c.in-Ok-recover.ensures.kept.greatest
