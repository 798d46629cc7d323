use Rattle.std.proofs.Common.{◌≤◌, ◌+◌, ◌==◌, cond, Err, inr, refl, ap, sym, subst}
use Rattle.cj_state.proofs.Cited.{BookError, CellReadError, Notes, SeatView, SpendsAtMostOne, Unnoted, fault_tokens_of, read_spends}
use Rattle.cj_state.proofs.cells.noted.Goals as goal

pub returns-in-Err-HistoryFull-clause-notes : goal.returns-in-Err-HistoryFull-clause-notes
returns-in-Err-HistoryFull-clause-notes c =
    let full = (c.in-Err-HistoryFull.ensures.state.full c.in-Err-HistoryFull.events).0 (ap (λ (e : BookError). Err e) c.in-Err-HistoryFull.field-0-is) in
    subst (λ (d : CellReadError). Notes c.args.book.now.state c.args.session c.args.seq c.args.b d (Unnoted c.in-Err-HistoryFull.events) c.read_failed.new.self.state) (sym c.in-Failed.is)
    (inr (c.in-Err-HistoryFull.events, refl, full, c.in-Err-HistoryFull.ensures.state.err))

pub returns-in-Ok-clause-tokens : goal.returns-in-Ok-clause-tokens
returns-in-Ok-clause-tokens c =
    subst (λ (d : CellReadError). SpendsAtMostOne d c.args.b c.args.book.now.view.fault_tokens c.read_failed.new.self.view.fault_tokens) (sym c.in-Failed.is)
    (λ k. subst (λ (v : SeatView). fault_tokens_of k c.args.book.now.view.fault_tokens ≤ fault_tokens_of k v.fault_tokens + cond (k == c.args.b) 1 0) (sym c.in-Ok.ensures.seat) (read_spends c.args.session c.args.seq c.args.b k c.args.book.now.view))
