use Rattle.std.proofs.Common.{◌≡◌, ◌<◌, ◌++◌, ℕ, List, [], ◌∷◌, length, refl, sym, ap, ◌∙◌, subst, arith}
use Rattle.std.specs.Prelude.{Contains}
use Rattle.cj_board.proofs.Common.{Contains-append_left, Contains-append_right, Enabled, Event, log, max_word}
use Rattle.cj_board.specs.Seats.{position}
use Rattle.cj_board.specs.declared.view.SeatView.{SeatView}
use Rattle.cj_book.proofs.LogFollowing.{log_more}
use Rattle.cj_book.specs.BookLogs.{LogFollows}
use Rattle.cj_book.specs.Books.{BookState}
use Rattle.cj_part_tests.proofs.own_passes.enable.Goals as goal

pub enable-requires-clause-position : goal.enable-requires-clause-position
enable-requires-clause-position g c =
    let none : length (log c.args.book.now.state.history) ≡ 0 = omega (arith, c.length.ensures) in
    let begins : position c.args.cell.now ≡ 0 = c.requires.cell.2 in
    let end : position c.args.cell.now ≡ length (log c.learn.new.self.state.history) = begins ∙ sym (ap (λ (b : BookState). length (log b.history)) c.learn.ensures.state ∙ none) in
    let noted = c.report.ensures.position (subst (λ n. n < max_word) (sym begins) (omega arith)) in
    let heard = Contains-append_right _ _ _ (Contains-append_left _ _ _ noted) in
    let learned = subst (λ (v : SeatView). Contains v.position_notes (c.args.cell.now.b, position c.args.cell.now)) (sym c.learn.ensures.book) heard in
    subst (λ (note : ℕ × ℕ). Contains c.learn.new.self.view.position_notes note) (λ i. (c.requires.cell.1 i, end i)) learned

pub returns-clause-follows : goal.returns-clause-follows
returns-clause-follows g c =
    let enabled = ap (λ (b : BookState). b.history) c.in-Ok.ensures.state.ok in
    let same = ap (λ (b : BookState). b.history ++ Enabled 0 ∷ []) c.learn.ensures.state in
    subst (λ (h : List Event). LogFollows g.S.Store.tells g.S.Store.faults c.args.recovery_log.now h) (sym (enabled ∙ same))
    (log_more c.requires.follows (Enabled 0) (λ n. refl) (λ failed. refl) refl)
