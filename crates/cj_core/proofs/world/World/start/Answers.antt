use Rattle.std.proofs.Common.{ℕ, List, map, sym, ap, ◌∙◌, subst, ◌≡◌, true}
use Rattle.cj_core.proofs.Cited.{CellState, Core, Event, IsPrefix, KeepsItems, Layout, LogItem, LogView, LosesNothing, OpensTo, WorldState, started_backend, fault_of_start, items_of, loses_nothing, opened_core, placement_of, refused_again, refused_part, started_well, starts_from, state_by}
use Rattle.cj_start.proofs.StartNumbers.{started_numbers}
use Rattle.cj_core.proofs.world.World.start.Goals as goal

pub returns-in-Ok-brought-clause-started : goal.returns-in-Ok-brought-clause-started
returns-in-Ok-brought-clause-started g c =
    let b = g.B.Backend in
    let book = c.in_ok-book.book.state in
    let opened = c.in_ok-book.ensures.started in
    let went = c.in-Ok-brought.ensures in
    starts_from (λ (items : List LogItem). g.S.Store.tells ≡ true → KeepsItems (g.S.Store.held c.args.log) items) (items_of book.history) (placement_of c.args.parts.book.placement) book.history
    (map (state_by b.told b.faults b.asks b.login b.arming) c.args.backends) c.new-state.result c.bring_up-brought.new.state (λ tells. (c.in_ok-book.ensures.bytes tells).0) opened.opens
    (c.new-state.ensures.core ∙ ap (λ (l : Layout). opened_core (placement_of l) book.history) opened.layout)
    (ap (λ (cells : List CellState). map started_backend cells) c.new-state.ensures.cells ∙ c.in-Ok.ensures.same) went.started went.uncalled

pub returns-in-Ok-brought-clause-kept : goal.returns-in-Ok-brought-clause-kept
returns-in-Ok-brought-clause-kept g c = λ t.
    let book = c.in_ok-book.book.state in
    let opened = c.in_ok-book.ensures.started in
    let core = c.new-state.ensures.core in
    let opens : OpensTo (items_of c.new-state.result.core.history) c.new-state.result.core.history = subst (λ (h : List Event). OpensTo (items_of h) h) (sym (ap (λ (k : Core). k.history) core)) opened.opens in
    (c.legal.ensures.logged t).whole (started_well (items_of c.new-state.result.core.history) _ _ _ c.bring_up-brought.new.state opens c.in-Ok-brought.ensures.started)

pub returns-in-Ok-brought-clause-numbers : goal.returns-in-Ok-brought-clause-numbers
returns-in-Ok-brought-clause-numbers g c =
    let opened = c.in_ok-book.ensures.started in
    let core = c.new-state.ensures.core in
    let opens : OpensTo (items_of c.new-state.result.core.history) c.new-state.result.core.history = subst (λ (h : List Event). OpensTo (items_of h) h) (sym (ap (λ (k : Core). k.history) core)) opened.opens in
    started_numbers _ _ _ c.bring_up-brought.new.state opens.opening c.in-Ok-brought.ensures.started

pub returns-in_err-book-clause-bytes : goal.returns-in_err-book-clause-bytes
returns-in_err-book-clause-bytes g c = λ t. refused_again g.S.Store.held (g.S.Store.held c.args.log) c.from_residual.result c.in_err-book.field-0.0 c.from_residual.ensures.1 (c.in_err-book.ensures.bytes t)

pub returns-in-Err-clause-bytes : goal.returns-in-Err-clause-bytes
returns-in-Err-clause-bytes g c = λ t.
    let held = g.S.Store.held in
    let old = held c.args.log in
    let book = c.in_ok-book.book.state in
    let opened = c.in_ok-book.ensures.started in
    let core = c.new-state.ensures.core in
    let now = c.bring_up-brought.new.state in
    let same : c.new-state.result.core.history ≡ book.history = ap (λ (k : Core). k.history) core in
    let longer = subst (λ (h : List Event). IsPrefix h now.core.history) same c.bring_up-brought.ensures.longer in
    let nothing = loses_nothing old now.recovery_log.bytes (items_of book.history) book.history now.core.history (c.in_ok-book.ensures.bytes t).0 opened.opens longer (c.legal.ensures.logged t) in
    refused_part Unit WorldState held old c.in-Err.error _ _ _ c.in-Err.ensures.cause (subst (λ (bytes : List ℕ). LosesNothing old bytes) (sym c.into_log.ensures.bytes) nothing)

pub returns-in-Err-clause-cause : goal.returns-in-Err-clause-cause
returns-in-Err-clause-cause g c = fault_of_start Unit g.S.Store.faults _ c.in-Err.error _ _ _ (ap (λ (l : LogView). l.faults) c.new-state.ensures.recovery_log ∙ c.in_ok-book.ensures.cause) c.into_log.ensures.faults c.in-Err.ensures.cause
