use Rattle.std.proofs.Common.{◌≡◌, ◌+◌, ◌-◌, ◌<◌, ◌≤◌, None, Some, List, ◌++◌, ◌∷◌, [], length, map, ap, sym, ◌∙◌, arith}
use mathlib.Core.List.{map-append}
use Rattle.std.specs.List.{slice_get}
use Rattle.cj_cluster.specs.History.Histories.{log}
use Rattle.cj_log.specs.declared.item.LogItem.TheVariants as items
use Rattle.cj_log.specs.declared.item.LogMarker.{LogMarker}
use Rattle.cj_recovery.specs.Openings.{entry_item}
use Rattle.cj_locked.specs.declared.listing.ShownItem.TheVariants as shown
use Rattle.cj_locked.specs.Listing.{item_of, markers_after, markers_before}
use Rattle.cj_locked.proofs.Merging.{is_behind, shows_all, shows_first, shows_next}
use Rattle.cj_locked.proofs.listing.shown_of.Goals as goal

pub loop-index-init : goal.loop-index-init
loop-index-init c =
    shows_first c.args.first c.args.last c.args.book.now.state.history c.saturating_sub-index.result (map item_of c.new-shown.result.items) c.split_at_entry.result.1.now
    c.saturating_sub-index.ensures (ap (map item_of) c.new-shown.ensures.items) (c.split_at_entry.ensures.after ∙ ap (markers_after c.args.first) c.markers.ensures)

pub unreachable-requires : goal.unreachable-requires
unreachable-requires c =
    let h = c.args.book.now.state.history in
    let i = c.loop-index.index in
    let same : c.loop-index.index + 1 - 1 ≡ c.loop-index.index = omega arith in
    let none : slice_get (log c.args.book.now.state.history) c.loop-index.index ≡ None = ap (slice_get (log h)) (sym same) ∙ sym (c.in_default.ensures.numbered (omega arith)) in
    let behind : length (log c.args.book.now.state.history) ≤ c.loop-index.index = is_behind (log h) i none in
    let before : c.loop-index.index < length (log c.args.book.now.state.history) = omega (arith, c.loop-index-test.true, c.min-index-end.ensures, c.length.ensures) in
    absurd (omega arith)

pub loop-index-preserved : goal.loop-index-preserved
loop-index-preserved c =
    let h = c.args.book.now.state.history in
    let i = c.loop-index.index in
    let same : c.loop-index.index + 1 - 1 ≡ c.loop-index.index = omega arith in
    let there : slice_get (log c.args.book.now.state.history) c.loop-index.index ≡ Some c.in-Some.entry.now = ap (slice_get (log h)) (sym same) ∙ sym (c.in-Some.ensures.numbered (omega arith)) in
    let from : c.args.first ≤ c.loop-index.index + 1 = omega (arith, c.saturating_sub-index.ensures, c.loop-index.auto.index) in
    let upto : c.loop-index.index + 1 ≤ c.args.last = omega (arith, c.loop-index-test.true, c.min-index-end.ensures) in
    let marked : map item_of c.show_markers.new.shown.items ≡ map item_of c.loop-index.shown.items ++ map items.Marker (markers_before (c.loop-index.index + 1) c.loop-index.markers.now) =
    c.in_ok-show_markers.ensures ∙ ap (λ (ms : List LogMarker). map item_of c.loop-index.shown.items ++ map items.Marker ms) c.split_at_entry-in-loop-index.ensures.before in
    shows_next c.args.first c.args.last h i (map item_of c.loop-index.shown.items) c.loop-index.markers.now c.loop-index.invariant c.in-Some.entry.now there from upto (map item_of c.push.new.self.items) c.split_at_entry-in-loop-index.result.1.now
    (ap (map item_of) c.in_ok-push.ensures.items
    ∙ (map-append item_of c.show_markers.new.shown.items (shown.Entry (i + 1) c.in_ok-copy.field-0 ∷ []) ∙ (λ j. marked j ++ entry_item (i + 1) (c.in_ok-copy.ensures j) ∷ [])))
    c.split_at_entry-in-loop-index.ensures.after

pub returns : goal.returns
returns c =
    let h = c.args.book.now.state.history in
    c.in_ok-show_markers-2.ensures
    ∙ (ap (λ (ms : List LogMarker). map item_of c.loop-index.shown.items ++ map items.Marker ms) c.split_at_entry-2.ensures.before
    ∙ shows_all c.args.first c.args.last h c.loop-index.index (map item_of c.loop-index.shown.items) c.loop-index.markers.now c.loop-index.invariant (λ less. omega (arith, less, c.loop-index-test.false, c.min-index-end.ensures, c.length.ensures)))
