use Rattle.std.proofs.Common.{◌≡◌, ◌∙◌, sym, ap, subst, true, List, map}
use Rattle.cj_cluster.specs.declared.event.Event.{Event}
use Rattle.cj_log.specs.Logs.{KeepsItems}
use Rattle.cj_log.specs.declared.item.LogItem.{LogItem}
use Rattle.cj_place.specs.Layouts.{placement_of}
use Rattle.cj_shelf.specs.Shelves.{KeepsDumps}
use Rattle.cj_state.specs.Worlds.{Setup}
use Rattle.cj_core.specs.Starts.{state_by}
use Rattle.cj_console.specs.Answers.{AreRightDumps}
use Rattle.cj_served.proofs.FromStart.{chats_from, right_at_start}
use Rattle.cj_served.proofs.started.serve_over.Goals as goal

-- the dumps of the shelf may be loaded at the history of the start
pub serve_at-served-requires-clause-dumps : goal.serve_at-served-requires-clause-dumps
serve_at-served-requires-clause-dumps g c κs within =
    let backend = g.B.Backend in
    let found : List LogItem → Type 0 = λ items. g.S.Store.tells ≡ true → KeepsItems (g.S.Store.held c.args.log) items in
    let right =
    right_at_start found (placement_of c.args.parts.book.placement) (map (state_by backend.told backend.faults backend.asks backend.login backend.arming) c.args.backends) c.in-Ok.world c.in-Ok.ensures.started backend.tells g.D.Store.tells
    (KeepsDumps (g.D.Store.held c.args.dumps)) c.in-Ok-open.shelf.dumps c.requires.kept c.requires.of_log (λ told. (c.in-Ok-open.ensures.bytes told).0)
    in
    subst (λ (h : List Event). AreRightDumps backend.tells h c.in-Ok-open.shelf.dumps) (sym c.into_shared-shared.ensures.parts.book.history) right

pub returns-in-Ok-served-clause-served : goal.returns-in-Ok-served-clause-served
returns-in-Ok-served-clause-served g c =
    let served = c.in-Ok-served.ensures.chats in
    let book = c.into_shared-shared.ensures.parts.book in
    let names = ap (λ (s : Setup). s.names) c.in-Ok.ensures.setup in (
      c.in-Ok.world,
      c.in-Ok.ensures.started,
      c.in-Ok.ensures.setup,
      c.in-Ok.ensures.cache,
      chats_from g.B.Backend.tells g.D.Store.tells c.args.parts.book.placement c.into_shared-shared.result.book.state.layout g.D.Store.held g.D.Store.faults c.args.dumps (g.I.Source.left c.args.input.now) (g.I.Source.left c.serve_at-served.new.input)
          (g.O.Sink.held c.args.output.now) (g.O.Sink.held c.serve_at-served.new.output) c.in-Ok.world c.in-Ok-open.shelf c.in-Ok-served.ends.0 (book.names ∙ names) (book.placement ∙ c.in-Ok.ensures.started.started.placement) (λ told. c.in-Ok-open.ensures.bytes told)
          served.0 (served.2 ∙ book.history) served.1 served.3,
    )
