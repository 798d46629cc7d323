use Rattle.std.proofs.Common.{sym, subst, List}
use Rattle.cj_cluster.specs.declared.event.Event.{Event}
use Rattle.cj_place.specs.Layouts.{Layout}
use Rattle.cj_board.specs.Seats.{pass_view}
use Rattle.cj_console.specs.Answers.{AreRightDumps, Standing}
use Rattle.cj_console.specs.Chats.{ChatsTo}
use Rattle.cj_served.proofs.started.serve_at.Goals as goal

pub chat_and_serve-ends-requires-clause-dumps : goal.chat_and_serve-ends-requires-clause-dumps
chat_and_serve-ends-requires-clause-dumps g c κs within = subst (λ (h : List Event). AreRightDumps g.B.Backend.tells h c.args.shelf.now.dumps) (sym c.in-Ok.ensures.seen) c.requires.dumps

pub returns-clause-chats : goal.returns-clause-chats
returns-clause-chats g c =
    let chat = c.chat_and_serve-ends in
    let before : Standing g.row.D.Denot = record { view = pass_view c.in-Ok.pass.seat; shelf = c.args.shelf.now } in
    let after : Standing g.row.D.Denot = record { view = pass_view chat.new.pass.seat; shelf = chat.new.shelf } in (
      before.view,
      after,
      c.in-Ok.ensures.seen,
      subst
          (λ (l : Layout). ChatsTo (record { tells = g.B.Backend.tells; kept = g.D.Store.tells; layout = l; held = g.D.Store.held; faults = g.D.Store.faults }) (g.I.Source.left c.args.input.now) (g.I.Source.left chat.new.input) (g.O.Sink.held c.args.output.now) (g.O.Sink.held chat.new.output) before chat.result.0 after)
          (sym c.requires.layout) chat.ensures.chats,
    )
