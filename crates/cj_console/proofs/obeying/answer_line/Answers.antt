use Rattle.std.proofs.Common.{List, ℕ, sym, subst}
use Rattle.cj_board.specs.Seats.{pass_view}
use Rattle.cj_commands.specs.Commands.{CommandLine}
use Rattle.cj_console.specs.Answers.{AnswersLine}
use Rattle.cj_console.proofs.Answering.{can_obey, command_answered, unread_answered}
use Rattle.cj_console.proofs.Chatting.{served_of, standing_at}
use Rattle.cj_console.proofs.obeying.answer_line.Goals as goal

pub obey-requires-clause-can : goal.obey-requires-clause-can
obey-requires-clause-can g c =
    can_obey g.J.Naming.layout.names c.args.line.now c.in-Ok.command (subst (λ (names : List (List ℕ)). CommandLine names c.args.line.now c.in-Ok.command) c.names_of.ensures.names c.in-Ok.ensures.ok)

pub returns-in-Ok-clause-answers : goal.returns-in-Ok-clause-answers
returns-in-Ok-clause-answers g c =
    let s = served_of g.B.Backend.tells g.D.Store.tells g.J.Naming.layout g.D.Store.held g.D.Store.faults in
    command_answered s c.args.line.now c.in-Ok.command (standing_at (pass_view c.args.pass.now.seat) c.args.shelf.now) (standing_at (pass_view c.obey.new.pass.seat) c.obey.new.shelf) c.obey.result
    (subst (λ (names : List (List ℕ)). CommandLine names c.args.line.now c.in-Ok.command) c.names_of.ensures.names c.in-Ok.ensures.ok) c.obey.ensures.answers

pub returns-in-Err-clause-answers : goal.returns-in-Err-clause-answers
returns-in-Err-clause-answers g c =
    let s = served_of g.B.Backend.tells g.D.Store.tells g.J.Naming.layout g.D.Store.held g.D.Store.faults in
    let a = standing_at (pass_view c.args.pass.now.seat) c.args.shelf.now in
    let none = rw c.names_of.ensures.names at c.in-Err.ensures.no_command in
    let lacks = rw c.names_of.ensures.names at c.in-Err.ensures.no_backend in
    subst (AnswersLine s c.args.line.now a a) (sym c.refusal_of.ensures) (unread_answered s c.args.line.now a c.in-Err.unread none lacks)
