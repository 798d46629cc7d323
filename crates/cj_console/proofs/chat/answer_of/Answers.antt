use Rattle.std.proofs.Common.{List, ℕ, inr, ◌∙◌, subst}
use Rattle.cj_board.specs.Seats.{pass_view}
use Rattle.cj_console.specs.Answers.{AnswersLine}
use Rattle.cj_console.proofs.Chatting.{served_of, standing_at}
use Rattle.cj_console.proofs.chat.answer_of.Goals as goal

pub returns-in-Some-clause-answers : goal.returns-in-Some-clause-answers
returns-in-Some-clause-answers g c text taken =
    let s = served_of g.B.Backend.tells g.D.Store.tells g.J.Naming.layout g.D.Store.held g.D.Store.faults in
    let is = rw c.in-Some.is at taken in
    inr (
      is.1,
      subst (λ (x : List ℕ). AnswersLine s x (standing_at (pass_view c.args.pass.now.seat) c.args.shelf.now) (standing_at (pass_view c.answer_line.new.pass.seat) c.answer_line.new.shelf) c.answer_line.result)
          (c.deref.ensures.value ∙ is.0) c.answer_line.ensures.answers,
    )
