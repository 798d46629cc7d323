use Rattle.std.proofs.Common.{ℕ, List, refl, ap, ◌∙◌}
use Rattle.cj_book.specs.Books.{is_candidate}
use Rattle.cj_locked.proofs.Failing.{serves_some}
use Rattle.cj_locked.proofs.failure.unnoted.Goals as goal

pub returns-else-serving-eq0 : goal.returns-else-serving-eq0
returns-else-serving-eq0 c = λ s q b. (
  c.requires.full,
  c.events.ensures,
  refl,
  serves_some c.args.book.now.state c.args.select.now c.candidates-serving.result
      (λ k. c.candidates-serving.ensures.hosts k ∙ ap (λ (tables : List (List ℕ)). is_candidate c.args.book.now.state tables k) c.as_slice.ensures) c.if-serving-eq0.false c.candidates-serving.ensures.below,
)
