use Rattle.std.proofs.Common.{refl, sym, ◌∙◌, subst}
use Rattle.cj_recovery.proofs.Common.{Entry, both_ways}
use Rattle.cj_recovery.specs.Proving.Steps.{FindsAct}
use Rattle.cj_recovery.proofs.OneOpening.{no_next_entry}
use Rattle.cj_recovery.proofs.grown.Grown.next_entry.Goals.{then-is_of_session, else-is_of_session}
use Rattle.cj_recovery.proofs.grown.Grown.next_entry.Goals as goal

pub returns-else-is_of_administrator : goal.returns-else-is_of_administrator
returns-else-is_of_administrator c =
    let x = c.args.item.now in
    let d : Entry = record { session = x.session; seq = x.seq; tx = x.tx; user = c.in_ok-copy.field-0; act = c.in-Some.act } in
    elim c.if-is_of_session.branch [
      | then-is_of_session w ↦ absurd (both_ways c.if-is_of_session.value c.if-is_of_administrator.false (w.value-is ∙ w.if-is_of_session.true))
      | else-is_of_session w ↦ no_next_entry c.args.self.now.events.items x d refl refl refl c.in_ok-copy.ensures (subst (FindsAct x.text) c.in-Some.is c.in_ok-act.ensures)
          (λ s. both_ways c.is_of_session.result w.if-is_of_session.false (c.is_of_session.ensures.1 s))
          (λ a. both_ways w.is_of_administrator.result (sym w.value-is ∙ c.if-is_of_administrator.false) (w.is_of_administrator.ensures.1 a))
    ]
