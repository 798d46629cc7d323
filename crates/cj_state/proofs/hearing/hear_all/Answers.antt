use Rattle.std.proofs.Common.{◌≡◌, ℕ, List, ap, sym, ◌∙◌, subst, arith, ⊎_elim}
use Rattle.cj_state.proofs.Cited.{CellState, Contains, cases_eq, heard_then, position_in, states_of}
use Rattle.cj_state.proofs.hearing.hear_all.Goals as goal

pub loop-b-preserved : goal.loop-b-preserved
loop-b-preserved g c =
    let l = c.loop-b in
    let i = l.invariant in
    let of = c.hear.ensures.heard in (
      c.hear.ensures.at,
      heard_then c.args.book.now l.book c.hear.new.book i.1 of.heard,
      c.hear.ensures.cells ∙ i.2,
      λ b p lt there.
          ⊎_elim
          (λ (e : b ≡ l.b).
          subst (λ (k : ℕ). Contains c.hear.new.book.view.position_notes (k, p)) (sym e)
          (of.position p (ap (λ (xs : List CellState). position_in xs l.b) i.2 ∙ (ap (position_in (states_of c.args.cells.now.items)) (sym e) ∙ there))))
          (λ (ne : b ≡ l.b → ⊥). of.heard.notes (b, p) (i.3 b p (omega (arith, lt, ne)) there)) (cases_eq b l.b),
    )
