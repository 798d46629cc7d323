use Rattle.std.proofs.Common.{◌≡◌, ◌∙◌, sym, ap, subst, ℤ, w64}
use Rattle.std.proofs.lemmas.Int.{to_z-of_z}
use Rattle.cj_macro.proofs.Common.{bounds, draws_from, IsWritten, rewritten}
use Rattle.cj_macro.proofs.Drawing.{draws_small}
use Rattle.cj_macro.proofs.RewrittenTerms.{in_range}
use Rattle.cj_macro.proofs.Written.{rewritten_is_written}
use Rattle.cj_macro.proofs.statement.rewrite.Goals as goal

pub returns-clause-written : goal.returns-clause-written
returns-clause-written g c text reads =
    let r = c.args.request in
    let draws = draws_from g.D.Draw.drawn g.D.Draw.later c.args.draw.now (bounds r) in
    let small = draws_small g.D.Draw.drawn g.D.Draw.later g.met.D.Draw.drawn_below c.args.draw.now (bounds r) c.requires in
    let is : c.rewrite.new.self ≡ rewritten c.args.now draws r = c.rewrite.ensures.rewritten ∙ ap (λ (moment : ℤ). rewritten moment draws r) (to_z-of_z w64 c.args.now c.ranges.now) in
    subst IsWritten (sym is) (rewritten_is_written c.args.now draws (in_range c.args.now c.ranges.now.sfits) small text r reads)
