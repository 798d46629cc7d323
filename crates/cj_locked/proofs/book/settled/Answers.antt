use Rattle.std.proofs.Common.{◌&&◌, not, Bool, refl, ap, ◌∙◌}
use Rattle.cj_model.specs.Cluster.Masks.{in_mask}
use Rattle.cj_model.proofs.MaskBits.{has-and}
use Rattle.cj_locked.proofs.book.settled.Goals as goal

pub returns : goal.returns
returns c = record {
  taken = refl;
  first_outcome = refl;
  failed = λ b. c.without.ensures b ∙ ap (λ (t : Bool). t && not (in_mask c.args.tally.taken b)) (has-and c.args.enabled c.args.tally.failed b);
  starved = λ b. c.without-3.ensures b ∙ ap (λ (t : Bool). t && not (in_mask c.args.tally.failed b)) (c.without-2.ensures b);
}
