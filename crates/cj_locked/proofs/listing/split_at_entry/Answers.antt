use Rattle.std.proofs.Common.{ℕ, take, drop, ap, ◌∙◌}
use Rattle.cj_locked.proofs.Merging.{after_dropped, before_taken}
use Rattle.cj_locked.proofs.listing.split_at_entry.Goals as goal

pub returns-clause-before : goal.returns-clause-before
returns-clause-before c = c.split_at.ensures.front ∙ (ap (λ (k : ℕ). take k c.args.markers.now) c.count_before.ensures.count ∙ before_taken c.args.n c.args.markers.now)

pub returns-clause-after : goal.returns-clause-after
returns-clause-after c = c.split_at.ensures.back ∙ (ap (λ (k : ℕ). drop k c.args.markers.now) c.count_before.ensures.count ∙ after_dropped c.args.n c.args.markers.now)
