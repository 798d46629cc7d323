use Rattle.std.proofs.Common.{◌≡◌, ◌≤◌, ap, sym, ◌∙◌, subst, refl, ℕ}
use Rattle.cj_calls.proofs.Cited.{Core, Placement, each_taken, is_free, taken_everywhere, taken_none, taken_to_next}
use Rattle.cj_calls.proofs.write.take_everywhere.Goals as goal

pub loop-b-preserved : goal.loop-b-preserved
loop-b-preserved g c =
    let before = c.loop-b.invariant in
    let takes = c.take_if_due.ensures in
    record {
      to = taken_to_next c.args.state.now c.loop-b.state c.take_if_due.new.state c.loop-b.b before.to takes.taken takes.at_end takes.here takes.others;
      running = ap (λ (k : Core). is_free k.history) takes.taken.core ∙ before.running;
      placement = ap (λ (k : Core). k.placement) takes.taken.core ∙ before.placement;
    }

pub loop-b-init : goal.loop-b-init
loop-b-init g c = record { to = taken_none c.args.state.now; running = c.requires.open; placement = refl }

pub returns-clause-each : goal.returns-clause-each
returns-clause-each g c =
    let here : c.count-b-end.result ≡ c.loop-b.state.core.placement.backends =
    c.count-b-end.ensures.count ∙ (ap (λ (p : Placement). p.backends) c.placement.ensures.placement ∙ sym (ap (λ (p : Placement). p.backends) c.loop-b.invariant.placement))
    in
    each_taken c.args.state.now c.loop-b.state c.loop-b.b c.legal.ensures.world.sound (subst (λ (n : ℕ). n ≤ c.loop-b.b) here c.loop-b-test.false) c.loop-b.invariant.to

pub returns-clause-at_end : goal.returns-clause-at_end
returns-clause-at_end g c =
    let here : c.count-b-end.result ≡ c.loop-b.state.core.placement.backends =
    c.count-b-end.ensures.count ∙ (ap (λ (p : Placement). p.backends) c.placement.ensures.placement ∙ sym (ap (λ (p : Placement). p.backends) c.loop-b.invariant.placement))
    in
    taken_everywhere c.args.state.now c.loop-b.state c.loop-b.b c.legal.ensures.world.sound (subst (λ (n : ℕ). n ≤ c.loop-b.b) here c.loop-b-test.false) c.loop-b.invariant.to
