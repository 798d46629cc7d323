use Rattle.std.proofs.Common.{◌≡◌, ◌+◌, ◌-◌, [], ◌∷◌, ◌++◌, length, take, drop, ◌∙◌, ap, subst, arith, rules, length-drop}
use Rattle.cj_records.proofs.Common.{ShowsPart, bodies_at}
use Rattle.cj_outside.proofs.Stopped.{stays_then}
use Rattle.cj_records.proofs.Reach.{within_more}
use Rattle.cj_records.proofs.Walked.{walk_more, walk_breaks}
use Rattle.cj_records.proofs.index.walk.Goals as goal

pub records-preserved : goal.records-preserved
records-preserved g c =
    let held = g.S.Store.held in
    let i = c.records.invariant in
    let s = c.in_ok-show.ensures in
    let pushed : c.push.new.self.items ≡ c.records.places.items ++ record { at = c.records.at; len = c.in-Open.len } ∷ [] = search rules in
    record {
      before = omega (arith, i.before);
      behind = omega (arith, i.behind, c.in-Open.ensures.fits);
      within = rw pushed (within_more c.records.at (c.records.at + (9 + c.in-Open.len)) c.records.places.items (record { at = c.records.at; len = c.in-Open.len }) i.within (omega arith) (omega arith));
      reaches = λ t.
          let header = c.part.ensures ∙ s.shown t ∙ ap (λ h. take 9 (drop c.records.at h)) (i.bytes t) in
          let left : c.args.size - c.records.at ≡ length (drop c.records.at (held c.args.store.now)) = omega (arith, c.requires.size t, length-drop c.records.at (held c.args.store.now)) in
          rw pushed (walk_more c.args.magic.now (held c.args.store.now) c.records.places.items c.records.at c.in-Open.len (i.reaches t) (c.in-Open.ensures.stands (drop c.records.at (held c.args.store.now)) header left) (omega (arith, i.behind, c.in-Open.ensures.fits, c.requires.limit)));
      shown = λ t. subst (λ h. ShowsPart h c.show.new.self.from c.show.new.self.bytes) (i.bytes t) (s.part t);
      bytes = λ t. s.bytes t ∙ i.bytes t;
      faults = s.cause.uncounted (λ failed. absurd cc) ∙ i.faults;
      disk = stays_then g.S.Store.moment g.S.Store.may g.S.Store.since c.args.store.now c.records.store c.show.new.store i.disk s.disk;
    }

pub returns-in-Bad-clause-records : goal.returns-in-Bad-clause-records
returns-in-Bad-clause-records g c = λ t.
    let held = g.S.Store.held in
    let i = c.records.invariant in
    let header = c.part.ensures ∙ c.in_ok-show.ensures.shown t ∙ ap (λ h. take 9 (drop c.records.at h)) (i.bytes t) in
    let left : c.args.size - c.records.at ≡ length (drop c.records.at (held c.args.store.now)) = omega (arith, c.requires.size t, length-drop c.records.at (held c.args.store.now)) in
    walk_breaks c.args.magic.now (held c.args.store.now) (bodies_at (held c.args.store.now) c.records.places.items) c.records.at (i.reaches t) (c.in-Bad.ensures.stands (drop c.records.at (held c.args.store.now)) header left)
