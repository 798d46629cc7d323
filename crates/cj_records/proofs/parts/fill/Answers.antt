use Rattle.std.proofs.Common.{arith, length-append, ◌∙◌}
use Rattle.cj_outside.proofs.Stopped.{stays_then}
use Rattle.cj_records.proofs.Windows.{fill_more}
use Rattle.cj_records.proofs.parts.fill.Goals as goal

pub loop-count-preserved : goal.loop-count-preserved
loop-count-preserved g c =
    let held = g.S.Store.held in
    let i = c.loop-count.invariant in
    let s = c.split_at_mut-rest.ensures in
    let r = c.in_ok-more.ensures in
    record {
      within = omega (arith, r.bound, s.front_len, s.back_len, length-append c.split_at_mut-rest.result.0.now c.read_at.new.buf);
      read = λ t. fill_more (held c.args.store.now) (held c.loop-count.store) c.args.at c.loop-count.count c.in_ok-more.more c.split_at_mut-rest.result.0.now c.loop-count.buf c.read_at.new.buf (i.read t) s.front s.front_len (i.bytes t) (r.read t);
      bytes = λ t. r.bytes t ∙ i.bytes t;
      faults = r.cause.uncounted (λ failed. absurd cc) ∙ i.faults;
      disk = stays_then g.S.Store.moment g.S.Store.may g.S.Store.since c.args.store.now c.loop-count.store c.read_at.new.self i.disk r.disk;
    }
