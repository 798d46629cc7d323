use Rattle.std.proofs.Common.{map, refl}
use Rattle.cj_query.proofs.Cited.{deref, rows_of, run_left, run_within, runs_more}
use Rattle.cj_query.specs.Gathered as gathered
use Rattle.cj_query.proofs.groups.runs.Goals as goal

pub loop-start-preserved : goal.loop-start-preserved
loop-start-preserved c = record {
  within = run_within deref rows_of c.args.place c.loop-start.start c.run_len-len.result c.args.rows.now c.run_len-len.ensures.within c.loop-start.invariant.within;
  so_far = runs_more deref rows_of c.args.place c.loop-start.start c.run_len-len.result c.args.rows.now c.loop-start.out.items c.push.new.self.items _ (gathered.runs c.args.place (map deref c.args.rows.now))
      c.loop-start-test.true c.in_ok-push.ensures.items refl
      (run_left deref rows_of c.args.place c.loop-start.start c.run_len-len.result c.args.rows.now c.run_len-len.ensures.is)
      c.loop-start.invariant.so_far;
}
