use Rattle.std.proofs.Common.{◌≡◌, true, length, take}
use Rattle.cj_log.proofs.Common.{AllByRecursion, IsItem, bodies_of, front_bytes, log_magic}
use Rattle.cj_records.specs.Records.{SameRecords}
use Rattle.cj_log.proofs.log.read_items.Given as goal

abbrev pub invariant-loop-n : goal.invariant-loop-n
invariant-loop-n g l =
    record {
      same : SameRecords g.S.Store.tells g.S.Store.held l.fn.records l.records;
      bodies : g.S.Store.tells ≡ true → take l.n l.fn.records.list ≡ bodies_of l.items.items;
      there : g.S.Store.tells ≡ true → l.at ≡ length (front_bytes log_magic (bodies_of l.items.items));
      each : AllByRecursion IsItem l.items.items;
      faults : g.S.Store.faults l.records.store ≡ g.S.Store.faults l.fn.records.store;
    }
