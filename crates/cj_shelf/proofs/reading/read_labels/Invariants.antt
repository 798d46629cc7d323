use Rattle.std.proofs.Common.{◌≡◌, true, length, take}
use Rattle.cj_records.specs.RecordFiles.{front_bytes}
use Rattle.cj_records.specs.Records.{SameRecords}
use Rattle.cj_shelf.specs.Shelves.{shelf_magic}
use Rattle.cj_shelf.specs.Proving.{Labels}
use Rattle.cj_shelf.proofs.reading.read_labels.Given as goal

abbrev pub invariant-loop-n : goal.invariant-loop-n
invariant-loop-n g l =
    record {
      same : SameRecords g.D.Store.tells g.D.Store.held l.fn.records l.records;
      labels : g.D.Store.tells ≡ true → Labels (take l.n l.fn.records.list) l.labels.items;
      there : g.D.Store.tells ≡ true → l.at ≡ length (front_bytes shelf_magic (take l.n l.fn.records.list));
      count : length l.labels.items ≡ l.n;
      faults : g.D.Store.faults l.records.store ≡ g.D.Store.faults l.fn.records.store;
    }
