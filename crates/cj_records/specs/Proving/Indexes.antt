-- What walking over the records of a store finds.
use Rattle.std.specs.Prelude.{◌≡◌, ℕ, ◌≤◌, false, if◌then◌else◌, nat_le, List, length, drop, Result, Ok, Err}
use Rattle.cj_records.specs.declared.index.Index.{Index}
use Rattle.cj_records.specs.declared.error.RecordsError.{RecordsError}
use Rattle.cj_records.specs.declared.error.RecordsError.TheVariants as errors
use Rattle.cj_records.specs.RecordFiles.{IsClosed, Breaks, Finds}
use Rattle.cj_records.specs.Proving.Places.{bodies_at, Reaches}
use Rattle.cj_records.specs.Records.{begun, WritesOnlyNew}
use Rattle.cj_records.specs.Proving.Keeping.{Laid}

-- the bytes of a new file were written
abbrev pub Begins : {E : Type 0} → List ℕ → List ℕ → Result Unit E → Type 0
Begins magic new (Ok _) = new ≡ begun magic
Begins magic new (Err _) = length new ≤ 5

-- walking finds the records up to a closed gate, or the offset of what is no record
abbrev pub Walks : List ℕ → List ℕ → Result Index RecordsError → Type 0
Walks magic held (Ok index) = Reaches magic held (bodies_at held index.places.items) index.end × IsClosed (drop index.end held)
Walks magic held (Err (errors.BadRecord offset)) = Breaks magic held offset
Walks magic held (Err errors.Failed) = Unit {0}
Walks magic held (Err errors.NoMemory) = Unit {0}

-- what is found in all the bytes; those of a new file are written
abbrev pub Indexes : List ℕ → List ℕ → List ℕ → Result Index RecordsError → Type 0
Indexes magic old new (Ok index) = Finds magic old (Ok (bodies_at new index.places.items)) × Laid magic new (bodies_at new index.places.items) index.end false × (new ≡ (if nat_le (length old) 5 then begun magic else old))
Indexes magic old new (Err (errors.BadRecord offset)) = Finds magic old (Err offset) × (new ≡ old)
Indexes magic old new (Err errors.Failed) = WritesOnlyNew old new
Indexes magic old new (Err errors.NoMemory) = WritesOnlyNew old new
