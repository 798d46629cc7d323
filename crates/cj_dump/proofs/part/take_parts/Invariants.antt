use Rattle.std.proofs.Common.{◌≡◌, ◌-◌, []}
use Rattle.cj_dump.specs.Layouts.{listed_reads}
use Rattle.cj_dump.proofs.part.take_parts.Given as goal

abbrev pub invariant-loop : goal.invariant-loop
invariant-loop g l = listed_reads (g.P.Part.layout l.part) l.items (l.count - l.counter) l.reader ≡ listed_reads (g.P.Part.layout l.part) [] l.count l.initial.reader
