use Rattle.std.proofs.Common.{◌≡◌, ◌-◌}
use Rattle.cj_codec.specs.Formats.{repeated_at}
use Rattle.cj_codec.proofs.Taken.{with_front}
use Rattle.cj_codec.proofs.reader.Reader.items.Given as goal

abbrev pub invariant-loop : goal.invariant-loop
invariant-loop g l = record {
  read : with_front l.items (repeated_at (g.F.Field.format l.field) (l.count - l.counter) l.self.rest) ≡ repeated_at (g.F.Field.format l.field) l.count l.initial.self.rest;
  size : l.self.size ≡ l.initial.self.size;
}
