-- Dumps in memory.
use Rattle.cj_dump.specs.declared.dump.Dump.{Dump}
use Rattle.cj_cluster.specs.declared.moves.TakenDump.{TakenDump}

-- what is at hand of a dump, without its tables
abbrev pub taken_of : Dump → TakenDump
taken_of d = record { name = d.name; source = d.source; position = d.position }
