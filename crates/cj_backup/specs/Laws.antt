-- What follows of dumps that were taken.
use Rattle.std.specs.Prelude.{ℕ, ◌<◌, Bool, List, length}
use mathlib.Core.List.{IsPrefix}
use Rattle.cj_cluster.specs.declared.event.Event.{Event}
use Rattle.cj_cluster.specs.History.Legality.{IsLegal}
use Rattle.cj_dump.specs.declared.dump.Dump.{Dump}
use Rattle.cj_place.specs.Layouts.{Layout}
use Rattle.cj_return_path.specs.Dumping.{IsTakenDump}
use Rattle.cj_return_path.specs.Restoring.{IsRightDump}

-- a dump that was taken at history m is right for each legal history F that goes on from it
abbrev pub DumpsMayBeLoaded : Type 0
DumpsMayBeLoaded = (tells : Bool) (l : Layout) (m F : List Event) (name : List ℕ) (b : ℕ) (d : Dump) → b < length l.names → IsLegal F → IsPrefix m F → IsTakenDump tells l m name b d → IsRightDump tells F d
