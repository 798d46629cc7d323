use Rattle.std.proofs.Common.{◌≡◌, map, take, length}
use Rattle.cj_model.specs.Sql.Names.{lower}
use Rattle.cj_model.proofs.name.lowered.Given as goal

abbrev pub invariant-loop-i : goal.invariant-loop-i
invariant-loop-i l = (length l.place ≡ 32) × (take l.i l.place ≡ map lower (take l.i l.word))
