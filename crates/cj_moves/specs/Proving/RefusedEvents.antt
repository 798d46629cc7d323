-- The result of a move whose event was refused.
use Rattle.std.specs.Prelude.{Option, None, Some, Ok, Err}
use Rattle.cj_model.specs.declared.answer.Refusal.{Refusal}
use Rattle.cj_cluster.specs.declared.moves.MoveError.TheVariants.{NoMemory}
use Rattle.cj_cluster.specs.declared.moves.Moved.TheVariants.{Refused}
use Rattle.cj_cluster.specs.Moves.Moves.{MoveResult}

-- the refusal that is read; without one memory ran out
abbrev pub refused_as : Option Refusal → MoveResult
refused_as (Some refusal) = Ok (Refused refusal)
refused_as None = Err NoMemory
