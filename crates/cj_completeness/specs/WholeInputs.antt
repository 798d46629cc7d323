-- Inputs that a command can take whole.
use Rattle.std.specs.Prelude.{◌≡◌, ◌⊎◌, ℕ, ◌<◌, true, List, [], ◌∷◌, ◌++◌, length, All}
use Rattle.std.specs.declared.option.Option.{Option}
use Rattle.std.specs.declared.option.Option.TheVariants.{Some}
use Rattle.std.specs.List.{list_any}
use Rattle.cj_model.specs.declared.message.Message.{Message}
use Rattle.cj_model.specs.Wire.Frames.{Frames}
use Rattle.cj_outside.specs.Streams.{most}
use Rattle.cj_cluster.specs.Wire.Sessions.{is_quit}
use Rattle.cj_args.specs.declared.asked.Command.{Command}
use Rattle.cj_args.specs.declared.asked.Command.TheVariants.{Pipe, Script, Log, Gen}
use Rattle.cj_top.specs.Completeness.{AreLines, IsPlayable}

-- bytes that read as whole messages up to their end, or have a Quit, and no more than can be taken of one input
pub record IsWholeSession (bytes : List ℕ) : Type 0 where
  pub short : length bytes < most
  pub messages : List Message
  pub rest : List ℕ
  pub reading : Frames bytes messages rest
  pub whole : (list_any is_quit messages ≡ true) ⊎ (rest ≡ [])

-- bytes that are lines which can all be played, and no more than can be taken of one input
pub record IsWholeScript (names : List (List ℕ)) (bytes : List ℕ) : Type 0 where
  pub short : length bytes < most
  pub lines : List (List ℕ)
  pub last : List ℕ
  pub are : AreLines bytes lines last
  pub playable : All (IsPlayable names) (lines ++ last ∷ [])

-- the input tells its bytes, of which the command can take all; `log` and `gen` take none
abbrev pub TellsWholeInput : Command → List (List ℕ) → Option (List ℕ) → Type 0
TellsWholeInput (Pipe path) names left = (bytes : List ℕ) × (left ≡ Some bytes) × IsWholeSession bytes
TellsWholeInput (Script path) names left = (bytes : List ℕ) × (left ≡ Some bytes) × IsWholeScript names bytes
TellsWholeInput (Log path) names left = Unit {0}
TellsWholeInput (Gen path seed count) names left = Unit {0}
