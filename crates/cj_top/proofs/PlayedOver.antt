-- A script over backends that begin.
use Rattle.std.proofs.Common.{◌≡◌, ℕ, Bool, true, List, Option, subst}
use Rattle.cj_top.proofs.Common.{BeginsAsConfigured, Conf, LogItem, PlaysAsConfigured, ScriptEnd}
use Rattle.cj_cluster.proofs.Standing.{between_none}
use Rattle.cj_top.proofs.InputScripts.{script_plays}
use Rattle.cj_state.specs.Worlds.{WorldState, Setup}
use Rattle.cj_script.specs.Script.{CameTo, InTurns}
use Rattle.cj_top.specs.Scripted.{HasFailedOnlyArmed}

-- what was played from there is what a script promises, and no session has begun there
pub played_as_configured : (tells : Bool) (c : Conf) (found : List LogItem → Type 0) (GoesOn : WorldState → WorldState → Type 0) (left left' held held' : Option (List ℕ)) (ending : ScriptEnd) (first last : WorldState) → BeginsAsConfigured tells c found first → CameTo tells true first.setup.names left left' held held' first ending last
    → InTurns tells first.setup.names left left' held held' first last → GoesOn first last → (tells ≡ true → HasFailedOnlyArmed last) → PlaysAsConfigured tells c found GoesOn left left' held held' ending
played_as_configured tells c found GoesOn left left' held held' ending first last begins came turns goes_on armed = record {
  first = first;
  begins = begins;
  last = last;
  came = subst (λ (s : Setup). CameTo tells true s.names left left' held held' first ending last) begins.setup came;
  fresh = λ s some. between_none first.core begins.starts.started.sessions s;
  turns = subst (λ (s : Setup). InTurns tells s.names left left' held held' first last) begins.setup turns;
  armed = armed;
  whole = λ by. script_plays tells c.placement.names left left' held held' ending first last (subst (λ (s : Setup). CameTo tells true s.names left left' held held' first ending last) begins.setup came) by;
  goes_on = goes_on;
}
