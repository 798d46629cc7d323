-- The command `pipe`: one session at a world of its own.
use Rattle.std.specs.Prelude.{◌≡◌, ◌⊎◌, ℕ, ℤ, ◌+◌, ◌-◌, ◌%◌, ◌^◌, ◌<◌, ◌≤◌, Bool, true, List, [], All, length, replicate, sum, slice_index_or}
use Rattle.std.specs.declared.option.Option.{Option}
use Rattle.std.specs.declared.option.Option.TheVariants.{None}
use Rattle.rand_pcg.specs.Lcg.{Lcg}
use Rattle.cj_outside.specs.Draws.{seeded, of_generator, generator_after}
use Rattle.cj_cluster.specs.declared.session.SessionEnd.{SessionEnd}
use Rattle.cj_cluster.specs.Moves.Moves.{closed_for}
use Rattle.cj_conf.specs.declared.conf.Conf.{Conf}
use Rattle.cj_state.specs.Faults.{faults_of}
use Rattle.cj_state.specs.Effects.{with_core}
use Rattle.cj_core.specs.QuietCalls.{BlamesNobody, BlamesNoStore, CanCountMore}
use Rattle.cj_core.specs.Solos.{SoloState, SoloSteps, desk_of, session_opened}
use Rattle.cj_state.specs.Worlds.{WorldState}
use Rattle.cj_desk.specs.DeskChains.{IsDeskChain}
use Rattle.cj_desk.specs.SessionTranscripts.{SessionSetting, setting, client_state}
use Rattle.cj_session.specs.Serving.{ServesSession}
use Rattle.cj_model.specs.Cluster.Placements.{Placement}
use Rattle.cj_model.specs.declared.limits.TheConstants.{SESSION_NUMBER_LIMIT}
use Rattle.cj_log.specs.declared.item.LogItem.{LogItem}
use Rattle.cj_core.specs.Starts.{BackendState, StartsFrom}
use Rattle.cj_top.specs.declared.piped.PipeError.{PipeError}
use Rattle.cj_top.specs.declared.piped.PipeError.TheVariants as pipe_error
use Rattle.cj_top.specs.Completeness.{AnswersInput, is_end_by_input}
use Rattle.cj_top.specs.Configured.{BeginsAsConfigured, in_memory, new_backend}
use Rattle.cj_place.specs.Layouts.{placement_of}
use Rattle.cj_top.specs.Logs.{Found, GoesOnIn, RefusesLog}
use Rattle.cj_top.specs.Program.{status_of_session}

-- the session is served at its own world, with a generator of random numbers and a clock
abbrev pub solo_setting : Bool → Option ℤ → SessionSetting SoloState Lcg
solo_setting tells moment = setting desk_of (SoloSteps tells) of_generator (λ generator n. generator_after generator) moment

-- the generator of a session, by the seed of the configuration and the session's number
abbrev pub generator_of : ℕ → ℕ → Lcg
generator_of seed session = seeded ((seed + session) % 2 ^ 64)

-- From a world one session was opened, served to this end and closed, which led to another world.
pub record ServesOneSession (tells : Bool) (seed : ℕ) (moment : Option ℤ) (left left' held held' : Option (List ℕ)) (first : WorldState) (ending : SessionEnd) (last : WorldState) : Type 0 where
  pub desk : SoloState
  pub draws : Lcg
  -- what was written is the transcript of what was taken, in which each request leads the world as `SoloSteps` says
  pub served : ServesSession (solo_setting tells moment) left left' held held' (client_state None (session_opened first) (generator_of seed (first.core.greatest + 1))) ending desk draws
  -- its calls are a chain of turns: each reply is that of one database run on the history that the world has then
  pub turns : IsDeskChain tells (desk_of (session_opened first)) (desk_of desk)
  -- where the backends have counted no fault, no reply says that backends failed
  pub blameless : sum (faults_of last.cells) ≡ sum (faults_of first.cells) → CanCountMore (faults_of first.cells) → All BlamesNobody served.transcript.replies
  -- where the log's store has counted no fault, no reply says that it failed
  pub stored : last.recovery_log.faults ≡ first.recovery_log.faults → first.recovery_log.faults < 2 ^ 64 - 1 → All BlamesNoStore served.transcript.replies
  -- a session that its input ended answered all of it, with these replies
  pub whole : is_end_by_input ending ≡ true → AnswersInput served.transcript.replies left held held' ending
  pub closed : last ≡ with_core desk.world (closed_for desk.world.core desk.session)
  -- no count of faults falls
  pub grown : CanCountMore (faults_of first.cells) → (b : ℕ) → slice_index_or (faults_of first.cells) b 0 ≤ slice_index_or (faults_of last.cells) b 0

-- Over the log that was found no session can be opened: the last number was given. `GoesOn` says how the log's store
-- went on.
pub record HasNoSession (found : List LogItem → Type 0) (GoesOn : WorldState → WorldState → Type 0) (p : Placement) (backends : List BackendState) : Type 0 where
  pub first : WorldState
  pub starts : StartsFrom found p backends first
  pub last_given : SESSION_NUMBER_LIMIT ≤ first.core.greatest
  pub goes_on : GoesOn first first

-- why no session was served: the log was not opened, or no session can be
abbrev pub RefusesPipe : {S : Type 0} → (S → ℕ) → (S → List ℕ) → (S → List ℕ → Type 0) → Bool → (log after : S) → Placement → List BackendState → PipeError → Type 0
RefusesPipe faults held may tells log after p backends (pipe_error.Start error) = RefusesLog faults held tells log after error
RefusesPipe faults held may tells log after p backends pipe_error.SessionsFull = HasNoSession (Found tells (held log)) (GoesOnIn faults held may tells log after) p backends

-- A session over new backends, as the configuration has them, and over the log that was found, ended with this
-- status. `tells`: the backends are in memory, and tell what they hold. `GoesOn` says how the log's store went on.
pub record RunsPipe (tells : Bool) (c : Conf) (found : List LogItem → Type 0) (GoesOn : WorldState → WorldState → Type 0) (moment : Option ℤ) (left left' held held' : Option (List ℕ)) (status : ℕ) : Type 0 where
  pub first : WorldState
  pub begins : BeginsAsConfigured tells c found first
  pub ending : SessionEnd
  pub last : WorldState
  pub serves : ServesOneSession tells c.seed moment left left' held held' first ending last
  pub goes_on : GoesOn first last
  -- no reply says that backends failed: those in memory never do
  pub blameless : tells ≡ true → All BlamesNobody serves.served.transcript.replies
  pub status_is : status ≡ status_of_session ending

-- `pipe` with this configuration: a session ran, or the command stopped at its log, or no session can be opened.
-- `Idle`: the input and the output were not touched; `Quiet`: nor were the errors.
abbrev pub ComesByPipe : (c : Conf) (found : List LogItem → Type 0) (GoesOn : WorldState → WorldState → Type 0) (Stops : ℕ → Type 0) (Quiet : Type 0) (moment : Option ℤ) (left left' held held' : Option (List ℕ)) → ℕ → Type 0
ComesByPipe c found GoesOn Stops Quiet moment left left' held held' status =
    RunsPipe (in_memory c) c found GoesOn moment left left' held held' status ⊎ Stops status ⊎ (status ≡ 12) × HasNoSession found GoesOn (placement_of c.placement) (replicate (length c.placement.names) (new_backend (in_memory c))) × Quiet
