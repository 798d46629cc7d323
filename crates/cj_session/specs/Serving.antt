-- What serving a session does to its source and its sink.
use Rattle.std.specs.Prelude.{◌≡◌, ℕ, ◌<◌, ◌≤◌, List, length}
use Rattle.std.specs.declared.option.Option.{Option}
use Rattle.std.specs.Io.KnownBytes.{Consumes, Appends, IsAtEnd}
use Rattle.cj_outside.specs.Streams.{most}
use Rattle.cj_cluster.specs.declared.session.SessionEnd.{SessionEnd}
use Rattle.cj_cluster.specs.declared.session.SessionEnd.TheVariants as end
use Rattle.cj_desk.specs.SessionTranscripts.{SessionSetting, ClientState, SessionTranscript}

-- how far the source was taken when the session ends in this way, and how many bytes of it
abbrev pub ReachesEnd : Option (List ℕ) → ℕ → SessionEnd → Type 0
ReachesEnd left count end.Quit = count ≤ most
ReachesEnd left count end.Eof = IsAtEnd left × (count < most)
ReachesEnd left count end.Cut = IsAtEnd left × (count < most)
ReachesEnd left count (end.BadFrame fault) = count ≤ most
ReachesEnd left count end.ReadFault = count < most
ReachesEnd left count end.WriteFault = count ≤ most
ReachesEnd left count end.Spent = count ≡ most
ReachesEnd left count end.NoMemory = count ≤ most

-- The bytes that the session wrote to its sink are the transcript of those that it took of its source. Of a source or
-- a sink that hides its bytes, this says nothing.
pub record ServesSession {S D : Type 0} (w : SessionSetting S D) (left left' held held' : Option (List ℕ)) (a : ClientState S D) (ending : SessionEnd) (desk : S) (draws : D) : Type 0 where
  pub taken : List ℕ
  pub written : List ℕ
  pub bytes : Consumes left left' taken
  pub reaches : ReachesEnd left' (length taken) ending
  pub wrote : Appends held held' written
  pub transcript : SessionTranscript w a taken written ending desk draws
