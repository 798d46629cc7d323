-- How far serving a session has come, and what one step of it does.
use Rattle.std.specs.Prelude.{◌≡◌, ◌≢◌, ℕ, ◌+◌, ◌*◌, ◌<◌, ◌≤◌, List, [], ◌++◌, length, take, Result}
use Rattle.std.specs.declared.option.Option.{Option}
use Rattle.std.specs.declared.option.Option.TheVariants.{None, Some}
use Rattle.std.specs.List.{flat_map}
use Rattle.std.specs.Io.KnownBytes.{Consumes, Appends, IsAtEnd}
use Rattle.cj_outside.specs.declared.sink.OutError.{OutError}
use Rattle.cj_outside.specs.Streams.{most, WritesAll}
use Rattle.cj_model.specs.declared.message.Message.{Message}
use Rattle.cj_model.specs.declared.message.FrameFault.{FrameFault}
use Rattle.cj_cluster.specs.declared.session.SessionEnd.{SessionEnd}
use Rattle.cj_cluster.specs.declared.session.SessionEnd.TheVariants as end
use Rattle.cj_model.specs.declared.answer.Refusal.{Refusal}
use Rattle.cj_model.specs.declared.answer.Reply.{Reply}
use Rattle.cj_model.specs.declared.codes.TheConstants.{TOO_LARGE, NO_MEMORY}
use Rattle.cj_model.specs.Database.Inserts.{refusal_of_code}
use Rattle.cj_reply.specs.declared.reply.ReplyError.{ReplyError}
use Rattle.cj_reply.specs.declared.reply.ReplyError.TheVariants as errors
use Rattle.cj_model.specs.Wire.Replies.{reply_bytes}
use Rattle.cj_desk.specs.SessionTranscripts.{SessionSetting, ClientState, SendsReply, MessageExchange, TranscriptSoFar, EndsTranscript, bad_frame_reply}
use Rattle.cj_session.specs.Serving.{ReachesEnd}

-- ---- parts

-- the refusal that is sent instead of a reply without a frame
abbrev pub refusal_in_place : ReplyError → Refusal
refusal_in_place (errors.TooLarge size) = record { code = TOO_LARGE; a = size; b = 0 }
refusal_in_place errors.Malformed = refusal_of_code NO_MEMORY
refusal_in_place errors.NoMemory = refusal_of_code NO_MEMORY

-- the reply, or the refusal sent instead of it, was written whole, or in part at an error
pub record SendsReplyTo (held held' : Option (List ℕ)) (reply : Reply) (result : Result (Unit {0}) OutError) : Type 0 where
  pub sent : Reply
  pub stands : SendsReply reply sent
  pub wrote : WritesAll held held' (reply_bytes sent) result

-- the message was answered, and its reply was written whole, or in part at an error
pub record ExchangesMessage {S D : Type 0} (w : SessionSetting S D) (held held' : Option (List ℕ)) (a : ClientState S D) (m : Message) (z : ClientState S D) (result : Result (Unit {0}) OutError) : Type 0 where
  pub sent : Reply
  pub exchange : MessageExchange w a m sent z
  pub wrote : WritesAll held held' (reply_bytes sent) result

-- a part of the reply was written, less than the whole
abbrev pub WritesPart : Option (List ℕ) → Option (List ℕ) → Reply → Type 0
WritesPart held held' reply = (count : ℕ) × (count < length (reply_bytes reply)) × Appends held held' (take count (reply_bytes reply))

-- a session that ends at a faulty frame: its refusal was written
abbrev pub RefusesFrame : Option (List ℕ) → Option (List ℕ) → FrameFault → SessionEnd → Type 0
RefusesFrame held held' fault (end.BadFrame f) = (f ≡ fault) × Appends held held' (reply_bytes (bad_frame_reply fault))
RefusesFrame held held' fault end.WriteFault = WritesPart held held' (bad_frame_reply fault)
RefusesFrame held held' fault end.NoMemory = WritesPart held held' (bad_frame_reply fault)
RefusesFrame held held' fault ending = ⊥

-- the piece was taken of the source, and is held
pub record TakesPiece (left left' : Option (List ℕ)) (rest rest' : List ℕ) (count count' : ℕ) (piece : List ℕ) : Type 0 where
  pub bytes : Consumes left left' piece
  pub holds : rest' ≡ rest ++ piece
  pub count_is : count' ≡ count + length piece
  pub few : count' ≤ most

-- one piece more of the source is held; or the session ends, and how
abbrev pub FillsFeed : Option (List ℕ) → Option (List ℕ) → List ℕ → List ℕ → ℕ → ℕ → Option SessionEnd → Type 0
FillsFeed left left' rest rest' count count' None = (piece : List ℕ) × (0 < length piece) × TakesPiece left left' rest rest' count count' piece
FillsFeed left left' rest rest' count count' (Some end.Eof) = TakesPiece left left' rest rest' count count' [] × IsAtEnd left' × (rest ≡ []) × (count < most)
FillsFeed left left' rest rest' count count' (Some end.Cut) = TakesPiece left left' rest rest' count count' [] × IsAtEnd left' × (rest ≢ []) × (count < most)
FillsFeed left left' rest rest' count count' (Some end.ReadFault) = TakesPiece left left' rest rest' count count' [] × (count < most)
FillsFeed left left' rest rest' count count' (Some end.Spent) = TakesPiece left left' rest rest' count count' [] × (count ≡ most)
FillsFeed left left' rest rest' count count' (Some end.NoMemory) = (piece : List ℕ) × Consumes left left' piece × (count + length piece ≤ most)
FillsFeed left left' rest rest' count count' (Some ending) = ⊥

-- ---- the session

-- a moment of a session: what the source has left and the sink holds, the client's session, what is held of the
-- input, and how much was taken of it
pub record SessionPoint (S D : Type 0) : Type 0 where
  pub left : Option (List ℕ)
  pub held : Option (List ℕ)
  pub client : ClientState S D
  pub rest : List ℕ
  pub count : ℕ

-- the moment of a session that has these parts
abbrev pub point : {S D : Type 0} → Option (List ℕ) → Option (List ℕ) → ClientState S D → List ℕ → ℕ → SessionPoint S D
point left held client rest count = record { left = left; held = held; client = client; rest = rest; count = count }

-- from p the session came to q, with each message between them answered
pub record ServesUpTo {S D : Type 0} (w : SessionSetting S D) (p q : SessionPoint S D) : Type 0 where
  pub taken : List ℕ
  pub replies : List Reply
  pub bytes : Consumes p.left q.left taken
  pub count_is : q.count ≡ p.count + length taken
  pub few : q.count ≤ most
  pub wrote : Appends p.held q.held (flat_map reply_bytes replies)
  pub so_far : TranscriptSoFar w p.client (p.rest ++ taken) q.rest replies q.client
  -- each message takes five bytes at least
  pub paid : 5 * (w.state_of q.client.desk).requests + length q.rest ≤ 5 * (w.state_of p.client.desk).requests + length p.rest + length taken

-- from p the session came to this end, and z is the client's session then
pub record ServesToEnd {S D : Type 0} (w : SessionSetting S D) (p : SessionPoint S D) (left held : Option (List ℕ)) (ending : SessionEnd) (z : ClientState S D) : Type 0 where
  pub taken : List ℕ
  pub written : List ℕ
  pub rest : List ℕ
  pub replies : List Reply
  pub bytes : Consumes p.left left taken
  pub reaches : ReachesEnd left (p.count + length taken) ending
  pub wrote : Appends p.held held written
  pub so_far : TranscriptSoFar w p.client (p.rest ++ taken) rest replies z
  pub ends : EndsTranscript rest replies written ending
