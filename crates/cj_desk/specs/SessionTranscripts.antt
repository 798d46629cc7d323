-- What a session at a desk is sent for the bytes taken, and where that leaves the desk.
use Rattle.std.specs.Prelude.{◌≡◌, ◌≢◌, ◌⊎◌, ℕ, ℤ, ◌-◌, ◌^◌, ◌<◌, ◌≤◌, min, Bool, true, false, List, [], ◌∷◌, ◌++◌, length, take, IfSome}
use Rattle.std.specs.declared.option.Option.{Option}
use Rattle.std.specs.declared.option.Option.TheVariants.{None, Some}
use Rattle.std.specs.List.{flat_map, list_any, AllByRecursion}
use Rattle.cj_model.specs.declared.message.Message.{Message}
use Rattle.cj_model.specs.declared.message.Message.TheVariants as message
use Rattle.cj_model.specs.declared.message.FrameFault.{FrameFault}
use Rattle.cj_model.specs.declared.request.Request.{Request}
use Rattle.cj_model.specs.declared.request.Request.TheVariants as request
use Rattle.cj_model.specs.declared.request.Act.{Act}
use Rattle.cj_model.specs.declared.answer.Answer.{Answer}
use Rattle.cj_model.specs.declared.answer.Refusal.{Refusal}
use Rattle.cj_model.specs.declared.answer.Reply.{Reply}
use Rattle.cj_model.specs.declared.answer.Reply.TheVariants.{Done, Rows, Stats, Refused}
use Rattle.cj_model.specs.declared.codes.TheConstants.{BAD_FRAME, NOT_LOGGED_IN, BAD_LOGIN, ALREADY_LOGGED_IN, SYNTAX, TOO_LARGE, NO_MEMORY}
use Rattle.cj_model.specs.declared.limits.TheConstants.{FRAME_LIMIT}
use Rattle.cj_model.specs.Sql.PlainRequests.{act_of}
use Rattle.cj_model.specs.Sql.Grammar.{TextReadsAs, ReadsAsNothing}
use Rattle.cj_model.specs.Sql.Macros.{bounds, draws_from, rewritten, generator_after_draws}
use Rattle.cj_model.specs.Wire.Replies.{reply_length, reply_bytes}
use Rattle.cj_model.specs.Wire.Frames.{frame, IsFramed, BeginsNoFrame, fault_of, fault_number}
use Rattle.cj_cluster.specs.declared.session.SessionEnd.{SessionEnd}
use Rattle.cj_cluster.specs.declared.session.SessionEnd.TheVariants as end
use Rattle.cj_cluster.specs.Moves.Moves.{forbidden_by}
use Rattle.cj_cluster.specs.Wire.Sessions.{refused_reply, is_quit}
use Rattle.cj_desk.specs.DeskStates.{DeskState, desk_tx, DeskCall, turn_taken, query_skipped, cache_counted, next_call}

-- What a session is served with: the state of a desk, and where a call leads the desk;
-- the draws of a generator, and the generator after each; the moment that the clock shows, if it tells.
pub record SessionSetting (S D : Type 0) : Type 1 where
  pub state_of : S → DeskState
  pub leads_to : S → DeskCall → S → Type 0
  pub drawn : D → ℕ → ℕ
  pub later : D → ℕ → D
  pub moment : Option ℤ

-- a setting of these parts
abbrev pub setting : {S D : Type 0} → (S → DeskState) → (S → DeskCall → S → Type 0) → (D → ℕ → ℕ) → (D → ℕ → D) → Option ℤ → SessionSetting S D
setting state_of leads_to drawn later moment = record { state_of = state_of; leads_to = leads_to; drawn = drawn; later = later; moment = moment }

-- the state of a client's session: the user that logged in, the desk, and the generator of random numbers
pub record ClientState (S D : Type 0) : Type 0 where
  pub user : Option (List ℕ)
  pub desk : S
  pub draws : D

-- a client's session of these parts
abbrev pub client_state : {S D : Type 0} → Option (List ℕ) → S → D → ClientState S D
client_state user desk draws = record { user = user; desk = desk; draws = draws }

-- ---- Login

-- what a Login is answered, after a user logged in or before; whether its account is admitted matters only before
abbrev pub login_reply : Option (List ℕ) → Bool → Reply
login_reply (Some user) admitted = refused_reply ALREADY_LOGGED_IN
login_reply None true = Done 0
login_reply None false = refused_reply BAD_LOGIN

-- the user after a Login of another
abbrev pub user_after_login : Option (List ℕ) → Bool → List ℕ → Option (List ℕ)
user_after_login (Some user) admitted other = Some user
user_after_login None true other = Some other
user_after_login None false other = None

-- a Login leaves the desk as it was
pub record AnswersLoginAtDesk {S D : Type 0} (w : SessionSetting S D) (a : ClientState S D) (user password : List ℕ) (reply : Reply) (z : ClientState S D) : Type 0 where
  pub replied : reply ≡ login_reply a.user ((w.state_of a.desk).admits user password)
  pub user_is : z.user ≡ user_after_login a.user ((w.state_of a.desk).admits user password) user
  pub desk : z.desk ≡ a.desk
  pub draws : z.draws ≡ a.draws

-- ---- Stats

-- the desk is asked for hits and misses, and these are replied
pub record TellsCacheCounts {S : Type 0} (leads_to : S → DeskCall → S → Type 0) (a : S) (reply : Reply) (z : S) : Type 0 where
  pub hits : ℕ
  pub misses : ℕ
  pub replied : reply ≡ Stats hits misses
  pub asked : leads_to a (cache_counted hits misses) z

-- what a Stats is answered before and after the accepted Login
abbrev pub AnswersStats : {S : Type 0} → (S → DeskCall → S → Type 0) → Option (List ℕ) → S → Reply → S → Type 0
AnswersStats leads_to None a reply z = (reply ≡ refused_reply NOT_LOGGED_IN) × (z ≡ a)
AnswersStats leads_to (Some user) a reply z = TellsCacheCounts leads_to a reply z

-- ---- Query

-- the desk counts the Query, and no more
pub record SkipsQuery {S D : Type 0} (w : SessionSetting S D) (a z : ClientState S D) : Type 0 where
  pub counted : w.leads_to a.desk query_skipped z.desk
  pub user : z.user ≡ a.user
  pub draws : z.draws ≡ a.draws

-- the text is no statement
pub record IsSyntaxRefusal (text : List ℕ) (reply : Reply) : Type 0 where
  pub nothing : ReadsAsNothing text
  pub replied : reply ≡ refused_reply SYNTAX

-- the refusal of an act that the state of the session's transaction forbids; no query is forbidden
abbrev pub refusal_by_transaction : ℕ → Option Act → Option Refusal
refusal_by_transaction tx None = None
refusal_by_transaction tx (Some act) = forbidden_by tx act

-- the text is a statement that the state of the session's transaction forbids
pub record IsTransactionRefusal (tx : ℕ) (text : List ℕ) (reply : Reply) : Type 0 where
  pub request : Request
  pub reads : TextReadsAs text request
  pub refusal : Refusal
  pub forbids : refusal_by_transaction tx (act_of request) ≡ Some refusal
  pub replied : reply ≡ Refused refusal

-- why a user's Query never reaches the desk: the text is no statement, its transaction forbids it, or memory ran out
abbrev pub IsRefusedBefore : ℕ → List ℕ → Reply → Type 0
IsRefusedBefore tx text reply = IsSyntaxRefusal text reply ⊎ IsTransactionRefusal tx text reply ⊎ (reply ≡ refused_reply NO_MEMORY)

-- the request as it reaches the desk: one moment replaces each NOW, and a fresh draw each RAND
abbrev pub request_at_desk : {S D : Type 0} → SessionSetting S D → ℤ → D → Request → Request
request_at_desk w moment draws request = rewritten moment (draws_from w.drawn w.later draws (bounds request)) request

-- the turn of the request at the desk, in the session's open transaction
pub record TakesDeskTurn {S D : Type 0} (w : SessionSetting S D) (user : List ℕ) (desk : S) (draws : D) (request : Request) (reply : Reply) (desk' : S) (draws' : D) : Type 0 where
  pub moment : ℤ
  pub shown : IfSome w.moment (λ shown. moment ≡ shown)
  pub made : w.leads_to desk (turn_taken (next_call (w.state_of desk) (desk_tx (w.state_of desk)) user (request_at_desk w moment draws request) reply)) desk'
  pub drew : draws' ≡ generator_after_draws w.later draws (bounds request)

-- a user's Query that reaches the desk
pub record IsQueryTurn {S D : Type 0} (w : SessionSetting S D) (user : List ℕ) (a : ClientState S D) (text : List ℕ) (reply : Reply) (z : ClientState S D) : Type 0 where
  pub request : Request
  pub reads : TextReadsAs text request
  pub allowed : refusal_by_transaction (desk_tx (w.state_of a.desk)) (act_of request) ≡ None
  pub turn : TakesDeskTurn w user a.desk a.draws request reply z.desk z.draws
  pub user_is : z.user ≡ a.user

-- what a Query is answered before and after the accepted Login
abbrev pub AnswersQuery : {S D : Type 0} → SessionSetting S D → Option (List ℕ) → ClientState S D → List ℕ → Reply → ClientState S D → Type 0
AnswersQuery w None a text reply z = (reply ≡ refused_reply NOT_LOGGED_IN) × SkipsQuery w a z
AnswersQuery w (Some user) a text reply z = (IsRefusedBefore (desk_tx (w.state_of a.desk)) text reply × SkipsQuery w a z) ⊎ IsQueryTurn w user a text reply z

-- ---- one message

-- From state a the message is answered so, and the client's session is then in state z.
abbrev pub AnswersMessage : {S D : Type 0} → SessionSetting S D → ClientState S D → Message → Reply → ClientState S D → Type 0
AnswersMessage w a (message.Login user password) reply z = AnswersLoginAtDesk w a user password reply z
AnswersMessage w a (message.Query text) reply z = AnswersQuery w a.user a text reply z
AnswersMessage w a message.Stats reply z = AnswersStats w.leads_to a.user a.desk reply z.desk × (z.user ≡ a.user) × (z.draws ≡ a.draws)
AnswersMessage w a message.Quit reply z = ⊥

-- the refusal that says how large an answer's frame would be, as far as a number of 64 bits goes
abbrev pub too_large_reply : Answer → Reply
too_large_reply a = Refused (record { code = TOO_LARGE; a = min (reply_length (Rows a)) (2 ^ 64 - 1); b = 0 })

-- what is sent for an answer: itself, or in its place that it is too large, or that memory ran out
abbrev pub SendsRows : Answer → Reply → Type 0
SendsRows a sent =
    ((reply_length (Rows a) ≤ FRAME_LIMIT) × (sent ≡ Rows a)) ⊎ ((FRAME_LIMIT < reply_length (Rows a)) × (sent ≡ too_large_reply a)) ⊎ (sent ≡ refused_reply NO_MEMORY)

-- what is sent for a reply: itself, unless it is rows
abbrev pub SendsReply : Reply → Reply → Type 0
SendsReply (Done count) sent = sent ≡ Done count
SendsReply (Rows a) sent = SendsRows a sent
SendsReply (Stats hits misses) sent = sent ≡ Stats hits misses
SendsReply (Refused r) sent = sent ≡ Refused r

-- From state a the reply is sent for the message, and the client's session is then in state z.
pub record MessageExchange {S D : Type 0} (w : SessionSetting S D) (a : ClientState S D) (m : Message) (reply : Reply) (z : ClientState S D) : Type 0 where
  pub answer : Reply
  pub answers : AnswersMessage w a m answer z
  pub sends : SendsReply answer reply

-- From state a a reply is sent for each message in order, and the client's session is then in state z.
abbrev pub MessageExchanges : {S D : Type 0} → SessionSetting S D → ClientState S D → List Message → List Reply → ClientState S D → Type 0
MessageExchanges w a [] [] z = z ≡ a
MessageExchanges w a [] (r ∷ rs) z = ⊥
MessageExchanges w a (m ∷ ms) [] z = ⊥
MessageExchanges {S} {D} w a (m ∷ ms) (r ∷ rs) z = (mid : ClientState S D) × MessageExchange w a m r mid × MessageExchanges w mid ms rs z

-- ---- the whole session

-- A session so far: the bytes taken begin with messages, none of them a Quit, which have their replies.
-- The rest is not looked at yet.
pub record TranscriptSoFar {S D : Type 0} (w : SessionSetting S D) (a : ClientState S D) (taken rest : List ℕ) (replies : List Reply) (z : ClientState S D) : Type 0 where
  pub messages : List Message
  pub whole : taken ≡ flat_map frame messages ++ rest
  pub each : AllByRecursion IsFramed messages
  pub no_quit : list_any is_quit messages ≡ false
  pub exchanges : MessageExchanges w a messages replies z

-- no whole frame begins the rest, and more bytes may make it one
pub record AwaitsMore (rest : List ℕ) : Type 0 where
  pub stops : BeginsNoFrame rest
  pub fine : fault_of rest ≡ None

-- no whole frame begins the rest, and none will
pub record IsFaultyRest (rest : List ℕ) (fault : FrameFault) : Type 0 where
  pub stops : BeginsNoFrame rest
  pub fault_is : fault_of rest ≡ Some fault

-- what is sent for a faulty frame
abbrev pub bad_frame_reply : FrameFault → Reply
bad_frame_reply fault = Refused (record { code = BAD_FRAME; a = fault_number fault; b = 0 })

-- the replies were written whole
abbrev pub IsWrittenWhole : List Reply → List ℕ → Type 0
IsWrittenWhole replies written = written ≡ flat_map reply_bytes replies

-- all replies but the last were written whole, and of the last one less than all its bytes
pub record IsCutShort (replies : List Reply) (written : List ℕ) : Type 0 where
  pub before : List Reply
  pub last : Reply
  pub are : replies ≡ before ++ last ∷ []
  pub count : ℕ
  pub short : count < length (reply_bytes last)
  pub bytes : written ≡ flat_map reply_bytes before ++ take count (reply_bytes last)

-- the replies were cut short, or these and the refusal of a faulty rest were
abbrev pub IsCutTranscript : List ℕ → List Reply → List ℕ → Type 0
IsCutTranscript rest replies written = IsCutShort replies written ⊎ ((fault : FrameFault) × IsFaultyRest rest fault × IsCutShort (replies ++ bad_frame_reply fault ∷ []) written)

-- how a session ends, by what comes after the messages that have their replies
abbrev pub EndsTranscript : List ℕ → List Reply → List ℕ → SessionEnd → Type 0
EndsTranscript rest replies written end.Quit = ((more : List ℕ) × (rest ≡ frame message.Quit ++ more)) × IsWrittenWhole replies written
EndsTranscript rest replies written end.Eof = (rest ≡ []) × IsWrittenWhole replies written
EndsTranscript rest replies written end.Cut = AwaitsMore rest × (rest ≢ []) × IsWrittenWhole replies written
EndsTranscript rest replies written (end.BadFrame fault) = IsFaultyRest rest fault × IsWrittenWhole (replies ++ bad_frame_reply fault ∷ []) written
EndsTranscript rest replies written end.ReadFault = AwaitsMore rest × IsWrittenWhole replies written
EndsTranscript rest replies written end.WriteFault = IsCutTranscript rest replies written
EndsTranscript rest replies written end.Spent = AwaitsMore rest × IsWrittenWhole replies written
EndsTranscript rest replies written end.NoMemory = IsWrittenWhole replies written ⊎ IsCutTranscript rest replies written

-- what the session leaves open is rolled back by one more turn, whose reply isn't sent
pub record RollsBackAtEnd {S : Type 0} (state_of : S → DeskState) (leads_to : S → DeskCall → S → Type 0) (user : Option (List ℕ)) (a z : S) : Type 0 where
  pub is_open : desk_tx (state_of a) ≢ 0
  pub name : List ℕ
  pub is : user ≡ Some name
  pub reply : Reply
  pub made : leads_to a (turn_taken (next_call (state_of a) (desk_tx (state_of a)) name request.Rollback reply)) z

-- a session leaves the desk as it is, or rolls back what is open
abbrev pub LeavesDesk : {S : Type 0} → (S → DeskState) → (S → DeskCall → S → Type 0) → Option (List ℕ) → S → S → Type 0
LeavesDesk state_of leads_to user a z = ((desk_tx (state_of a) ≡ 0) × (z ≡ a)) ⊎ RollsBackAtEnd state_of leads_to user a z

-- The transcript of a session over the bytes taken: what is written, how it ends, and where it leaves the desk and
-- the generator.
pub record SessionTranscript {S D : Type 0} (w : SessionSetting S D) (a : ClientState S D) (taken written : List ℕ) (ending : SessionEnd) (desk : S) (draws : D) : Type 0 where
  pub rest : List ℕ
  pub replies : List Reply
  pub last : ClientState S D
  pub so_far : TranscriptSoFar w a taken rest replies last
  pub ends : EndsTranscript rest replies written ending
  pub leaves : LeavesDesk w.state_of w.leads_to last.user last.desk desk
  pub draws_are : draws ≡ last.draws
