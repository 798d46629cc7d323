-- Messages that are taken off the bytes held.
use Rattle.std.specs.Prelude.{◌≡◌, ℕ, ◌^◌, ◌<◌, List, [], ◌∷◌, ◌++◌, All, Result, Ok, Err}
use Rattle.std.specs.declared.option.Option.{Option}
use Rattle.std.specs.declared.option.Option.TheVariants.{None, Some}
use Rattle.cj_model.specs.declared.message.Message.{Message}
use Rattle.cj_model.specs.Wire.Frames.{frame, IsFramed, BeginsNoFrame, Frames, fault_of}
use Rattle.cj_frame.specs.declared.error.FrameError.{FrameError}
use Rattle.cj_frame.specs.declared.error.FrameError.TheVariants as errors

-- The first message was taken off, or the bytes are unchanged: more must come, they are faulty, or an allocation
-- failed.
abbrev pub TakesMessage : List ℕ → List ℕ → Result (Option Message) FrameError → Type 0
TakesMessage held rest (Ok (Some m)) = (held ≡ frame m ++ rest) × IsFramed m
TakesMessage held rest (Ok None) = (rest ≡ held) × BeginsNoFrame held × (fault_of held ≡ None)
TakesMessage held rest (Err (errors.Fault fault)) = (rest ≡ held) × BeginsNoFrame held × (fault_of held ≡ Some fault)
TakesMessage held rest (Err errors.NoMemory) = rest ≡ held

-- a step of a feed: a piece is fed, or a message is taken off
pub data FeedStep : Type 0 where
  piece_fed : List ℕ → FeedStep
  message_taken : Message → FeedStep

-- From the bytes held, the steps feed these bytes, take these messages off, and leave the rest held.
abbrev pub FeedLeadsTo : List ℕ → List FeedStep → List ℕ → List Message → List ℕ → Type 0
FeedLeadsTo held [] bytes messages rest = (bytes ≡ []) × (messages ≡ []) × (rest ≡ held)
FeedLeadsTo held (piece_fed piece ∷ steps) bytes messages rest = (more : List ℕ) × (bytes ≡ piece ++ more) × FeedLeadsTo (held ++ piece) steps more messages rest
FeedLeadsTo held (message_taken m ∷ steps) bytes messages rest =
    (after : List ℕ) × (others : List Message) × (held ≡ frame m ++ after) × IsFramed m × (messages ≡ m ∷ others) × FeedLeadsTo after steps bytes others rest

-- However bytes are cut into pieces, and whenever messages are taken off, the messages and the rest are the one
-- reading of the bytes.
abbrev pub FeedsGiveReadings : Type 0
FeedsGiveReadings = (steps : List FeedStep) (bytes : List ℕ) (messages : List Message) (rest : List ℕ) → FeedLeadsTo [] steps bytes messages rest → BeginsNoFrame rest → Frames bytes messages rest

-- the bytes read as some messages and a rest
pub record HasReading (bytes : List ℕ) : Type 0 where
  pub messages : List Message
  pub rest : List ℕ
  pub frames : Frames bytes messages rest

-- All bytes read as some messages and a rest.
abbrev pub BytesHaveReadings : Type 0
BytesHaveReadings = (bytes : List ℕ) → All (λ b. b < 2 ^ 8) bytes → HasReading bytes
