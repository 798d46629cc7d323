-- A client's messages as bytes, what it means that bytes are frames and a rest, and what is wrong with a rest.
use Rattle.std.specs.Prelude.{◌≡◌, ℕ, ◌+◌, ◌^◌, ◌<◌, ◌≤◌, not, ◌&&◌, Bool, List, [], ◌∷◌, ◌++◌, length, take, nat_lt, ◌==◌, if◌then◌else◌, slice_index}
use Rattle.std.specs.declared.option.Option.{Option}
use Rattle.std.specs.declared.option.Option.TheVariants.{None, Some}
use Rattle.std.specs.List.{flat_map, AllByRecursion}
use Rattle.std.specs.Int.{w32, to_be_bytes, from_be_bytes}
use Rattle.cj_model.specs.declared.message.Message.{Message}
use Rattle.cj_model.specs.declared.message.Message.TheVariants.{Login, Query, Stats, Quit}
use Rattle.cj_model.specs.declared.message.FrameFault.{FrameFault}
use Rattle.cj_model.specs.declared.message.FrameFault.TheVariants.{LengthZero, LengthOver, Kind, Payload}
use Rattle.cj_model.specs.declared.limits.TheConstants.{FRAME_LIMIT}
use Rattle.cj_model.specs.Wire.Fields.{str16}

-- the body of a message: its kind, and then its payload
abbrev pub message_body : Message → List ℕ
message_body (Login user password) = 1 ∷ str16 user ++ str16 password
message_body (Query text) = 2 ∷ text
message_body Stats = 3 ∷ []
message_body Quit = 4 ∷ []

-- a message's frame: the length of kind and payload, and then these
abbrev pub frame : Message → List ℕ
frame m = to_be_bytes w32 (length (message_body m)) ++ message_body m

-- a message whose texts are short enough for their length fields
abbrev pub HasTexts : Message → Type 0
HasTexts (Login user password) = (length user < 2 ^ 16) × (length password < 2 ^ 16)
HasTexts (Query text) = Unit {0}
HasTexts Stats = Unit {0}
HasTexts Quit = Unit {0}

-- a message that has a frame
pub record IsFramed (m : Message) : Type 0 where
  pub texts : HasTexts m
  pub size : length (message_body m) ≤ FRAME_LIMIT

-- no whole frame begins these bytes
abbrev pub BeginsNoFrame : List ℕ → Type 0
BeginsNoFrame rest = (m : Message) (more : List ℕ) → IsFramed m → rest ≡ frame m ++ more → ⊥

-- the bytes are the frames of the messages, one after another, and then a rest that no whole frame begins
pub record Frames (bytes : List ℕ) (messages : List Message) (rest : List ℕ) : Type 0 where
  pub whole : bytes ≡ flat_map frame messages ++ rest
  pub each : AllByRecursion IsFramed messages
  pub stops : BeginsNoFrame rest

-- ---- faults

-- the number that the first four bytes say
abbrev pub stated_length : List ℕ → ℕ
stated_length rest = from_be_bytes w32 (take 4 rest)

-- a kind that a client may send
abbrev pub is_client_kind : ℕ → Bool
is_client_kind kind = nat_lt 0 kind && nat_lt kind 5

-- What is wrong with a rest that begins with no whole frame, as soon as it can be seen: the length once four bytes
-- are there, the kind once the fifth is, the payload once the stated length is. None if more bytes have to come.
unfoldable pub fault_of : List ℕ → Option FrameFault
fault_of rest =
    if nat_lt (length rest) 4 then None
    else if stated_length rest == 0 then Some LengthZero
    else if nat_lt FRAME_LIMIT (stated_length rest) then Some LengthOver
    else if nat_lt (length rest) 5 then None
    else if not (is_client_kind (slice_index rest 4)) then Some Kind
    else if nat_lt (length rest) (4 + stated_length rest) then None
    else Some Payload

-- the number of a fault that a client is told
abbrev pub fault_number : FrameFault → ℕ
fault_number LengthZero = 1
fault_number LengthOver = 2
fault_number Kind = 3
fault_number Payload = 4

-- a faulty rest has its fault whatever comes after it, and never becomes a frame
abbrev pub FaultsStay : Type 0
FaultsStay = (rest more : List ℕ) (fault : FrameFault) → BeginsNoFrame rest → fault_of rest ≡ Some fault → BeginsNoFrame (rest ++ more) × (fault_of (rest ++ more) ≡ Some fault)
