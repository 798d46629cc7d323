-- Reading the frame at the front of bytes, step by step. A step fails with the fault that it met, or with none
-- where more bytes must come.
use Rattle.std.specs.Prelude.{◌≡◌, ℕ, ◌-◌, zero, suc, List, [], ◌∷◌, length, Result, Ok, Err, nat_lt, ◌==◌, if◌then◌else◌}
use Rattle.std.specs.declared.option.Option.{Option}
use Rattle.std.specs.declared.option.Option.TheVariants.{None, Some}
use Rattle.std.specs.Int.{w16, w32}
use Rattle.cj_model.specs.declared.message.Message.{Message}
use Rattle.cj_model.specs.declared.message.Message.TheVariants.{Login, Query, Stats, Quit}
use Rattle.cj_model.specs.declared.message.FrameFault.{FrameFault}
use Rattle.cj_model.specs.declared.message.FrameFault.TheVariants.{LengthZero, LengthOver, Kind, Payload}
use Rattle.cj_model.specs.declared.limits.TheConstants.{FRAME_LIMIT}
use Rattle.cj_model.specs.Wire.Fields.{◌>>=◌, number_at, bytes_at}
use Rattle.cj_model.specs.Wire.Frames.{is_client_kind}
use Rattle.cj_frame.specs.declared.error.Stop.{Stop}
use Rattle.cj_frame.specs.declared.error.Stop.TheVariants as stops

-- what a step gives: a value, or a fault, or none where more bytes must come
abbrev pub Decoded : Type 0 → Type 0
Decoded A = Result A (Option FrameFault)

-- the fault of a stop, which is none where more bytes must come
abbrev pub short_of : Stop → Option FrameFault
short_of stops.Part = None
short_of (stops.Fault fault) = Some fault
short_of stops.NoMemory = None

-- why a function stopped is why reading failed, unless memory ran out
abbrev pub FailsReading : {Y : Type 0} → Stop → Decoded Y → Type 0
FailsReading stops.Part read = read ≡ Err None
FailsReading (stops.Fault fault) read = read ≡ Err (Some fault)
FailsReading stops.NoMemory read = Unit {0}

-- what a function returned, seen by a view, is what reading gives, unless memory ran out
abbrev pub GivesReading : {X Y : Type 0} → (X → Y) → Result X Stop → Decoded Y → Type 0
GivesReading view (Ok x) read = read ≡ Ok (view x)
GivesReading view (Err stop) read = FailsReading stop read

-- a text after its length
unfoldable pub str16_at : List ℕ → Decoded (List ℕ × List ℕ)
str16_at bytes = do
  n ← number_at (Some Payload) w16 bytes
  bytes_at (Some Payload) n.0 n.1

-- a user and a password, and nothing after them
unfoldable pub login_at : List ℕ → Decoded Message
login_at payload = do
  user ← str16_at payload
  password ← str16_at user.1
  if length password.1 == 0 then Ok (Login user.0 password.0) else Err (Some Payload)

-- a message whose payload is empty
abbrev pub no_payload : Message → List ℕ → Decoded Message
no_payload m payload = if length payload == 0 then Ok m else Err (Some Payload)

-- the message of a kind and its payload
unfoldable pub message_at : ℕ → List ℕ → Decoded Message
message_at zero payload = Err (Some Kind)
message_at (suc zero) payload = login_at payload
message_at (suc (suc zero)) payload = Ok (Query payload)
message_at (suc (suc (suc zero))) payload = no_payload Stats payload
message_at (suc (suc (suc (suc zero)))) payload = no_payload Quit payload
message_at (suc (suc (suc (suc (suc kind))))) payload = Err (Some Kind)

-- a length of four bytes, which is from 1 to the limit
unfoldable pub size_at : List ℕ → Decoded (ℕ × List ℕ)
size_at bytes = do
  size ← number_at None w32 bytes
  if size.0 == 0 then Err (Some LengthZero) else if nat_lt FRAME_LIMIT size.0 then Err (Some LengthOver) else Ok size

-- a kind that a client may send
unfoldable pub message_kind_at : List ℕ → Decoded (ℕ × List ℕ)
message_kind_at [] = Err None
message_kind_at (kind ∷ rest) = if is_client_kind kind then Ok (kind, rest) else Err (Some Kind)

-- the first message, and the bytes after its frame
unfoldable pub next_at : List ℕ → Decoded (Message × List ℕ)
next_at bytes = do
  size ← size_at bytes
  kind ← message_kind_at size.1
  payload ← bytes_at None (size.0 - 1) kind.1
  message ← message_at kind.0 payload.0
  Ok (message, payload.1)
