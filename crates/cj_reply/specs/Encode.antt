-- Which replies can be sent, and the answer of encoding them.
use Rattle.std.specs.Prelude.{◌≡◌, ℕ, ◌-◌, ◌^◌, ◌<◌, ◌≤◌, min, Result, Ok, Err}
use Rattle.std.specs.Global.{Vec}
use Rattle.cj_model.specs.declared.answer.Reply.{Reply}
use Rattle.cj_model.specs.declared.answer.Reply.TheVariants.{Done, Rows, Stats, Refused}
use Rattle.cj_model.specs.declared.limits.TheConstants.{FRAME_LIMIT}
use Rattle.cj_model.specs.Wire.Replies.{reply_bytes, reply_length, IsEven}
use Rattle.cj_reply.specs.declared.reply.ReplyError.{ReplyError}
use Rattle.cj_reply.specs.declared.reply.ReplyError.TheVariants.{TooLarge, Malformed, NoMemory}

-- the number, or the largest `u64` where it is larger
abbrev pub capped : ℕ → ℕ
capped n = min n (2 ^ 64 - 1)

-- the reply can be sent: each row of an answer has one value for each column
abbrev pub IsSendable : Reply → Type 0
IsSendable (Done count) = Unit {0}
IsSendable (Rows a) = IsEven a
IsSendable (Stats hits misses) = Unit {0}
IsSendable (Refused r) = Unit {0}

-- the result is the reply's frame where that is within the limit, else TooLarge with its size; an allocation fails
-- only within the limit
abbrev pub Encodes : Reply → Result (Vec ℕ) ReplyError → Type 0
Encodes reply (Ok frame) = (frame.items ≡ reply_bytes reply) × (reply_length reply ≤ FRAME_LIMIT)
Encodes reply (Err (TooLarge n)) = (FRAME_LIMIT < reply_length reply) × (n ≡ capped (reply_length reply))
Encodes reply (Err Malformed) = ⊥
Encodes reply (Err NoMemory) = reply_length reply ≤ FRAME_LIMIT
