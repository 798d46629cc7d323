-- Which bytes are a reply's frame, and the answer of decoding them.
use Rattle.std.specs.Prelude.{◌≡◌, ℕ, ◌^◌, ◌<◌, ◌≤◌, true, List, All, Result, Ok, Err}
use Rattle.cj_model.specs.declared.answer.Answer.{Answer}
use Rattle.cj_model.specs.declared.answer.Reply.{Reply}
use Rattle.cj_model.specs.declared.answer.Reply.TheVariants.{Done, Rows, Stats, Refused}
use Rattle.cj_model.specs.declared.limits.TheConstants.{FRAME_LIMIT}
use Rattle.cj_model.specs.Sql.Literals.{IsConstant}
use Rattle.cj_model.specs.Sql.Names.{is_name}
use Rattle.cj_model.specs.Wire.Replies.{reply_bytes, reply_length, IsEven}
use Rattle.cj_reply.specs.declared.reply.ReplyError.{ReplyError}
use Rattle.cj_reply.specs.declared.reply.ReplyError.TheVariants.{TooLarge, Malformed, NoMemory}

-- The answer has 1 to 65,535 columns, each under a name, and rows of one value for each. A value is a signed number
-- of 64 bits, or a text that a statement may hold: UTF-8 without byte 0, of at most TEXT_LIMIT bytes.
pub record IsWireAnswer (a : Answer) : Type 0 where
  pub even : IsEven a
  pub names : All (λ name. is_name name ≡ true) a.columns
  pub values : All (All IsConstant) a.rows

-- each number fits its field, and an answer fits the wire
abbrev pub HasWireFields : Reply → Type 0
HasWireFields (Done count) = count < 2 ^ 64
HasWireFields (Rows a) = IsWireAnswer a
HasWireFields (Stats hits misses) = (hits < 2 ^ 64) × (misses < 2 ^ 64)
HasWireFields (Refused r) = (r.code < 2 ^ 16) × (r.a < 2 ^ 64) × (r.b < 2 ^ 64)

-- the bytes are exactly the frame of the reply, which fits the wire and the limit
pub record IsReplyFrame (bytes : List ℕ) (reply : Reply) : Type 0 where
  pub fields : HasWireFields reply
  pub size : reply_length reply ≤ FRAME_LIMIT
  pub spelled : bytes ≡ reply_bytes reply

-- the result is the reply whose frame the bytes are, or Malformed where they are the frame of none, unless an
-- allocation fails
abbrev pub Decodes : List ℕ → Result Reply ReplyError → Type 0
Decodes bytes (Ok reply) = IsReplyFrame bytes reply
Decodes bytes (Err (TooLarge n)) = ⊥
Decodes bytes (Err Malformed) = (reply : Reply) → ¬ IsReplyFrame bytes reply
Decodes bytes (Err NoMemory) = Unit {0}
