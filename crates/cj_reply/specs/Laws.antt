-- What holds of frames of replies.
use Rattle.std.specs.Prelude.{◌≡◌, ◌⊎◌, ℕ, List, Result, Ok, Err}
use Rattle.std.specs.Global.{Vec}
use Rattle.cj_model.specs.declared.answer.Reply.{Reply}
use Rattle.cj_reply.specs.declared.reply.ReplyError.{ReplyError}
use Rattle.cj_reply.specs.declared.reply.ReplyError.TheVariants.{NoMemory}
use Rattle.cj_reply.specs.Encode.{Encodes}
use Rattle.cj_reply.specs.Decode.{HasWireFields, IsReplyFrame, Decodes}

-- bytes are the frame of at most one reply
abbrev pub FramesHaveOneReply : Type 0
FramesHaveOneReply = (bytes : List ℕ) (one other : Reply) → IsReplyFrame bytes one → IsReplyFrame bytes other → one ≡ other

-- an encoded reply that fits the wire is decoded as this reply, unless an allocation fails
abbrev pub EncodedRepliesAreDecoded : Type 0
EncodedRepliesAreDecoded = (reply : Reply) (frame : Vec ℕ) (result : Result Reply ReplyError) → HasWireFields reply → Encodes reply (Ok frame) → Decodes frame.items result → (result ≡ Ok reply) ⊎ (result ≡ Err NoMemory)
