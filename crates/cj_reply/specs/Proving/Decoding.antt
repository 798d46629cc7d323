-- The answers of the steps of decoding.
use Rattle.std.specs.Prelude.{◌≡◌, ℕ, ◌≤◌, List, length, Result, Ok, Err}
use denote.Ref.{Bor}
use Rattle.cj_codec.specs.declared.error.CodecError.{CodecError}
use Rattle.cj_codec.specs.declared.error.CodecError.TheVariants as codec
use Rattle.cj_model.specs.declared.limits.TheConstants.{FRAME_LIMIT}
use Rattle.cj_model.specs.Wire.Fields.{str32}
use Rattle.cj_reply.specs.declared.reply.ReplyError.{ReplyError}
use Rattle.cj_reply.specs.declared.reply.ReplyError.TheVariants.{TooLarge, Malformed, NoMemory}

-- the bytes are the length of `body`, which is within the limit, and then `body`
pub record HoldsBody (bytes body : List ℕ) : Type 0 where
  pub spelled : bytes ≡ str32 body
  pub size : length body ≤ FRAME_LIMIT

abbrev pub FindsBody : List ℕ → Result (Bor (List ℕ)) ReplyError → Type 0
FindsBody bytes (Ok body) = HoldsBody bytes body.now
FindsBody bytes (Err (TooLarge n)) = ⊥
FindsBody bytes (Err Malformed) = (body : List ℕ) → ¬ HoldsBody bytes body
FindsBody bytes (Err NoMemory) = Unit {0}

-- the error of a reply that an error of the codec is
abbrev pub reply_error : CodecError → ReplyError
reply_error (codec.Cut n) = Malformed
reply_error (codec.BadField n) = Malformed
reply_error codec.NoMemory = NoMemory
