-- Bytes are the frame of one reply at most, and what decoding tells of them.
use Rattle.std.proofs.Common.{◌≡◌, ℕ, ◌≤◌, List, [], ◌++◌, length, Result, Ok, Err, refl, sym, ap, subst, ◌∙◌, inl, inr, arith}
use Rattle.cj_model.specs.declared.answer.Reply.{Reply}
use Rattle.cj_model.specs.declared.limits.TheConstants.{FRAME_LIMIT}
use Rattle.cj_model.specs.Wire.Fields.{str32}
use Rattle.cj_model.specs.Wire.Replies.{reply_body}
use Rattle.cj_codec.specs.declared.error.CodecError.{CodecError}
use Rattle.cj_codec.specs.declared.error.CodecError.TheVariants as codec
use Rattle.cj_codec.specs.Fields.{number32, string32}
use Rattle.cj_codec.specs.Formats.{IsFormat}
use Rattle.cj_codec.specs.Readings.{IsNoField, ReadsWhole}
use Rattle.cj_codec.proofs.Fields.{number32_law, string_law}
use Rattle.cj_codec.proofs.Formats.{one_reading}
use Rattle.cj_reply.specs.declared.reply.ReplyError.{ReplyError}
use Rattle.cj_reply.specs.declared.reply.ReplyError.TheVariants as errors
use Rattle.cj_reply.specs.Decode.{IsReplyFrame, Decodes}
use Rattle.cj_reply.specs.Laws.{FramesHaveOneReply, EncodedRepliesAreDecoded}
use Rattle.cj_reply.specs.Proving.Decoding.{HoldsBody, reply_error}
use Rattle.cj_reply.specs.Proving.ReplyFormats.{reply_field}
use Rattle.cj_reply.proofs.ReplyFormats.{reply_law, body_same, wire_held, held_wire}

pub string32_law : IsFormat string32
string32_law = string_law number32 number32_law

-- bytes hold one body
one_body : (bytes one other : List ℕ) → HoldsBody bytes one → HoldsBody bytes other → one ≡ other
one_body bytes one other p q =
    (one_reading string32 string32_law one other [] [] (omega (arith, p.size), refl) (omega (arith, q.size), refl) (ap (λ (t : List ℕ). t ++ []) (sym p.spelled ∙ q.spelled))).0

-- a frame holds the kind and payload of its reply
pub frame_holds : (bytes : List ℕ) (r : Reply) → IsReplyFrame bytes r → HoldsBody bytes (reply_body r)
frame_holds bytes r is = record { spelled = is.spelled; size = is.size }

pub frame_read : (bytes body : List ℕ) (r : Reply) → HoldsBody bytes body → (body ≡ reply_field.bytes r) × reply_field.fits r → IsReplyFrame bytes r
frame_read bytes body r holds read =
    let is : body ≡ reply_body r = read.0 ∙ body_same r in
    record {
      fields = held_wire r read.1;
      size = subst (λ (b : List ℕ). length b ≤ FRAME_LIMIT) is holds.size;
      spelled = holds.spelled ∙ ap str32 is;
    }

-- a body that no reply has is in no reply's frame
no_frame : (bytes body : List ℕ) → HoldsBody bytes body → IsNoField reply_field body → (r : Reply) → ¬ IsReplyFrame bytes r
no_frame bytes body holds none r is =
    none r (wire_held r is.fields is.size) (one_body bytes body (reply_body r) holds (frame_holds bytes r is) ∙ sym (body_same r))

pub none_read : (bytes body : List ℕ) (error : CodecError) (result : Result Reply ReplyError) → HoldsBody bytes body → ReadsWhole reply_field body (Err error) → result ≡ Err (reply_error error) → Decodes bytes result
none_read bytes body (codec.Cut n) result holds none is = subst (Decodes bytes) (sym is) (no_frame bytes body holds none)
none_read bytes body (codec.BadField n) result holds none is = subst (Decodes bytes) (sym is) (no_frame bytes body holds none)
none_read bytes body codec.NoMemory result holds none is = subst (Decodes bytes) (sym is) tt

-- ---- laws

pub frames_once : FramesHaveOneReply
frames_once bytes one other p q =
    let bodies : reply_body one ≡ reply_body other = one_body bytes (reply_body one) (reply_body other) (frame_holds bytes one p) (frame_holds bytes other q) in
    let same : reply_field.bytes one ≡ reply_field.bytes other = body_same one ∙ bodies ∙ sym (body_same other) in
    (one_reading reply_field reply_law one other [] [] (wire_held one p.fields p.size) (wire_held other q.fields q.size) (ap (λ (t : List ℕ). t ++ []) same)).0

pub encoded_decoded : EncodedRepliesAreDecoded
encoded_decoded r frame (Ok other) fields encodes decodes =
    inl (ap Ok (frames_once frame.items other r decodes (record { fields = fields; size = encodes.1; spelled = encodes.0 })))
encoded_decoded r frame (Err (errors.TooLarge n)) fields encodes decodes = absurd decodes
encoded_decoded r frame (Err errors.Malformed) fields encodes decodes = absurd (decodes r (record { fields = fields; size = encodes.1; spelled = encodes.0 }))
encoded_decoded r frame (Err errors.NoMemory) fields encodes decodes = inr refl
