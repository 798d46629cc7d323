-- What is sent of a reply.
use Rattle.std.proofs.Common.{◌≡◌, ℕ, ◌≤◌, List, Result, Err, Option, refl, sym, ap, subst, inl, inr}
use Rattle.cj_session.proofs.Common.{Answer, OutError, Refusal, Refused, Reply, Rows, SendsReply, WritesAll}
use Rattle.cj_model.specs.declared.codes.TheConstants.{TOO_LARGE}
use Rattle.cj_model.specs.declared.limits.TheConstants.{FRAME_LIMIT}
use Rattle.cj_model.specs.Wire.Replies.{reply_length, reply_bytes}
use Rattle.cj_reply.specs.declared.reply.ReplyError.{ReplyError}
use Rattle.cj_reply.specs.declared.reply.ReplyError.TheVariants as errors
use Rattle.cj_reply.specs.Encode.{Encodes}
use Rattle.cj_session.specs.Proving.Points.{SendsReplyTo, refusal_in_place}

pub sends_to : (held held' : Option (List ℕ)) (r sent : Reply) (bytes : List ℕ) (result : Result (Unit {0}) OutError) → SendsReply r sent → bytes ≡ reply_bytes sent → WritesAll held held' bytes result → SendsReplyTo held held' r result
sends_to held held' r sent bytes result stands is wrote = record { sent = sent; stands = stands; wrote = subst (λ (t : List ℕ). WritesAll held held' t result) is wrote }

-- what is no answer is sent as it is
pub sends_same : (r sent : Reply) → r ≡ sent → SendsReply sent sent → SendsReply r sent
sends_same r sent is same = subst (λ (x : Reply). SendsReply x sent) (sym is) same

pub sends_rows : (r : Reply) (a : Answer) → r ≡ Rows a → reply_length r ≤ FRAME_LIMIT → SendsReply r r
sends_rows r a is = subst (λ (x : Reply). reply_length x ≤ FRAME_LIMIT → SendsReply x x) (sym is) (λ (h : reply_length (Rows a) ≤ FRAME_LIMIT). inl (h, refl))

-- what is sent where rows have no frame
in_place : (a : Answer) (e : ReplyError) → Encodes (Rows a) (Err e) → SendsReply (Rows a) (Refused (refusal_in_place e))
in_place a (errors.TooLarge size) large = inr (inl (large.0, ap (λ (n : ℕ). Refused (record { code = TOO_LARGE; a = n; b = 0 })) large.1))
in_place a errors.Malformed never = absurd never
in_place a errors.NoMemory starved = inr (inr refl)

pub sends_in_place : (held held' : Option (List ℕ)) (r : Reply) (e : ReplyError) (refusal : Refusal) (result : Result (Unit {0}) OutError) → (a : Answer) × (r ≡ Rows a) → Encodes r (Err e)
    → refusal ≡ refusal_in_place e → WritesAll held held' (reply_bytes (Refused refusal)) result → SendsReplyTo held held' r result
sends_in_place held held' r e refusal result (a, is) encodes said wrote =
    let stands : SendsReply (Rows a) (Refused refusal) = subst (λ (x : Refusal). SendsReply (Rows a) (Refused x)) (sym said) (in_place a e (subst (λ (x : Reply). Encodes x (Err e)) is encodes)) in
    record { sent = Refused refusal; stands = subst (λ (x : Reply). SendsReply x (Refused refusal)) (sym is) stands; wrote = wrote }
