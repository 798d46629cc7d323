-- Outcomes and answers as replies, and replies as bytes.
use Rattle.std.specs.Prelude.{ℕ, ◌≡◌, ◌<◌, ◌^◌, List, ◌∷◌, ◌++◌, length, All}
use Rattle.std.specs.List.{flat_map}
use Rattle.std.specs.Int.{w16, w32, w64, to_be_bytes, cast_unsigned}
use Rattle.cj_model.specs.declared.value.Value.{Value}
use Rattle.cj_model.specs.declared.value.Value.TheVariants.{Int, Text}
use Rattle.cj_model.specs.declared.answer.Answer.{Answer}
use Rattle.cj_model.specs.declared.answer.Outcome.{Outcome}
use Rattle.cj_model.specs.declared.answer.Outcome.TheVariants as outcome
use Rattle.cj_model.specs.declared.answer.Asked.{Asked}
use Rattle.cj_model.specs.declared.answer.Asked.TheVariants as asked
use Rattle.cj_model.specs.declared.answer.Reply.{Reply}
use Rattle.cj_model.specs.declared.answer.Reply.TheVariants.{Done, Rows, Stats, Refused}
use Rattle.cj_model.specs.Wire.Fields.{str16, str32}

-- ---- what is replied

abbrev pub outcome_reply : Outcome → Reply
outcome_reply (outcome.Done count) = Done count
outcome_reply (outcome.Refused refusal) = Refused refusal

abbrev pub asked_reply : Asked → Reply
asked_reply (asked.Rows answer) = Rows answer
asked_reply (asked.Refused refusal) = Refused refusal

-- ---- its bytes

-- the bytes of a value: 01 and two's complement, or 02 and the text
abbrev pub value_bytes : Value → List ℕ
value_bytes (Int n) = 1 ∷ to_be_bytes w64 (cast_unsigned w64 n)
value_bytes (Text t) = 2 ∷ str32 t

abbrev pub row_bytes : List Value → List ℕ
row_bytes row = flat_map value_bytes row

-- the bytes of an answer: the number of columns, their names, the number of rows, and their values
abbrev pub answer_bytes : Answer → List ℕ
answer_bytes a = to_be_bytes w16 (length a.columns) ++ flat_map str16 a.columns ++ to_be_bytes w32 (length a.rows) ++ flat_map row_bytes a.rows

-- the body of a reply: its kind, and then its payload
abbrev pub reply_body : Reply → List ℕ
reply_body (Done count) = 129 ∷ to_be_bytes w64 count
reply_body (Rows a) = 130 ∷ answer_bytes a
reply_body (Stats hits misses) = 131 ∷ to_be_bytes w64 hits ++ to_be_bytes w64 misses
reply_body (Refused r) = 143 ∷ to_be_bytes w16 r.code ++ to_be_bytes w64 r.a ++ to_be_bytes w64 r.b

-- the length that a reply's frame states, in bytes
abbrev pub reply_length : Reply → ℕ
reply_length r = length (reply_body r)

-- a reply's frame: the length of kind and payload, and then these
abbrev pub reply_bytes : Reply → List ℕ
reply_bytes r = to_be_bytes w32 (length (reply_body r)) ++ reply_body r

-- an answer of 1 to 65,535 columns, in which each row has a value for each column
pub record IsEven (a : Answer) : Type 0 where
  pub some : 0 < length a.columns
  pub most : length a.columns < 2 ^ 16
  pub each : All (λ row. length row ≡ length a.columns) a.rows
