-- The kind and payload of a reply as a format, made of the formats of its fields.
use Rattle.std.specs.Prelude.{ℕ, ◌==◌, cond, List, [], length, nat_lt}
use Rattle.cj_model.specs.declared.answer.Answer.{Answer}
use Rattle.cj_model.specs.declared.answer.Reply.{Reply}
use Rattle.cj_model.specs.declared.answer.Reply.TheVariants.{Done, Rows, Stats, Refused}
use Rattle.cj_model.specs.declared.value.Value.{Value}
use Rattle.cj_codec.specs.Fields.{byte, number16, number32, number64, name, value}
use Rattle.cj_codec.specs.Formats.{Format, behind, mapped, pair, such_that, nothing, repeated, list}

-- ---- answers

-- names of columns, at least one
abbrev pub columns : Format (List (List ℕ))
columns = such_that (λ names. nat_lt 0 (length names)) (list number16 name)

-- rows of `count` values each
abbrev pub rows : ℕ → Format (List (List Value))
rows count = list number32 (repeated value count)

-- an answer of these columns
abbrev pub answer_of : List (List ℕ) → Format Answer
answer_of names = mapped (λ values. record { columns = names; rows = values }) (λ a. a.rows) (rows (length names))

abbrev pub answer : Format Answer
answer = behind columns (λ a. a.columns) answer_of

-- ---- payloads, and what is in them of a reply that is of their kind

abbrev pub count_in : Reply → ℕ
count_in (Done count) = count
count_in reply = 0

abbrev pub done_payload : Format Reply
done_payload = mapped Done count_in number64

abbrev pub answer_in : Reply → Answer
answer_in (Rows a) = a
answer_in reply = record { columns = []; rows = [] }

abbrev pub rows_payload : Format Reply
rows_payload = mapped Rows answer_in answer

abbrev pub stats_in : Reply → ℕ × ℕ
stats_in (Stats hits misses) = (hits, misses)
stats_in reply = (0, 0)

abbrev pub stats_payload : Format Reply
stats_payload = mapped (λ p. Stats p.0 p.1) stats_in (pair number64 number64)

abbrev pub refusal_in : Reply → ℕ × (ℕ × ℕ)
refusal_in (Refused r) = (r.code, (r.a, r.b))
refusal_in reply = (0, (0, 0))

abbrev pub refused_payload : Format Reply
refused_payload = mapped (λ p. Refused (record { code = p.0; a = p.1.0; b = p.1.1 })) refusal_in (pair number16 (pair number64 number64))

-- ---- kind and payload

abbrev pub kind_of : Reply → ℕ
kind_of (Done count) = 129
kind_of (Rows a) = 130
kind_of (Stats hits misses) = 131
kind_of (Refused r) = 143

unfoldable pub payload_of : ℕ → Format Reply
payload_of kind = cond (kind == 129) done_payload (cond (kind == 130) rows_payload (cond (kind == 131) stats_payload (cond (kind == 143) refused_payload nothing)))

abbrev pub reply_field : Format Reply
reply_field = behind byte kind_of payload_of
