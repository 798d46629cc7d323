-- What is taken of an answer is what its format reads.
use Rattle.std.proofs.Common.{◌≡◌, ℕ, List, length, Result, Ok, Err, sym, ap, subst, ◌∙◌}
use Rattle.cj_model.specs.declared.answer.Answer.{Answer}
use Rattle.cj_model.specs.declared.value.Value.{Value}
use Rattle.cj_model.specs.Wire.Fields.{◌>>=◌}
use Rattle.cj_model.proofs.Fields.{failed}
use Rattle.cj_codec.specs.declared.error.CodecError.{CodecError}
use Rattle.cj_codec.specs.declared.error.CodecError.TheVariants as codec
use Rattle.cj_codec.specs.declared.error.Fault.{Fault}
use Rattle.cj_codec.specs.Formats.{Reading}
use Rattle.cj_codec.specs.Readings.{Place, ReadsFields}
use Rattle.cj_reply.specs.Proving.ReplyFormats.{columns, rows, answer_of, answer}

-- behind the columns the answer of these columns is read
behind_columns : (names : List (List ℕ)) (bytes rest : List ℕ) → columns.reads bytes ≡ Ok (names, rest) → answer.reads bytes ≡ (answer_of names).reads rest
behind_columns names bytes rest e = ap (λ (r : Reading (List (List ℕ))). r >>= λ k. (answer_of k.0).reads k.1) e

pub answer_taken : (names : List (List ℕ)) (values : List (List Value)) (count : ℕ) (bytes middle rest : List ℕ) → columns.reads bytes ≡ Ok (names, middle) → count ≡ length names → (rows count).reads middle ≡ Ok (values, rest)
    → answer.reads bytes ≡ Ok (record { columns = names; rows = values }, rest)
answer_taken names values count bytes middle rest first is second =
    behind_columns names bytes middle first
    ∙ ap (λ (r : Reading (List (List Value))). r >>= λ x. Ok (record { columns = names; rows = x.0 }, x.1)) (ap (λ (n : ℕ). (rows n).reads middle) (sym is) ∙ second)

rows_stopped : (names : List (List ℕ)) (count : ℕ) (bytes middle : List ℕ) (fault : Fault) → columns.reads bytes ≡ Ok (names, middle) → count ≡ length names → (rows count).reads middle ≡ Err fault → answer.reads bytes ≡ Err fault
rows_stopped names count bytes middle fault first is second =
    behind_columns names bytes middle first
    ∙ ap (λ (r : Reading (List (List Value))). r >>= λ x. Ok (record { columns = names; rows = x.0 }, x.1)) (ap (λ (n : ℕ). (rows n).reads middle) (sym is) ∙ second)

pub answer_stopped : (names : List (List ℕ)) (count : ℕ) (start middle last : Place) (error : CodecError) (result : Result Answer CodecError) → columns.reads start.rest ≡ Ok (names, middle.rest) → count ≡ length names
    → ReadsFields (rows count) middle last (Err error) → result ≡ Err error → ReadsFields answer start last result
answer_stopped names count start middle last error result first is second said = subst (ReadsFields answer start last) (sym said) (stopped_at error second)
  where
    stopped_at : (d : CodecError) → ReadsFields (rows count) middle last (failed (List (List Value)) d) → ReadsFields answer start last (failed Answer d)
    stopped_at (codec.Cut n) h = rows_stopped names count start.rest middle.rest _ first is h
    stopped_at (codec.BadField n) h = rows_stopped names count start.rest middle.rest _ first is h
    stopped_at codec.NoMemory h = tt
