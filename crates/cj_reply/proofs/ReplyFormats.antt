-- The formats of replies are formats: their bytes are those of replies, and they hold the replies that can be on the wire.
use Rattle.std.proofs.Common.{◌≡◌, ◌==◌, ℕ, ◌^◌, ◌<◌, ◌≤◌, nat_lt, List, ◌∷◌, length, ◌++◌, get_or, refl, sym, ap, ◌∙◌, append_assoc, arith}
use Rattle.std.specs.List.{flat_map}
use Rattle.std.specs.Int.{w16, w32, to_be_bytes}
use Rattle.std.proofs.lemmas.Bool.{eqb-true, ltb-true, lt-ltb}
use Rattle.std.proofs.lemmas.List.Elements.{All-from_recursion, recursion_from_All}
use Rattle.cj_model.specs.declared.answer.Answer.{Answer}
use Rattle.cj_model.specs.declared.answer.Reply.{Reply}
use Rattle.cj_model.specs.declared.answer.Reply.TheVariants.{Done, Rows, Stats, Refused}
use Rattle.cj_model.specs.declared.limits.TheConstants.{FRAME_LIMIT}
use Rattle.cj_model.specs.declared.value.Value.{Value}
use Rattle.cj_model.specs.Wire.Fields.{str16}
use Rattle.cj_model.specs.Wire.Replies.{reply_body, reply_length}
use Rattle.cj_codec.specs.Fields.{byte, number16, number32, number64, name, value}
use Rattle.cj_codec.specs.Formats.{IsFormat, pair, nothing, repeated, list}
use Rattle.cj_codec.proofs.Fields.{byte_law, number16_law, number32_law, number64_law, name_law, value_law, value_same}
use Rattle.cj_codec.proofs.Formats.{behind_law, mapped_law, pair_law, such_that_law, choice_law, choice_holds, nothing_law, repeated_law, list_law}
use Rattle.cj_codec.proofs.Held.{fields_hold}
use Rattle.cj_reply.specs.Decode.{IsWireAnswer, HasWireFields}
use Rattle.cj_reply.specs.Proving.ReplyFormats.{columns, rows, answer_of, answer, count_in, answer_in, stats_in, refusal_in, done_payload, rows_payload, stats_payload, refused_payload, kind_of, payload_of, reply_field}
use Rattle.cj_reply.proofs.Parts.{answer_parts, rows_within}

-- ---- the law of formats

columns_law : IsFormat columns
columns_law = such_that_law (λ names. nat_lt 0 (length names)) (list number16 name) (list_law number16 name number16_law name_law)

rows_law : (count : ℕ) → IsFormat (rows count)
rows_law count = list_law number32 (repeated value count) number32_law (repeated_law value value_law count)

answer_of_law : (names : List (List ℕ)) → IsFormat (answer_of names)
answer_of_law names = mapped_law (λ values. record { columns = names; rows = values }) (λ a. a.rows) (rows (length names)) (rows_law (length names)) (λ values fits. refl)

answer_law : IsFormat answer
answer_law = behind_law columns (λ a. a.columns) answer_of columns_law answer_of_law (λ names a fits. ap (λ (x : Answer). x.columns) (sym fits.1))

done_law : IsFormat done_payload
done_law = mapped_law Done count_in number64 number64_law (λ n fits. refl)

rows_payload_law : IsFormat rows_payload
rows_payload_law = mapped_law Rows answer_in answer answer_law (λ a fits. refl)

stats_law : IsFormat stats_payload
stats_law = mapped_law (λ p. Stats p.0 p.1) stats_in (pair number64 number64) (pair_law number64 number64 number64_law number64_law) (λ p fits. refl)

refused_law : IsFormat refused_payload
refused_law =
    mapped_law (λ p. Refused (record { code = p.0; a = p.1.0; b = p.1.1 })) refusal_in (pair number16 (pair number64 number64))
    (pair_law number16 (pair number64 number64) number16_law (pair_law number64 number64 number64_law number64_law)) (λ p fits. refl)

payload_law : (kind : ℕ) → IsFormat (payload_of kind)
unfolding payload_of
payload_law kind =
    choice_law (kind == 129) done_payload _ done_law (choice_law (kind == 130) rows_payload _ rows_payload_law (choice_law (kind == 131) stats_payload _ stats_law (choice_law (kind == 143) refused_payload nothing refused_law nothing_law)))

payload_kind : (kind : ℕ) (r : Reply) → (payload_of kind).fits r → kind_of r ≡ kind
unfolding payload_of
payload_kind kind r =
    choice_holds (kind == 129) done_payload _ r (λ is fits. ap kind_of (sym fits.1) ∙ sym (eqb-true kind 129 is))
    (λ other. choice_holds (kind == 130) rows_payload _ r (λ is fits. ap kind_of (sym fits.1) ∙ sym (eqb-true kind 130 is))
    (λ other. choice_holds (kind == 131) stats_payload _ r (λ is fits. ap kind_of (sym fits.1) ∙ sym (eqb-true kind 131 is))
    (λ other. choice_holds (kind == 143) refused_payload nothing r (λ is fits. ap kind_of (sym fits.1) ∙ sym (eqb-true kind 143 is)) (λ other never. absurd never))))

pub reply_law : IsFormat reply_field
reply_law = behind_law byte kind_of payload_of byte_law payload_law payload_kind

-- ---- the bytes

pub body_same : (r : Reply) → reply_field.bytes r ≡ reply_body r
unfolding payload_of
body_same (Done count) = refl
body_same (Rows a) =
    let front : List ℕ = 130 ∷ to_be_bytes w16 (length a.columns) ++ flat_map str16 a.columns in
    sym (append_assoc front (to_be_bytes w32 (length a.rows)) (flat_map (flat_map value.bytes) a.rows))
    ∙ (λ i. (front ++ to_be_bytes w32 (length a.rows)) ++ flat_map (flat_map (λ v. value_same v i)) a.rows)
body_same (Stats hits misses) = refl
body_same (Refused r) = refl

-- ---- what is held

answer_held : (a : Answer) → IsWireAnswer a → length a.rows < 2 ^ 32 → answer.fits a
answer_held a is few =
    let names = recursion_from_All name.fits a.columns (λ k d l. (fields_hold.of_name (get_or a.columns k d)).1 (is.names k d l)) in
    let row = λ (k : ℕ) (d : List Value) (l : k < length a.rows). recursion_from_All value.fits (get_or a.rows k d) (λ i e m. (fields_hold.of_value (get_or (get_or a.rows k d) i e)).1 (is.values k d l i e m)) in
    let each = recursion_from_All (repeated value (length a.columns)).fits a.rows (λ k d l. (is.even.each k d l, row k d l)) in
    (((is.even.most, (refl, names)), lt-ltb 0 (length a.columns) is.even.some), ((few, (refl, each)), refl))

held_answer : (a : Answer) → answer.fits a → IsWireAnswer a
held_answer a held =
    let names = All-from_recursion name.fits a.columns held.0.0.1.1 in
    let each = All-from_recursion (repeated value (length a.columns)).fits a.rows held.1.0.1.1 in
    record {
      even = record { some = ltb-true 0 (length a.columns) held.0.1; most = held.0.0.0; each = λ k d l. (each k d l).0 };
      names = λ k d l. (names k d l).1;
      values = λ k d l i e m. (fields_hold.of_value (get_or (get_or a.rows k d) i e)).0 (All-from_recursion value.fits (get_or a.rows k d) (each k d l).1 i e m);
    }

pub wire_held : (r : Reply) → HasWireFields r → reply_length r ≤ FRAME_LIMIT → reply_field.fits r
unfolding payload_of
wire_held (Done count) is size = (omega arith, (is, refl))
wire_held (Rows a) is size =
    let few = rows_within a FRAME_LIMIT is.even (answer_parts a FRAME_LIMIT size).1 in
    (omega arith, (answer_held a is (omega (arith, few)), refl))
wire_held (Stats hits misses) is size = (omega arith, ((is.0, (is.1, refl)), refl))
wire_held (Refused r) is size = (omega arith, ((is.0, ((is.1, (is.2, refl)), refl)), refl))

pub held_wire : (r : Reply) → reply_field.fits r → HasWireFields r
unfolding payload_of
held_wire (Done count) held = held.1.0
held_wire (Rows a) held = held_answer a held.1.0
held_wire (Stats hits misses) held = (held.1.0.0, held.1.0.1.0)
held_wire (Refused r) held = (held.1.0.0, held.1.0.1.0.0, held.1.0.1.0.1.0)
