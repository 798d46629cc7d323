-- Bytes have a reading.
use Rattle.std.proofs.Common.{◌≡◌, ℕ, zero, suc, ◌^◌, ◌<◌, ◌≤◌, List, [], ◌∷◌, ◌++◌, length, get_or, drop, All, Ok, Err, ⊎_elim, refl, ap, ◌∙◌, sym, subst, arith, append_assoc, length-append}
use Rattle.std.proofs.Math.Seq.{drop-append_seam}
use Rattle.std.proofs.lemmas.Bool.{cases_lt}
use Rattle.std.proofs.lemmas.List.{get_or_past}
use Rattle.cj_frame.proofs.Common.{flat_map, flat_map-cons, Message}
use Rattle.cj_model.specs.Wire.Frames.{frame, IsFramed}
use Rattle.cj_model.proofs.Fields.{IsBytes, IsBytes_drop}
use Rattle.cj_frame.specs.Feeding.{BytesHaveReadings, HasReading}
use Rattle.cj_frame.specs.Proving.Reading.{Decoded, next_at}
use Rattle.cj_frame.proofs.Again.{next_none}
use Rattle.cj_frame.proofs.Taken.{next_takes}

-- behind a message's frame
after_frame : (m : Message) (bytes rest : List ℕ) → bytes ≡ frame m ++ rest → IsBytes bytes → IsBytes rest
after_frame m bytes rest is fit = subst IsBytes (ap (drop (length (frame m))) is ∙ drop-append_seam (frame m) rest) (IsBytes_drop (length (frame m)) bytes fit)

-- a message more
read_more : (bytes : List ℕ) (m : Message) (rest : List ℕ) → bytes ≡ frame m ++ rest → IsFramed m → HasReading rest → HasReading bytes
read_more bytes m rest is framed reading = record {
  messages = m ∷ reading.messages;
  rest = reading.rest;
  frames = record {
    whole =
        is ∙ ap (λ (t : List ℕ). frame m ++ t) reading.frames.whole ∙ sym (append_assoc (frame m) (flat_map frame reading.messages) reading.rest)
        ∙ ap (λ (t : List ℕ). t ++ reading.rest) (sym (flat_map-cons frame m reading.messages));
    each = (framed, reading.frames.each);
    stops = reading.frames.stops;
  };
}

-- at most as many messages as bytes
read_from : (n : ℕ) (bytes : List ℕ) (next : Decoded (Message × List ℕ)) → length bytes ≤ n → IsBytes bytes → next_at bytes ≡ next → HasReading bytes
read_from n bytes (Err fault) few fit is = record { messages = []; rest = bytes; frames = record { whole = refl; each = tt; stops = next_none bytes fault is } }
read_from zero bytes (Ok x) few fit is =
    let takes = next_takes bytes x fit is in
    absurd (omega (arith, few, ap length takes.0, length-append (frame x.0) x.1))
read_from (suc n) bytes (Ok x) few fit is =
    let takes = next_takes bytes x fit is in
    let shorter : length x.1 ≤ n = omega (arith, few, ap length takes.0, length-append (frame x.0) x.1) in
    read_more bytes x.0 x.1 takes.0 takes.1 (read_from n x.1 (next_at x.1) shorter (after_frame x.0 bytes x.1 takes.0 fit) refl)

are_bytes : (bytes : List ℕ) → All (λ (b : ℕ). b < 2 ^ 8) bytes → IsBytes bytes
are_bytes bytes fit i =
    ⊎_elim (λ (within : i < length bytes). fit i 0 within) (λ (past : length bytes ≤ i). let none : get_or bytes i 0 ≡ 0 = get_or_past bytes i 0 past in omega (arith, none)) (cases_lt i (length bytes))

pub bytes_have_readings : BytesHaveReadings
bytes_have_readings bytes fit = read_from (length bytes) bytes (next_at bytes) (omega arith) (are_bytes bytes fit) refl
