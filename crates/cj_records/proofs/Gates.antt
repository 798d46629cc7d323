-- What stands at a gate, by the bytes that were read from there on.
use Rattle.std.proofs.Common.{◌≡◌, ℕ, suc, ◌+◌, ◌≤◌, List, ◌∷◌, ◌++◌, length, take, drop, sym, ap, ◌∙◌, append_assoc, arith, length-take, length-drop}
use Rattle.std.proofs.lemmas.List.{take-append-drop, drop-drop}
use Rattle.cj_records.proofs.Common.{StandsAt, from_be_bytes, str64, to_be_bytes, w64}
use Rattle.cj_model.proofs.Fields.{IsBytes, wide64}
use Rattle.cj_records.specs.declared.gate.Gate.TheVariants.{Open}

-- an open gate with a whole record behind it
pub whole_stands : (size behind : List ℕ) (n : ℕ) → IsBytes size → size ≡ take 8 behind → 8 ≤ length size → n ≡ from_be_bytes w64 size → 9 + n ≤ suc (length behind) → StandsAt (1 ∷ behind) (Open n)
whole_stands size behind n fits s long is within =
    let body = take n (drop 8 behind) in
    let eight : length size ≡ 8 = omega (arith, long, ap length s, length-take 8 behind) in
    let len : length body ≡ n = omega (arith, within, length-take n (drop 8 behind), length-drop 8 behind) in
    let number : to_be_bytes w64 (length body) ≡ take 8 behind = ap (to_be_bytes w64) (len ∙ is) ∙ wide64.back size eight fits ∙ s in
    let later : drop n (drop 8 behind) ≡ drop (9 + n) (1 ∷ behind) = drop-drop n 9 (1 ∷ behind) in
    let split : behind ≡ take 8 behind ++ (body ++ drop n (drop 8 behind)) = sym (take-append-drop 8 behind) ∙ ap (λ (t : List ℕ). take 8 behind ++ t) (sym (take-append-drop n (drop 8 behind))) in
    let record_is : str64 body ++ drop (9 + n) (1 ∷ behind) ≡ behind =
    append_assoc (to_be_bytes w64 (length body)) body (drop (9 + n) (1 ∷ behind)) ∙ ap (λ (t : List ℕ). t ++ (body ++ drop (9 + n) (1 ∷ behind))) number ∙ ap (λ (t : List ℕ). take 8 behind ++ (body ++ t)) (sym later) ∙ sym split in
    (ap (λ (t : List ℕ). 1 ∷ t) (sym record_is), len)
