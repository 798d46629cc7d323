-- Digests and the bytes that they spell.
use Rattle.std.proofs.Common.{◌≡◌, ℕ, ◌<◌, ◌+◌, ◌==◌, ◌&&◌, Bool, true, false, List, ◌∷◌, length, get_or, drop, refl, sym, ap, ◌∙◌, arith, bit_or, bit_xor}
use Rattle.std.specs.Result.{is_ok}
use Rattle.std.specs.List.{list_all}
use Rattle.std.specs.Int.Bits.{xor_add_and, xor_self, or_zero_l}
use Rattle.std.proofs.lemmas.Bool.{and_from, and_parts, eq-eqb, eqb-true}
use Rattle.std.proofs.lemmas.List.{drop_more}
use Rattle.std.proofs.lemmas.List.Sums.{AllPass-from_list_all, list_all-from_AllPass}
use Rattle.std.proofs.lemmas.Nat.{and_le_l, and_le_r, le_or_l, le_or_r}
use Rattle.cj_auth.proofs.Common.{bytes_eq, is_digest}
use Rattle.hex.specs.Hex.{decode_sized, is_hex_digit}
use Rattle.hex.proofs.HexLemmas.{IsOk-decode_sized}

pub same_bool : (r s : Bool) → (r ≡ true → s ≡ true) → (s ≡ true → r ≡ true) → r ≡ s
same_bool true s f g = sym (f refl)
same_bool false true f g = g refl
same_bool false false f g = refl

-- 64 hexadecimal digits are decoded, and no other text is
pub decodes_digests : (text : List ℕ) → is_ok (decode_sized text 32) ≡ is_digest text
decodes_digests text =
    let digits = IsOk-decode_sized text 32 in
    same_bool (is_ok (decode_sized text 32)) (is_digest text)
    (λ h. let p = digits.0 h in and_from (length text == 64) (list_all is_hex_digit text) (eq-eqb (length text) 64 p.0) (list_all-from_AllPass is_hex_digit text p.1))
    (λ h. let p = and_parts (length text == 64) (list_all is_hex_digit text) h in digits.1 (eqb-true (length text) 64 p.0, AllPass-from_list_all is_hex_digit text p.1))

-- ---- keys byte by byte

-- bytes whose exclusive or is 0 are alike
xor_alike : (a b : ℕ) → bit_xor a b ≡ 0 → a ≡ b
xor_alike a b h = omega (arith, h, xor_add_and a b, and_le_l a b, and_le_r a b)

-- nothing differs so far with two more bytes, where nothing did before and they are alike
pub differs_more : (d a b : ℕ) → (bit_or d (bit_xor a b) == 0) ≡ (d == 0 && a == b)
differs_more d a b =
    same_bool (bit_or d (bit_xor a b) == 0) (d == 0 && a == b)
    (λ h.
    let z = eqb-true (bit_or d (bit_xor a b)) 0 h in
    let left : d ≡ 0 = omega (arith, z, le_or_l d (bit_xor a b)) in
    let right : bit_xor a b ≡ 0 = omega (arith, z, le_or_r d (bit_xor a b)) in
    and_from (d == 0) (a == b) (eq-eqb d 0 left) (eq-eqb a b (xor_alike a b right)))
    (λ h.
    let p = and_parts (d == 0) (a == b) h in
    eq-eqb (bit_or d (bit_xor a b)) 0
    (ap (λ x. bit_or x (bit_xor a b)) (eqb-true d 0 p.0) ∙ ap (λ x. bit_or 0 (bit_xor x b)) (eqb-true a b p.1) ∙ or_zero_l (bit_xor b b) ∙ xor_self b))

bool_and_assoc : (a b c : Bool) → ((a && b) && c) ≡ (a && (b && c))
bool_and_assoc true b c = refl
bool_and_assoc false b c = refl

-- one more byte of each key is compared
pub compared_more : (xs ys : List ℕ) (i d : ℕ) → i < length xs → i < length ys →
    (bit_or d (bit_xor (get_or xs i 0) (get_or ys i 0)) == 0 && bytes_eq (drop (i + 1) xs) (drop (i + 1) ys)) ≡ (d == 0 && bytes_eq (drop i xs) (drop i ys))
compared_more xs ys i d l m =
    ap (λ b. b && bytes_eq (drop (i + 1) xs) (drop (i + 1) ys)) (differs_more d (get_or xs i 0) (get_or ys i 0))
    ∙ bool_and_assoc (d == 0) (get_or xs i 0 == get_or ys i 0) (bytes_eq (drop (i + 1) xs) (drop (i + 1) ys))
    ∙ sym (ap (λ (zs : List ℕ). d == 0 && bytes_eq zs (drop i ys)) (drop_more xs i 0 l)
    ∙ ap (λ (zs : List ℕ). d == 0 && bytes_eq (get_or xs i 0 ∷ drop (i + 1) xs) zs) (drop_more ys i 0 m))
