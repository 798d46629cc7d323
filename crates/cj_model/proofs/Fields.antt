-- Laws of fields: what is read from the front of bytes is what was written there, whatever error stands for bytes that are too few.
use Rattle.std.proofs.Common.{◌≡◌, ℕ, suc, ◌+◌, ◌^◌, ◌<◌, ◌≤◌, Bool, true, false, cond, ltb, List, ◌∷◌, ◌++◌, length, get_or, take, drop, Result, Ok, Err, refl, sym, ap, subst, ◌∙◌, append_assoc, arith, inl, inr}
use Rattle.std.specs.Int.{Width, w16, w32, w64, byte_len, from_be_bytes, to_be_bytes}
use Rattle.std.proofs.lemmas.Bool.{cases_lt, ltb-false, le-ltb}
use Rattle.std.proofs.lemmas.List.{take_at, drop_at, take-append-drop, length-append, length-take, get_or-drop, get_or-take, get_or_past}
use Rattle.std.proofs.lemmas.Nat.{be_bytes_2, be_bytes_4, be_bytes_8, from_be_bytes-to_be_bytes_2, from_be_bytes-to_be_bytes_4, from_be_bytes-to_be_bytes_8}
use Rattle.cj_model.specs.Wire.Fields.{◌>>=◌, number_at, bytes_at, str16}

-- numbers that are bytes
abbrev pub IsBytes : List ℕ → Type 0
IsBytes bytes = (i : ℕ) → get_or bytes i 0 < 256

-- what comes after some bytes is bytes
pub IsBytes_drop : (n : ℕ) (bytes : List ℕ) → IsBytes bytes → IsBytes (drop n bytes)
IsBytes_drop n bytes h i = rw get_or-drop (h (n + i))

-- the first of some bytes are bytes
pub IsBytes_take : (n : ℕ) (bytes : List ℕ) → IsBytes bytes → IsBytes (take n bytes)
IsBytes_take n bytes h i =
    elim (cases_lt i n) [
      | inl lt ↦ rw (get_or-take n bytes i 0 lt) (h i)
      | inr le ↦ rw (get_or_past (take n bytes) i 0 (omega (arith, length-take n bytes))) (omega arith)
    ]

-- what comes after the first byte is bytes
pub IsBytes_rest : (b : ℕ) (bytes : List ℕ) → IsBytes (b ∷ bytes) → IsBytes bytes
IsBytes_rest b bytes h i = h (suc i)

-- ---- steps that may fail

-- a step that did not fail, with its value
abbrev pub done : {A : Type 0} (E : Type 0) → A → Result A E
done E x = Ok x

-- the value of a step that did not fail is one
pub ok_is : {A E : Type 0} (x y : A) → done E x ≡ done E y → x ≡ y
ok_is x y e = cc

-- a step that failed, with its error
abbrev pub failed : (A : Type 0) {E : Type 0} → E → Result A E
failed A x = Err x

-- the error of a step that failed is one
pub err_is : {A E : Type 0} (x y : E) → failed A x ≡ failed A y → x ≡ y
err_is x y e = cc

-- where two steps did not fail, the first did not
pub bind_ok : {A B E : Type 0} (r : Result A E) (f : A → Result B E) (y : B) → (r >>= f) ≡ Ok y → (x : A) × (r ≡ Ok x) × (f x ≡ Ok y)
bind_ok (Ok x) f y e = (x, refl, e)
bind_ok (Err d) f y e = absurd cc

-- what follows from the value of the first of two steps that did not fail
pub bind_then : {A B E : Type 0} (P : Type 0) (r : Result A E) (f : A → Result B E) (y : B) → (r >>= f) ≡ Ok y → ((x : A) → r ≡ Ok x → f x ≡ Ok y → P) → P
bind_then P (Ok x) f y e so = so x refl e
bind_then P (Err d) f y e so = absurd cc

-- a test for a fault that found none
pub guard_ok : {A E : Type 0} (b : Bool) (d : E) (r : Result A E) (y : A) → cond b (Err d) r ≡ Ok y → (b ≡ false) × (r ≡ Ok y)
guard_ok true d r y e = absurd cc
guard_ok false d r y e = (refl, e)

-- a test without which there is a fault
pub guard_else : {A E : Type 0} (b : Bool) (d : E) (r : Result A E) (y : A) → cond b r (Err d) ≡ Ok y → (b ≡ true) × (r ≡ Ok y)
guard_else true d r y e = (refl, e)
guard_else false d r y e = absurd cc

-- where two steps failed, one of them did
pub bind_err : {A B E : Type 0} (P : E → Type 0) (r : Result A E) (f : A → Result B E) (d : E) → (r ≡ Err d → P d) → ((x : A) → r ≡ Ok x → f x ≡ Err d → P d) → (r >>= f) ≡ Err d → P d
bind_err P (Ok x) f d first second e = second x refl e
bind_err P (Err c) f d first second e = first (cc)

-- a test for a fault, and what comes after it, failed
pub guard_err : {A E : Type 0} (P : E → Type 0) (b : Bool) (c d : E) (r : Result A E) → (b ≡ true → P c) → (b ≡ false → r ≡ Err d → P d) → cond b (Err c) r ≡ Err d → P d
guard_err P true c d r fault later e = let is : c ≡ d = err_is c d e in subst P is (fault refl)
guard_err P false c d r fault later e = later refl e

-- a test without which there is a fault, and what comes after it, failed
pub guard_else_err : {A E : Type 0} (P : E → Type 0) (b : Bool) (c d : E) (r : Result A E) → (b ≡ false → P c) → (b ≡ true → r ≡ Err d → P d) → cond b r (Err c) ≡ Err d → P d
guard_else_err P true c d r fault later e = later refl e
guard_else_err P false c d r fault later e = let is : c ≡ d = err_is c d e in subst P is (fault refl)

-- ---- what a reader took from the front

-- the bytes are a text and then the rest, which is bytes
pub record Takes (bytes text rest : List ℕ) : Type 0 where
  pub parts : bytes ≡ text ++ rest
  pub rest_fits : IsBytes rest

-- one reader after another
pub Takes_then : (a x b y c : List ℕ) → Takes a x b → Takes b y c → Takes a (x ++ y) c
Takes_then a x b y c p q = record { parts = p.parts ∙ ap (λ (t : List ℕ). x ++ t) q.parts ∙ sym (append_assoc x y c); rest_fits = q.rest_fits }

-- ---- numbers

-- the bytes of a number below the limit, and the number again
pub record IsWide (w : Width) (limit : ℕ) : Type 0 where
  pub len : (n : ℕ) → length (to_be_bytes w n) ≡ byte_len w
  pub back : (bytes : List ℕ) → length bytes ≡ byte_len w → IsBytes bytes → to_be_bytes w (from_be_bytes w bytes) ≡ bytes
  pub again : (n : ℕ) → n < limit → from_be_bytes w (to_be_bytes w n) ≡ n
  pub below : (bytes : List ℕ) → IsBytes bytes → from_be_bytes w bytes < limit

-- two bytes
pub wide16 : IsWide w16 (2 ^ 16)
wide16 = record {
  len = λ n. refl;
  back = λ bytes len fits. be_bytes_2 bytes _ len fits refl;
  again = λ n lt. from_be_bytes-to_be_bytes_2 n lt;
  below = λ bytes fits. omega (arith, fits 0, fits 1);
}

-- four bytes
pub wide32 : IsWide w32 (2 ^ 32)
wide32 = record {
  len = λ n. refl;
  back = λ bytes len fits. be_bytes_4 bytes _ len fits refl;
  again = λ n lt. from_be_bytes-to_be_bytes_4 n lt;
  below = λ bytes fits. omega (arith, fits 0, fits 1, fits 2, fits 3);
}

-- eight bytes
pub wide64 : IsWide w64 (2 ^ 64)
wide64 = record {
  len = λ n. refl;
  back = λ bytes len fits. be_bytes_8 bytes _ len fits refl;
  again = λ n lt. from_be_bytes-to_be_bytes_8 n lt;
  below = λ bytes fits. omega (arith, fits 0, fits 1, fits 2, fits 3, fits 4, fits 5, fits 6, fits 7);
}

-- a number that is read is the bytes of that number, and below the limit
pub number_takes : {E : Type 0} (short : E) (w : Width) (limit : ℕ) (wide : IsWide w limit) (bytes : List ℕ) (x : ℕ × List ℕ) → IsBytes bytes → number_at short w bytes ≡ Ok x → Takes bytes (to_be_bytes w x.0) x.1 × (x.0 < limit)
number_takes short w limit wide bytes x fits e =
    let read : ℕ × List ℕ = (from_be_bytes w (take (byte_len w) bytes), drop (byte_len w) bytes) in
    let g = guard_ok (ltb (length bytes) (byte_len w)) short (Ok read) x e in
    let long : byte_len w ≤ length bytes = ltb-false _ _ g.0 in
    let front : to_be_bytes w read.0 ≡ take (byte_len w) bytes = wide.back (take (byte_len w) bytes) (omega (arith, length-take (byte_len w) bytes)) (IsBytes_take (byte_len w) bytes fits) in
    let takes : Takes bytes (to_be_bytes w read.0) read.1 = record { parts = rw front (sym (take-append-drop (byte_len w) bytes)); rest_fits = IsBytes_drop (byte_len w) bytes fits } in
    subst (λ (y : ℕ × List ℕ). Takes bytes (to_be_bytes w y.0) y.1 × (y.0 < limit)) (ok_is read x g.1) (takes, wide.below (take (byte_len w) bytes) (IsBytes_take (byte_len w) bytes fits))

-- the bytes of a number are read as that number, whatever follows
pub number_again : {E : Type 0} (short : E) (w : Width) (limit : ℕ) (wide : IsWide w limit) (n : ℕ) (rest : List ℕ) → n < limit → number_at short w (to_be_bytes w n ++ rest) ≡ Ok (n, rest)
number_again short w limit wide n rest lt =
    let len = wide.len n in
    let long : ltb (length (to_be_bytes w n ++ rest)) (byte_len w) ≡ false = le-ltb _ _ (omega (arith, length-append (to_be_bytes w n) rest)) in
    rw (long, take_at (to_be_bytes w n) rest (byte_len w) len, drop_at (to_be_bytes w n) rest (byte_len w) len, wide.again n lt) refl

-- ---- so many bytes

-- bytes that are read stand at the front, and are so many
pub bytes_takes : {E : Type 0} (short : E) (n : ℕ) (bytes : List ℕ) (x : List ℕ × List ℕ) → IsBytes bytes → bytes_at short n bytes ≡ Ok x → Takes bytes x.0 x.1 × (length x.0 ≡ n) × IsBytes x.0
bytes_takes short n bytes x fits e =
    let read : List ℕ × List ℕ = (take n bytes, drop n bytes) in
    let g = guard_ok (ltb (length bytes) n) short (Ok read) x e in
    let long : n ≤ length bytes = ltb-false _ _ g.0 in
    subst (λ (y : List ℕ × List ℕ). Takes bytes y.0 y.1 × (length y.0 ≡ n) × IsBytes y.0) (ok_is read x g.1)
    (record { parts = sym (take-append-drop n bytes); rest_fits = IsBytes_drop n bytes fits }, omega (arith, length-take n bytes), IsBytes_take n bytes fits)

-- bytes at the front are read, whatever follows
pub bytes_again : {E : Type 0} (short : E) (n : ℕ) (text rest : List ℕ) → length text ≡ n → bytes_at short n (text ++ rest) ≡ Ok (text, rest)
bytes_again short n text rest len =
    let long : ltb (length (text ++ rest)) n ≡ false = le-ltb _ _ (omega (arith, length-append text rest)) in
    rw (long, take_at text rest n len, drop_at text rest n len) refl

-- ---- a text behind its length

-- a length, and so many bytes
abbrev pub text_at : {E : Type 0} → E → Width → List ℕ → Result (List ℕ × List ℕ) E
text_at short w bytes = number_at short w bytes >>= λ n. bytes_at short n.0 n.1

-- a text that is read is its length and its bytes
pub text_takes : {E : Type 0} (short : E) (w : Width) (limit : ℕ) (wide : IsWide w limit) (bytes : List ℕ) (x : List ℕ × List ℕ) → IsBytes bytes → text_at short w bytes ≡ Ok x → Takes bytes (to_be_bytes w (length x.0) ++ x.0) x.1 × (length x.0 < limit) × IsBytes x.0
text_takes short w limit wide bytes x fits e =
    let b = bind_ok (number_at short w bytes) (λ n. bytes_at short n.0 n.1) x e in
    let n = b.0 in
    let t = number_takes short w limit wide bytes n fits b.1 in
    let s = bytes_takes short n.0 n.1 x t.0.rest_fits b.2 in
    let both = Takes_then bytes (to_be_bytes w n.0) n.1 x.0 x.1 t.0 s.0 in
    (subst (λ (k : ℕ). Takes bytes (to_be_bytes w k ++ x.0) x.1) (sym s.1) both, omega (arith, t.1, s.1), s.2)

-- a text is read again, whatever follows
pub text_again : {E : Type 0} (short : E) (w : Width) (limit : ℕ) (wide : IsWide w limit) (text rest : List ℕ) → length text < limit → text_at short w ((to_be_bytes w (length text) ++ text) ++ rest) ≡ Ok (text, rest)
text_again short w limit wide text rest lt =
    rw (append_assoc (to_be_bytes w (length text)) text rest, number_again short w limit wide (length text) (text ++ rest) lt) (bytes_again short (length text) text rest refl)

-- a text behind two bytes of length that is read is that length and its bytes
pub str16_takes : {E : Type 0} (short : E) (bytes : List ℕ) (x : List ℕ × List ℕ) → IsBytes bytes → text_at short w16 bytes ≡ Ok x → Takes bytes (str16 x.0) x.1 × (length x.0 < 2 ^ 16) × IsBytes x.0
str16_takes short bytes x fits e = text_takes short w16 (2 ^ 16) wide16 bytes x fits e

-- a text behind two bytes of length is read again, whatever follows
pub str16_again : {E : Type 0} (short : E) (text rest : List ℕ) → length text < 2 ^ 16 → text_at short w16 (str16 text ++ rest) ≡ Ok (text, rest)
str16_again short text rest lt = text_again short w16 (2 ^ 16) wide16 text rest lt

-- two texts behind their lengths, with what follows them, are the same bytes only where they are the same texts
pub text_same : (w : Width) (limit : ℕ) (wide : IsWide w limit) (a b r s : List ℕ) → length a < limit → length b < limit
    → (to_be_bytes w (length a) ++ a) ++ r ≡ (to_be_bytes w (length b) ++ b) ++ s → (a ≡ b) × (r ≡ s)
text_same w limit wide a b r s small few e =
    let read : (a, r) ≡ (b, s) = ok_is {E = Unit {0}} (a, r) (b, s) (sym (text_again tt w limit wide a r small) ∙ ap (text_at tt w) e ∙ text_again tt w limit wide b s few) in
    (ap (λ (x : List ℕ × List ℕ). x.0) read, ap (λ (x : List ℕ × List ℕ). x.1) read)
