-- Two readings of the same bytes are one.
use Rattle.std.proofs.Common.{◌≡◌, ℕ, ◌^◌, ◌<◌, List, [], ◌∷◌, ◌++◌, length, get_or, drop, refl, sym, ap, ◌∙◌, append_assoc, arith}
use Rattle.std.specs.List.{flat_map, AllByRecursion}
use Rattle.std.specs.Int.{w16, w32}
use Rattle.std.proofs.lemmas.List.{append-nil}
use Rattle.std.proofs.lemmas.List.Concat.{flat_map-cons}
use Rattle.cj_model.proofs.Common.{Login, Message, Query, Quit, Stats}
use Rattle.cj_model.specs.Wire.Fields.{str16}
use Rattle.cj_model.specs.Wire.Frames.{message_body, frame, IsFramed, BeginsNoFrame, Frames, HasTexts}
use Rattle.cj_model.proofs.Fields.{wide16, wide32, text_same}

-- two texts, one after the other, are the same bytes only where they are the same texts
texts_same : (a b c d : List ℕ) → length a < 2 ^ 16 → length b < 2 ^ 16 → length c < 2 ^ 16 → length d < 2 ^ 16 → str16 a ++ str16 b ≡ str16 c ++ str16 d → (a ≡ c) × (b ≡ d)
texts_same a b c d la lb lc ld e =
    let first = text_same w16 (2 ^ 16) wide16 a c (str16 b) (str16 d) la lc e in
    let last : str16 b ++ [] ≡ str16 d ++ [] = append-nil (str16 b) ∙ first.1 ∙ sym (append-nil (str16 d)) in
    (first.0, (text_same w16 (2 ^ 16) wide16 b d [] [] lb ld last).0)

-- a message's kind and payload are those of no other
body_same : (m n : Message) → HasTexts m → HasTexts n → message_body m ≡ message_body n → m ≡ n
body_same (Login a b) (Login c d) p q e =
    let both = texts_same a b c d p.0 p.1 q.0 q.1 (ap (drop 1) e) in
    ap (λ (x : List ℕ). Login x b) both.0 ∙ ap (λ (x : List ℕ). Login c x) both.1
body_same (Query a) (Query b) p q e = ap Query (ap (drop 1) e)
body_same Stats Stats p q e = refl
body_same Quit Quit p q e = refl
body_same m n p q e = absurd (omega (arith, ap (λ (x : List ℕ). get_or x 0 0) e))

-- bytes begin with the frame of one message at most
pub frame_same : (m n : Message) (rest more : List ℕ) → IsFramed m → IsFramed n → frame m ++ rest ≡ frame n ++ more → (m ≡ n) × (rest ≡ more)
frame_same m n rest more p q e =
    let both = text_same w32 (2 ^ 32) wide32 (message_body m) (message_body n) rest more (omega (arith, p.size)) (omega (arith, q.size)) e in
    (body_same m n p.texts q.texts both.0, both.1)

-- the first frame, and all that follows it
first : (m : Message) (ms : List Message) (rest : List ℕ) → flat_map frame (m ∷ ms) ++ rest ≡ frame m ++ (flat_map frame ms ++ rest)
first m ms rest = ap (λ (t : List ℕ). t ++ rest) (flat_map-cons frame m ms) ∙ append_assoc (frame m) (flat_map frame ms) rest

-- one reading, where both are written out
same : (ms ns : List Message) (rest more : List ℕ) → flat_map frame ms ++ rest ≡ flat_map frame ns ++ more → AllByRecursion IsFramed ms → AllByRecursion IsFramed ns → BeginsNoFrame rest → BeginsNoFrame more → (ms ≡ ns) × (rest ≡ more)
same [] [] rest more e p q r s = (refl, e)
same [] (n ∷ ns) rest more e p q r s = absurd (r n (flat_map frame ns ++ more) q.0 (e ∙ first n ns more))
same (m ∷ ms) [] rest more e p q r s = absurd (s m (flat_map frame ms ++ rest) p.0 (sym e ∙ first m ms rest))
same (m ∷ ms) (n ∷ ns) rest more e p q r s =
    let both = frame_same m n (flat_map frame ms ++ rest) (flat_map frame ns ++ more) p.0 q.0 (sym (first m ms rest) ∙ e ∙ first n ns more) in
    let later = same ms ns rest more both.1 p.1 q.1 r s in
    (ap (λ (x : Message). x ∷ ms) both.0 ∙ ap (λ (xs : List Message). n ∷ xs) later.0, later.1)

-- bytes are the frames of one list of messages, and one rest
pub one_reading : (bytes rest more : List ℕ) (ms ns : List Message) → Frames bytes ms rest → Frames bytes ns more → (ms ≡ ns) × (rest ≡ more)
one_reading bytes rest more ms ns f g = same ms ns rest more (sym f.whole ∙ g.whole) f.each g.each f.stops g.stops
