-- Where words end.
use Rattle.std.proofs.Common.{◌≡◌, ◌∙◌, refl, sym, ap, subst, ℕ, not, ◌==◌, List, [], ◌∷◌, ◌++◌, Some}
use Rattle.std.specs.List.{list_all, position}
use Rattle.std.specs.Str.{bytes_eq}
use Rattle.std.proofs.lemmas.Bool.{and_parts, false≢true}
use Rattle.cj_words.specs.Words.{CutsWord, IsNamed, IsNumbered}
use Rattle.cj_cluster.specs.Script.Lines.{IsNumber, IsBackend, HasNoSpace}
use Rattle.cj_words.proofs.Numbers.{number_word, number_one}

-- what a word is after its first byte
rest_word : (b : ℕ) (z : List ℕ) → HasNoSpace (b ∷ z) → HasNoSpace z
rest_word b z h = (and_parts (not (b == 32)) (list_all (λ x. not (x == 32)) z) h).1

-- a word holds no space
pub no_space : (w z : List ℕ) → HasNoSpace (w ++ 32 ∷ z) → ⊥
no_space [] z h = false≢true h
no_space (b ∷ w) z h = no_space w z (rest_word b (w ++ 32 ∷ z) h)

-- a word ends at the first space
pub one_cut : (w v y z : List ℕ) → HasNoSpace w → HasNoSpace v → w ++ 32 ∷ y ≡ v ++ 32 ∷ z → (w ≡ v) × (y ≡ z)
one_cut [] [] y z p q e = (refl, cc)
one_cut [] (b ∷ v) y z p q e = let k : 32 ≡ b = cc in absurd (no_space [] v (subst (λ x. HasNoSpace (x ∷ v)) (sym k) q))
one_cut (a ∷ w) [] y z p q e = let k : a ≡ 32 = cc in absurd (no_space [] w (subst (λ x. HasNoSpace (x ∷ w)) k p))
one_cut (a ∷ w) (b ∷ v) y z p q e =
    let k : a ≡ b = cc in
    let t : w ++ 32 ∷ y ≡ v ++ 32 ∷ z = cc in
    let r = one_cut w v y z (rest_word a w p) (rest_word b v q) t in
    let left = r.0 in
    (cc, r.1)

-- where a line was cut, it is no other word and no other rest
pub cut_one : (line word rest w z : List ℕ) → CutsWord line word (Some rest) → HasNoSpace w → line ≡ w ++ 32 ∷ z → (word ≡ w) × (rest ≡ z)
cut_one line word rest w z c h e = one_cut word w rest z c.0 h (sym c.1 ∙ e)

-- the number and what follows it are one
pub numbered_one : (rest : List ℕ) (m n : ℕ) (y z : List ℕ) → IsNumbered rest m y → IsNumbered rest n z → (m ≡ n) × (y ≡ z)
numbered_one rest m n y z p q =
    let c = one_cut p.word q.word y z (number_word p.word m p.number) (number_word q.word n q.number) (sym p.parts ∙ q.parts) in
    (number_one q.word m n (subst (λ w. IsNumber w m) c.0 p.number) q.number, c.1)

-- where the first word is no number, none follows
pub no_numbered : (line word rest : List ℕ) → CutsWord line word (Some rest) → ((n : ℕ) → IsNumber word n → ⊥) → (n : ℕ) (more : List ℕ) → IsNumbered line n more → ⊥
no_numbered line word rest c none n more i =
    let k = cut_one line word rest i.word more c (number_word i.word n i.number) i.parts in
    none n (subst (λ w. IsNumber w n) (sym k.0) i.number)

-- the backend that a word names and what follows it are one
pub named_one : (names : List (List ℕ)) (rest : List ℕ) (b d : ℕ) (y z : List ℕ) → IsNamed names rest b y → IsNamed names rest d z → (b ≡ d) × (y ≡ z)
named_one names rest b d y z p q =
    let c = one_cut p.word q.word y z p.backend.word q.backend.word (sym p.parts ∙ q.parts) in
    let first = p.backend.named in
    let second = q.backend.named in
    let same = c.0 in
    let both : Some b ≡ Some d = sym first ∙ ap (λ w. position (bytes_eq w) names) same ∙ second in
    (cc, c.1)

-- where the first word names no backend, none is named
pub no_name : (names : List (List ℕ)) (line word rest : List ℕ) → CutsWord line word (Some rest) → ((b : ℕ) → IsBackend names word b → ⊥) → (b : ℕ) (more : List ℕ) → IsNamed names line b more → ⊥
no_name names line word rest c none b more i =
    let k = cut_one line word rest i.word more c i.backend.word i.parts in
    none b (subst (λ w. IsBackend names w b) (sym k.0) i.backend)
