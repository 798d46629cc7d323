-- The parts of a workload's words: what the front of the words is read as, and nothing else.
use Rattle.std.proofs.Common.{◌≡◌, ◌⊎◌, inl, inr, ◌≤◌, refl, sym, ap, subst, ◌∙◌, ℕ, Bool, true, false, ◌||◌, List, [], ◌∷◌, ◌++◌, length, take, drop, codes, arith}
use Rattle.std.specs.Prelude.{IfSome, nat_lt, if◌then◌else◌}
use Rattle.std.specs.declared.option.Option.{Option}
use Rattle.std.specs.declared.option.Option.TheVariants.{None, Some}
use Rattle.std.specs.Str.{bytes_eq}
use Rattle.std.specs.Str.Parse.{digits_value}
use Rattle.std.proofs.lemmas.Bool.Decides.{nat_tests}
use Rattle.std.proofs.lemmas.List.{take-append-drop}
use Rattle.std.proofs.lemmas.Slice.Eq.{bytes_eq-Decides}
use Rattle.cj_args.specs.Words.{names_file, is_numeral, IsNumeralOf, IsOption}
use Rattle.cj_args.specs.Proving.{Part, Conf, Seed, Count, number_of, next_word, behind, with_rest, value, conf, as_seed, as_count, numbered, seed, count, part}
use Rattle.cj_args.specs.declared.parts.TheConstants.{COUNT_LIMIT}
use Rattle.cj_args.proofs.Picks.{pick, either}

-- these are the words of the part
abbrev pub IsPart : Part → List (List ℕ) → Type 0
IsPart (Conf word) said = (names_file word ≡ true) × (said ≡ word ∷ [])
IsPart (Seed n) said = IsOption (codes "--seed") said n
IsPart (Count n) said = IsOption (codes "--count") said n × (1 ≤ n) × (n ≤ COUNT_LIMIT)

-- the words are those of the part, and these behind it
abbrev pub BeginsWith : List (List ℕ) → Part × List (List ℕ) → Type 0
BeginsWith words r = (said : List (List ℕ)) × IsPart r.0 said × (words ≡ said ++ r.1)

-- ---- what is read stands there

number_is : (z : List ℕ) → IfSome (number_of z) (IsNumeralOf z)
number_is z = pick (IsNumeralOf z) (is_numeral z) (digits_value 10 z) None (λ e. (e, refl)) tt

behind_is : (front word : List ℕ) → IfSome (behind front word) (λ rest. word ≡ front ++ rest)
behind_is front word =
    pick (λ rest. word ≡ front ++ rest) (bytes_eq (take (length front) word) front) (drop (length front) word) None
    (λ e. let same : take (length front) word ≡ front = (bytes_eq-Decides (take (length front) word) front).0 e in
    sym (take-append-drop (length front) word) ∙ ap (λ z. z ++ drop (length front) word) same) tt

-- the option's words begin the words
abbrev HasValue : List ℕ → List ℕ → List (List ℕ) → List ℕ × List (List ℕ) → Type 0
HasValue name assigned words r = (words ≡ name ∷ r.0 ∷ r.1) ⊎ (words ≡ (assigned ++ r.0) ∷ r.1)

next_is : (name assigned word : List ℕ) (rest : List (List ℕ)) → word ≡ name → IfSome (next_word rest) (HasValue name assigned (word ∷ rest))
next_is name assigned word [] e = tt
next_is name assigned word (v ∷ rest) e = inl (ap (λ w. w ∷ v ∷ rest) e)

rest_is : (name assigned word : List ℕ) (rest : List (List ℕ)) (o : Option (List ℕ)) → IfSome o (λ v. word ≡ assigned ++ v) → IfSome (with_rest rest o) (HasValue name assigned (word ∷ rest))
rest_is name assigned word rest None h = tt
rest_is name assigned word rest (Some v) h = inr (ap (λ w. w ∷ rest) h)

value_by : (name assigned word : List ℕ) (rest : List (List ℕ)) (b : Bool) → bytes_eq word name ≡ b
    → IfSome (if b then next_word rest else with_rest rest (behind assigned word)) (HasValue name assigned (word ∷ rest))
value_by name assigned word rest true e = next_is name assigned word rest ((bytes_eq-Decides word name).0 e)
value_by name assigned word rest false e = rest_is name assigned word rest (behind assigned word) (behind_is assigned word)

value_is : (name assigned : List ℕ) (words : List (List ℕ)) → IfSome (value name assigned words) (HasValue name assigned words)
value_is name assigned [] = tt
value_is name assigned (word ∷ rest) = value_by name assigned word rest (bytes_eq word name) refl

option_is : (name : List ℕ) (words : List (List ℕ)) (r : List ℕ × List (List ℕ)) (n : ℕ) → HasValue name (name ++ codes "=") words r → IsNumeralOf r.0 n
    → (said : List (List ℕ)) × IsOption name said n × (words ≡ said ++ r.1)
option_is name words r n (inl e) i = (name ∷ r.0 ∷ [], (r.0, i, inl refl), e)
option_is name words r n (inr e) i = ((name ++ codes "=" ++ r.0) ∷ [], (r.0, i, inr refl), e)

seed_number : (words : List (List ℕ)) (r : List ℕ × List (List ℕ)) (o : Option ℕ) → HasValue (codes "--seed") (codes "--seed=") words r → IfSome o (IsNumeralOf r.0)
    → IfSome (with_rest r.1 (as_seed o)) (BeginsWith words)
seed_number words r None h i = tt
seed_number words r (Some n) h i = option_is (codes "--seed") words r n h i

seed_value : (words : List (List ℕ)) (o : Option (List ℕ × List (List ℕ))) → IfSome o (HasValue (codes "--seed") (codes "--seed=") words) → IfSome (numbered as_seed o) (BeginsWith words)
seed_value words None h = tt
seed_value words (Some r) h = seed_number words r (number_of r.0) h (number_is r.0)

count_by : (words : List (List ℕ)) (r : List ℕ × List (List ℕ)) (n : ℕ) (b : Bool) → HasValue (codes "--count") (codes "--count=") words r → IsNumeralOf r.0 n
    → (nat_lt n 1 || nat_lt COUNT_LIMIT n) ≡ b → IfSome (with_rest r.1 (if b then None else Some (Count n))) (BeginsWith words)
count_by words r n true h i e = tt
count_by words r n false h i e =
    let k = option_is (codes "--count") words r n h i in
    let least : 1 ≤ n = grind (arith, nat_tests) in
    let most : n ≤ COUNT_LIMIT = grind (arith, nat_tests) in
    (k.0, (k.1, least, most), k.2)

count_number : (words : List (List ℕ)) (r : List ℕ × List (List ℕ)) (o : Option ℕ) → HasValue (codes "--count") (codes "--count=") words r → IfSome o (IsNumeralOf r.0)
    → IfSome (with_rest r.1 (as_count o)) (BeginsWith words)
count_number words r None h i = tt
count_number words r (Some n) h i = count_by words r n (nat_lt n 1 || nat_lt COUNT_LIMIT n) h i refl

count_value : (words : List (List ℕ)) (o : Option (List ℕ × List (List ℕ))) → IfSome o (HasValue (codes "--count") (codes "--count=") words) → IfSome (numbered as_count o) (BeginsWith words)
count_value words None h = tt
count_value words (Some r) h = count_number words r (number_of r.0) h (number_is r.0)

conf_is : (words : List (List ℕ)) → IfSome (conf words) (BeginsWith words)
conf_is [] = tt
conf_is (word ∷ rest) = pick (BeginsWith (word ∷ rest)) (names_file word) (Conf word, rest) None (λ e. (word ∷ [], (e, refl), refl)) tt

pub part_is : (words : List (List ℕ)) → IfSome (part words) (BeginsWith words)
part_is words =
    either (BeginsWith words) (conf words) _ (conf_is words)
    (either (BeginsWith words) (seed words) (count words)
    (seed_value words (value (codes "--seed") (codes "--seed=") words) (value_is (codes "--seed") (codes "--seed=") words))
    (count_value words (value (codes "--count") (codes "--count=") words) (value_is (codes "--count") (codes "--count=") words)))

-- ---- what stands there is read

number_given : (z : List ℕ) (n : ℕ) → IsNumeralOf z n → number_of z ≡ Some n
number_given z n i = rw i.0 (ap (λ m. Some m) (sym i.1))

count_given : (n : ℕ) → 1 ≤ n → n ≤ COUNT_LIMIT → as_count (Some n) ≡ Some (Count n)
count_given n least most =
    let e : (nat_lt n 1 || nat_lt COUNT_LIMIT n) ≡ false = grind (arith, nat_tests) in
    rw e refl

seed_front : (n : ℕ) (said rest : List (List ℕ)) (z : List ℕ) → IsNumeralOf z n → (said ≡ codes "--seed" ∷ z ∷ []) ⊎ (said ≡ (codes "--seed=" ++ z) ∷ []) → part (said ++ rest) ≡ Some (Seed n, rest)
seed_front n said rest z i (inl e) = subst (λ (s : List (List ℕ)). part (s ++ rest) ≡ Some (Seed n, rest)) (sym e) (rw (number_given z n i) refl)
seed_front n said rest z i (inr e) = subst (λ (s : List (List ℕ)). part (s ++ rest) ≡ Some (Seed n, rest)) (sym e) (rw (number_given z n i) refl)

count_front : (n : ℕ) (said rest : List (List ℕ)) (z : List ℕ) → IsNumeralOf z n → 1 ≤ n → n ≤ COUNT_LIMIT → (said ≡ codes "--count" ∷ z ∷ []) ⊎ (said ≡ (codes "--count=" ++ z) ∷ []) → part (said ++ rest) ≡ Some (Count n, rest)
count_front n said rest z i least most (inl e) = subst (λ (s : List (List ℕ)). part (s ++ rest) ≡ Some (Count n, rest)) (sym e) (rw (number_given z n i, count_given n least most) refl)
count_front n said rest z i least most (inr e) = subst (λ (s : List (List ℕ)). part (s ++ rest) ≡ Some (Count n, rest)) (sym e) (rw (number_given z n i, count_given n least most) refl)

pub part_front : (p : Part) (said rest : List (List ℕ)) → IsPart p said → part (said ++ rest) ≡ Some (p, rest)
part_front (Conf word) said rest h = subst (λ (s : List (List ℕ)). part (s ++ rest) ≡ Some (Conf word, rest)) (sym h.1) (rw h.0 refl)
part_front (Seed n) said rest h = seed_front n said rest h.0 h.1 h.2
part_front (Count n) said rest h = count_front n said rest h.0.0 h.0.1 h.1 h.2 h.0.2
