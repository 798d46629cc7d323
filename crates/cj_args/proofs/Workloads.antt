-- A workload's words are read as what they say, in each order.
use Rattle.std.proofs.Common.{◌≡◌, inl, inr, refl, sym, ap, subst, ◌∙◌, ℕ, List, [], ◌∷◌, ◌++◌}
use Rattle.std.proofs.lemmas.List.{append-nil}
use Rattle.std.specs.Prelude.{IfSome}
use Rattle.std.specs.declared.option.Option.{Option}
use Rattle.std.specs.declared.option.Option.TheVariants.{None, Some}
use Rattle.cj_args.specs.Words.{InAnyOrder, IsWorkload}
use Rattle.cj_args.specs.Proving.{Part, Conf, Seed, Count, part, each_once, first, second, third, workload}
use Rattle.cj_args.proofs.PartWords.{IsPart, BeginsWith, part_is, part_front}

-- the words are those of the workload
abbrev pub AreOf : List (List ℕ) → List ℕ × ℕ × ℕ → Type 0
AreOf words w = IsWorkload words w.0 w.1 w.2

made : (words x y z : List (List ℕ)) (f : List ℕ) (s n : ℕ) → IsPart (Conf f) x → IsPart (Seed s) y → IsPart (Count n) z → InAnyOrder words x y z → IsWorkload words f s n
made words x y z f s n p q r o =
    record { seed_words = y; count_words = z; file = p.0; seeded = q; counted = r.0; least = r.1; most = r.2; order = subst (λ (x : List (List ℕ)). InAnyOrder words x y z) p.1 o }

each_is : (words : List (List ℕ)) (a b c : Part) (x y z : List (List ℕ)) → IsPart a x → IsPart b y → IsPart c z → words ≡ x ++ (y ++ z) → IfSome (each_once a b c) (AreOf words)
each_is words (Conf f) (Seed s) (Count n) x y z p q r e = made words x y z f s n p q r (inl (inl e))
each_is words (Conf f) (Count n) (Seed s) x y z p q r e = made words x z y f s n p r q (inl (inr e))
each_is words (Seed s) (Conf f) (Count n) x y z p q r e = made words y x z f s n q p r (inr (inl (inl e)))
each_is words (Count n) (Conf f) (Seed s) x y z p q r e = made words y z x f s n q r p (inr (inr (inl e)))
each_is words (Seed s) (Count n) (Conf f) x y z p q r e = made words z x y f s n r p q (inr (inl (inr e)))
each_is words (Count n) (Seed s) (Conf f) x y z p q r e = made words z y x f s n r q p (inr (inr (inr e)))
each_is words a b c x y z p q r e = tt

third_is : (words : List (List ℕ)) (a b : Part) (x y rest : List (List ℕ)) (o : Option (Part × List (List ℕ))) → IsPart a x → IsPart b y → words ≡ x ++ (y ++ rest) → IfSome o (BeginsWith rest) → IfSome (third a b o) (AreOf words)
third_is words a b x y rest None p q e h = tt
third_is words a b x y rest (Some (c, [])) p q e h = each_is words a b c x y h.0 p q h.1 (e ∙ ap (λ (z : List (List ℕ)). x ++ (y ++ z)) (h.2 ∙ append-nil h.0))
third_is words a b x y rest (Some (c, word ∷ more)) p q e h = tt

second_is : (words : List (List ℕ)) (a : Part) (x rest : List (List ℕ)) (o : Option (Part × List (List ℕ))) → IsPart a x → words ≡ x ++ rest → IfSome o (BeginsWith rest) → IfSome (second a o) (AreOf words)
second_is words a x rest None p e h = tt
second_is words a x rest (Some r) p e h = third_is words a r.0 x h.0 r.1 (part r.1) p h.1 (e ∙ ap (λ (z : List (List ℕ)). x ++ z) h.2) (part_is r.1)

first_is : (words : List (List ℕ)) (o : Option (Part × List (List ℕ))) → IfSome o (BeginsWith words) → IfSome (first o) (AreOf words)
first_is words None h = tt
first_is words (Some r) h = second_is words r.0 h.0 r.1 (part r.1) h.1 h.2 (part_is r.1)

pub workload_is : (words : List (List ℕ)) → IfSome (workload words) (AreOf words)
workload_is words = first_is words (part words) (part_is words)

-- three parts, one after the other
parts_read : (words : List (List ℕ)) (a b c : Part) (x y z : List (List ℕ)) → IsPart a x → IsPart b y → IsPart c z → words ≡ x ++ (y ++ z) → workload words ≡ each_once a b c
parts_read words a b c x y z p q r e =
    ap workload (e ∙ ap (λ (t : List (List ℕ)). x ++ (y ++ t)) (sym (append-nil z)))
    ∙ ap first (part_front a x (y ++ (z ++ [])) p) ∙ ap (second a) (part_front b y (z ++ []) q) ∙ ap (third a b) (part_front c z [] r)

in_order : (words x y z : List (List ℕ)) (f : List ℕ) (s n : ℕ) → IsPart (Conf f) x → IsPart (Seed s) y → IsPart (Count n) z → InAnyOrder words x y z → workload words ≡ Some (f, s, n)
in_order words x y z f s n p q r (inl (inl e)) = parts_read words (Conf f) (Seed s) (Count n) x y z p q r e
in_order words x y z f s n p q r (inl (inr e)) = parts_read words (Conf f) (Count n) (Seed s) x z y p r q e
in_order words x y z f s n p q r (inr (inl (inl e))) = parts_read words (Seed s) (Conf f) (Count n) y x z q p r e
in_order words x y z f s n p q r (inr (inl (inr e))) = parts_read words (Seed s) (Count n) (Conf f) y z x q r p e
in_order words x y z f s n p q r (inr (inr (inl e))) = parts_read words (Count n) (Conf f) (Seed s) z x y r p q e
in_order words x y z f s n p q r (inr (inr (inr e))) = parts_read words (Count n) (Seed s) (Conf f) z y x r q p e

pub workload_read : (words : List (List ℕ)) (f : List ℕ) (s n : ℕ) → IsWorkload words f s n → workload words ≡ Some (f, s, n)
workload_read words f s n w = in_order words (f ∷ []) w.seed_words w.count_words f s n (w.file, refl) w.seeded (w.counted, w.least, w.most) w.order
