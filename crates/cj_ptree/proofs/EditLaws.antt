-- The children of a branch whose values are edited in turn: some are done, of which those without pairs are gone.
use Rattle.std.proofs.Common.{◌≡◌, ◌∙◌, ℕ, suc, ◌+◌, ◌<◌, ◌≤◌, Bool, true, false, List, [], ◌∷◌, ◌++◌, length, get_or, set, take, drop, map, ap, sym, subst, arith, add-one, Ordering}
use Rattle.std.specs.List.{AllByRecursion, remove}
use Rattle.std.proofs.Math.Seq.{drop-append_seam, take-append_seam}
use Rattle.std.proofs.lemmas.List.{append-nil, append_assoc, drop-set-lt, drop_all, length-take-le, map-append, take-set, take_all, take_more_set}
use Rattle.cj_ptree.specs.declared.child.Child.{Child}
use Rattle.cj_ptree.specs.declared.link.Link.{Link}
use Rattle.cj_ptree.specs.Branches as branch
use Rattle.cj_ptree.specs.Branches.{IsBranch, branch_pairs}
use Rattle.cj_ptree.specs.Links.{target}
use Rattle.cj_ptree.specs.Pairs.{is_filled, retained}
use Rattle.cj_ptree.specs.Parts as part
use Rattle.cj_ptree.specs.Parts.{all_pairs}
use Rattle.cj_ptree.specs.Retained as left
use Rattle.cj_ptree.proofs.PlaceLaws.{drop_at_index}
use Rattle.cj_ptree.proofs.RetainLaws.{all_left, divided_left, left_empty, left_filled}

-- the first and the last items of a list that is put together
take_seam : {X : Type 0} (xs ys : List X) (i : ℕ) → length xs ≡ i → take i (xs ++ ys) ≡ xs
take_seam xs ys i e = subst (λ n. take n (xs ++ ys) ≡ xs) e (take-append_seam xs ys)

drop_seam : {X : Type 0} (xs ys : List X) (i : ℕ) → length xs ≡ i → drop i (xs ++ ys) ≡ ys
drop_seam xs ys i e = subst (λ n. drop n (xs ++ ys) ≡ ys) e (drop-append_seam xs ys)

module _ {K V N : Type 0} (pairs : N → List (K × V)) (stays : V → Bool) (edited : V → V) where
  abbrev part_of : Child K N → K × List (K × V)
  part_of c = branch.part_of pairs c

  abbrev parts : List (Child K N) → List (K × List (K × V))
  parts cs = map part_of cs

  abbrev parts_left : List (K × List (K × V)) → List (K × List (K × V))
  parts_left ps = left.parts_left stays edited ps

  module _ (cs : List (Child K N)) (i : ℕ) (h : i < length cs) (child : Child K N) (is : child ≡ get_or cs i child) (node : Link N) (q : pairs (target node) ≡ retained stays edited (pairs (target child.node)))
      (all done rest : List (K × List (K × V))) (a : done ++ rest ≡ all) (k : parts (take i cs) ≡ parts_left done) (l : parts (drop i cs) ≡ rest) where
    abbrev changed : Child K N
    changed = record { bound = child.bound; node = node }

    abbrev pub done_next : List (K × List (K × V))
    done_next = done ++ part_of child ∷ []

    abbrev pub rest_next : List (K × List (K × V))
    rest_next = parts (drop (suc i) cs)

    rest_is : rest ≡ part_of child ∷ rest_next
    rest_is = sym l ∙ ap parts (drop_at_index cs i child h) ∙ ap (λ (c : Child K N). part_of c ∷ rest_next) (sym is)

    pub all_next : done_next ++ rest_next ≡ all
    all_next = append_assoc done (part_of child ∷ []) rest_next ∙ ap (λ (ps : List (K × List (K × V))). done ++ ps) (sym rest_is) ∙ a

    -- the child has pairs left
    pub kept_filled : is_filled (pairs (target node)) ≡ true → parts (take (i + 1) (set cs i changed)) ≡ parts_left done_next
    kept_filled f =
        ap parts (take_more_set cs i changed h)
        ∙ map-append part_of (take i cs) (changed ∷ [])
        ∙ ap (λ (ps : List (K × List (K × V))). ps ++ part_of changed ∷ []) k
        ∙ ap (λ (es : List (K × V)). parts_left done ++ (child.bound, es) ∷ []) q
        ∙ sym (left_filled stays edited done (part_of child) (ap is_filled (sym q) ∙ f))

    pub left_set : parts (drop (i + 1) (set cs i changed)) ≡ rest_next
    left_set = ap parts (drop-set-lt (i + 1) cs i changed (omega arith) ∙ ap (λ n. drop n cs) (add-one i))

    -- it has none, and goes
    removed : remove (set cs i changed) i ≡ take i cs ++ drop (suc i) cs
    removed =
        ap (λ (xs : List (Child K N)). xs ++ drop (suc i) (set cs i changed)) (take-set cs i changed)
        ∙ ap (λ (xs : List (Child K N)). take i cs ++ xs) (drop-set-lt (suc i) cs i changed (omega arith))

    pub kept_empty : is_filled (pairs (target node)) ≡ false → parts (take i (remove (set cs i changed) i)) ≡ parts_left done_next
    kept_empty f =
        ap (λ (xs : List (Child K N)). parts (take i xs)) removed
        ∙ ap parts (take_seam (take i cs) (drop (suc i) cs) i (length-take-le i cs (omega arith)))
        ∙ k
        ∙ sym (append-nil (parts_left done))
        ∙ sym (left_empty stays edited done (part_of child) (ap is_filled (sym q) ∙ f))

    pub left_out : parts (drop i (remove (set cs i changed) i)) ≡ rest_next
    left_out =
        ap (λ (xs : List (Child K N)). parts (drop i xs)) removed
        ∙ ap parts (drop_seam (take i cs) (drop (suc i) cs) i (length-take-le i cs (omega arith)))

  -- all children are done
  pub done_all : (cs : List (Child K N)) (i : ℕ) (all done rest : List (K × List (K × V))) → length cs ≤ i → done ++ rest ≡ all → parts (take i cs) ≡ parts_left done → parts (drop i cs) ≡ rest → parts cs ≡ parts_left all
  done_all cs i all done rest h a k l =
      let none : rest ≡ [] = sym l ∙ ap parts (drop_all i cs h) in
      let same : done ≡ all = sym (append-nil done) ∙ ap (λ (ps : List (K × List (K × V))). done ++ ps) (sym none) ∙ a in
      ap parts (sym (take_all i cs h)) ∙ k ∙ ap (λ (ps : List (K × List (K × V))). parts_left ps) same

  pub pairs_done : (cs ds : List (Child K N)) → parts cs ≡ parts_left (parts ds) → branch_pairs pairs cs ≡ retained stays edited (branch_pairs pairs ds)
  pairs_done cs ds e = ap all_pairs e ∙ all_left stays edited (parts ds)

  pub branch_done : (IsBuilt : N → Type 0) (R : K → K → Ordering) (cs ds : List (Child K N)) → parts cs ≡ parts_left (parts ds) → AllByRecursion (λ (c : Child K N). IsBuilt (target c.node)) cs → IsBranch pairs IsBuilt R ds → IsBranch pairs IsBuilt R cs
  branch_done IsBuilt R cs ds e t b = record {
    built = t;
    divided = subst (λ (ps : List (K × List (K × V))). part.IsDivided R ps) (sym e) (divided_left stays edited R (parts ds) b.divided);
  }
