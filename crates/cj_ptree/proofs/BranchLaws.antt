-- Children of a branch: where a key belongs among them, and what a change below one of them keeps.
use Rattle.std.proofs.Common.{◌≡◌, ◌∙◌, ℕ, zero, suc, ◌+◌, ◌<◌, Bool, true, List, [], ◌∷◌, ◌++◌, length, get_or, set, take, drop, map, refl, ap, sym, subst, arith, add-one, Ordering, Less}
use Rattle.std.specs.BTreeMap.{insert_entry, is_at}
use Rattle.std.specs.Cmp.{IsTotalOrder}
use Rattle.std.specs.List.{AllByRecursion, insert, remove}
use Rattle.std.specs.Map.{lookup, remove_entry}
use Rattle.std.specs.Result.{OnErr}
use Rattle.std.specs.declared.option.Option.{Option}
use Rattle.std.specs.declared.option.Option.TheVariants.{None, Some}
use Rattle.std.specs.declared.result.Result.{Result}
use Rattle.std.specs.declared.result.Result.TheVariants.{Err, Ok}
use Rattle.std.specs.Ordering.{is_le, is_lt}
use Rattle.std.specs.Prelude.{filter}
use Rattle.std.proofs.lemmas.List.{append-nil, append_assoc, drop-set-lt, get_or-set_same, map-append, set_split, take-append-drop, take-map, take-set, take_more_set}
use Rattle.std.proofs.lemmas.List.Concat.{flat_map-append}
use Rattle.cj_ptree.specs.declared.child.Child.{Child}
use Rattle.cj_ptree.specs.declared.link.Link.{Link}
use Rattle.cj_ptree.specs.Branches as branch
use Rattle.cj_ptree.specs.Branches.{IsBranch, branch_pairs}
use Rattle.cj_ptree.specs.Links.{target}
use Rattle.cj_ptree.specs.Nodes.{IsSplit, right_pairs}
use Rattle.cj_ptree.specs.Pairs as pair
use Rattle.cj_ptree.specs.Pairs.{is_filled}
use Rattle.cj_ptree.specs.Parts as part
use Rattle.cj_ptree.specs.Parts.{all_pairs}
use Rattle.cj_ptree.proofs.OrderLaws.{each_both}
use Rattle.cj_ptree.proofs.PlaceLaws.{drop_at_index, split_at, take_suc}
use Rattle.cj_ptree.proofs.PartLaws.{all_inserted_one, all_inserted_two, all_removed_one, before_part, divided_back, divided_front, filter_part, from_all, from_behind, inserted_one, inserted_two, lookup_part, low_pairs, removed_all, removed_one}

-- what holds anyway holds on an error
pub on_err : {T E P : Type 0} (r : Result T E) → P → OnErr r P
on_err (Ok x) p = tt
on_err (Err x) p = p

-- ---- each item of a changed list

module _ {X : Type 0} (P : X → Type 0) where
  pub each_at : (xs : List X) (i : ℕ) (d : X) → i < length xs → AllByRecursion P xs → P (get_or xs i d)
  each_at [] i d h a = absurd (omega arith)
  each_at (x ∷ xs) zero d h a = a.0
  each_at (x ∷ xs) (suc i) d h a = each_at xs i d (omega arith) a.1

  pub each_set : (xs : List X) (i : ℕ) (y : X) → P y → AllByRecursion P xs → AllByRecursion P (set xs i y)
  each_set [] i y p a = tt
  each_set (x ∷ xs) zero y p a = (p, a.1)
  each_set (x ∷ xs) (suc i) y p a = (a.0, each_set xs i y p a.1)

  pub each_take : (xs : List X) (i : ℕ) → AllByRecursion P xs → AllByRecursion P (take i xs)
  each_take xs zero a = tt
  each_take [] (suc i) a = tt
  each_take (x ∷ xs) (suc i) a = (a.0, each_take xs i a.1)

  pub each_drop : (xs : List X) (i : ℕ) → AllByRecursion P xs → AllByRecursion P (drop i xs)
  each_drop xs zero a = a
  each_drop [] (suc i) a = tt
  each_drop (x ∷ xs) (suc i) a = each_drop xs i a.1

  pub each_in : (xs : List X) (i : ℕ) (y : X) → P y → AllByRecursion P xs → AllByRecursion P (insert xs i y)
  each_in xs i y p a = each_both P (take i xs) (y ∷ drop i xs) (each_take xs i a) (p, each_drop xs i a)

  -- each of the first items, with one more that was set
  pub each_more : (xs : List X) (i : ℕ) (y : X) → i < length xs → P y → AllByRecursion P (take i xs) → AllByRecursion P (take (i + 1) (set xs i y))
  each_more xs i y h p a = subst (λ (ys : List X). AllByRecursion P ys) (sym (take_more_set xs i y h)) (each_both P (take i xs) (y ∷ []) a (p, tt))

  pub each_out : (xs : List X) (i : ℕ) → AllByRecursion P xs → AllByRecursion P (remove xs i)
  each_out xs i a = each_both P (take i xs) (drop (suc i) xs) (each_take xs i a) (each_drop xs (suc i) a)

-- ---- children

module _ {K V N : Type 0} (pairs : N → List (K × V)) where
  abbrev part_of : Child K N → K × List (K × V)
  part_of c = branch.part_of pairs c

  abbrev parts : List (Child K N) → List (K × List (K × V))
  parts cs = map part_of cs

  pub parts_at : (cs : List (Child K N)) (i : ℕ) (d : Child K N) → i < length cs → parts cs ≡ parts (take i cs) ++ part_of (get_or cs i d) ∷ parts (drop (suc i) cs)
  parts_at cs i d h = ap parts (split_at cs i d h) ∙ map-append part_of (take i cs) (get_or cs i d ∷ drop (suc i) cs)

  pub parts_set : (cs : List (Child K N)) (i : ℕ) (c : Child K N) → i < length cs → parts (set cs i c) ≡ parts (take i cs) ++ part_of c ∷ parts (drop (suc i) cs)
  parts_set cs i c h = ap parts (set_split cs i c h) ∙ map-append part_of (take i cs) (c ∷ drop (suc i) cs)

  pub parts_in : (cs : List (Child K N)) (i : ℕ) (c d : Child K N) → i < length cs → parts (insert (set cs i c) (i + 1) d) ≡ parts (take i cs) ++ part_of c ∷ part_of d ∷ parts (drop (suc i) cs)
  parts_in cs i c d h =
      ap (λ (xs : List (Child K N)). parts (xs ++ d ∷ drop (i + 1) (set cs i c))) (take_more_set cs i c h)
      ∙ ap (λ (xs : List (Child K N)). parts ((take i cs ++ c ∷ []) ++ d ∷ xs)) (drop-set-lt (i + 1) cs i c (omega arith) ∙ ap (λ n. drop n cs) (add-one i))
      ∙ ap parts (append_assoc (take i cs) (c ∷ []) (d ∷ drop (suc i) cs))
      ∙ map-append part_of (take i cs) (c ∷ d ∷ drop (suc i) cs)

  -- copies of the first children, with one more
  pub parts_more : (cs ds : List (Child K N)) (i : ℕ) (child c : Child K N) → i < length cs → child ≡ get_or cs i child → parts ds ≡ take i (parts cs) → part_of c ≡ part_of child → parts (ds ++ c ∷ []) ≡ take (i + 1) (parts cs)
  parts_more cs ds i child c h e p q =
      map-append part_of ds (c ∷ [])
      ∙ ap (λ (ps : List (K × List (K × V))). ps ++ part_of c ∷ []) (p ∙ take-map part_of i cs)
      ∙ ap (λ (r : K × List (K × V)). parts (take i cs) ++ r ∷ []) (q ∙ ap part_of e)
      ∙ sym (map-append part_of (take i cs) (get_or cs i child ∷ []))
      ∙ ap parts (sym (take_suc cs i child h))
      ∙ sym (take-map part_of (suc i) cs)
      ∙ ap (λ n. take n (parts cs)) (sym (add-one i))

  -- a child that was set is read back
  pub filled_set : (cs : List (Child K N)) (i : ℕ) (c d : Child K N) (n : N) (z : Bool) → i < length cs → d ≡ get_or (set cs i c) i d → n ≡ target d.node → z ≡ is_filled (pairs n) → is_filled (pairs (target c.node)) ≡ z
  filled_set cs i c d n z h e f g = sym (g ∙ ap (λ (m : N). is_filled (pairs m)) (f ∙ ap (λ (x : Child K N). target x.node) (e ∙ get_or-set_same cs i c d h)))

  -- nothing was split off
  pub put_alone : (n : N) (right : Option (K × N)) (es : List (K × V)) → right ≡ None → pairs n ++ right_pairs pairs right ≡ es → pairs n ≡ es
  put_alone n right es e h = sym (append-nil (pairs n)) ∙ ap (λ (r : Option (K × N)). pairs n ++ right_pairs pairs r) (sym e) ∙ h

  -- one child out of a list that another was set in before
  pub parts_out : (cs : List (Child K N)) (i : ℕ) (c : Child K N) → i < length cs → parts (remove (set cs i c) i) ≡ parts (take i cs) ++ parts (drop (suc i) cs)
  parts_out cs i c h =
      ap (λ (xs : List (Child K N)). parts (xs ++ drop (suc i) (set cs i c))) (take-set cs i c)
      ∙ ap (λ (xs : List (Child K N)). parts (take i cs ++ xs)) (drop-set-lt (suc i) cs i c (omega arith))
      ∙ map-append part_of (take i cs) (drop (suc i) cs)

  module _ (R : K → K → Ordering) where
    pub starts : (k : K) (cs : List (Child K N)) (i : ℕ) (bound : K) → (0 < i → is_le (R bound k) ≡ true) → part.StartsAt R k (parts (take i cs)) bound
    starts k cs zero bound h = tt
    starts k [] (suc i) bound h = tt
    starts k (c ∷ cs) (suc i) bound h = h (omega arith)

    pub ends : (k : K) (cs : List (Child K N)) (i : ℕ) → ((d : Child K N) → i < length cs → R k (get_or cs i d).bound ≡ Less) → part.EndsBelow R k (parts (drop i cs))
    ends k [] zero h = tt
    ends k (c ∷ cs) zero h = h c (omega arith)
    ends k [] (suc i) h = tt
    ends k (c ∷ cs) (suc i) h = ends k cs i (λ d l. h d (omega arith))

  module _ (IsBuilt : N → Type 0) (R : K → K → Ordering) (o : IsTotalOrder R) where
    abbrev Built : Child K N → Type 0
    Built c = IsBuilt (target c.node)

    -- ---- what concerns the pairs below one child alone

    module _ (cs ds : List (Child K N)) (r : ds ≡ cs) (i : ℕ) (w : i < length ds) (b : IsBranch pairs IsBuilt R cs) (k : K) (s : (d : Child K N) → 0 < i → is_le (R (get_or ds i d).bound k) ≡ true)
        (e : (d : Child K N) → i + 1 < length ds → R k (get_or ds (i + 1) d).bound ≡ Less) (child : Child K N) (is : child ≡ get_or cs i child) where
      h : i < length cs
      h = subst (λ (xs : List (Child K N)). i < length xs) r w

      abbrev before : List (K × List (K × V))
      before = parts (take i cs)

      abbrev behind : List (K × List (K × V))
      behind = parts (drop (suc i) cs)

      around : parts cs ≡ before ++ part_of child ∷ behind
      around = parts_at cs i child h ∙ ap (λ (c : Child K N). before ++ part_of c ∷ behind) (sym is)

      divided : part.IsDivided R (before ++ part_of child ∷ behind)
      divided = subst (λ (ps : List (K × List (K × V))). part.IsDivided R ps) around b.divided

      start : part.StartsAt R k before child.bound
      start = starts R k cs i child.bound (λ l. subst (λ (c : Child K N). is_le (R c.bound k) ≡ true) (sym (is ∙ ap (λ (xs : List (Child K N)). get_or xs i child) (sym r))) (s child l))

      end : part.EndsBelow R k behind
      end =
          let f : (x : Child K N) → i + 1 < length cs → R k (get_or cs (i + 1) x).bound ≡ Less = subst (λ (xs : List (Child K N)). (x : Child K N) → i + 1 < length xs → R k (get_or xs (i + 1) x).bound ≡ Less) r e in
          ends R k cs (suc i) (λ x l. subst (λ n. R k (get_or cs n x).bound ≡ Less) (add-one i) (f x (omega arith)))

      pub lookup_child : lookup (is_at (R k)) (branch_pairs pairs cs) ≡ lookup (is_at (R k)) (pairs (target child.node))
      lookup_child = ap (λ (ps : List (K × List (K × V))). lookup (is_at (R k)) (all_pairs ps)) around ∙ lookup_part R o k before (part_of child) behind divided start end

      pub filter_child : filter (λ (f : K × V). is_le (R k f.0)) (branch_pairs pairs cs) ≡ filter (λ (f : K × V). is_le (R k f.0)) (pairs (target child.node)) ++ branch_pairs pairs (drop (i + 1) cs)
      filter_child =
          ap (λ (ps : List (K × List (K × V))). filter (λ (f : K × V). is_le (R k f.0)) (all_pairs ps)) around
          ∙ filter_part R o k before (part_of child) behind divided start end
          ∙ ap (λ n. filter (λ (f : K × V). is_le (R k f.0)) (pairs (target child.node)) ++ branch_pairs pairs (drop n cs)) (sym (add-one i))

      pub before_child : filter (λ (f : K × V). is_lt (R f.0 k)) (branch_pairs pairs cs) ≡ branch_pairs pairs (take i cs) ++ filter (λ (f : K × V). is_lt (R f.0 k)) (pairs (target child.node))
      before_child =
          ap (λ (ps : List (K × List (K × V))). filter (λ (f : K × V). is_lt (R f.0 k)) (all_pairs ps)) around
          ∙ before_part R o k before (part_of child) behind divided start end

      module _ (v : V) (node : Link N) where
        abbrev changed : Child K N
        changed = record { bound = child.bound; node = node }

        pub put_branch : IsBuilt (target node) → pairs (target node) ≡ insert_entry R (pairs (target child.node)) k v → IsBranch pairs IsBuilt R (set cs i changed)
        put_branch t q = record {
          built = each_set Built cs i changed t b.built;
          divided = subst (λ (ps : List (K × List (K × V))). part.IsDivided R ps) (sym (parts_set cs i changed h))
              (inserted_one R o k v before (part_of child) (pairs (target node)) behind divided start end q);
        }

        pub put_pairs : pairs (target node) ≡ insert_entry R (pairs (target child.node)) k v → branch_pairs pairs (set cs i changed) ≡ insert_entry R (branch_pairs pairs cs) k v
        put_pairs q =
            ap all_pairs (parts_set cs i changed h)
            ∙ all_inserted_one R o k v before (part_of child) (pairs (target node)) behind divided start end q
            ∙ ap (λ (ps : List (K × List (K × V))). insert_entry R (all_pairs ps) k v) (sym around)

        module _ (right : Child K N) (q : pairs (target node) ++ pairs (target right.node) ≡ insert_entry R (pairs (target child.node)) k v) (low : pair.AreBelow R right.bound (pairs (target node))) (from : pair.AreFrom R right.bound (pairs (target right.node)))
            (f : is_filled (pairs (target node)) ≡ true) (g : is_filled (pairs (target right.node)) ≡ true) where
          pub put_two_branch : IsBuilt (target node) → IsBuilt (target right.node) → IsBranch pairs IsBuilt R (insert (set cs i changed) (i + 1) right)
          put_two_branch t u = record {
            built = each_in Built (set cs i changed) (i + 1) right u (each_set Built cs i changed t b.built);
            divided = subst (λ (ps : List (K × List (K × V))). part.IsDivided R ps) (sym (parts_in cs i changed right h))
                (inserted_two R o k v before (part_of child) (pairs (target node)) right.bound (pairs (target right.node)) behind divided start end q low from f g);
          }

          pub put_two_pairs : branch_pairs pairs (insert (set cs i changed) (i + 1) right) ≡ insert_entry R (branch_pairs pairs cs) k v
          put_two_pairs =
              ap all_pairs (parts_in cs i changed right h)
              ∙ all_inserted_two R o k v before (part_of child) (pairs (target node)) right.bound (pairs (target right.node)) behind divided start end q low from f g
              ∙ ap (λ (ps : List (K × List (K × V))). insert_entry R (all_pairs ps) k v) (sym around)

        -- a node that was split off the child, behind a link
        abbrev Splits : Option (K × N) → Type 0
        Splits right = (pairs (target node) ++ right_pairs pairs right ≡ insert_entry R (pairs (target child.node)) k v) × IsSplit pairs IsBuilt R (pairs (target node)) right

        module _ (bound : K) (n : N) (link : Link N) (t : target link ≡ n) (right : Option (K × N)) (z : right ≡ Some (bound, n)) (q : pairs (target node) ++ right_pairs pairs right ≡ insert_entry R (pairs (target child.node)) k v)
            (p : IsSplit pairs IsBuilt R (pairs (target node)) right) where
          split : Splits (Some (bound, target link))
          split = subst (λ (m : N). Splits (Some (bound, m))) (sym t) (subst (λ (x : Option (K × N)). Splits x) z (q, p))

          abbrev behind_it : Child K N
          behind_it = record { bound = bound; node = link }

          pub two_branch : IsBuilt (target node) → IsBranch pairs IsBuilt R (insert (set cs i changed) (i + 1) behind_it)
          two_branch y = put_two_branch behind_it split.0 split.1.0 split.1.1 split.1.2 split.1.3 y split.1.4

          pub two_pairs : branch_pairs pairs (insert (set cs i changed) (i + 1) behind_it) ≡ insert_entry R (branch_pairs pairs cs) k v
          two_pairs = put_two_pairs behind_it split.0 split.1.0 split.1.1 split.1.2 split.1.3

      module _ (node : Link N) (q : pairs (target node) ≡ remove_entry (is_at (R k)) (pairs (target child.node))) where
        abbrev cut : Child K N
        cut = record { bound = child.bound; node = node }

        pub cut_branch : IsBuilt (target node) → is_filled (pairs (target node)) ≡ true → IsBranch pairs IsBuilt R (set cs i cut)
        cut_branch t f = record {
          built = each_set Built cs i cut t b.built;
          divided = subst (λ (ps : List (K × List (K × V))). part.IsDivided R ps) (sym (parts_set cs i cut h))
              (removed_one R o k before (part_of child) (pairs (target node)) behind divided q f);
        }

        pub cut_pairs : branch_pairs pairs (set cs i cut) ≡ remove_entry (is_at (R k)) (branch_pairs pairs cs)
        cut_pairs =
            ap all_pairs (parts_set cs i cut h)
            ∙ all_removed_one R o k before (part_of child) (pairs (target node)) behind divided start end q
            ∙ ap (λ (ps : List (K × List (K × V))). remove_entry (is_at (R k)) (all_pairs ps)) (sym around)

        removed : remove (set cs i cut) i ≡ take i cs ++ drop (suc i) cs
        removed =
            ap (λ (xs : List (Child K N)). xs ++ drop (suc i) (set cs i cut)) (take-set cs i cut)
            ∙ ap (λ (xs : List (Child K N)). take i cs ++ xs) (drop-set-lt (suc i) cs i cut (omega arith))

        pub gone_branch : IsBranch pairs IsBuilt R (remove (set cs i cut) i)
        gone_branch = record {
          built = subst (λ (xs : List (Child K N)). AllByRecursion Built xs) (sym removed)
              (each_both Built (take i cs) (drop (suc i) cs) (each_take Built cs i b.built) (each_drop Built cs (suc i) b.built));
          divided = subst (λ (ps : List (K × List (K × V))). part.IsDivided R ps) (sym (parts_out cs i cut h)) (removed_all R o before (part_of child) behind divided);
        }

        -- where nothing is left below the child, it goes
        pub gone_pairs : pairs (target node) ≡ [] → branch_pairs pairs (remove (set cs i cut) i) ≡ remove_entry (is_at (R k)) (branch_pairs pairs cs)
        gone_pairs z =
            ap all_pairs (parts_out cs i cut h)
            ∙ flat_map-append (λ (p : K × List (K × V)). p.1) before behind
            ∙ ap (λ (es : List (K × V)). all_pairs before ++ (es ++ all_pairs behind)) (sym z)
            ∙ sym (flat_map-append (λ (p : K × List (K × V)). p.1) before (part_of cut ∷ behind))
            ∙ ap all_pairs (sym (parts_set cs i cut h))
            ∙ cut_pairs

    -- ---- the same pairs below one child

    pub same_parts : (cs : List (Child K N)) (i : ℕ) (child : Child K N) (node : Link N) → i < length cs → child ≡ get_or cs i child → pairs (target node) ≡ pairs (target child.node) → parts (set cs i (record { bound = child.bound; node = node })) ≡ parts cs
    same_parts cs i child node h e q =
        parts_set cs i (record { bound = child.bound; node = node }) h
        ∙ ap (λ (es : List (K × V)). parts (take i cs) ++ (child.bound, es) ∷ parts (drop (suc i) cs)) q
        ∙ ap (λ (c : Child K N). parts (take i cs) ++ part_of c ∷ parts (drop (suc i) cs)) e
        ∙ sym (parts_at cs i child h)

    pub same_branch : (cs ds : List (Child K N)) → parts ds ≡ parts cs → AllByRecursion Built ds → IsBranch pairs IsBuilt R cs → IsBranch pairs IsBuilt R ds
    same_branch cs ds e t b = record { built = t; divided = subst (λ (ps : List (K × List (K × V))). part.IsDivided R ps) (sym e) b.divided }

    -- ---- a split

    filled_take : (cs : List (Child K N)) (i : ℕ) → 0 < i → i < length cs → is_filled (parts (take i cs)) ≡ true
    filled_take [] i g h = absurd (omega arith)
    filled_take (c ∷ cs) zero g h = absurd (omega arith)
    filled_take (c ∷ cs) (suc i) g h = refl

    filled_items : (cs : List (Child K N)) (i : ℕ) → 0 < i → i < length cs → is_filled (take i cs) ≡ true
    filled_items [] i g h = absurd (omega arith)
    filled_items (c ∷ cs) zero g h = absurd (omega arith)
    filled_items (c ∷ cs) (suc i) g h = refl

    filled_both : (es fs : List (K × V)) → is_filled es ≡ true → is_filled (es ++ fs) ≡ true
    filled_both [] fs h = cc h
    filled_both (e ∷ es) fs h = refl

    pub filled_branch : (cs : List (Child K N)) → IsBranch pairs IsBuilt R cs → is_filled cs ≡ is_filled (branch_pairs pairs cs)
    filled_branch [] b = refl
    filled_branch (c ∷ cs) b = sym (filled_both (pairs (target c.node)) (branch_pairs pairs cs) b.divided.1)

    module _ (cs : List (Child K N)) (i : ℕ) (d : Child K N) (b : IsBranch pairs IsBuilt R cs) where
      halves : parts cs ≡ parts (take i cs) ++ parts (drop i cs)
      halves = ap parts (sym (take-append-drop i cs)) ∙ map-append part_of (take i cs) (drop i cs)

      both : part.IsDivided R (parts (take i cs) ++ parts (drop i cs))
      both = subst (λ (ps : List (K × List (K × V))). part.IsDivided R ps) halves b.divided

      pub left_branch : IsBranch pairs IsBuilt R (take i cs)
      left_branch = record { built = each_take Built cs i b.built; divided = divided_front R o (parts (take i cs)) (parts (drop i cs)) both }

      pub right_branch : IsBranch pairs IsBuilt R (drop i cs)
      right_branch = record { built = each_drop Built cs i b.built; divided = divided_back R o (parts (take i cs)) (parts (drop i cs)) both }

      pub split_below : i < length cs → pair.AreBelow R (get_or cs i d).bound (branch_pairs pairs (take i cs))
      split_below h = low_pairs R o (parts (take i cs)) (part_of (get_or cs i d)) (parts (drop (suc i) cs)) (subst (λ (ps : List (K × List (K × V))). part.IsDivided R ps) (parts_at cs i d h) b.divided)

      pub split_from : 0 < i → i < length cs → pair.AreFrom R (get_or cs i d).bound (branch_pairs pairs (drop i cs))
      split_from g h =
          let divided : part.IsDivided R (parts (take i cs) ++ part_of (get_or cs i d) ∷ parts (drop (suc i) cs)) = subst (λ (ps : List (K × List (K × V))). part.IsDivided R ps) (parts_at cs i d h) b.divided in
          subst (λ (xs : List (Child K N)). pair.AreFrom R (get_or cs i d).bound (branch_pairs pairs xs)) (sym (drop_at_index cs i d h))
          (from_all R o (part_of (get_or cs i d)) (parts (drop (suc i) cs)) (divided_back R o (parts (take i cs)) (part_of (get_or cs i d) ∷ parts (drop (suc i) cs)) divided)
          (from_behind R o (parts (take i cs)) (part_of (get_or cs i d)) (parts (drop (suc i) cs)) (filled_take cs i g h) divided))

      pub left_filled : 0 < i → i < length cs → is_filled (branch_pairs pairs (take i cs)) ≡ true
      left_filled g h = sym (filled_branch (take i cs) left_branch) ∙ filled_items cs i g h

      pub right_filled : i < length cs → is_filled (branch_pairs pairs (drop i cs)) ≡ true
      right_filled h = sym (filled_branch (drop i cs) right_branch) ∙ ap is_filled (drop_at_index cs i d h)

      pub halves_pairs : branch_pairs pairs (take i cs) ++ branch_pairs pairs (drop i cs) ≡ branch_pairs pairs cs
      halves_pairs = sym (ap all_pairs halves ∙ flat_map-append (λ (p : K × List (K × V)). p.1) (parts (take i cs)) (parts (drop i cs)))

      abbrev Halves : List (Child K N) → List (Child K N) → K → Type 0
      Halves ls rs m =
          (branch_pairs pairs ls ++ branch_pairs pairs rs ≡ branch_pairs pairs cs)
          × (pair.AreBelow R m (branch_pairs pairs ls) × pair.AreFrom R m (branch_pairs pairs rs) × (is_filled (branch_pairs pairs ls) ≡ true) × (is_filled (branch_pairs pairs rs) ≡ true) × IsBranch pairs IsBuilt R rs)
          × IsBranch pairs IsBuilt R ls

      -- what a split at the bound of a child leaves
      pub split_off : (ls rs : List (Child K N)) (m : K) → ls ≡ take i cs → rs ≡ drop i cs → m ≡ (get_or cs i d).bound → 0 < i → i < length cs → Halves ls rs m
      split_off ls rs m l r e g h =
          subst (λ (xs : List (Child K N)). Halves xs rs m) (sym l)
          (subst (λ (xs : List (Child K N)). Halves (take i cs) xs m) (sym r)
          (subst (λ (x : K). Halves (take i cs) (drop i cs) x) (sym e)
          (halves_pairs, (split_below h, split_from g h, left_filled g h, right_filled h, right_branch), left_branch)))
