-- Pairs divided into parts: where a key belongs among them, and what a change of one part keeps.
use Rattle.std.proofs.Common.{◌≡◌, ◌∙◌, true, List, [], ◌∷◌, ◌++◌, ap, sym, subst, Ordering, Less}
use Rattle.std.specs.BTreeMap.{insert_entry, is_at}
use Rattle.std.specs.Cmp.{IsTotalOrder}
use Rattle.std.specs.List.{AllByRecursion}
use Rattle.std.specs.Map.{lookup, remove_entry}
use Rattle.std.specs.Ordering.{is_le, is_lt}
use Rattle.std.specs.Prelude.{⊤, filter}
use Rattle.std.proofs.lemmas.Cmp.{tied_itself}
use Rattle.std.proofs.lemmas.List.{append-nil, append_assoc}
use Rattle.std.proofs.lemmas.List.Concat.{flat_map-append}
use Rattle.cj_ptree.specs.Pairs as pair
use Rattle.cj_ptree.specs.Pairs.{is_filled}
use Rattle.cj_ptree.specs.Parts as part
use Rattle.cj_ptree.specs.Parts.{all_pairs}
use Rattle.cj_ptree.proofs.OrderLaws.{each_back, each_both, each_front, each_joint, each_weaker}
use Rattle.cj_ptree.proofs.ZoneLaws.{above_from, before_between, below_insert, below_le, bound_less, each_remove, filled_insert, filter_between, from_above, from_insert, insert_between, lookup_between, remove_between, rise_back, rise_both, rise_front, rise_insert, rise_remove}

module _ {K V : Type 0} where
  -- the pairs of all parts round one of them
  pub all_around : (ls : List (K × List (K × V))) (p : K × List (K × V)) (bs : List (K × List (K × V))) → all_pairs (ls ++ p ∷ bs) ≡ all_pairs ls ++ (p.1 ++ all_pairs bs)
  all_around ls p bs = flat_map-append (λ (q : K × List (K × V)). q.1) ls (p ∷ bs)

module _ {K V : Type 0} (R : K → K → Ordering) (o : IsTotalOrder R) where
  abbrev AreBelow : K → List (K × V) → Type 0
  AreBelow k es = pair.AreBelow R k es

  abbrev AreFrom : K → List (K × V) → Type 0
  AreFrom k es = pair.AreFrom R k es

  abbrev AreAbove : K → List (K × V) → Type 0
  AreAbove k es = pair.AreAbove R k es

  abbrev PairsRise : List (K × V) → Type 0
  PairsRise es = pair.PairsRise R es

  abbrev IsAfter : List (K × V) → K × List (K × V) → Type 0
  IsAfter es q = part.IsAfter R es q

  abbrev IsDivided : List (K × List (K × V)) → Type 0
  IsDivided ps = part.IsDivided R ps

  abbrev StartsAt : K → List (K × List (K × V)) → K → Type 0
  StartsAt k ps bound = part.StartsAt R k ps bound

  abbrev EndsBelow : K → List (K × List (K × V)) → Type 0
  EndsBelow k ps = part.EndsBelow R k ps

  -- ---- some of the parts

  pub divided_front : (ls bs : List (K × List (K × V))) → IsDivided (ls ++ bs) → IsDivided ls
  divided_front [] bs h = tt
  divided_front (a ∷ ls) bs h = (h.0, h.1, each_front (IsAfter a.1) ls bs h.2, divided_front ls bs h.3)

  pub divided_back : (ls bs : List (K × List (K × V))) → IsDivided (ls ++ bs) → IsDivided bs
  divided_back [] bs h = h
  divided_back (a ∷ ls) bs h = divided_back ls bs h.3

  -- ---- where a key belongs

  -- all pairs before a part are below its bound
  pub low_pairs : (ls : List (K × List (K × V))) (p : K × List (K × V)) (bs : List (K × List (K × V))) → IsDivided (ls ++ p ∷ bs) → AreBelow p.0 (all_pairs ls)
  low_pairs [] p bs h = tt
  low_pairs (a ∷ ls) p bs h = each_both (λ (e : K × V). R e.0 p.0 ≡ Less) a.1 (all_pairs ls) (each_back (IsAfter a.1) ls (p ∷ bs) h.2).0.0 (low_pairs ls p bs h.3)

  pub low_zone : (k : K) (ls : List (K × List (K × V))) (p : K × List (K × V)) (bs : List (K × List (K × V))) → IsDivided (ls ++ p ∷ bs) → StartsAt k ls p.0 → AreBelow k (all_pairs ls)
  low_zone k [] p bs h s = tt
  low_zone k (a ∷ ls) p bs h s = below_le R o p.0 k (all_pairs (a ∷ ls)) s (low_pairs (a ∷ ls) p bs h)

  ends_next : (k : K) (q : K × List (K × V)) (qs : List (K × List (K × V))) → is_filled q.1 ≡ true → AreFrom q.0 q.1 → AllByRecursion (IsAfter q.1) qs → R k q.0 ≡ Less → EndsBelow k qs
  ends_next k q [] f a h l = tt
  ends_next k q (r ∷ rs) f a h l = o.trans k q.0 r.0 l (bound_less R o q.0 r.0 q.1 f a h.0.0)

  -- the key is below the bounds of all parts behind
  pub ends_all : (k : K) (p : K × List (K × V)) (bs : List (K × List (K × V))) → IsDivided (p ∷ bs) → EndsBelow k bs → AllByRecursion (λ (q : K × List (K × V)). R k q.0 ≡ Less) bs
  ends_all k p [] h l = tt
  ends_all k p (q ∷ qs) h l = (l, ends_all k q qs h.3 (ends_next k q qs h.3.1 h.2.0.1 h.3.2 l))

  pub high_zone : (k : K) (p : K × List (K × V)) (bs : List (K × List (K × V))) → IsDivided (p ∷ bs) → EndsBelow k bs → AreAbove k (all_pairs bs)
  high_zone k p [] h l = tt
  high_zone k p (q ∷ qs) h l = each_both (λ (e : K × V). R k e.0 ≡ Less) q.1 (all_pairs qs) (above_from R o k q.0 q.1 l h.2.0.1) (high_zone k q qs h.3 (ends_next k q qs h.3.1 h.2.0.1 h.3.2 l))

  ends_first : (p : K × List (K × V)) (bs : List (K × List (K × V))) → IsDivided (p ∷ bs) → AreFrom p.0 p.1 → EndsBelow p.0 bs
  ends_first p [] h f = tt
  ends_first p (q ∷ qs) h f = bound_less R o p.0 q.0 p.1 h.1 f h.2.0.0

  -- no pair of a part and of those behind it is below its bound
  pub from_all : (p : K × List (K × V)) (bs : List (K × List (K × V))) → IsDivided (p ∷ bs) → AreFrom p.0 p.1 → AreFrom p.0 (all_pairs (p ∷ bs))
  from_all p bs h f = each_both (λ (e : K × V). is_le (R p.0 e.0) ≡ true) p.1 (all_pairs bs) f (from_above R o p.0 (all_pairs bs) (high_zone p.0 p bs h (ends_first p bs h f)))

  -- the keys of all parts rise
  pub rise_all : (ps : List (K × List (K × V))) → IsDivided ps → PairsRise (all_pairs ps)
  rise_all [] h = tt
  rise_all (p ∷ []) h = subst (λ (es : List (K × V)). PairsRise es) (sym (append-nil p.1)) h.0
  rise_all (p ∷ q ∷ qs) h = rise_both R o q.0 p.1 (all_pairs (q ∷ qs)) h.0 (rise_all (q ∷ qs) h.3) h.2.0.0 (from_all q qs h.3 h.2.0.1)

  -- ---- what concerns the pairs of one part alone

  module _ (k : K) (ls : List (K × List (K × V))) (p : K × List (K × V)) (bs : List (K × List (K × V))) (h : IsDivided (ls ++ p ∷ bs)) (s : StartsAt k ls p.0) (l : EndsBelow k bs) where
    low : AreBelow k (all_pairs ls)
    low = low_zone k ls p bs h s

    high : AreAbove k (all_pairs bs)
    high = high_zone k p bs (divided_back ls (p ∷ bs) h) l

    pub lookup_part : lookup (is_at (R k)) (all_pairs (ls ++ p ∷ bs)) ≡ lookup (is_at (R k)) p.1
    lookup_part = ap (lookup (is_at (R k))) (all_around ls p bs) ∙ lookup_between R o k (all_pairs ls) p.1 (all_pairs bs) low high

    insert_part : (v : V) → insert_entry R (all_pairs (ls ++ p ∷ bs)) k v ≡ all_pairs ls ++ (insert_entry R p.1 k v ++ all_pairs bs)
    insert_part v = ap (λ (es : List (K × V)). insert_entry R es k v) (all_around ls p bs) ∙ insert_between R o k v (all_pairs ls) p.1 (all_pairs bs) low high

    pub remove_part : remove_entry (is_at (R k)) (all_pairs (ls ++ p ∷ bs)) ≡ all_pairs ls ++ (remove_entry (is_at (R k)) p.1 ++ all_pairs bs)
    remove_part = ap (remove_entry (is_at (R k))) (all_around ls p bs) ∙ remove_between R o k (all_pairs ls) p.1 (all_pairs bs) low high

    pub filter_part : filter (λ (e : K × V). is_le (R k e.0)) (all_pairs (ls ++ p ∷ bs)) ≡ filter (λ (e : K × V). is_le (R k e.0)) p.1 ++ all_pairs bs
    filter_part = ap (filter (λ (e : K × V). is_le (R k e.0))) (all_around ls p bs) ∙ filter_between R o k (all_pairs ls) p.1 (all_pairs bs) low high

    pub before_part : filter (λ (e : K × V). is_lt (R e.0 k)) (all_pairs (ls ++ p ∷ bs)) ≡ all_pairs ls ++ filter (λ (e : K × V). is_lt (R e.0 k)) p.1
    before_part = ap (filter (λ (e : K × V). is_lt (R e.0 k))) (all_around ls p bs) ∙ before_between R o k (all_pairs ls) p.1 (all_pairs bs) low high

  -- ---- parts in the place of one

  -- the new parts begin at the bound of the old one, if there are others before
  abbrev Follows : List (K × List (K × V)) → K → List (K × List (K × V)) → Type 0
  Follows [] bound news = ⊤
  Follows (a ∷ ls) bound news = AllByRecursion (λ (n : K × List (K × V)). (is_le (R bound n.0) ≡ true) × AreFrom n.0 n.1) news

  follows_less : (ls : List (K × List (K × V))) (bound : K) (news : List (K × List (K × V))) → AllByRecursion (λ (n : K × List (K × V)). (is_le (R bound n.0) ≡ true) × AreFrom n.0 n.1) news → Follows ls bound news
  follows_less [] bound news f = tt
  follows_less (a ∷ ls) bound news f = f

  pub replaced : (ls : List (K × List (K × V))) (p : K × List (K × V)) (news bs : List (K × List (K × V))) → IsDivided (ls ++ p ∷ bs) → IsDivided (news ++ bs) → Follows ls p.0 news → IsDivided (ls ++ (news ++ bs))
  replaced [] p news bs h n f = n
  replaced (a ∷ ls) p news bs h n f =
      let back : AllByRecursion (IsAfter a.1) (p ∷ bs) = each_back (IsAfter a.1) ls (p ∷ bs) h.2 in
      let middle : AllByRecursion (IsAfter a.1) news = each_weaker (λ (q : K × List (K × V)). (is_le (R p.0 q.0) ≡ true) × AreFrom q.0 q.1) (IsAfter a.1) (λ q g. (below_le R o p.0 q.0 a.1 g.0 back.0.0, g.1)) news f in (
        h.0,
        h.1,
        each_both (IsAfter a.1) ls (news ++ bs) (each_front (IsAfter a.1) ls (p ∷ bs) h.2) (each_both (IsAfter a.1) news bs middle back.1),
        replaced ls p news bs h.3 n (follows_less ls p.0 news f),
      )

  -- a part that has others before it begins at its bound
  from_bound : (a : K × List (K × V)) (ls : List (K × List (K × V))) (p : K × List (K × V)) (bs : List (K × List (K × V))) → IsDivided (a ∷ (ls ++ p ∷ bs)) → AreFrom p.0 p.1
  from_bound a ls p bs h = (each_back (IsAfter a.1) ls (p ∷ bs) h.2).0.1

  pub from_behind : (ls : List (K × List (K × V))) (p : K × List (K × V)) (bs : List (K × List (K × V))) → is_filled ls ≡ true → IsDivided (ls ++ p ∷ bs) → AreFrom p.0 p.1
  from_behind [] p bs f h = cc f
  from_behind (a ∷ ls) p bs f h = from_bound a ls p bs h

  pub replaced_one : (ls : List (K × List (K × V))) (p : K × List (K × V)) (es : List (K × V)) (bs : List (K × List (K × V))) → IsDivided (ls ++ p ∷ bs) → PairsRise es → is_filled es ≡ true → AllByRecursion (λ (q : K × List (K × V)). AreBelow q.0 es) bs → Follows ls p.0 ((p.0, es) ∷ []) → IsDivided (ls ++ (p.0, es) ∷ bs)
  replaced_one ls p es bs h u f b g =
      let back : IsDivided (p ∷ bs) = divided_back ls (p ∷ bs) h in
      replaced ls p ((p.0, es) ∷ []) bs h
      (u, f, each_joint (λ (q : K × List (K × V)). AreBelow q.0 es) (IsAfter p.1) (IsAfter es) (λ q x y. (x, y.1)) bs b back.2, back.3)
      g

  -- ---- a pair put into one part

  rise_put : (k : K) (v : V) (ls : List (K × List (K × V))) (p : K × List (K × V)) (bs : List (K × List (K × V))) → IsDivided (ls ++ p ∷ bs) → PairsRise (insert_entry R p.1 k v)
  rise_put k v ls p bs h = rise_insert R o p.1 k v (divided_back ls (p ∷ bs) h).0

  below_put : (k : K) (v : V) (ls : List (K × List (K × V))) (p : K × List (K × V)) (bs : List (K × List (K × V))) → IsDivided (ls ++ p ∷ bs) → EndsBelow k bs → AllByRecursion (λ (q : K × List (K × V)). AreBelow q.0 (insert_entry R p.1 k v)) bs
  below_put k v ls p bs h l =
      let back : IsDivided (p ∷ bs) = divided_back ls (p ∷ bs) h in
      each_joint (λ (q : K × List (K × V)). R k q.0 ≡ Less) (IsAfter p.1) (λ (q : K × List (K × V)). AreBelow q.0 (insert_entry R p.1 k v)) (λ q x y. below_insert R o q.0 p.1 k v y.0 x) bs (ends_all k p bs back l) back.2

  from_put : (k : K) (v : V) (a : K × List (K × V)) (ls : List (K × List (K × V))) (p : K × List (K × V)) (bs : List (K × List (K × V))) → IsDivided (a ∷ (ls ++ p ∷ bs)) → is_le (R p.0 k) ≡ true → AreFrom p.0 (insert_entry R p.1 k v)
  from_put k v a ls p bs h s = from_insert R o p.0 p.1 k v (from_bound a ls p bs h) s

  follows_one : (k : K) (v : V) (ls : List (K × List (K × V))) (p : K × List (K × V)) (bs : List (K × List (K × V))) → IsDivided (ls ++ p ∷ bs) → StartsAt k ls p.0 → Follows ls p.0 ((p.0, insert_entry R p.1 k v) ∷ [])
  follows_one k v [] p bs h s = tt
  follows_one k v (a ∷ ls) p bs h s = ((ap is_le (tied_itself o p.0), from_put k v a ls p bs h s), tt)

  pub inserted_one : (k : K) (v : V) (ls : List (K × List (K × V))) (p : K × List (K × V)) (es : List (K × V)) (bs : List (K × List (K × V))) → IsDivided (ls ++ p ∷ bs) → StartsAt k ls p.0 → EndsBelow k bs → es ≡ insert_entry R p.1 k v → IsDivided (ls ++ (p.0, es) ∷ bs)
  inserted_one k v ls p es bs h s l e =
      subst (λ (fs : List (K × V)). IsDivided (ls ++ (p.0, fs) ∷ bs)) (sym e)
      (replaced_one ls p (insert_entry R p.1 k v) bs h (rise_put k v ls p bs h) (filled_insert R o p.1 k v) (below_put k v ls p bs h l) (follows_one k v ls p bs h s))

  pub all_inserted_one : (k : K) (v : V) (ls : List (K × List (K × V))) (p : K × List (K × V)) (es : List (K × V)) (bs : List (K × List (K × V))) → IsDivided (ls ++ p ∷ bs) → StartsAt k ls p.0 → EndsBelow k bs → es ≡ insert_entry R p.1 k v → all_pairs (ls ++ (p.0, es) ∷ bs) ≡ insert_entry R (all_pairs (ls ++ p ∷ bs)) k v
  all_inserted_one k v ls p es bs h s l e =
      all_around ls (p.0, es) bs
      ∙ ap (λ (fs : List (K × V)). all_pairs ls ++ (fs ++ all_pairs bs)) e
      ∙ sym (insert_part k ls p bs h s l v)

  module _ (k : K) (v : V) (ls : List (K × List (K × V))) (p : K × List (K × V)) (es : List (K × V)) (m : K) (fs : List (K × V)) (bs : List (K × List (K × V))) (h : IsDivided (ls ++ p ∷ bs)) (s : StartsAt k ls p.0) (l : EndsBelow k bs)
      (e : es ++ fs ≡ insert_entry R p.1 k v) (b : AreBelow m es) (f : AreFrom m fs) (g : is_filled es ≡ true) (i : is_filled fs ≡ true) where
    both_rise : PairsRise (es ++ fs)
    both_rise = subst (λ (ds : List (K × V)). PairsRise ds) (sym e) (rise_put k v ls p bs h)

    both_below : AllByRecursion (λ (q : K × List (K × V)). AreBelow q.0 (es ++ fs)) bs
    both_below = subst (λ (ds : List (K × V)). AllByRecursion (λ (q : K × List (K × V)). AreBelow q.0 ds) bs) (sym e) (below_put k v ls p bs h l)

    two_divided : IsDivided ((p.0, es) ∷ (m, fs) ∷ bs)
    two_divided =
        let back : IsDivided (p ∷ bs) = divided_back ls (p ∷ bs) h in
        let after : (ds : List (K × V)) → AllByRecursion (λ (q : K × List (K × V)). AreBelow q.0 ds) bs → AllByRecursion (IsAfter ds) bs = λ ds x. each_joint (λ (q : K × List (K × V)). AreBelow q.0 ds) (IsAfter p.1) (IsAfter ds) (λ q y z. (y, z.1)) bs x back.2 in (
          rise_front R o es fs both_rise,
          g,
          ((b, f), after es (each_weaker (λ (q : K × List (K × V)). AreBelow q.0 (es ++ fs)) (λ (q : K × List (K × V)). AreBelow q.0 es) (λ q x. each_front (λ (d : K × V). R d.0 q.0 ≡ Less) es fs x) bs both_below)),
          (
            rise_back R o es fs both_rise,
            i,
            after fs (each_weaker (λ (q : K × List (K × V)). AreBelow q.0 (es ++ fs)) (λ (q : K × List (K × V)). AreBelow q.0 fs) (λ q x. each_back (λ (d : K × V). R d.0 q.0 ≡ Less) es fs x) bs both_below),
            back.3,
          ),
        )

    follows_two : (xs : List (K × List (K × V))) → IsDivided (xs ++ p ∷ bs) → StartsAt k xs p.0 → Follows xs p.0 ((p.0, es) ∷ (m, fs) ∷ [])
    follows_two [] x y = tt
    follows_two (a ∷ xs) x y =
        let from : AreFrom p.0 (es ++ fs) = subst (λ (ds : List (K × V)). AreFrom p.0 ds) (sym e) (from_put k v a xs p bs x y) in
        let first : AreFrom p.0 es = each_front (λ (d : K × V). is_le (R p.0 d.0) ≡ true) es fs from in
        ((ap is_le (tied_itself o p.0), first), ((ap is_le (bound_less R o p.0 m es g first b), f), tt))

    pub inserted_two : IsDivided (ls ++ (p.0, es) ∷ (m, fs) ∷ bs)
    inserted_two = replaced ls p ((p.0, es) ∷ (m, fs) ∷ []) bs h two_divided (follows_two ls h s)

    pub all_inserted_two : all_pairs (ls ++ (p.0, es) ∷ (m, fs) ∷ bs) ≡ insert_entry R (all_pairs (ls ++ p ∷ bs)) k v
    all_inserted_two =
        all_around ls (p.0, es) ((m, fs) ∷ bs)
        ∙ ap (λ (ds : List (K × V)). all_pairs ls ++ ds) (sym (append_assoc es fs (all_pairs bs)))
        ∙ ap (λ (ds : List (K × V)). all_pairs ls ++ (ds ++ all_pairs bs)) e
        ∙ sym (insert_part k ls p bs h s l v)

  -- ---- a pair removed from one part

  follows_gone : (k : K) (ls : List (K × List (K × V))) (p : K × List (K × V)) (bs : List (K × List (K × V))) → IsDivided (ls ++ p ∷ bs) → Follows ls p.0 ((p.0, remove_entry (is_at (R k)) p.1) ∷ [])
  follows_gone k [] p bs h = tt
  follows_gone k (a ∷ ls) p bs h = ((ap is_le (tied_itself o p.0), each_remove R (λ (e : K × V). is_le (R p.0 e.0) ≡ true) (is_at (R k)) p.1 (from_bound a ls p bs h)), tt)

  pub removed_one : (k : K) (ls : List (K × List (K × V))) (p : K × List (K × V)) (es : List (K × V)) (bs : List (K × List (K × V))) → IsDivided (ls ++ p ∷ bs) → es ≡ remove_entry (is_at (R k)) p.1 → is_filled es ≡ true → IsDivided (ls ++ (p.0, es) ∷ bs)
  removed_one k ls p es bs h e f =
      let back : IsDivided (p ∷ bs) = divided_back ls (p ∷ bs) h in
      subst (λ (ds : List (K × V)). IsDivided (ls ++ (p.0, ds) ∷ bs)) (sym e)
      (replaced_one ls p (remove_entry (is_at (R k)) p.1) bs h
      (rise_remove R (is_at (R k)) p.1 back.0)
      (ap is_filled (sym e) ∙ f)
      (each_weaker (IsAfter p.1) (λ (q : K × List (K × V)). AreBelow q.0 (remove_entry (is_at (R k)) p.1)) (λ q x. each_remove R (λ (d : K × V). R d.0 q.0 ≡ Less) (is_at (R k)) p.1 x.0) bs back.2)
      (follows_gone k ls p bs h))

  pub removed_all : (ls : List (K × List (K × V))) (p : K × List (K × V)) (bs : List (K × List (K × V))) → IsDivided (ls ++ p ∷ bs) → IsDivided (ls ++ bs)
  removed_all ls p bs h = replaced ls p [] bs h (divided_back ls (p ∷ bs) h).3 (follows_less ls p.0 [] tt)

  pub all_removed_one : (k : K) (ls : List (K × List (K × V))) (p : K × List (K × V)) (es : List (K × V)) (bs : List (K × List (K × V))) → IsDivided (ls ++ p ∷ bs) → StartsAt k ls p.0 → EndsBelow k bs → es ≡ remove_entry (is_at (R k)) p.1 → all_pairs (ls ++ (p.0, es) ∷ bs) ≡ remove_entry (is_at (R k)) (all_pairs (ls ++ p ∷ bs))
  all_removed_one k ls p es bs h s l e =
      all_around ls (p.0, es) bs
      ∙ ap (λ (ds : List (K × V)). all_pairs ls ++ (ds ++ all_pairs bs)) e
      ∙ sym (remove_part k ls p bs h s l)
