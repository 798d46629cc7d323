-- Each step keeps the rule of a lane's queue.
use Rattle.std.proofs.Common.{◌≡◌, ◌≢◌, ℕ, ◌+◌, ◌<◌, ◌≤◌, zero, suc, true, false, true≢false, List, [], ◌∷◌, ◌++◌, length, set, slice_index_or, All, AllPairs, sym, refl, ap, ◌∙◌, subst, ⊎_elim, append_assoc, arith}
use mathlib.Core.Option.{some, some-ne-none}
use lib.ListN.{get_elem?}
use Rattle.std.proofs.lemmas.List.{length-append}
use Rattle.std.proofs.lemmas.List.Elements.{All-append, All-weaker}
use Rattle.std.proofs.lemmas.List.Quantifiers.{all_pairs_push}
use Rattle.crossbeam_queue.specs.Fifo.{Pushes, Pops, Forks, Merges, Learns}
use Rattle.crossbeam_queue.proofs.Lists.{at_set, at_snoc}
use Rattle.cj_queue.specs.declared.numbered.Numbered.{Numbered}
use Rattle.cj_queue.specs.declared.rule.LaneView.{LaneView}
use Rattle.cj_queue.specs.Rule.{lane_view, Fits, IsInOrder, IsRising}

-- the number of each is below those of all behind it
abbrev IsRisingBy : {T : Type 0} → (T → ℕ) → List T → Type 0
IsRisingBy {T} number jobs = AllPairs (λ (j k : T). number j < number k) jobs

module _ {T : Type 0} where
  -- ---- lists

  first_behind : (xs : List T) (x : T) (ys : List T) (d : T) → slice_index_or (xs ++ x ∷ ys) (length xs) d ≡ x
  first_behind [] x ys d = refl
  first_behind (z ∷ zs) x ys d = first_behind zs x ys d

  in_first : (xs ys : List T) (k : ℕ) (d : T) → k < length xs → slice_index_or (xs ++ ys) k d ≡ slice_index_or xs k d
  in_first [] ys k d lt = absurd (omega (arith, lt))
  in_first (z ∷ zs) ys zero d lt = refl
  in_first (z ∷ zs) ys (suc k) d lt = in_first zs ys k d (omega (arith, lt))

  -- what stands before another in a rising list has a lower number
  lower_before : (number : T → ℕ) (xs : List T) (x : T) (ys : List T) → IsRisingBy number (xs ++ x ∷ ys) → All (λ (j : T). number j < number x) xs
  lower_before number xs x ys rising k d lt =
      let long : length (xs ++ x ∷ ys) ≡ length xs + length (x ∷ ys) = length-append xs (x ∷ ys) in
      let pair : number (slice_index_or (xs ++ x ∷ ys) k d) < number (slice_index_or (xs ++ x ∷ ys) (length xs) d) = rising k (length xs) d lt (omega (arith, long)) in
      subst (λ (z : T). number z < number x) (in_first xs (x ∷ ys) k d lt) (subst (λ (z : T). number (slice_index_or (xs ++ x ∷ ys) k d) < number z) (first_behind xs x ys d) pair)

  rising_more : (number : T → ℕ) (xs : List T) (x : T) → IsRisingBy number xs → All (λ (j : T). number j < number x) xs → IsRisingBy number (xs ++ x ∷ [])
  rising_more number xs x rising lower = all_pairs_push (λ (j k : T). number j < number k) xs x rising lower

  only : (P : T → Type 0) (x : T) → P x → All P (x ∷ [])
  only P x p zero d lt = p
  only P x p (suc k) d lt = absurd (omega (arith, lt))

  -- what is numbered at most so is numbered below all that is higher
  pub below_next : (number : T → ℕ) (xs : List T) (last next : ℕ) → All (λ (j : T). number j ≤ last) xs → last < next → All (λ (j : T). number j < next) xs
  below_next number xs last next within rises = All-weaker (λ (j : T). number j ≤ last) (λ (j : T). number j < next) (λ j low. omega (arith, low, rises)) xs within

  at_most : (number : T → ℕ) (xs : List T) (x : T) → All (λ (j : T). number j < number x) xs → All (λ (j : T). number j ≤ number x) (xs ++ x ∷ [])
  at_most number xs x lower =
      let P : T → Type 0 = λ j. number j ≤ number x in
      All-append P xs (x ∷ []) (All-weaker (λ (j : T). number j < number x) P (λ j low. omega (arith, low)) xs lower) (only P x (omega arith))

module _ {T : Type 0} where
  -- ---- views

  -- each pass has its number, and knows this
  abbrev EachPass : (ℕ → LaneView T → Type 0) → List (LaneView T) → Type 0
  EachPass F views = (pass : ℕ) (v : LaneView T) → get_elem? views pass ≡ some v → F pass v

  new_is_last : (l : List (LaneView T)) (a b : LaneView T) (j : ℕ) → get_elem? l j ≢ some b → get_elem? (l ++ a ∷ []) j ≡ some b → j ≡ length l
  new_is_last [] a b zero n e = refl
  new_is_last [] a b (suc j) n e = absurd (some-ne-none b (sym e))
  new_is_last (x ∷ xs) a b zero n e = absurd (n e)
  new_is_last (x ∷ xs) a b (suc j) n e = ap suc (new_is_last xs a b j n e)

  each_set : (F : ℕ → LaneView T → Type 0) (views : List (LaneView T)) (pass : ℕ) (w : LaneView T) → F pass w → ((j : ℕ) (u : LaneView T) → j ≢ pass → get_elem? views j ≡ some u → F j u)
      → (j : ℕ) (u : LaneView T) → get_elem? (set views pass w) j ≡ some u → F j u
  each_set F views pass w mine others j u e = ⊎_elim (λ (x : (j ≡ pass) × (w ≡ u)). subst (λ (y : ℕ × LaneView T). F y.0 y.1) (λ i. (sym x.0 i, x.1 i)) mine)
      (λ (x : (j ≢ pass) × (get_elem? views j ≡ some u)). others j u x.0 x.1) (at_set views pass j w u e)

module _ {T : Type 0} where
  -- ---- steps

  pub begins : IsInOrder {T = T} [] (lane_view true true [] [] ∷ [])
  begins = record {
    poster = 0;
    taker = 0;
    posted = [];
    taken = [];
    order = refl;
    rising = λ i j d lt within. absurd (omega (arith, within));
    fits = each_set (Fits 0 0 [] []) (lane_view true true [] [] ∷ []) 0 (lane_view true true [] []) ((λ _. (refl, refl)), λ _. (refl, refl))
        (λ j u other e. absurd (other (new_is_last [] _ u j (λ x. some-ne-none u (sym x)) e)));
  }

  pub posts : (n pass : ℕ) (v : LaneView T) (x : Numbered T) → v.posts ≡ true → All (λ (j : Numbered T). j.number < x.number) v.posted → Pushes (IsInOrder) n pass v x (λ w. w ≡ lane_view v.posts v.takes (v.posted ++ x ∷ []) v.taken)
  posts n pass v x may lower items views _ h at =
      let w : LaneView T = lane_view v.posts v.takes (v.posted ++ x ∷ []) v.taken in
      let mine = h.fits pass v at in
      let all : List (Numbered T) = h.posted ++ x ∷ [] in (
        w,
        record {
          poster = h.poster;
          taker = h.taker;
          posted = all;
          taken = h.taken;
          order = ap (λ (l : List (Numbered T)). l ++ x ∷ []) h.order ∙ append_assoc h.taken items (x ∷ []);
          rising = rising_more (λ (j : Numbered T). j.number) h.posted x h.rising (subst (All (λ (j : Numbered T). j.number < x.number)) (mine.0 may).1 lower);
          fits = each_set (Fits h.poster h.taker all h.taken) views pass w ((λ _. ((mine.0 may).0, ap (λ (l : List (Numbered T)). l ++ x ∷ []) (mine.0 may).1)), mine.1)
              (λ j u other e. ((λ p. absurd (other (((h.fits j u e).0 p).0 ∙ sym (mine.0 may).0))), (h.fits j u e).1));
        },
        refl,
      )

  pub takes : (pass : ℕ) (v : LaneView T) → v.takes ≡ true
      → Pops (IsInOrder) pass v (λ x w. (w ≡ lane_view v.posts v.takes v.posted (v.taken ++ x ∷ [])) × All (λ (j : Numbered T). j.number < x.number) v.taken)
  takes pass v may x items views h at =
      let w : LaneView T = lane_view v.posts v.takes v.posted (v.taken ++ x ∷ []) in
      let mine = h.fits pass v at in
      let all : List (Numbered T) = h.taken ++ x ∷ [] in (
        w,
        record {
          poster = h.poster;
          taker = h.taker;
          posted = h.posted;
          taken = all;
          order = h.order ∙ sym (append_assoc h.taken (x ∷ []) items);
          rising = h.rising;
          fits = each_set (Fits h.poster h.taker h.posted all) views pass w (mine.0, λ _. ((mine.1 may).0, ap (λ (l : List (Numbered T)). l ++ x ∷ []) (mine.1 may).1))
              (λ j u other e. ((h.fits j u e).0, λ p. absurd (other (((h.fits j u e).1 p).0 ∙ sym (mine.1 may).0))));
        },
        (
          refl,
          subst (All (λ (j : Numbered T). j.number < x.number)) (sym (mine.1 may).1) (lower_before (λ (j : Numbered T). j.number) h.taken x items (subst IsRising h.order h.rising)),
        ),
      )

  pub splits : (pass : ℕ) (v : LaneView T) → v.posts ≡ true → v.takes ≡ true → Forks (IsInOrder) pass v (lane_view true false v.posted []) (lane_view false true [] v.taken)
  splits pass v a b items views h at =
      let l : LaneView T = lane_view true false v.posted [] in
      let r : LaneView T = lane_view false true [] v.taken in
      let mine = h.fits pass v at in
      let vs : List (LaneView T) = set views pass l in
      let Old : ℕ → LaneView T → Type 0 = λ j u. (u.posts ≡ true → (j ≡ h.poster) × (u.posted ≡ h.posted)) × (u.takes ≢ true) in
      let old : EachPass Old vs =
      each_set Old views pass l ((λ _. mine.0 a), λ p. true≢false (sym p)) (λ j u other e. ((h.fits j u e).0, λ p. other (((h.fits j u e).1 p).0 ∙ sym (mine.1 b).0))) in
      record {
        poster = h.poster;
        taker = length vs;
        posted = h.posted;
        taken = h.taken;
        order = h.order;
        rising = h.rising;
        fits =
            λ j u e.
            ⊎_elim (λ x. ((old j u x).0, λ p. absurd ((old j u x).1 p)))
            (λ (is : r ≡ u). (
              (λ p. absurd (true≢false (sym (ap (λ (y : LaneView T). y.posts) is ∙ p)))),
              λ p. (new_is_last vs r u j (λ x. (old j u x).1 p) e, ap (λ (y : LaneView T). y.taken) (sym is) ∙ (mine.1 b).1),
            )) (at_snoc vs r u j e);
      }

  pub joins : (pass : ℕ) (v : LaneView T) (other : ℕ) (u : LaneView T) → v.posts ≡ true → u.takes ≡ true
      → Merges (IsInOrder) pass v other u (lane_view true true v.posted u.taken) (lane_view false false [] [])
  joins pass v other u a b items views h at two at' =
      let both : LaneView T = lane_view true true v.posted u.taken in
      let mine = h.fits pass v at in
      let vs : List (LaneView T) = set views pass both in
      let was : get_elem? views other ≡ some u = ⊎_elim (λ x. absurd (two x.0)) (λ x. x.1) (at_set views pass other both u at') in
      let theirs = (h.fits other u was).1 b in
      let Now : ℕ → LaneView T → Type 0 = λ j y. j ≢ other → Fits h.poster pass h.posted h.taken j y in
      let now : EachPass Now vs =
      each_set Now views pass both (λ _. ((λ _. mine.0 a), λ _. (refl, theirs.1))) (λ j y _ e apart. ((h.fits j y e).0, λ p. absurd (apart (((h.fits j y e).1 p).0 ∙ sym theirs.0)))) in
      record {
        poster = h.poster;
        taker = pass;
        posted = h.posted;
        taken = h.taken;
        order = h.order;
        rising = h.rising;
        fits = each_set (Fits h.poster pass h.posted h.taken) vs other (lane_view false false [] []) ((λ p. absurd (true≢false (sym p))), λ p. absurd (true≢false (sym p)))
            (λ j y apart e. now j y e apart);
      }

  -- what the queue holds is the last that was posted
  pub holds_last : (pass : ℕ) (v : LaneView T) → v.posts ≡ true → Learns (IsInOrder) pass v (λ items. (before : List (Numbered T)) × (v.posted ≡ before ++ items))
  holds_last pass v a items views h at = (h.taken, ((h.fits pass v at).0 a).1 ∙ h.order)

  -- the poster's end after it posted a job
  pub still_posts : (v w : LaneView T) (x : Numbered T) → w ≡ lane_view v.posts v.takes (v.posted ++ x ∷ []) v.taken → v.posts ≡ true → w.posts ≡ true
  still_posts v w x is may = ap (λ (u : LaneView T). u.posts) is ∙ may

  module _ (v w : LaneView T) (x : Numbered T) (last : ℕ) (is : w ≡ lane_view v.posts v.takes (v.posted ++ x ∷ []) v.taken) (within : All (λ (j : Numbered T). j.number ≤ last) v.posted) (above : last < x.number) where
    below_x : All (λ (j : Numbered T). j.number < x.number) v.posted
    below_x = below_next (λ (j : Numbered T). j.number) v.posted last x.number within above

    pub within_more : All (λ (j : Numbered T). j.number ≤ x.number) w.posted
    within_more = subst (λ (u : LaneView T). All (λ (j : Numbered T). j.number ≤ x.number) u.posted) (sym is) (at_most (λ (j : Numbered T). j.number) v.posted x below_x)

    pub posted_rising : IsRising v.posted → IsRising w.posted
    posted_rising rising = subst (λ (u : LaneView T). IsRising u.posted) (sym is) (rising_more (λ (j : Numbered T). j.number) v.posted x rising below_x)
