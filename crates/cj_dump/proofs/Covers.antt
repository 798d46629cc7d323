-- The names covered, read one after another, are a set as they stand.
use Rattle.std.proofs.Common.{◌≡◌, ℕ, zero, suc, Bool, true, List, [], ◌∷◌, ◌++◌, Ok, refl, sym, ap, subst, ◌∙◌, append_assoc, append-nil, Ordering, Less, Greater}
use Rattle.std.specs.Ordering.{match_ordering, ordering_reverse}
use Rattle.cj_dump.proofs.Common.{All, All-head, All-tail, DumpError, IsTotalOrder, Place, Rises, fold, name_cmp, nat_list_cmp_total, put_by, ◌>>=◌}
use Rattle.cj_model.proofs.Fields.{bind_ok, ok_is, done}
use Rattle.cj_codec.specs.Fields.{name}
use Rattle.cj_dump.specs.DumpLayout.{last_of, rises_above, covered, covers_count, covers}
use Rattle.cj_dump.specs.Layouts.{FieldReading, field, listed, listed_reads}
use Rattle.cj_dump.proofs.LayoutLaws.{found_ok}
use Rattle.cj_dump.proofs.Rising.{above, rises_from, all_rise}

-- ---- items put past those below them

fold_past : {A : Type 0} (order : A → A → Ordering) → IsTotalOrder order → (y : A) (ys xs : List A) → All (λ x. order y x ≡ Less) xs → fold (put_by order) (y ∷ ys) xs ≡ y ∷ fold (put_by order) ys xs
fold_past order total y ys [] h = refl
fold_past {A} order total y ys (x ∷ xs) h =
    let g : order x y ≡ Greater = total.antisymm x y ∙ ap ordering_reverse (All-head (λ z. order y z ≡ Less) x xs h) in
    ap (λ (o : Ordering). fold (put_by order) (match_ordering o (x ∷ y ∷ ys) (x ∷ ys) (y ∷ put_by order ys x)) xs) g ∙ fold_past order total y (put_by order ys x) xs (All-tail (λ z. order y z ≡ Less) x xs h)

each_put : {A : Type 0} (order : A → A → Ordering) → IsTotalOrder order → (xs : List A) → Rises order xs → fold (put_by order) [] xs ≡ xs
each_put order total [] h = refl
each_put {A} order total (x ∷ xs) h = fold_past order total x [] xs h.0 ∙ ap (λ (l : List A). x ∷ l) (each_put order total xs h.1)

-- ---- names that were read rise

one_above : {A : Type 0} (order : A → A → Ordering) (front before : List A) (x : A) → rises_from order front before → above order (last_of (front ++ before)) x ≡ true → rises_from order front (before ++ x ∷ [])
one_above {A} order front [] x h e = (subst (λ (l : List A). above order (last_of l) x ≡ true) (append-nil front) e, tt)
one_above {A} order front (b ∷ before) x h e = (h.0, one_above order (front ++ b ∷ []) before x h.1 (subst (λ (l : List A). above order (last_of l) x ≡ true) (sym (append_assoc front (b ∷ []) before)) e))

names_rise : (n : ℕ) (before : List (List ℕ)) (place : Place) (all : List (List ℕ)) (next : Place) → rises_from name_cmp [] before → listed_reads covered before n place ≡ Ok (all, next) → rises_from name_cmp [] all
names_rise zero before place all next h e =
    let made : List (List ℕ) × Place = (before, place) in
    subst (λ (z : List (List ℕ) × Place). rises_from name_cmp [] z.0) (ok_is {E = DumpError} made (all, next) e) h
names_rise (suc n) before place all next h e =
    let b = bind_ok ((covered before).reads place) (λ x. listed_reads covered (before ++ x.0 ∷ []) n x.1) (all, next) e in
    let t = found_ok (rises_above (last_of before)) place (name.reads place.rest) b.0.0 b.0.1 b.1 in
    names_rise n (before ++ b.0.0 ∷ []) b.0.1 all next (one_above name_cmp [] before b.0.0 h t.1) b.2

pub covers_read : (all : Bool) (count : ℕ) (place mid next : Place) (names set : List (List ℕ)) → (field (covers_count all)).reads place ≡ Ok (count, mid) → (listed covered count).reads mid ≡ Ok (names, next) → set ≡ fold (put_by name_cmp) [] names → (covers all).reads place ≡ Ok (set, next)
covers_read all count place mid next names set e f is =
    let rise : Rises name_cmp names = all_rise name_cmp nat_list_cmp_total names (names_rise count [] mid names next tt f) in
    ap (λ (r : FieldReading ℕ). r >>= λ k. (listed covered k.0).reads k.1) e ∙ f ∙ ap (λ (l : List (List ℕ)). done DumpError (l, next)) (sym (is ∙ each_put name_cmp nat_list_cmp_total names rise))
