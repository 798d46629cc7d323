-- What some text reads as has drawable RANDs, and with values in place of its calls some text reads as it still.
use Rattle.std.proofs.Common.{◌≡◌, ◌∙◌, refl, sym, ap, ap₂, subst, ℕ, ℤ, suc, ◌<◌, ◌≤◌, Bool, true, false, Option, List, [], ◌∷◌, length, map}
use Rattle.std.proofs.lemmas.List.{length-map}
use Rattle.cj_macro.proofs.Common.{All, All-append, All-nil, Condition, Expr, flat_map, IsConstant, IsWritten, Request, Set, Term, Write}
use Rattle.cj_model.specs.declared.value.Value.TheVariants as value
use Rattle.cj_model.specs.declared.select.Key.{Key}
use Rattle.cj_model.specs.declared.select.Select.{Select}
use Rattle.cj_model.specs.declared.write.Write.TheVariants as write
use Rattle.cj_model.specs.declared.request.Request.TheVariants as request
use Rattle.cj_model.specs.Sql.TermForms.{EachFits, SomeFit, const_meant, ConstFits}
use Rattle.cj_model.specs.Sql.Grammar as g
use Rattle.cj_model.specs.Sql.Grammar.{set_meant, select_meant, statement_meant, SetFits, StatementFits, TextReadsAs}
use Rattle.cj_model.specs.Sql.Macros.{term_bounds, tuple_bounds, set_bounds, where_bounds, write_bounds, IsDrawable, RandsAreDrawable, draws_for, draws_behind, rewritten_term, each_rewritten, rewritten_tuple, rewritten_set, rewritten_write, rewritten_select, rewritten}
use Rattle.cj_model.proofs.Spellable.{FineConst, FineSet, FineWrite, FineRequest, request_fine}
use Rattle.cj_print.proofs.Forms.{const_form, set_form, direction_form, key_form, select_form, form}
use Rattle.cj_print.proofs.CanonicalForm.{form_fits}
use Rattle.cj_print.proofs.StoredWritten.{written_in_canonical}
use Rattle.cj_macro.proofs.Plainness.{rewritten_is_plain}
use Rattle.cj_macro.proofs.RewrittenTerms.{IsSmall, front_small, behind_small, const_means, expr_means, const_fine, expr_fine, const_fits, expr_fits, const_drawable, expr_drawable}
use Rattle.cj_macro.proofs.RewrittenConditions.{where_fine, where_fits, where_means, where_drawable}

-- ---- items in turn

module _ {A : Type 0} (bounds_of : A → List ℕ) (item : List ℕ → A → A) where
  -- what holds of each item holds of each rewritten one, where it does of one that is rewritten with small draws
  each_holds : (P : A → Type 0) → ((draws : List ℕ) (x : A) → All IsSmall draws → P x → P (item draws x))
      → (draws : List ℕ) (xs : List A) → All IsSmall draws → EachFits P xs → EachFits P (each_rewritten bounds_of item draws xs)
  each_holds P k draws [] small h = tt
  each_holds P k draws (x ∷ xs) small h =
      (k (draws_for (bounds_of x) draws) x (front_small (bounds_of x) draws small) h.0, each_holds P k (draws_behind (bounds_of x) draws) xs (behind_small (bounds_of x) draws small) h.1)

  -- there are as many
  length_rewritten : (draws : List ℕ) (xs : List A) → length (each_rewritten bounds_of item draws xs) ≡ length xs
  length_rewritten draws [] = refl
  length_rewritten draws (x ∷ xs) = ap (λ n. suc n) (length_rewritten (draws_behind (bounds_of x) draws) xs)

  module _ {F : Type 0} (form_of : A → F) where
    -- the same of their forms
    each_fits : (P : F → Type 0) → ((draws : List ℕ) (x : A) → All IsSmall draws → P (form_of x) → P (form_of (item draws x)))
        → (draws : List ℕ) (xs : List A) → All IsSmall draws → EachFits P (map form_of xs) → EachFits P (map form_of (each_rewritten bounds_of item draws xs))
    each_fits P k draws [] small h = tt
    each_fits P k draws (x ∷ xs) small h =
        (k (draws_for (bounds_of x) draws) x (front_small (bounds_of x) draws small) h.0, each_fits P k (draws_behind (bounds_of x) draws) xs (behind_small (bounds_of x) draws small) h.1)

    some_fit : (P : F → Type 0) → ((draws : List ℕ) (x : A) → All IsSmall draws → P (form_of x) → P (form_of (item draws x)))
        → (limit : ℕ) (draws : List ℕ) (xs : List A) → All IsSmall draws → SomeFit P limit (map form_of xs) → SomeFit P limit (map form_of (each_rewritten bounds_of item draws xs))
    some_fit P k limit draws xs small h =
        let count : length (map form_of (each_rewritten bounds_of item draws xs)) ≡ length (map form_of xs) =
        length-map (each_rewritten bounds_of item draws xs) form_of ∙ length_rewritten draws xs ∙ sym (length-map xs form_of)
        in
        (subst (λ n. 0 < n) (sym count) h.0, subst (λ n. n ≤ limit) (sym count) h.1, each_fits P k draws xs small h.2)

    -- each rewritten item is what its form means
    each_means : (meant : F → A) (Q : A → Type 0) → ((draws : List ℕ) (x : A) → Q x → meant (form_of (item draws x)) ≡ item draws x)
        → (draws : List ℕ) (xs : List A) → EachFits Q xs → map meant (map form_of (each_rewritten bounds_of item draws xs)) ≡ each_rewritten bounds_of item draws xs
    each_means meant Q k draws [] h = refl
    each_means meant Q k draws (x ∷ xs) h =
        ap₂ (λ y ys. y ∷ ys) (k (draws_for (bounds_of x) draws) x h.0) (each_means meant Q k (draws_behind (bounds_of x) draws) xs h.1)

    -- the items' RANDs are drawable, where those of each item that fits are
    each_drawable : (P : F → Type 0) (Q : A → Type 0) → ((x : A) → Q x → P (form_of x) → All IsDrawable (bounds_of x))
        → (xs : List A) → EachFits Q xs → EachFits P (map form_of xs) → All IsDrawable (flat_map bounds_of xs)
    each_drawable P Q k [] fine h = All-nil IsDrawable
    each_drawable P Q k (x ∷ xs) fine h = All-append IsDrawable (bounds_of x) (flat_map bounds_of xs) (k x fine.0 h.0) (each_drawable P Q k xs fine.1 h.1)

-- ---- tuples and assignments

tuple_means : (moment : ℤ) (draws : List ℕ) (row : List Term) → EachFits FineConst row → map const_meant (map const_form (rewritten_tuple moment draws row)) ≡ rewritten_tuple moment draws row
tuple_means moment draws row fine = each_means term_bounds (rewritten_term moment) const_form const_meant FineConst (λ ds t h. const_means moment ds t h.0) draws row fine

set_means : (moment : ℤ) (draws : List ℕ) (s : Set) → set_meant (set_form (rewritten_set moment draws s)) ≡ rewritten_set moment draws s
set_means moment draws s = let with_value : Expr → Set = λ e. record { column = s.column; value = e } in ap with_value (expr_means moment draws s.value)

tuple_drawable : (row : List Term) → EachFits FineConst row → SomeFit ConstFits 16 (map const_form row) → All IsDrawable (tuple_bounds row)
tuple_drawable row fine h = each_drawable term_bounds (λ ds t. t) const_form ConstFits FineConst const_drawable row fine h.2

set_drawable : (s : Set) → FineSet s → SetFits (set_form s) → All IsDrawable (set_bounds s)
set_drawable s fine h = expr_drawable s.value fine.1 h

module _ (moment : ℤ) (in_range : IsConstant (value.Int moment)) where
  tuple_fine : (draws : List ℕ) (row : List Term) → All IsSmall draws → EachFits FineConst row → EachFits FineConst (rewritten_tuple moment draws row)
  tuple_fine draws row small h = each_holds term_bounds (rewritten_term moment) FineConst (const_fine moment in_range) draws row small h

  tuple_fits : (draws : List ℕ) (row : List Term) → All IsSmall draws → SomeFit ConstFits 16 (map const_form row) → SomeFit ConstFits 16 (map const_form (rewritten_tuple moment draws row))
  tuple_fits draws row small h = some_fit term_bounds (rewritten_term moment) const_form ConstFits (const_fits moment in_range) 16 draws row small h

  set_fine : (draws : List ℕ) (s : Set) → All IsSmall draws → FineSet s → FineSet (rewritten_set moment draws s)
  set_fine draws s small h = (h.0, expr_fine moment in_range draws s.value small h.1)

  set_fits : (draws : List ℕ) (s : Set) → All IsSmall draws → SetFits (set_form s) → SetFits (set_form (rewritten_set moment draws s))
  set_fits draws s small h = expr_fits moment in_range draws s.value small h

-- ---- requests

write_means : (moment : ℤ) (draws : List ℕ) (w : Write) → FineWrite w → statement_meant (form (request.Write (rewritten_write moment draws w))) ≡ request.Write (rewritten_write moment draws w)
write_means moment draws (write.Insert n names rows) fine =
    ap (λ xs. request.Write (write.Insert n names xs)) (each_means tuple_bounds (rewritten_tuple moment) (map const_form) (map const_meant) (EachFits FineConst) (tuple_means moment) draws rows fine.2)
write_means moment draws (write.Update n sets o) fine =
    let own = flat_map set_bounds sets in
    ap₂ (λ xs p. request.Write (write.Update n xs p))
    (each_means set_bounds (rewritten_set moment) set_form set_meant FineSet (λ ds s h. set_means moment ds s) (draws_for own draws) sets fine.1)
    (where_means moment (draws_behind own draws) o)
write_means moment draws (write.Delete n o) fine = ap (λ p. request.Write (write.Delete n p)) (where_means moment draws o)

-- a key is what its form means
direction_means : (desc : Bool) → g.descends (direction_form desc) ≡ desc
direction_means true = refl
direction_means false = refl

keys_mean : (ks : List Key) → map g.key_meant (map key_form ks) ≡ ks
keys_mean [] = refl
keys_mean (k ∷ ks) =
    let with_direction : Bool → Key = λ b. record { col = k.col; desc = b } in
    ap₂ (λ x xs. x ∷ xs) (ap with_direction (direction_means k.desc)) (keys_mean ks)

select_means : (moment : ℤ) (draws : List ℕ) (s : Select) → select_meant (select_form (rewritten_select moment draws s)) ≡ rewritten_select moment draws s
select_means moment draws s =
    let with_parts : Option Condition → List Key → Select = λ o ks. record { items = s.items; tables = s.tables; cond = o; group = s.group; order = ks; limit = s.limit } in
    ap₂ with_parts (where_means moment draws s.cond) (keys_mean s.order)

-- the rewritten request is what its canonical form means
means : (moment : ℤ) (draws : List ℕ) (r : Request) → FineRequest r → statement_meant (form (rewritten moment draws r)) ≡ rewritten moment draws r
means moment draws (request.Select s) fine = ap (λ x. request.Select x) (select_means moment draws s)
means moment draws (request.Write w) fine = write_means moment draws w fine
means moment draws (request.Create x) fine = refl
means moment draws (request.Drop n) fine = refl
means moment draws request.Begin fine = refl
means moment draws request.Commit fine = refl
means moment draws request.Rollback fine = refl

module _ (moment : ℤ) (in_range : IsConstant (value.Int moment)) where
  write_fine : (draws : List ℕ) (w : Write) → All IsSmall draws → FineWrite w → FineWrite (rewritten_write moment draws w)
  write_fine draws (write.Insert n names rows) small h = (h.0, h.1, each_holds tuple_bounds (rewritten_tuple moment) (EachFits FineConst) (tuple_fine moment in_range) draws rows small h.2)
  write_fine draws (write.Update n sets o) small h =
      let own = flat_map set_bounds sets in
      (h.0, each_holds set_bounds (rewritten_set moment) FineSet (set_fine moment in_range) (draws_for own draws) sets (front_small own draws small) h.1, where_fine moment in_range (draws_behind own draws) o (behind_small own draws small) h.2)
  write_fine draws (write.Delete n o) small h = (h.0, where_fine moment in_range draws o small h.1)

  -- the rewritten request can be spelled
  fine : (draws : List ℕ) (r : Request) → All IsSmall draws → FineRequest r → FineRequest (rewritten moment draws r)
  fine draws (request.Select s) small h =
      record { items = h.items; tables = h.tables; cond = where_fine moment in_range draws s.cond small h.cond; group = h.group; order = h.order; limit = h.limit }
  fine draws (request.Write w) small h = write_fine draws w small h
  fine draws (request.Create x) small h = h
  fine draws (request.Drop n) small h = h
  fine draws request.Begin small h = h
  fine draws request.Commit small h = h
  fine draws request.Rollback small h = h

  write_fits : (draws : List ℕ) (w : Write) → All IsSmall draws → FineWrite w → StatementFits (form (request.Write w)) → StatementFits (form (request.Write (rewritten_write moment draws w)))
  write_fits draws (write.Insert n names rows) small spelled h =
      (h.0, some_fit tuple_bounds (rewritten_tuple moment) (map const_form) (SomeFit ConstFits 16) (tuple_fits moment in_range) 4096 draws rows small h.1)
  write_fits draws (write.Update n sets o) small spelled h =
      let own = flat_map set_bounds sets in (
        some_fit set_bounds (rewritten_set moment) set_form SetFits (set_fits moment in_range) 16 (draws_for own draws) sets (front_small own draws small) h.0,
        where_fits moment in_range (draws_behind own draws) o (behind_small own draws small) spelled.2 h.1,
      )
  write_fits draws (write.Delete n o) small spelled h = where_fits moment in_range draws o small spelled.1 h

  -- and its form fits
  fits : (draws : List ℕ) (r : Request) → All IsSmall draws → FineRequest r → StatementFits (form r) → StatementFits (form (rewritten moment draws r))
  fits draws (request.Select s) small spelled h =
      record {
        items = h.items;
        tables = h.tables;
        different = h.different;
        cond = where_fits moment in_range draws s.cond small spelled.cond h.cond;
        order = h.order;
        limit = h.limit;
        alone = h.alone;
      }
  fits draws (request.Write w) small spelled h = write_fits draws w small spelled h
  fits draws (request.Create x) small spelled h = h
  fits draws (request.Drop n) small spelled h = h
  fits draws request.Begin small spelled h = h
  fits draws request.Commit small spelled h = h
  fits draws request.Rollback small spelled h = h

-- ---- texts

-- the canonical form of what some text reads as fits
text_fits : (text : List ℕ) (r : Request) → TextReadsAs text r → StatementFits (form r)
text_fits text r h = subst (λ x. StatementFits (form x)) (sym h.reads.meant) (form_fits h.reads.statement h.reads.fits)

-- what some text reads as, some text reads as with values in place of its calls
pub rewritten_is_written : (moment : ℤ) (draws : List ℕ) → IsConstant (value.Int moment) → All IsSmall draws → (text : List ℕ) (r : Request) → TextReadsAs text r → IsWritten (rewritten moment draws r)
rewritten_is_written moment draws in_range small text r h =
    let spelled = request_fine text r h in
    written_in_canonical
    (rewritten moment draws r)
    (rewritten_is_plain moment draws r)
    (fine moment in_range draws r small spelled)
    (fits moment in_range draws r small spelled (text_fits text r h))
    (sym (means moment draws r spelled))

write_drawable : (w : Write) → FineWrite w → StatementFits (form (request.Write w)) → All IsDrawable (write_bounds w)
write_drawable (write.Insert n names rows) spelled h =
    each_drawable tuple_bounds (λ ds row. row) (map const_form) (SomeFit ConstFits 16) (EachFits FineConst) tuple_drawable rows spelled.2 h.1.2
write_drawable (write.Update n sets o) spelled h =
    All-append IsDrawable (flat_map set_bounds sets) (where_bounds o)
    (each_drawable set_bounds (λ ds s. s) set_form SetFits FineSet set_drawable sets spelled.1 h.0.2)
    (where_drawable o spelled.2 h.1)
write_drawable (write.Delete n o) spelled h = where_drawable o spelled.1 h

drawable : (r : Request) → FineRequest r → StatementFits (form r) → RandsAreDrawable r
drawable (request.Select s) spelled h = where_drawable s.cond spelled.cond h.cond
drawable (request.Write w) spelled h = write_drawable w spelled h
drawable (request.Create x) spelled h = All-nil IsDrawable
drawable (request.Drop n) spelled h = All-nil IsDrawable
drawable request.Begin spelled h = All-nil IsDrawable
drawable request.Commit spelled h = All-nil IsDrawable
drawable request.Rollback spelled h = All-nil IsDrawable

-- what some text reads as has RANDs with numbers of at least 1
pub text_is_drawable : (text : List ℕ) (r : Request) → TextReadsAs text r → RandsAreDrawable r
text_is_drawable text r h = drawable r (request_fine text r h) (text_fits text r h)
