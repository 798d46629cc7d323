-- Rows that are set in their places.
use Rattle.std.proofs.Common.{◌≡◌, ℕ, ◌<◌, ◌≤◌, ℤ, Bool, true, false, cond, List, [], ◌∷◌, length, map, get_or, refl, ap, sym, ◌∙◌, subst, arith}
use Rattle.std.specs.Prelude.{All, count_by, is_some, slice_set, ◌||◌, ◌&&◌}
use Rattle.std.specs.declared.option.Option.TheVariants.{None, Some}
use Rattle.std.specs.declared.result.Result.TheVariants.{Ok, Err}
use Rattle.std.proofs.lemmas.List.Elements.{All-head, All-tail}
use Rattle.cj_dml.proofs.Common.{Changed, filter, list_any, Option, overflows, Plan, Plans, Refusal, refuse_if, Result, satisfies, Table, Value}
use Rattle.cj_model.specs.declared.value.Value.TheVariants.{Int, Text}
use Rattle.cj_model.specs.Database.Evaluation.{is_out_of_range, value_of}
use Rattle.cj_expr.proofs.Common.{Predicate, cell}
use Rattle.cj_model.specs.Database.Updates.{Assignment, assigned, with_new_values}
use Rattle.cj_expr.specs.Results.{integer_within}
use Rattle.cj_expr.specs.Shapes.{formula}
use Rattle.cj_rowstore.specs.Stored.{KeepsKeys}
use Rattle.cj_dml.specs.Assignments.{KeepsKey}
use Rattle.cj_dml.specs.Changes.{Makes, as_change}
use Rattle.cj_dml.specs.ColumnEdits.{GetIntegers, SetsInPlace, edited, with_integer}
use Rattle.cj_dml.specs.declared.plan.Change.{Change}
use Rattle.cj_dml.specs.declared.plan.Change.TheVariants.{ByKey, InPlace, Removal}
use Rattle.cj_dml.specs.declared.column_edit.ColumnEdit.{ColumnEdit}
use Rattle.cj_dml.proofs.PlanLaws.{from_some, or-false}

pub makes_refused : (free : Bool) (t : Table) (b : Bool) (r r' : Refusal) (rest : Changed) → b ≡ true → r' ≡ r → Makes free t (refuse_if b r rest) (Err r')
makes_refused free t true r r' rest h e = e
makes_refused free t false r r' rest h e = cc h

pub makes_past : (free : Bool) (t : Table) (b : Bool) (r : Refusal) (rest : Changed) (x : Result Change Refusal) → b ≡ false → Makes free t rest x → Makes free t (refuse_if b r rest) x
makes_past free t true r rest x h p = cc h
makes_past free t false r rest x h p = p

-- a plan by keys is a change
makes_as_change : (free : Bool) (t : Table) (change : Changed) (planned : Result Plan Refusal) → Plans t change planned → Makes free t change (as_change planned)
makes_as_change free t (Ok r) (Ok p) h = h
makes_as_change free t (Ok r) (Err e) h = h
makes_as_change free t (Err e) (Ok p) h = h
makes_as_change free t (Err e) (Err f) h = h

pub plan_makes : (free : Bool) (t : Table) (meant change : Changed) (planned : Result Plan Refusal) (made : Result Change Refusal) → meant ≡ change → made ≡ as_change planned → Plans t change planned → Makes free t meant made
plan_makes free t meant change planned made m k h = subst (λ c. Makes free t c made) (sym m) (subst (Makes free t change) (sym k) (makes_as_change free t change planned h))

integer_is : (v : Value) (z : ℤ) → Some z ≡ integer_within v → (is_out_of_range v ≡ false) × (v ≡ Int z)
integer_is (Int y) z e = let p = from_some (is_out_of_range (Int y)) z y e in (p.0, ap Int (sym p.1))
integer_is (Text t) z e = cc e

pub one_item : {A : Type 0} (xs : List A) (x : A) → 1 ≤ length xs → length xs < 2 → x ≡ get_or xs 0 x → xs ≡ x ∷ []
one_item [] x l m e = absurd (omega (arith, l))
one_item (y ∷ []) x l m e = ap (λ z. z ∷ []) (sym e)
one_item (y ∷ z ∷ zs) x l m e = absurd (omega (arith, m))

module _ (r : ColumnEdit) where
  abbrev own : Assignment
  own = record { place = r.place; value = formula r.value }

  abbrev new : List Value → Value
  new row = value_of row own.value

  abbrev is_set : List Value → Type 0
  is_set row = is_some (integer_within (new row)) ≡ true

  set_one : (row : List Value) (o : Option ℤ) → o ≡ integer_within (new row) → is_some o ≡ true → (with_integer row r.place o ≡ assigned (own ∷ []) row) × (overflows (own ∷ []) row ≡ false)
  set_one row None e h = cc h
  set_one row (Some z) e h = let i = integer_is (new row) z e in (ap (slice_set row r.place) (sym i.1), or-false (is_out_of_range (new row)) ∙ i.0)

  met : (row : List Value) (b : Bool) (rest : List (List Value)) → All is_set (cond b (row ∷ rest) rest)
      → (cond b (with_integer row r.place (integer_within (new row))) row ≡ cond b (assigned (own ∷ []) row) row) × ((b && overflows (own ∷ []) row) ≡ false) × All is_set rest
  met row true rest h = let s = set_one row (integer_within (new row)) refl (All-head is_set row rest h) in (s.0, s.1, All-tail is_set row rest h)
  met row false rest h = (refl, refl, h)

  all_set : (rows : List (List Value)) → All is_set (filter (satisfies r.condition) rows)
      → (map (edited r) rows ≡ map (λ x. cond (satisfies r.condition x) (assigned (own ∷ []) x) x) rows) × (list_any (λ x. satisfies r.condition x && overflows (own ∷ []) x) rows ≡ false)
  all_set [] h = (refl, refl)
  all_set (row ∷ rows) h =
      let m = met row (satisfies r.condition row) (filter (satisfies r.condition) rows) h in
      let s = all_set rows m.2 in
      (ap (λ x. x ∷ map (edited r) rows) m.0 ∙ ap (λ (xs : List (List Value)). cond (satisfies r.condition row) (assigned (own ∷ []) row) row ∷ xs) s.0, ap (λ b. b || list_any (λ x. satisfies r.condition x && overflows (own ∷ []) x) rows) m.1 ∙ s.1)

  module _ (k : ℕ) (keeps : KeepsKey k (own ∷ [])) where
    key_of_one : (row : List Value) (o : Option ℤ) → o ≡ integer_within (new row) → cell (with_integer row r.place o) k ≡ cell row k
    key_of_one row None e = refl
    key_of_one row (Some z) e = ap (λ v. cell (slice_set row r.place v) k) (sym (integer_is (new row) z e).1) ∙ keeps.same row

    key_of_row : (row : List Value) (b : Bool) → cell (cond b (with_integer row r.place (integer_within (new row))) row) k ≡ cell row k
    key_of_row row true = key_of_one row (integer_within (new row)) refl
    key_of_row row false = refl

    keeps_keys : KeepsKeys k (edited r)
    keeps_keys = record { same = λ row. key_of_row row (satisfies r.condition row) }

  pub one_in_place : (t : Table) (n : ℕ) → KeepsKey t.schema.key (own ∷ []) → All is_set (filter (satisfies r.condition) t.rows) → n ≡ count_by (satisfies r.condition) t.rows
      → Makes true t (with_new_values t.rows (own ∷ []) r.condition) (Ok (InPlace r n))
  one_in_place t n keeps h c = let s = all_set t.rows h in makes_past true t _ _ _ _ s.1 (refl, keeps_keys t.schema.key keeps, s.0, c)

-- one INTEGER is set in its place
pub in_place : (free : Bool) (t : Table) (sets : List Assignment) (condition : Option Predicate) (n : ℕ) (c : Change) → free ≡ true → KeepsKey t.schema.key sets → GetIntegers sets (filter (satisfies condition) t.rows)
    → n ≡ count_by (satisfies condition) t.rows → SetsInPlace sets condition n c → Makes free t (with_new_values t.rows sets condition) (Ok c)
in_place free t sets condition n (ByKey p) f k h e s = elim s [ ]
in_place free t sets condition n (Removal u c w) f k h e s = elim s [ ]
in_place free t sets condition n (InPlace r w) f k h e s =
    let k' = subst (λ sets. KeepsKey t.schema.key sets) s.0 k in
    let h' = subst (λ c. GetIntegers (own r ∷ []) (filter (satisfies c) t.rows)) (sym s.1) (subst (λ sets. GetIntegers sets (filter (satisfies condition) t.rows)) s.0 h) in
    let e' = subst (λ c. w ≡ count_by (satisfies c) t.rows) (sym s.1) (s.2 ∙ e) in
    subst (λ free. Makes free t (with_new_values t.rows sets condition) (Ok (InPlace r w))) (sym f)
    (subst (λ sets. Makes true t (with_new_values t.rows sets condition) (Ok (InPlace r w))) (sym s.0)
    (subst (λ c. Makes true t (with_new_values t.rows (own r ∷ []) c) (Ok (InPlace r w))) s.1 (one_in_place r t w k' h' e')))
