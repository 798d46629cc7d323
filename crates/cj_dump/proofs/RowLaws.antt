-- Rows that fit their layout: constants of the columns' kinds, in rising key.
use Rattle.std.proofs.Common.{◌≡◌, ℕ, ◌+◌, ◌^◌, ◌≤◌, ◌<◌, zero, suc, pos, Bool, true, false, ◌||◌, ◌==◌, not, List, [], ◌∷◌, ◌++◌, length, refl, sym, ap, ◌∙◌, arith, length-append, append_assoc}
use Rattle.std.specs.Option.{option_map_or, option_and_then}
use Rattle.std.proofs.lemmas.Bool.{and_parts, and_from, leb-true, le-leb, eq-eqb, eqb-true}
use Rattle.std.proofs.lemmas.Option.{slice_get-get_or}
use Rattle.cj_dump.proofs.Common.{All, All-cons, All-head, All-nil, All-tail, Column, IsConstant, None, Option, Schema, Some, Value, fields_hold, is_lt, listed_fits, slice_get}
use Rattle.cj_model.specs.declared.limits.TheConstants.{ROW_LIMIT}
use Rattle.cj_model.specs.declared.value.Value.TheVariants.{Int}
use Rattle.cj_model.specs.Database.Tables.{Rises, by_key, cell, fits_columns, same_kind}
use Rattle.cj_model.specs.Database.Values.{kind_of, value_cmp}
use Rattle.cj_model.proofs.TableLaws.{by_key_total}
use Rattle.cj_dump.specs.DumpLayout.{last_of, is_of_column, last_key, key_rises, row_value, row, rows}
use Rattle.cj_dump.proofs.Rising.{above, all_rise, each_rises, split, merge, last_holds}

-- ---- a row

there : {A : Type 0} (seen : List A) (c : A) (rest : List A) → slice_get (seen ++ c ∷ rest) (length seen) ≡ Some c
there [] c rest = refl
there (s ∷ seen) c rest = there seen c rest

column_there : (cs seen rest : List Column) (c : Column) (n : ℕ) → cs ≡ seen ++ c ∷ rest → n ≡ length seen → slice_get cs n ≡ Some c
column_there cs seen rest c n e f = ap (λ (l : List Column). slice_get l n) e ∙ ap (slice_get (seen ++ c ∷ rest)) f ∙ there seen c rest

-- the value at the key's place, if it is among these, stands above the key before
abbrev KeyRises : ℕ → Option Value → ℕ → List Value → Type 0
KeyRises key last n vs = (i : ℕ) → n + i ≡ key → i < length vs → key_rises last (cell vs i) ≡ true

implied : (b x : Bool) → b ≡ true → (not b || x) ≡ true → x ≡ true
implied true x e h = h
implied false x e h = absurd cc

implies : (b c x : Bool) → b ≡ c → (c ≡ true → x ≡ true) → (not b || x) ≡ true
implies true true x e h = h refl
implies true false x e h = absurd cc
implies false c x e h = refl

values_to : (s : Schema) (last : Option Value) (seen rest : List Column) (before vs : List Value) → s.columns ≡ seen ++ rest → length before ≡ length seen → length vs ≡ length rest → listed_fits (row_value s last) before vs
    → (fits_columns rest vs ≡ true) × All IsConstant vs × KeyRises s.key last (length before) vs
values_to s last seen [] before [] e f len fits = (refl, All-nil IsConstant, λ i at lt. absurd (omega (arith, lt)))
values_to s last seen [] before (v ∷ vs) e f len fits = absurd (omega (arith, len))
values_to s last seen (c ∷ rest) before [] e f len fits = absurd (omega (arith, len))
values_to s last seen (c ∷ rest) before (v ∷ vs) e f len fits =
    let is : same_kind c.kind (kind_of v) ≡ true = sym (ap (λ (o : Option Column). option_map_or (λ (d : Column). same_kind d.kind (kind_of v)) o false) (column_there s.columns seen rest c (length before) e f)) ∙ fits.0.0.1 in
    let more = values_to s last (seen ++ c ∷ []) rest (before ++ v ∷ []) vs (e ∙ sym (append_assoc seen (c ∷ []) rest)) (omega (arith, f, length-append before (v ∷ []), length-append seen (c ∷ []))) (omega (arith, len)) fits.1 in
    (and_from (same_kind c.kind (kind_of v)) (fits_columns rest vs) is more.0, All-cons IsConstant v vs ((fields_hold.of_value v).0 fits.0.0.0) more.1, keyed more.2)
  where
    keyed : KeyRises s.key last (length (before ++ v ∷ [])) vs → KeyRises s.key last (length before) (v ∷ vs)
    keyed later zero at lt = implied (length before == s.key) (key_rises last v) (eq-eqb (length before) s.key (omega (arith, at))) fits.0.1
    keyed later (suc i) at lt = later i (omega (arith, at, length-append before (v ∷ []))) (omega (arith, lt))

values_from : (s : Schema) (last : Option Value) (seen rest : List Column) (before vs : List Value) → s.columns ≡ seen ++ rest → length before ≡ length seen → fits_columns rest vs ≡ true → All IsConstant vs → KeyRises s.key last (length before) vs
    → listed_fits (row_value s last) before vs
values_from s last seen [] before [] e f kinds all rises = tt
values_from s last seen [] before (v ∷ vs) e f kinds all rises = absurd cc
values_from s last seen (c ∷ rest) before [] e f kinds all rises = tt
values_from s last seen (c ∷ rest) before (v ∷ vs) e f kinds all rises =
    let two = and_parts (same_kind c.kind (kind_of v)) (fits_columns rest vs) kinds in
    let is : is_of_column s.columns (length before) v ≡ true = ap (λ (o : Option Column). option_map_or (λ (d : Column). same_kind d.kind (kind_of v)) o false) (column_there s.columns seen rest c (length before) e f) ∙ two.0 in
    let here : (not (length before == s.key) || key_rises last v) ≡ true = implies (length before == s.key) (length before == s.key) (key_rises last v) refl (λ same. rises 0 (omega (arith, eqb-true (length before) s.key same)) (omega arith)) in (
      ((((fields_hold.of_value v).1 (All-head IsConstant v vs all)), is), here),
      values_from s last (seen ++ c ∷ []) rest (before ++ v ∷ []) vs (e ∙ sym (append_assoc seen (c ∷ []) rest)) (omega (arith, f, length-append before (v ∷ []), length-append seen (c ∷ []))) two.1 (All-tail IsConstant v vs all)
          (λ i at lt. rises (suc i) (omega (arith, at, length-append before (v ∷ []))) (omega (arith, lt))),
    )

fits_length : (cs : List Column) (vs : List Value) → fits_columns cs vs ≡ true → length vs ≡ length cs
fits_length [] [] e = refl
fits_length [] (v ∷ vs) e = absurd cc
fits_length (c ∷ cs) [] e = absurd cc
fits_length (c ∷ cs) (v ∷ vs) e = ap suc (fits_length cs vs (and_parts (same_kind c.kind (kind_of v)) (fits_columns cs vs) e).1)

-- ---- rows

-- a row of the columns that can be written
abbrev IsRow : Schema → List Value → Type 0
IsRow s r = (fits_columns s.columns r ≡ true) × All IsConstant r

key_same : (s : Schema) → s.key < length s.columns → (before : List (List Value)) (v : Value) (o : Option (List Value)) → last_of before ≡ o → All (IsRow s) before
    → key_rises (option_and_then (λ l. slice_get l s.key) o) v ≡ option_map_or (λ l. is_lt (value_cmp (cell l s.key) v)) o true
key_same s key before v None e seen = refl
key_same s key before v (Some l) e seen =
    let len : length l ≡ length s.columns = fits_length s.columns l (last_holds (IsRow s) before l seen e).0 in
    ap (λ (o : Option Value). key_rises o v) (slice_get-get_or l s.key (Int (pos 0)) (omega (arith, len, key)))

row_to : (s : Schema) → s.key < length s.columns → (before : List (List Value)) (r : List Value) → All (IsRow s) before → (row s before).fits r → IsRow s r × (above (by_key s.key) (last_of before) r ≡ true)
row_to s key before r seen fits =
    let t = values_to s (last_key s.key before) [] s.columns [] r refl refl fits.0 fits.1 in
    ((t.0, t.1), sym (key_same s key before (cell r s.key) (last_of before) refl seen) ∙ t.2 s.key (omega arith) (omega (arith, fits.0, key)))

row_from : (s : Schema) → s.key < length s.columns → (before : List (List Value)) (r : List Value) → All (IsRow s) before → IsRow s r → above (by_key s.key) (last_of before) r ≡ true → (row s before).fits r
row_from s key before r seen is rises =
    let top : key_rises (last_key s.key before) (cell r s.key) ≡ true = key_same s key before (cell r s.key) (last_of before) refl seen ∙ rises in (
      fits_length s.columns r is.0,
      values_from s (last_key s.key before) [] s.columns [] r refl refl is.0 is.1 (λ i at lt. ap (λ (k : ℕ). key_rises (last_key s.key before) (cell r k)) (omega (arith, at)) ∙ top),
    )

-- what holds of rows that a dump has
pub record AreRows (s : Schema) (rs : List (List Value)) : Type 0 where
  pub each : All (IsRow s) rs
  pub rises : Rises (by_key s.key) rs
  pub room : length rs ≤ ROW_LIMIT

pub rows_to : (s : Schema) → s.key < length s.columns → (rs : List (List Value)) → (rows s).fits rs → AreRows s rs
rows_to s key rs fits =
    let t = split (row s) (IsRow s) (by_key s.key) (row_to s key) [] rs (All-nil (IsRow s)) fits.1.1 in
    record { each = t.0; rises = all_rise (by_key s.key) (by_key_total s.key) rs t.1; room = leb-true (length rs) ROW_LIMIT fits.0.0.1 }

pub rows_from : (s : Schema) → s.key < length s.columns → (rs : List (List Value)) → AreRows s rs → (rows s).fits rs
rows_from s key rs are =
    let small : length rs < 2 ^ 64 = omega (arith, are.room) in
    (((small, le-leb (length rs) ROW_LIMIT are.room), refl), (refl, merge (row s) (IsRow s) (by_key s.key) (row_from s key) [] rs (All-nil (IsRow s)) are.each (each_rises (by_key s.key) rs are.rises)))
