-- Tables of the vocabulary as trees: rows put into an empty table, and changes that turn rows into new ones.
use Rattle.std.proofs.Common.{◌≡◌, ℕ, true, false, cond, List, [], ◌∷◌, ◌++◌, refl, ap, sym, ◌∙◌, subst, ⊎_elim, Less, is_eq, arith}
use Rattle.cj_rowstore.proofs.Common.{All-head, at, cases_Bool, changed_slot, cond-false, cond-true, fold, insert_entry, is_at, is_some, PairsRise, merged, ne_eqb, None, Option, ordering_reverse, remove_entry, rows_after, Schema, Slot, Some, tied_itself, unwrap_or, Value, value_cmp, value_exact, value_total, values_of}
use Rattle.cj_model.specs.declared.database.Draft.{Draft}
use Rattle.cj_model.specs.Database.Tables.{IsSlot, Rises, by_key, cell, put_by}
use Rattle.cj_model.specs.Database.Steps.{seen}
use Rattle.cj_model.proofs.RisingLaws.{equal_from}
use Rattle.cj_rowstore.specs.RowEntries.{RowEntries, SettlesRow, TurnsInto, keyed, knows, puts}
use Rattle.cj_rowstore.proofs.EntryLaws.{at_insert, at_kept, at_merged, at_remove, rise_merged, same_entries}
use Rattle.std.specs.Prelude.{All}
use Rattle.std.proofs.lemmas.List.Elements.{All-tail}
use Rattle.cj_rowstore.proofs.RowLaws.{fold_past, merged_puts, rise_each, rise_keyed, values_keyed}

-- ---- rows put into an empty table

each_put : (k : ℕ) (rows : List (List Value)) → Rises (by_key k) rows → fold (put_by (by_key k)) [] rows ≡ rows
each_put k [] h = refl
each_put k (r ∷ rows) h = fold_past k r [] rows h.0 ∙ ap (λ (l : List (List Value)). r ∷ l) (each_put k rows h.1)

pub filled : (k : ℕ) (rows : List (List Value)) → Rises (by_key k) rows → merged value_cmp (keyed k []) (puts k rows) ≡ keyed k rows
filled k rows h = merged_puts k [] rows tt ∙ ap (keyed k) (each_put k rows h)

pub puts_rise : (k : ℕ) (rows : List (List Value)) → PairsRise value_cmp (puts k rows)
puts_rise k rows = rise_each k Some [] rows tt

-- ---- the change at one key

none_from : {X : Type 0} (o : Option X) → is_some o ≡ false → o ≡ None
none_from None h = refl
none_from (Some x) h = cc h

module _ (es : RowEntries) (key : Value) (row : List Value) (u : PairsRise value_cmp es) where
  itself : is_at (value_cmp key) key ≡ true
  itself = ap is_eq (tied_itself value_total key)

  -- a row that goes
  pub settles_gone : knows es key ≡ false → SettlesRow key row es (insert_entry value_cmp es key None)
  settles_gone none = record {
    own = ap (λ o. unwrap_or o (Some row)) (at_insert value_cmp value_total value_exact key es key None ∙ cond-true _ _ _ itself) ∙ sym (ap (λ o. unwrap_or o None) (none_from (at value_cmp key es) none));
    others = λ other n. at_insert value_cmp value_total value_exact other es key None ∙ cond-false _ _ _ n;
  }

  -- a row that stays as it is
  pub settles_same : at value_cmp key es ≡ Some (Some row) → SettlesRow key row es (remove_entry (is_at (value_cmp key)) es)
  settles_same same = record {
    own = ap (λ o. unwrap_or o (Some row)) (at_remove value_cmp value_total value_exact key es key u ∙ cond-true _ _ _ itself) ∙ sym (ap (λ o. unwrap_or o None) same);
    others = λ other n. at_remove value_cmp value_total value_exact other es key u ∙ cond-false _ _ _ n;
  }

  change_shows : (o : Option (Option (List Value))) → is_some o ≡ true → unwrap_or o (Some row) ≡ unwrap_or o None
  change_shows None h = cc h
  change_shows (Some w) h = refl

  -- a row that becomes another
  pub settles_changed : knows es key ≡ true → SettlesRow key row es es
  settles_changed h = record { own = change_shows (at value_cmp key es) h; others = λ other n. refl }

-- ---- one row after another

all_back : {A : Type 0} (P : A → Type 0) (xs ys : List A) → All P (xs ++ ys) → All P ys
all_back P [] ys a = a
all_back P (x ∷ xs) ys a = all_back P xs ys (All-tail P x (xs ++ ys) a)

-- over the rows so far the changes show what the first ones show over nothing
pub record Turned (k : ℕ) (rows : List (List Value)) (first now : RowEntries) : Type 0 where
  pub each : (key : Value) → unwrap_or (at value_cmp key now) (at value_cmp key (keyed k rows)) ≡ unwrap_or (at value_cmp key first) None

module _ (k : ℕ) (r : List Value) where
  -- a row below it has another key
  apart : (d : List Value) (rows rest : List (List Value)) → Rises (by_key k) (d ∷ rows ++ r ∷ rest) → is_at (value_cmp (cell r k)) (cell d k) ≡ false
  apart d rows rest h =
      let below : by_key k d r ≡ Less = All-head (λ s. by_key k d s ≡ Less) r rest (all_back (λ s. by_key k d s ≡ Less) rows (r ∷ rest) h.0) in
      ap is_eq (value_total.antisymm (cell r k) (cell d k) ∙ ap ordering_reverse below)

  none_below : (rows rest : List (List Value)) → Rises (by_key k) (rows ++ r ∷ rest) → at value_cmp (cell r k) (keyed k rows) ≡ None
  none_below [] rest h = refl
  none_below (d ∷ rows) rest h = cond-false _ _ _ (apart d rows rest h) ∙ none_below rows rest h.1

  at_last : (rows rest : List (List Value)) → Rises (by_key k) (rows ++ r ∷ rest) → at value_cmp (cell r k) (keyed k (rows ++ r ∷ [])) ≡ Some r
  at_last [] rest h = cond-true _ _ _ (ap is_eq (tied_itself value_total (cell r k)))
  at_last (d ∷ rows) rest h = cond-false _ _ _ (apart d rows rest h) ∙ at_last rows rest h.1

  at_before : (key : Value) → is_at (value_cmp key) (cell r k) ≡ false → (rows : List (List Value)) → at value_cmp key (keyed k (rows ++ r ∷ [])) ≡ at value_cmp key (keyed k rows)
  at_before key n [] = cond-false _ _ _ n
  at_before key n (d ∷ rows) = ap (λ o. cond (is_at (value_cmp key) (cell d k)) (Some d) o) (at_before key n rows)

  module _ (rows rest : List (List Value)) (h : Rises (by_key k) (rows ++ r ∷ rest)) (first now new : RowEntries) (t : Turned k rows first now) (s : SettlesRow (cell r k) r now new) where
    at_key : unwrap_or (at value_cmp (cell r k) new) (at value_cmp (cell r k) (keyed k (rows ++ r ∷ []))) ≡ unwrap_or (at value_cmp (cell r k) first) None
    at_key =
        ap (unwrap_or (at value_cmp (cell r k) new)) (at_last rows rest h) ∙ s.own
        ∙ sym (ap (unwrap_or (at value_cmp (cell r k) now)) (none_below rows rest h)) ∙ t.each (cell r k)

    pub turned_more : Turned k (rows ++ r ∷ []) first new
    turned_more = record {
      each = λ key. ⊎_elim
          (λ (y : is_at (value_cmp key) (cell r k) ≡ true).
          subst (λ (v : Value). unwrap_or (at value_cmp v new) (at value_cmp v (keyed k (rows ++ r ∷ []))) ≡ unwrap_or (at value_cmp v first) None)
          (sym (value_exact key (cell r k) (equal_from _ y))) at_key)
          (λ (n : is_at (value_cmp key) (cell r k) ≡ false).
          ap (unwrap_or (at value_cmp key new)) (at_before key n rows)
          ∙ ap (λ o. unwrap_or o (at value_cmp key (keyed k rows))) (s.others key n) ∙ t.each key)
          (cases_Bool (is_at (value_cmp key) (cell r k)));
    }

-- all rows
pub turned_all : (k : ℕ) (old new : List (List Value)) (changes : RowEntries) → Rises (by_key k) old → Rises (by_key k) new → PairsRise value_cmp changes → Turned k old (puts k new) changes → TurnsInto k old new changes
turned_all k old new changes o n u t = record {
  rises = u;
  rows = same_entries value_cmp value_total value_exact _ _ (rise_merged value_cmp value_total value_exact (keyed k old) changes (rise_keyed k old o) u) (rise_keyed k new n)
      (λ key. at_merged value_cmp value_total value_exact key (keyed k old) changes (rise_keyed k old o) u ∙ t.each key
      ∙ sym (at_kept value_cmp value_total value_exact key (puts k new) (puts_rise k new)) ∙ ap (at value_cmp key) (filled k new n));
}

-- ---- slots

-- rows put into an empty table
pub table_filled : (schema : Schema) (rows : List (List Value)) → Rises (by_key schema.key) rows
    → changed_slot (record { base = record { schema = schema; rows = [] }; draft = None }) 0 (puts schema.key rows) ≡ record { base = record { schema = schema; rows = rows }; draft = None }
table_filled schema rows h =
    ap (λ (l : List (List Value)). record { base = record { schema = schema; rows = l }; draft = None })
    (ap values_of (filled schema.key rows h) ∙ values_keyed schema.key rows)

module _ (s : Slot) (d : Draft) (none : s.draft ≡ None) (is : IsSlot (record { base = s.base; draft = Some d })) where
  -- changes that turn the base's rows into the draft's
  pub draft_put : (changes : RowEntries) → TurnsInto s.base.schema.key (seen s d.tx).rows d.table.rows changes → changed_slot s d.tx changes ≡ record { base = s.base; draft = Some d }
  draft_put changes t =
      let rows : rows_after s.base.schema.key (seen s d.tx).rows changes ≡ d.table.rows = ap values_of t.rows ∙ values_keyed s.base.schema.key d.table.rows in
      cond-false _ _ _ (ne_eqb d.tx 0 (λ z. absurd (omega (arith, is.draft.0, z))))
      ∙ (λ i. record { base = s.base; draft = Some (record { tx = d.tx; table = record { schema = sym is.draft.2 i; rows = rows i } }) })
