-- What a stored table keeps and shows after all its rows are edited or tested.
use Rattle.std.proofs.Common.{◌≡◌, Bool, List, length, map, ap, sym, ◌∙◌, subst}
use Rattle.std.proofs.lemmas.List.{length-map}
use Rattle.cj_rowstore.proofs.Common.{KeyedRows, None, Option, Schema, Slot, Value, cell, filter, keyed, values_of}
use Rattle.cj_rowstore.specs.declared.stored.StoredDraft.{StoredDraft}
use Rattle.cj_rowstore.specs.Stored.{HoldsTable, KeepsKeys, shown_draft, slot_shown}
use Rattle.cj_rowstore.proofs.RowLaws.{edited_keyed, passing_keyed, values_keyed}

module _ (schema : Schema) (base new : KeyedRows) (o : Option StoredDraft) (rows : List (List Value)) where
  -- the base has other rows, at their own keys
  pub holds_again : new ≡ keyed schema.key rows → HoldsTable schema.key base o → HoldsTable schema.key new o
  holds_again e h = record { own_base = e ∙ ap (keyed schema.key) (sym (ap values_of e ∙ values_keyed schema.key rows)); own_draft = h.own_draft }

  pub shown_again : shown_draft schema o ≡ None → new ≡ keyed schema.key rows → slot_shown schema new o ≡ record { base = record { schema = schema; rows = rows }; draft = None }
  shown_again free e = λ i. record { base = record { schema = schema; rows = (ap values_of e ∙ values_keyed schema.key rows) i }; draft = free i }

-- rows edited
pub edited_own : (schema : Schema) (base new : KeyedRows) (f : List Value → List Value) (o : Option StoredDraft) (s : Slot) → slot_shown schema base o ≡ s → KeepsKeys s.base.schema.key f → HoldsTable schema.key base o
    → new ≡ map (λ e. (e.0, f e.1)) base → new ≡ keyed schema.key (map f (values_of base))
edited_own schema base new f o s v keeps h e =
    e ∙ ap (map (λ e. (e.0, f e.1))) h.own_base
    ∙ edited_keyed schema.key f (subst (λ (t : Slot). KeepsKeys t.base.schema.key f) (sym v) keeps) (values_of base)

-- rows that pass
module _ (schema : Schema) (base : KeyedRows) (p : List Value → Bool) (o : Option StoredDraft) (h : HoldsTable schema.key base o) where
  passing_is : filter (λ e. p e.1) base ≡ keyed schema.key (filter p (values_of base))
  passing_is = ap (filter (λ e. p e.1)) h.own_base ∙ passing_keyed schema.key p (values_of base)

  pub passing_own : (new : KeyedRows) → new ≡ filter (λ e. p e.1) base → new ≡ keyed schema.key (filter p (values_of base))
  passing_own new e = e ∙ passing_is

  pub passing_counted : length (filter p (values_of base)) ≡ length (filter (λ e. p e.1) base)
  passing_counted = sym (ap length passing_is ∙ length-map (filter p (values_of base)) (λ r. (cell r schema.key, r)))
