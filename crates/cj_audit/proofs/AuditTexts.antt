-- The lines of an audit are texts.
use Rattle.std.proofs.Common.{◌<◌, ◌^◌, ℕ, List, [], ◌∷◌, ◌++◌, Option, Some, None, refl, codes, length, rules}
use Rattle.std.specs.Prelude.{All, IfSome}
use Rattle.std.specs.Fmt.{decimal}
use Rattle.std.specs.List.{flat_map}
use Rattle.std.proofs.lemmas.List.Concat.{flat_map-cons}
use Rattle.std.proofs.lemmas.List.Elements.{All-head, All-tail}
use Rattle.cj_model.specs.declared.value.Value.{Value}
use Rattle.cj_model.specs.declared.value.Value.TheVariants as value
use Rattle.cj_model.specs.declared.database.Table.{Table}
use Rattle.cj_model.specs.declared.database.Draft.{Draft}
use Rattle.cj_model.specs.declared.database.Slot.{Slot}
use Rattle.cj_model.specs.Sql.Literals.{literal}
use Rattle.cj_model.specs.Sql.Names.{IsText}
pub use Rattle.cj_print.proofs.Texts.{empty_text}
use Rattle.cj_print.proofs.Texts.{ascii_text, count_text, joined_text, name_text, number_text, quoted_text}
use Rattle.cj_cluster.specs.Script.Lines.{with_line_feed}
use Rattle.cj_audit.specs.Audits.{AuditsAreTexts, IsTypedSlot, IsTypedTable, IsTypedValue, draft_lines, draft_state, row_lines, table_row_text, slot_lines, table_head, table_lines}

-- the texts of items one after another are a text
concatenated_text : {A : Type 0} (P : A → Type 0) (f : A → List ℕ) → ((x : A) → P x → IsText (f x)) → (xs : List A) → All P xs → IsText (flat_map f xs)
concatenated_text P f each [] all = empty_text
concatenated_text P f each (x ∷ xs) all =
    rw (flat_map-cons f x xs) (joined_text (f x) (flat_map f xs) (each x (All-head P x xs all)) (concatenated_text P f each xs (All-tail P x xs all)))

literal_text : (v : Value) → IsTypedValue v → IsText (literal v)
literal_text (value.Int n) h = number_text n (search (rules, h))
literal_text (value.Text t) h = quoted_text t h

behind_comma : (v : Value) → IsTypedValue v → IsText (codes ", " ++ literal v)
behind_comma v h = joined_text (codes ", ") (literal v) (ascii_text (codes ", ") refl) (literal_text v h)

line_text : (line : List ℕ) → IsText line → IsText (with_line_feed line)
line_text line h = joined_text line (10 ∷ []) h (ascii_text (10 ∷ []) refl)

behind_space : (z : List ℕ) → IsText z → IsText (32 ∷ z)
behind_space z h = joined_text (32 ∷ []) z (ascii_text (32 ∷ []) refl) h

row_is_text : (row : List Value) → All IsTypedValue row → IsText (table_row_text row)
row_is_text [] all = empty_text
row_is_text (v ∷ vs) all =
    joined_text (literal v) _ (literal_text v (All-head IsTypedValue v vs all))
    (concatenated_text IsTypedValue (λ (x : Value). codes ", " ++ literal x) behind_comma vs (All-tail IsTypedValue v vs all))

-- what transaction tx's draft is called is a text
pub state_text : (tx : ℕ) → tx < 2 ^ 64 → IsText (draft_state tx)
state_text tx h = joined_text (codes "draft ") (decimal tx) (ascii_text (codes "draft ") refl) (count_text tx h)

head_text : (name state : List ℕ) (t : Table) → IsText name → IsText state → IsTypedTable t → IsText (table_head name state t)
head_text name state t n s h =
    joined_text name _ n
    (behind_space _ (joined_text t.schema.table _ (name_text t.schema.table h.name)
    (behind_space _ (joined_text state _ s (behind_space _ (count_text (length t.rows) h.count))))))

table_text : (name state : List ℕ) (t : Table) → IsText name → IsText state → IsTypedTable t → IsText (table_lines name state t)
table_text name state t n s h =
    joined_text (with_line_feed (table_head name state t)) (row_lines t.rows)
    (line_text (table_head name state t) (head_text name state t n s h))
    (concatenated_text (λ row. All IsTypedValue row) (λ row. with_line_feed (table_row_text row)) (λ row all. line_text (table_row_text row) (row_is_text row all)) t.rows h.values)

draft_text : (name : List ℕ) (draft : Option Draft) → IsText name → IfSome draft (λ (d : Draft). (d.tx < 2 ^ 64) × IsTypedTable d.table) → IsText (draft_lines name draft)
draft_text name None n h = empty_text
draft_text name (Some d) n h = table_text name (draft_state d.tx) d.table n (state_text d.tx h.0) h.1

slot_text : (name : List ℕ) (s : Slot) → IsText name → IsTypedSlot s → IsText (slot_lines name s)
slot_text name s n h =
    joined_text (table_lines name (codes "base") s.base) (draft_lines name s.draft)
    (table_text name (codes "base") s.base n (ascii_text (codes "base") refl) h.base) (draft_text name s.draft n h.draft)

pub audits_are_texts : AuditsAreTexts
audits_are_texts name database n all = concatenated_text IsTypedSlot (slot_lines name) (λ s. slot_text name s (name_text name n)) database all
