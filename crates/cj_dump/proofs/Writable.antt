-- A database that can be dumped can be written.
use Rattle.std.proofs.Common.{ℕ, ◌≤◌, List, [], ◌∷◌, length, arith, get_or}
use Rattle.std.proofs.lemmas.Bool.{and_parts, leb-true}
use Rattle.cj_dump.proofs.Common.{All, All-weaker, Draft, IfSome, IsConstant, None, Option, Slot, Some, Value}
use Rattle.cj_model.specs.declared.value.Value.TheVariants.{Int, Text}
use Rattle.cj_model.specs.Database.Storable.{IsStorable, IsStorableSlot, IsStorableTable}
use Rattle.cj_model.specs.Database.Tables.{IsSlot}
use Rattle.cj_model.specs.Sql.Names.{is_name, IsNameOrEmpty}
use Rattle.cj_codec.specs.Writings.{HasShortText}
use Rattle.cj_dump.specs.Writable.{IsWritableDraft, IsWritableSlot}

pub name_short : (bytes : List ℕ) → IsNameOrEmpty bytes → length bytes ≤ 32
unfolding is_name
name_short [] h = omega arith
name_short (b ∷ z) h = leb-true _ _ (and_parts _ _ h).0

constant_short : (v : Value) → IsConstant v → HasShortText v
constant_short (Int n) is = tt
constant_short (Text t) is = omega (arith, is.1)

rows_short : (rows : List (List Value)) → All (λ row. All IsConstant row) rows → All (All HasShortText) rows
rows_short rows = All-weaker (λ row. All IsConstant row) (All HasShortText) (λ row. All-weaker IsConstant HasShortText constant_short row) rows

draft_short : (o : Option Draft) → IfSome o (λ (d : Draft). IsStorableTable d.table) → IsWritableDraft o
draft_short None h = tt
draft_short (Some d) h = rows_short d.table.rows h.values

slot_writable : (s : Slot) → IsSlot s → IsStorableSlot s → IsWritableSlot s
slot_writable s is storable = record { columns = is.base.few; rows = rows_short s.base.rows storable.base.values; draft = draft_short s.draft storable.draft }

pub storable_writable : (db : List Slot) → IsStorable db → All IsWritableSlot db
storable_writable db is = λ k d lt. slot_writable (get_or db k d) (is.database.slots k d lt) (is.slots k d lt)
