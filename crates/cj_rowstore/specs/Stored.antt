-- What a stored table keeps, and the slot that it shows.
use Rattle.std.specs.Prelude.{◌≡◌, ℕ, ◌<◌, List, ⊤, length}
use Rattle.std.specs.declared.option.Option.{Option}
use Rattle.std.specs.declared.option.Option.TheVariants.{None, Some}
use Rattle.std.specs.Map.{values_of}
use Rattle.cj_model.specs.declared.value.Value.{Value}
use Rattle.cj_model.specs.declared.schema.Schema.{Schema}
use Rattle.cj_model.specs.declared.database.Draft.{Draft}
use Rattle.cj_model.specs.declared.database.Slot.{Slot}
use Rattle.cj_model.specs.Database.Values.{value_cmp}
use Rattle.cj_model.specs.Database.Steps.{seen, with_table}
use Rattle.cj_model.specs.Database.Tables.{cell}
use Rattle.cj_ptree.specs.Pairs.{PairsRise}
use Rattle.cj_rowstore.specs.declared.stored.StoredDraft.{StoredDraft}
use Rattle.cj_rowstore.specs.Layers.{merged}
use Rattle.cj_rowstore.specs.RowEntries.{KeyedRows, RowEntries, keyed}

-- ---- what is shown

-- the draft of a stored table as the vocabulary has it
abbrev pub shown_draft : Schema → Option StoredDraft → Option Draft
shown_draft schema None = None
shown_draft schema (Some d) = Some (record { tx = d.tx; table = record { schema = schema; rows = values_of d.version } })

-- a stored table as a slot of the vocabulary
abbrev pub slot_shown : Schema → KeyedRows → Option StoredDraft → Slot
slot_shown schema base draft = record { base = record { schema = schema; rows = values_of base }; draft = shown_draft schema draft }

-- ---- what is kept

-- each row is at its own key
abbrev pub AreOwn : ℕ → KeyedRows → Type 0
AreOwn k entries = entries ≡ keyed k (values_of entries)

-- the draft's transaction is above 0, and its rows are at their own keys
abbrev pub DraftHolds : ℕ → Option StoredDraft → Type 0
DraftHolds k None = ⊤
DraftHolds k (Some d) = (0 < d.tx) × AreOwn k d.version

-- the rows of the base, and of the draft if there is one, are at their own keys
pub record HoldsTable (k : ℕ) (base : KeyedRows) (d : Option StoredDraft) : Type 0 where
  pub own_base : AreOwn k base
  pub own_draft : DraftHolds k d

-- ---- changes

-- each entry has its row's own key, and `n` is the number of entries
pub record AreRows (k : ℕ) (entries : KeyedRows) (n : ℕ) : Type 0 where
  pub own_keys : AreOwn k entries
  pub count : n ≡ length (values_of entries)

-- the rows that the changes leave of these rows
abbrev pub rows_after : ℕ → List (List Value) → RowEntries → List (List Value)
rows_after k rows changes = values_of (merged value_cmp (keyed k rows) changes)

-- the slot after changes of the rows that the transaction sees
abbrev pub changed_slot : Slot → ℕ → RowEntries → Slot
changed_slot s tx changes = with_table s tx (record { schema = s.base.schema; rows = rows_after s.base.schema.key (seen s tx).rows changes })

-- the changes are in rising key, and leave so many rows, each at its own key
pub record IsChangeOf (k : ℕ) (old : List (List Value)) (changes : RowEntries) (n : ℕ) : Type 0 where
  pub rises : PairsRise value_cmp changes
  pub rows : AreRows k (merged value_cmp (keyed k old) changes) n

-- the function leaves the key of each row as it is
pub record KeepsKeys (k : ℕ) (f : List Value → List Value) : Type 0 where
  pub same : (row : List Value) → cell (f row) k ≡ cell row k
