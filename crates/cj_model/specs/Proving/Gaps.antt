-- Where an item is put into a rising list.
use Rattle.std.specs.Prelude.{◌≡◌, ℕ, ◌<◌, ◌≤◌, List, length, insert, slice_set}
use Rattle.std.specs.declared.option.Option.{Option}
use Rattle.std.specs.declared.option.Option.TheVariants.{None, Some}
use Rattle.std.specs.declared.result.Result.{Result}
use Rattle.std.specs.declared.result.Result.TheVariants.{Ok, Err}
use Rattle.std.specs.declared.cmp.Ordering.{Ordering}
use Rattle.cj_model.specs.Database.Tables.{put_by}

-- the index before which x is inserted; none if the list has x already
abbrev pub IsGap : {A : Type 0} → (A → A → Ordering) → List A → A → Option ℕ → Type 0
IsGap order xs x None = put_by order xs x ≡ xs
IsGap order xs x (Some i) = (i ≤ length xs) × (put_by order xs x ≡ insert xs i x)

-- where x is put: in place of the item at an index, which is equal to it, or before the item at an index
abbrev pub IsPlace : {A : Type 0} → (A → A → Ordering) → List A → A → Result ℕ ℕ → Type 0
IsPlace order xs x (Ok i) = (i < length xs) × (put_by order xs x ≡ slice_set xs i x)
IsPlace order xs x (Err i) = (i ≤ length xs) × (put_by order xs x ≡ insert xs i x)
