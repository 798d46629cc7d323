-- A write of one slot of a database is the write of the database.
use Rattle.std.proofs.Common.{◌≡◌, ℕ, ◌<◌, ◌≤◌, Bool, true, false, cond, nat_lt, List, length, get_or, set, refl, ap, sym, ◌∙◌, subst, Equal}
use Rattle.std.specs.Prelude.{find, position}
use Rattle.std.specs.List.{position_or_len, slice_get}
use Rattle.std.proofs.lemmas.Bool.{ltb-false}
use Rattle.std.proofs.lemmas.Cmp.{tied_itself, nat_list_cmp_total}
use Rattle.std.proofs.lemmas.List.{set-get_or}
use Rattle.std.proofs.lemmas.List.Folds.{find_at}
use Rattle.std.proofs.lemmas.List.Quantifiers.{position-Some}
use Rattle.std.proofs.lemmas.Option.{cond_some, slice_get-get_or, slice_get_past}
use Rattle.cj_table.proofs.Common.{by_table, bytes_eq, Err, IsDatabase, name_cmp, NoMemory, None, Ok, Option, Outcome, put_by, Result, Slot, slot_of, Some, table_of}
use Rattle.cj_model.specs.declared.database.Table.{Table}
use Rattle.cj_model.specs.declared.write.Write.{Write}
use Rattle.cj_model.specs.declared.codes.TheConstants.{NO_TABLE}
use Rattle.cj_model.proofs.Common.{Changed, change, refusal_of_code}
use Rattle.cj_model.specs.Database.Steps.{refuse, seen, other_writer, with_table, table_written, write_done, write_unless_locked, write_in, written}
use Rattle.cj_model.proofs.RisingLaws.{put_equal}
use Rattle.cj_model.proofs.DatabaseLaws.{by_table_total, with_table-name}
use Rattle.cj_table.specs.Carried.{Carries, CarriesSlot, change_unless_locked, change_of}

-- what has no place isn't found
find_none : {A : Type 0} (p : A → Bool) (xs : List A) → position p xs ≡ None → find p xs ≡ None
find_none {A} p xs e = find_at p xs ∙ slice_get_past xs (position_or_len p xs) (past (nat_lt (position_or_len p xs) (length xs)) refl e) where
  past : (b : Bool) → nat_lt (position_or_len p xs) (length xs) ≡ b → cond b (Some (position_or_len p xs)) None ≡ None → length xs ≤ position_or_len p xs
  past true t h = cc h
  past false f h = ltb-false (position_or_len p xs) (length xs) f

-- what stands at the first place is found
find_some : {A : Type 0} (p : A → Bool) (xs : List A) (i : ℕ) (d : A) → position p xs ≡ Some i → find p xs ≡ Some (get_or xs i d)
find_some p xs i d e =
    let parts = cond_some (nat_lt (position_or_len p xs) (length xs)) (position_or_len p xs) i e in
    find_at p xs ∙ ap (slice_get xs) parts.1 ∙ slice_get-get_or xs i d (position-Some p xs i d e).0

-- a write of no table
pub written_missing : (db : List Slot) (tx : ℕ) (w : Write) → position (λ s. bytes_eq (table_of s) (table_written w)) db ≡ None → written db tx w ≡ refuse db (refusal_of_code NO_TABLE)
written_missing db tx w e = ap (write_in db tx w) (find_none (λ s. bytes_eq (table_of s) (table_written w)) db e)

module _ (db : List Slot) (is : IsDatabase db) (i : ℕ) (s : Slot) (within : i < length db) (here : s ≡ get_or db i s) where
  -- the slot as it was
  stays : (new : Slot) → new ≡ s → set db i new ≡ db
  stays new e = ap (set db i) (e ∙ here) ∙ set-get_or db i s

  -- the slot with another table of its schema
  changes : (tx : ℕ) (t : Table) (new : Slot) → t.schema ≡ s.base.schema → new ≡ with_table s tx t → set db i new ≡ put_by by_table db (with_table s tx t)
  changes tx t new same e =
      let equal : by_table (with_table s tx t) (get_or db i s) ≡ Equal =
      ap (by_table (with_table s tx t)) (sym here) ∙ ap (λ n. name_cmp n (table_of s)) (with_table-name s tx t same) ∙ tied_itself nat_list_cmp_total (table_of s) in
      ap (set db i) e ∙ sym (put_equal by_table by_table_total db i (with_table s tx t) s is.rises within equal)

  done_carries : (tx : ℕ) (c : Changed) (r : Result Outcome NoMemory) (new : Slot) → CarriesSlot s tx c r new → Carries db (write_done db s tx c) r (set db i new)
  done_carries tx (Ok p) (Ok o) new h = (h.0, changes tx (record { schema = s.base.schema; rows = p.0 }) new refl h.1)
  done_carries tx (Err refusal) (Ok o) new h = (h.0, stays new h.1)
  done_carries tx (Ok p) (Err e) new h = stays new h
  done_carries tx (Err refusal) (Err e) new h = stays new h

  unless_carries : (tx : ℕ) (w : Write) (other : Option ℕ) (r : Result Outcome NoMemory) (new : Slot) → CarriesSlot s tx (change_unless_locked s tx w other) r new → Carries db (write_unless_locked db s tx w other) r (set db i new)
  unless_carries tx w None r new h = done_carries tx (change (seen s tx) w) r new h
  unless_carries tx w (Some other) (Ok o) new h = (h.0, stays new h.1)
  unless_carries tx w (Some other) (Err e) new h = stays new h

-- a write of the slot at the table's place
pub write_carries : (db : List Slot) (tx : ℕ) (w : Write) (i : ℕ) (s : Slot) (r : Result Outcome NoMemory) (new : Slot) → IsDatabase db → position (λ s. bytes_eq (table_of s) (table_written w)) db ≡ Some i → s ≡ get_or db i s → CarriesSlot s tx (change_of s tx w) r new → Carries db (written db tx w) r (set db i new)
write_carries db tx w i s r new is place here h =
    let found : slot_of db (table_written w) ≡ Some s = find_some (λ s. bytes_eq (table_of s) (table_written w)) db i s place ∙ ap Some (sym here) in
    subst (λ (o : Option Slot). Carries db (write_in db tx w o) r (set db i new)) (sym found)
    (unless_carries db is i s (position-Some (λ s. bytes_eq (table_of s) (table_written w)) db i s place).0 here tx w (other_writer tx s.draft) r new h)
