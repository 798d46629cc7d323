-- What changes and queries of a database come to.
use Rattle.std.proofs.Common.{◌≡◌, ℕ, List, sym, subst, arith}
use Rattle.std.specs.Prelude.{IfErr}
use Rattle.std.specs.declared.option.Option.{Option}
use Rattle.std.specs.declared.option.Option.TheVariants.{None, Some}
use Rattle.std.specs.declared.result.Result.TheVariants.{Ok, Err}
use Rattle.cj_model.specs.declared.database.Slot.{Slot}
use Rattle.cj_model.specs.declared.write.Write.{Write}
use Rattle.cj_model.specs.declared.select.Select.{Select}
use Rattle.cj_model.specs.declared.answer.Asked.{Asked}
use Rattle.cj_model.specs.declared.answer.Asked.TheVariants.{Rows, Refused}
use Rattle.cj_model.specs.declared.answer.Outcome.{Outcome}
use Rattle.cj_model.specs.Database.Tables.{IsDatabase, slot_of}
use Rattle.cj_model.proofs.Common.{Changed, ask, change}
use Rattle.cj_model.specs.Database.Steps.{seen, other_writer, table_written, write_done, write_unless_locked, write_in, written}
use Rattle.cj_model.proofs.QueryLaws.{IsAskable, ask_has_columns}
use Rattle.cj_model.proofs.RefusalLaws.{IsChangeRefusal, IsQueryRefusal, IfRefused, write_coded, ask_coded}
use Rattle.cj_model.specs.Database.Outcomes.{IsOutcome, IsAsked}
use Rattle.cj_query.specs.Even.{HasEvenRows}

-- ---- changes

done_is_outcome : (db : List Slot) (s : Slot) (tx : ℕ) (c : Changed) → IfErr c IsChangeRefusal → IsOutcome (write_done db s tx c).outcome
done_is_outcome db s tx (Ok p) h = tt
done_is_outcome db s tx (Err refusal) h = h

unless_locked_is_outcome : (db : List Slot) (s : Slot) (tx : ℕ) (w : Write) (o : Option ℕ) → IsOutcome (write_unless_locked db s tx w o).outcome
unless_locked_is_outcome db s tx w None = done_is_outcome db s tx (change (seen s tx) w) (write_coded (seen s tx) w)
unless_locked_is_outcome db s tx w (Some other) = (omega arith, omega arith)

write_in_is_outcome : (db : List Slot) (tx : ℕ) (w : Write) (found : Option Slot) → IsOutcome (write_in db tx w found).outcome
write_in_is_outcome db tx w None = (omega arith, omega arith)
write_in_is_outcome db tx w (Some s) = unless_locked_is_outcome db s tx w (other_writer tx s.draft)

-- a write comes to a count, or to a refusal of a change
pub written_is_outcome : (db : List Slot) (tx : ℕ) (w : Write) (o : Outcome) → o ≡ (written db tx w).outcome → IsOutcome o
written_is_outcome db tx w o e = subst IsOutcome (sym e) (write_in_is_outcome db tx w (slot_of db (table_written w)))

-- ---- queries

-- a query comes to an answer with columns and a value for each in every row, or to a refusal of a query
pub asked_is : (db : List Slot) (tx : ℕ) (s : Select) (a : Asked) → IsDatabase db → IsAskable s → a ≡ ask db tx s → HasEvenRows a → IsAsked a
asked_is db tx s (Rows answer) is may e even = let columns = ask_has_columns db tx is s answer may (sym e) in record { some = columns.some; few = columns.few; each = even }
asked_is db tx s (Refused refusal) is may e even = subst (λ (a : Asked). IfRefused a IsQueryRefusal) (sym e) (ask_coded db tx s)
