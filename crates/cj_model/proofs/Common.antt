-- The names that most proofs of this crate cite, passed on from one place. Declares nothing.
pub use Rattle.cj_model.specs.Database.Conditions.{Condition}
pub use Rattle.cj_model.specs.Database.Inserts.{Changed, refusal_of_code, refuse_if}
pub use Rattle.cj_model.specs.Database.Predicates.{Predicate}
pub use Rattle.cj_model.specs.Database.Queries.{answer_over, ask, asked_by, tables_seen}
pub use Rattle.cj_model.specs.Database.Tables.{Rises, put_by}
pub use Rattle.cj_model.specs.Database.Updates.{change}
pub use Rattle.cj_model.specs.declared.answer.Answer.{Answer}
pub use Rattle.cj_model.specs.declared.answer.Refusal.{Refusal}
pub use Rattle.cj_model.specs.declared.codes.TheConstants.{BAD_COLUMNS, DUPLICATE, NO_COLUMN, OVERFLOW, WRONG_TYPE}
pub use Rattle.cj_model.specs.declared.database.Draft.{Draft}
pub use Rattle.cj_model.specs.declared.database.Slot.{Slot}
pub use Rattle.cj_model.specs.declared.database.Table.{Table}
pub use Rattle.cj_model.specs.declared.limits.TheConstants.{COLUMN_LIMIT, NAME_LIMIT, ROW_LIMIT}
pub use Rattle.cj_model.specs.declared.message.Message.{Message}
pub use Rattle.cj_model.specs.declared.message.Message.TheVariants.{Login, Query, Quit, Stats}
pub use Rattle.cj_model.specs.declared.request.Act.{Act}
pub use Rattle.cj_model.specs.declared.schema.ColDef.{ColDef}
pub use Rattle.cj_model.specs.declared.schema.Column.{Column}
pub use Rattle.cj_model.specs.declared.schema.Create.{Create}
pub use Rattle.cj_model.specs.declared.schema.Schema.{Schema}
pub use Rattle.cj_model.specs.declared.select.Items.{Items}
pub use Rattle.cj_model.specs.declared.select.Key.{Key}
pub use Rattle.cj_model.specs.declared.select.Select.{Select}
pub use Rattle.cj_model.specs.declared.term.ColRef.{ColRef}
pub use Rattle.cj_model.specs.declared.term.Expr.{Expr}
pub use Rattle.cj_model.specs.declared.term.Expr.TheVariants.{Minus, One, Plus}
pub use Rattle.cj_model.specs.declared.term.Term.{Term}
pub use Rattle.cj_model.specs.declared.term.Term.TheVariants.{Col, Lit, Now, Rand}
pub use Rattle.cj_model.specs.declared.value.Value.{Value}
pub use Rattle.cj_model.specs.declared.value.Value.TheVariants.{Int}
pub use Rattle.cj_model.specs.declared.write.Set.{Set}
pub use Rattle.cj_model.specs.declared.write.Write.{Write}
pub use Rattle.cj_model.specs.declared.write.Write.TheVariants.{Delete, Insert, Update}
pub use Rattle.std.proofs.lemmas.Bool.Decides.{nat_tests}
pub use Rattle.std.proofs.lemmas.List.{length-map}
pub use Rattle.std.proofs.lemmas.List.Elements.{All-cons, All-filter, All-head, All-map, All-nil, All-tail, All-weaker}
pub use Rattle.std.specs.Cmp.{IsTotalOrder}
pub use Rattle.std.specs.List.{cons_option, list_any}
pub use Rattle.std.specs.Str.{bytes_eq}
