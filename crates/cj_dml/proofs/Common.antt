-- The names that most proofs of this crate cite, passed on from one place. Declares nothing.
pub use Rattle.cj_model.specs.Database.Evaluation.{satisfies}
pub use Rattle.cj_model.specs.Database.Inserts.{Changed, has_key, has_key_twice, lists_unevenly, lists_unknown_column, refusal_of_code, refuse_if, row_of}
pub use Rattle.cj_model.specs.Database.Scopes.{scope_of}
pub use Rattle.cj_rowstore.proofs.Common.{at, cell, filter, insert_entry, is_some, value_cmp}
pub use Rattle.cj_model.specs.Database.Updates.{assignment_of, overflows, sets_key, sets_twice}
pub use Rattle.cj_model.specs.declared.answer.Refusal.{Refusal}
pub use Rattle.cj_model.specs.declared.codes.TheConstants.{WRONG_TYPE}
pub use Rattle.cj_model.specs.declared.database.Table.{Table}
pub use Rattle.cj_model.specs.declared.schema.Schema.{Schema}
pub use Rattle.cj_model.specs.declared.term.Term.{Term}
pub use Rattle.cj_model.specs.declared.value.Value.{Value}
pub use Rattle.cj_model.specs.declared.write.Set.{Set}
pub use Rattle.cj_dml.specs.Assignments.{assignment_by_place, assignments}
pub use Rattle.cj_dml.specs.Inserts.{with_fitting_rows}
pub use Rattle.cj_dml.specs.Plans.{Plans}
pub use Rattle.cj_dml.specs.declared.plan.Plan.{Plan}
pub use Rattle.cj_rowstore.specs.Lookups.{row_with_key}
pub use Rattle.cj_rowstore.specs.RowEntries.{RowEntries, puts}
pub use Rattle.std.proofs.lemmas.Bool.{cond-true, or_parts, or_right}
pub use Rattle.cj_model.proofs.Common.{length-map, list_any}
pub use Rattle.std.specs.Map.Iter.{deref}
pub use Rattle.std.specs.declared.option.Option.{Option}
pub use Rattle.std.specs.declared.result.Result.{Result}
pub use Rattle.std.specs.declared.result.Result.TheVariants.{Err}
