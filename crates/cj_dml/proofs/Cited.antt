-- The names that answers of this crate cite, its own lemmas among them, passed on from one place. Declares nothing.
pub use Rattle.cj_expr.specs.Results.{integer_within}
pub use Rattle.cj_expr.specs.Shapes.{formula}
pub use Rattle.cj_model.specs.Database.Evaluation.{is_out_of_range, value_of}
pub use Rattle.cj_model.specs.Database.Inserts.{inserted}
pub use Rattle.cj_model.specs.Database.Updates.{Assignment, assigned, change}
pub use Rattle.cj_model.specs.declared.limits.TheConstants.{ROW_LIMIT}
pub use Rattle.cj_dml.proofs.Common.{Changed, Plans, RowEntries, Schema, Term, Value, assignment_by_place, assignment_of, assignments, at, cell, cond-true, deref, filter, has_key, has_key_twice, insert_entry, is_some, length-map, list_any, lists_unevenly, lists_unknown_column, or_right, overflows, row_of, row_with_key, satisfies, scope_of, sets_key, sets_twice, value_cmp, with_fitting_rows}
pub use Rattle.cj_dml.proofs.InPlace.{in_place, makes_past, makes_refused, one_item, plan_makes}
pub use Rattle.cj_dml.proofs.Inserted.{inserted_rows}
pub use Rattle.cj_dml.proofs.PlanLaws.{any_at, any_both, delete_leaves, found_key, from_none, from_some, images_more, insert_leaves, is_some-copied, known_put, none_of, part-le, past, put_one_more, twice_more, twice_still, update_leaves}
pub use Rattle.cj_dml.proofs.UpdateRefusals.{all_past, first_refused, keeps_key, second_refused, third_refused}
pub use Rattle.cj_dml.specs.Assignments.{values_or_none}
pub use Rattle.cj_dml.specs.ColumnEdits.{GetIntegers}
pub use Rattle.cj_dml.specs.Inserts.{puts_once}
pub use Rattle.std.proofs.lemmas.Bool.{le-ltb}
pub use Rattle.std.proofs.lemmas.List.{append_assoc}
pub use Rattle.std.proofs.lemmas.List.Elements.{All-map}
pub use Rattle.std.proofs.lemmas.List.Filters.{length-filter_both}
pub use Rattle.std.proofs.lemmas.List.Sums.{length-filter}
pub use Rattle.std.specs.Prelude.{IfOk, ◌||◌}
