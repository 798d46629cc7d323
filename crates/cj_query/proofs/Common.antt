-- The names that most proofs of this crate cite, passed on from one place. Declares nothing.
pub use Rattle.cj_expr.specs.Behind.{FollowsBehind}
pub use Rattle.cj_expr.specs.declared.formula.ValueError.{ValueError}
pub use Rattle.cj_model.proofs.RisingLaws.{by_order, equal_from}
pub use Rattle.cj_model.specs.Database.Evaluation.{integer_of, is_true_in, satisfies}
pub use Rattle.cj_model.proofs.Common.{Predicate, refusal_of_code, refuse_if}
pub use Rattle.cj_model.specs.Database.Order.{SortKey, at_most, by_sort_key, by_sort_keys, insert_before, product, sorted_by, sorts_before}
pub use Rattle.cj_model.specs.Database.Queries.{answer_of, answer_over, answer_row, asked_by, columns_named, first_row, gathered, groups_answered, has_aggregate, has_bad_columns, is_sum_out_of_range, item_value, items_listed, names_answered, rows_with, sort_key_of, sums_text, tables_seen}
pub use Rattle.cj_model.specs.Database.Scopes.{Scope, column_place, is_unknown_column, predicate_of, scope_of, where_has_unknown_column, where_mixes_kinds}
pub use Rattle.cj_model.specs.Database.Tables.{IsTable, Rises, by_key, cell, slot_of}
pub use Rattle.cj_rowstore.proofs.Common.{row_with_key, tied_itself, value_cmp, value_exact, value_total}
pub use Rattle.cj_model.specs.declared.answer.Asked.{Asked}
pub use Rattle.cj_model.specs.declared.answer.Asked.TheVariants.{Refused, Rows}
pub use Rattle.cj_model.specs.declared.answer.Refusal.{Refusal}
pub use Rattle.cj_model.specs.declared.codes.TheConstants.{BAD_COLUMNS, NO_COLUMN, OVERFLOW, WRONG_TYPE}
pub use Rattle.cj_model.specs.declared.database.Table.{Table}
pub use Rattle.cj_model.specs.declared.schema.Column.{Column}
pub use Rattle.cj_model.specs.declared.schema.Schema.{Schema}
pub use Rattle.cj_model.specs.declared.select.Item.{Item}
pub use Rattle.cj_model.specs.declared.select.Items.{Items}
pub use Rattle.cj_model.specs.declared.select.Key.{Key}
pub use Rattle.cj_model.specs.declared.select.Select.{Select}
pub use Rattle.cj_model.specs.declared.term.ColRef.{ColRef}
pub use Rattle.cj_model.specs.declared.value.Value.{Value}
pub use Rattle.cj_model.specs.declared.value.Value.TheVariants.{Int}
pub use Rattle.cj_query.specs.Gathered.{cut_into, same_at, sorted_at}
pub use Rattle.cj_query.specs.Groups.{rows_in, rows_of}
pub use Rattle.cj_query.specs.Joined.{Suffices, all_joined, extended_rows, first_rows, joined_to, taken_behind, wanted_of}
pub use Rattle.cj_query.specs.Kept.{IsBarred, rows_kept}
pub use Rattle.cj_query.specs.KnownRows.{IsSaid, IsMetAlike}
pub use Rattle.cj_query.specs.Made.{MakesValue}
pub use Rattle.cj_query.specs.Paths.{answers_each, follows_join, follows_rows, is_enough, reverses_rows}
pub use Rattle.cj_query.specs.Projections.{bound_item_value, has_bound_sum_out_of_range, is_row_outside, projected_row}
pub use Rattle.cj_query.specs.Ranked.{RankedRow, keys_of, leads_before, led_by, ranked_by, rows_seen, wanted}
pub use Rattle.cj_query.specs.Refused.{code_of}
pub use Rattle.cj_query.specs.Seen.{answer_from, tables_named}
pub use Rattle.cj_query.specs.Sides.{TableBy, found_by, tables_of}
pub use Rattle.cj_query.specs.Taken.{taken}
pub use Rattle.cj_query.specs.Turned.{IsAlike, total}
pub use Rattle.cj_query.specs.declared.ranked.Ranked.{Ranked}
pub use Rattle.std.proofs.lemmas.Bool.{and_parts, cases_Bool, cond-false, cond-true, false_from_ne_true, not-true}
pub use Rattle.std.proofs.lemmas.Fn.{always_returns_same}
pub use Rattle.std.proofs.lemmas.List.{append-nil, get_or_append_left, length-drop, length-map, map-append, nil_from_length, take-append-le, take-map, take_all, take_more}
pub use Rattle.std.proofs.lemmas.List.Elements.{All-append, All-cons, All-filter, All-head, All-map, All-nil, All-tail, All-take, All-weaker, filter-append}
pub use Rattle.std.proofs.lemmas.List.Folds.{list_any-append}
pub use Rattle.std.proofs.lemmas.List.Sorted.{ranks_by}
pub use Rattle.std.proofs.lemmas.Simd.{map-map}
pub use Rattle.std.specs.Cmp.{IsStrictWeakOrder, IsTotalOrder, back_total, on_total, then_total}
pub use Rattle.std.specs.List.{list_any, prefix_len}
pub use Rattle.std.specs.List.Sorted.{IsPartitionPoint, IsPartitionedBy, ties}
pub use Rattle.std.specs.Map.Iter.{deref}
pub use Rattle.std.specs.Ordering.{is_lt, ordering_reverse, ordering_then}
pub use Rattle.std.specs.Prelude.{IfOk, IfSome, flat_map, is_none, option_copied, option_map, option_to_list, slice_get}
pub use Rattle.std.specs.declared.option.Option.TheVariants.{None}
pub use Rattle.std.specs.declared.result.Result.{Result}
pub use Rattle.std.specs.declared.result.Result.TheVariants.{Err, Ok}
