-- The names that answers of this crate cite, its own lemmas among them, passed on from one place. Declares nothing.
pub use Rattle.cj_model.proofs.RisingLaws.{rises_filter}
pub use Rattle.cj_query.proofs.AskLaws.{accepted_is, asked_is, one_table, refused_is}
pub use Rattle.cj_query.proofs.Common.{All-nil, Asked, FollowsBehind, IfOk, IfSome, IsPartitionPoint, IsPartitionedBy, IsSaid, IsTable, Key, None, Predicate, Ranked, RankedRow, Refused, Rows, Schema, Scope, SortKey, IsMetAlike, Suffices, Table, TableBy, Value, all_joined, always_returns_same, answer_from, answer_of, answer_over, append-nil, asked_by, at_most, by_key, cell, code_of, cut_into, deref, first_row, first_rows, follows_rows, found_by, gathered, groups_answered, integer_of, is_enough, is_row_outside, joined_to, keys_of, leads_before, led_by, length-drop, length-map, list_any, names_answered, nil_from_length, option_copied, option_map, option_to_list, predicate_of, product, projected_row, ranked_by, ranks_by, reverses_rows, rows_in, rows_kept, rows_of, rows_seen, satisfies, scope_of, slice_get, sort_key_of, sorted_by, sorts_before, tables_named, tables_of, take-map, take_all, taken, taken_behind, value_cmp, wanted, wanted_of}
pub use Rattle.cj_query.proofs.CountLaws.{counted_is}
pub use Rattle.cj_query.proofs.EvenLaws.{answered_even, known_even, legal_next}
pub use Rattle.cj_query.proofs.GroupLaws.{gathered_is}
pub use Rattle.cj_query.proofs.IndexLaws.{below_before, filter_seen, parted, parted_behind, run_between, up_to_before}
pub use Rattle.cj_query.proofs.JoinLaws.{all_suffice, if_each, joined_alone, joined_first, key_suffices, keyed_suffice, others, run_next, sought_suffices, stays}
pub use Rattle.cj_query.proofs.KeyLaws.{always_in_order, by_sort_keys_total}
pub use Rattle.cj_query.proofs.KnownRowLaws.{first_known, first_missing, known_answered, none_answered, none_said, ok_each, stands_itself}
pub use Rattle.cj_query.proofs.LimitLaws.{enough, first_twice, found_next, keys_order, unordered}
pub use Rattle.cj_query.proofs.MadeLaws.{err_given, err_kept}
pub use Rattle.cj_query.proofs.MapLaws.{cut-map, map_itself}
pub use Rattle.cj_query.proofs.NameLaws.{any_named}
pub use Rattle.cj_query.proofs.OrderLaws.{IsInOrder, ordered-map, ordered_is, ordered_rises}
pub use Rattle.cj_query.proofs.PathLaws.{groups_alone, groups_ranked, groups_reversed}
pub use Rattle.cj_query.proofs.RankLaws.{by_rank_total, lead_orders, lead_total, led_rows, led_with, rank_orders, wanted_rows}
pub use Rattle.cj_query.proofs.ReverseLaws.{filter-reverse}
pub use Rattle.cj_query.proofs.RunLaws.{run_left, run_within, runs_more, single_next}
pub use Rattle.cj_query.proofs.TakeLaws.{map_flat, taken_each, taken_is}
pub use Rattle.cj_query.proofs.TopLaws.{bar_keeps_out, bars_after, cut_before, last_seen}
pub use Rattle.cj_query.proofs.WalkLaws.{any_at, map_next, sum_seen}
pub use Rattle.cj_query.specs.KnownRows.{HoldsWith}
pub use Rattle.cj_query.specs.Ranked.{Bars, ranks_before, seen}
pub use Rattle.std.proofs.lemmas.Int.{ints, to_z-of_z}
pub use Rattle.std.proofs.lemmas.List.{drop_all}
pub use Rattle.std.proofs.lemmas.List.Edits.{map_over_more}
pub use Rattle.std.proofs.lemmas.List.Sorted.{IsPartitionPoint-from_clause}
pub use Rattle.std.proofs.lemmas.List.Sums.{fold_more}
pub use Rattle.std.specs.Ordering.{is_le, is_lt}
pub use Rattle.std.specs.Prelude.{All, OnOk, filter, flat_map, reverse}
