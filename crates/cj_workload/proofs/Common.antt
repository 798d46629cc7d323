-- The names that most proofs of this crate cite, passed on from one place. Declares nothing.
pub use Rattle.cj_state.proofs.Common.{Core, WorldState, faults_of, in_mask, session_at}
pub use Rattle.cj_core.proofs.Common.{SoloState, range_with_len}
pub use Rattle.cj_model.specs.Cluster.Placements.{Placement, hosts, part}
pub use Rattle.cj_model.specs.Sql.WrittenRequests.{IsWritten}
pub use Rattle.cj_model.specs.declared.database.Slot.{Slot}
pub use Rattle.cj_model.specs.declared.value.Value.{Value}
pub use Rattle.cj_workload.specs.Holdings.{AreSame, EachHolds, first_count, row_count, rows_in, times_armed}
pub use Rattle.cj_workload.specs.Proving.Keeping.{KeepsSolo}
pub use Rattle.cj_workload.specs.Statements.{generator_behind, table_name}
pub use Rattle.cj_workload.specs.Workloads.{PlaysRounds, first_host}
pub use Rattle.rand_pcg.specs.Lcg.{Lcg}
pub use Rattle.std.proofs.Math.Nat.{eq-or-lt_of_le}
pub use Rattle.std.proofs.lemmas.Bool.{and_parts, both_ways, cond_both, ltb-true}
pub use Rattle.std.proofs.lemmas.List.{length-append, length-map}
pub use Rattle.std.specs.Prelude.{All, MatchOption, find, option_map, slice_get}
