-- The names that most proofs of this crate cite, passed on from one place. Declares nothing.
pub use Rattle.cj_model.specs.Cluster.Masks.{in_mask}
pub use Rattle.cj_model.specs.Cluster.Placements.{Hosting, Placement, hosts}
pub use Rattle.cj_model.specs.Database.Tables.{Rises, name_cmp, put_by}
pub use Rattle.cj_model.specs.Sql.Names.{is_name}
pub use Rattle.cj_model.specs.declared.placement.PlaceRow.{PlaceRow}
pub use Rattle.cj_place.specs.Kept.{IsMasked, given_rows, mask_in}
pub use Rattle.cj_place.specs.Layouts.{Layout, backend_number, by_row, hosts_beyond, is_last_host, is_outside, placement_of, row_hostings}
pub use Rattle.cj_place.specs.declared.rows.HostRow.{HostRow}
pub use Rattle.std.proofs.lemmas.Bool.{cond-false}
pub use Rattle.std.proofs.lemmas.Cmp.{nat_list_cmp_total, tied_itself}
pub use Rattle.std.proofs.lemmas.List.Concat.{flat_map-cons}
pub use Rattle.std.proofs.lemmas.Simd.{map-map}
pub use Rattle.std.proofs.lemmas.Slice.Eq.{bytes_eq-Decides}
pub use Rattle.std.specs.List.{flat_map, list_any}
pub use Rattle.std.specs.Option.{option_map_or}
pub use Rattle.std.specs.Prelude.{All, filter, find, fold}
pub use Rattle.std.specs.Str.{bytes_eq}
pub use Rattle.std.specs.declared.option.Option.{Option}
pub use Rattle.std.specs.declared.option.Option.TheVariants.{None, Some}
