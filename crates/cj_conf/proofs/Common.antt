-- The names that most proofs of this crate cite, passed on from one place. Declares nothing.
pub use Rattle.cj_balance.specs.Kept.{AreWeights}
pub use Rattle.cj_conf.specs.Confs.{kinds_of, names_of, weight_at, weights_of}
pub use Rattle.cj_conf.specs.Fields.{name_field, number_at}
pub use Rattle.cj_conf.specs.Rows.{account_of, all_items, backend_row, backends_at, each, is_table, is_text, placed_of, config_row}
pub use Rattle.cj_conf.specs.Settings.{settings_of}
pub use Rattle.cj_conf.specs.Weights.{IsWeighted}
pub use Rattle.cj_conf.specs.declared.backend.Backend.{Backend}
pub use Rattle.cj_conf.specs.declared.error.ConfError.{ConfError}
pub use Rattle.cj_model.specs.declared.limits.TheConstants.{BACKEND_LIMIT}
pub use Rattle.cj_model.specs.declared.policy.Policy.TheVariants.{RoundRobin}
pub use Rattle.std.specs.Prelude.{All}
pub use Rattle.std.specs.declared.option.Option.TheVariants.{None, Some}
pub use Rattle.std.specs.declared.result.Result.{Result}
pub use Rattle.std.specs.declared.result.Result.TheVariants.{Err, Ok}
pub use Rattle.toml.specs.Data.{Members, as_table}
pub use Rattle.toml.specs.Parse.{parse_document}
pub use Rattle.toml.specs.View.{array_view, items_view}
