-- The names that answers of this crate cite, its own lemmas among them, passed on from one place. Declares nothing.
pub use Rattle.cj_conf.proofs.Common.{All, AreWeights, BACKEND_LIMIT, IsWeighted, account_of, array_view, as_table, backend_row, each, items_view, placed_of, config_row, weight_at}
pub use Rattle.cj_conf.proofs.Making.{are_weights}
pub use Rattle.cj_conf.proofs.Plain.{plain_refusal}
pub use Rattle.cj_conf.proofs.Reading.{onto}
pub use Rattle.cj_conf.specs.Fields.{first_unknown, name_in, text_in}
pub use Rattle.cj_conf.specs.declared.key.Key.TheVariants.{Backends, Hosts, Logins, Tables, Users}
pub use Rattle.cj_model.specs.Cluster.Accounts.{HasShortUsers}
pub use Rattle.std.proofs.lemmas.List.FromFn.{fill_by_all}
pub use Rattle.std.proofs.lemmas.Result.{err_from_is_err_and}
pub use Rattle.toml.proofs.Views.{table_get}
pub use Rattle.toml.specs.Data.{get_member}
pub use Rattle.toml.specs.View.{members_view, table_view}
