-- The names that most proofs of this crate cite, passed on from one place. Declares nothing.
pub use Rattle.cj_cache.specs.Kept.{entries_held, entries_of_map, without_each}
pub use Rattle.cj_cache.specs.Proving.ByTable.{all_listed, is_due}
pub use Rattle.cj_cache.specs.declared.held.Held.{Held}
pub use Rattle.cj_model.specs.Proving.SameStatements.{same_statement, same_statement-Decides}
pub use Rattle.cj_model.specs.declared.cached.Cached.{Cached}
pub use Rattle.cj_model.specs.declared.select.Select.{Select}
pub use Rattle.std.specs.Str.{bytes_eq}
