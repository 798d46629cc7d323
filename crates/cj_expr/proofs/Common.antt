-- The names that most proofs of this crate cite, passed on from one place. Declares nothing.
pub use Rattle.cj_model.specs.Database.Evaluation.{is_true_in, operand_value, relation_holds}
pub use Rattle.cj_model.specs.Database.Predicates.{And, Cell, Compare, Constant, Not, Operand, Or, Predicate}
pub use Rattle.cj_model.specs.Database.Tables.{cell}
pub use Rattle.cj_model.specs.Database.Values.{value_cmp}
pub use Rattle.cj_model.specs.declared.term.Cmp.{Cmp}
pub use Rattle.cj_model.specs.declared.value.Value.{Value}
pub use Rattle.cj_model.specs.declared.value.Value.TheVariants.{Int}
pub use Rattle.std.proofs.lemmas.Bool.{and_parts, or_cases}
pub use Rattle.std.proofs.lemmas.List.{get_or-append_right, get_or_append_left, get_or_default}
pub use Rattle.std.specs.declared.option.Option.{Option}
pub use Rattle.std.specs.declared.option.Option.TheVariants.{None, Some}
