-- The names that most proofs of this crate cite, passed on from one place. Declares nothing.
pub use Rattle.cj_macro.specs.Drawable.{are_drawable}
pub use Rattle.cj_model.specs.Database.Conditions.{And, Condition, Not, Or, Test}
pub use Rattle.cj_model.specs.Sql.Literals.{IsConstant}
pub use Rattle.cj_model.specs.Sql.Macros.{IsDrawable, bounds, condition_bounds, draws_behind, draws_for, draws_from, each_rewritten, generator_after_draws, rewritten, rewritten_condition, rewritten_expr, rewritten_set, rewritten_term, rewritten_tuple, rewritten_where, rewritten_write, set_bounds, term_bounds, tuple_bounds, where_bounds}
pub use Rattle.cj_model.specs.Sql.TermForms.{TermFits}
pub use Rattle.cj_model.specs.Sql.WrittenRequests.{IsWritten}
pub use Rattle.cj_model.specs.declared.request.Request.{Request}
pub use Rattle.cj_model.specs.declared.term.Expr.{Expr}
pub use Rattle.cj_model.specs.declared.term.Expr.TheVariants.{Minus, One, Plus}
pub use Rattle.cj_model.specs.declared.term.Term.{Term}
pub use Rattle.cj_model.specs.declared.term.Term.TheVariants.{Col, Lit, Now, Rand}
pub use Rattle.cj_model.specs.declared.write.Set.{Set}
pub use Rattle.cj_model.specs.declared.write.Write.{Write}
pub use Rattle.std.proofs.lemmas.List.Elements.{All-append, All-nil}
pub use Rattle.std.specs.Cmp.Derive.{both_true}
pub use Rattle.std.specs.List.{All, flat_map}
