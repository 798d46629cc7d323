-- The names that most proofs of this crate cite, passed on from one place. Declares nothing.
pub use Rattle.cj_model.specs.Sql.ConditionForms.{AndsForm, AndsNest, CondForm, CondNests, ConjForm, ConjNests, OrsForm, OrsNest, PrimForm, PrimNests, ands_meant, ands_tokens, cmp_token, comparisons, cond_meant, cond_tokens, conj_meant, conj_tokens, ors_meant, ors_tokens, prim_meant, prim_tokens}
pub use Rattle.cj_model.specs.declared.request.Request.{Request}
pub use Rattle.cj_model.specs.declared.term.Cmp.{Cmp}
pub use Rattle.cj_model.specs.declared.term.ColRef.{ColRef}
pub use Rattle.cj_model.specs.declared.term.Term.{Term}
pub use Rattle.cj_model.specs.declared.token.Keyword.{Keyword}
pub use Rattle.cj_model.specs.declared.token.Symbol.{Symbol}
pub use Rattle.cj_model.specs.declared.token.Token.{Token}
pub use Rattle.cj_sql.specs.declared.conditions.Connective.{Connective}
pub use Rattle.std.proofs.lemmas.Bool.Decides.{nat_tests}
