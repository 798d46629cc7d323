-- The names that most proofs of this crate cite, passed on from one place. Declares nothing.
pub use Rattle.cj_model.specs.Database.Conditions.{And, Condition, Not, Or, Test}
pub use Rattle.cj_model.specs.Sql.Lexical.{Tokens}
pub use Rattle.cj_model.specs.declared.request.Request.{Request}
pub use Rattle.cj_model.specs.declared.select.Key.{Key}
pub use Rattle.cj_model.specs.declared.select.Select.{Select}
pub use Rattle.cj_model.specs.declared.term.ColRef.{ColRef}
pub use Rattle.cj_model.specs.declared.term.Expr.{Expr}
pub use Rattle.cj_model.specs.declared.term.Term.{Term}
pub use Rattle.cj_model.specs.declared.token.Keyword.{Keyword}
pub use Rattle.cj_model.specs.declared.token.Symbol.{Symbol}
pub use Rattle.cj_model.specs.declared.token.Token.{Token}
pub use Rattle.cj_model.specs.declared.value.Value.{Value}
pub use Rattle.cj_model.specs.declared.write.Set.{Set}
pub use Rattle.cj_model.specs.declared.write.Write.{Write}
pub use Rattle.cj_print.specs.Canonical.{canonical}
pub use Rattle.std.proofs.lemmas.Bool.Decides.{nat_tests}
pub use Rattle.std.proofs.lemmas.List.{append-nil, append_assoc, length-map}
pub use Rattle.std.specs.Char.{is_ascii_digit}
pub use Rattle.std.specs.Fmt.{decimal}
