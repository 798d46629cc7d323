-- What is known of the columns of a CREATE TABLE that some text reads as.
use Rattle.std.proofs.Common.{◌≡◌, sym, subst, ℕ, ◌≤◌, List, length}
use Rattle.cj_model.proofs.Common.{COLUMN_LIMIT, Create}
use Rattle.cj_model.specs.declared.request.Request.TheVariants as request
use Rattle.cj_model.specs.Sql.Grammar.{Statement, create, statement_meant, StatementFits, TextReadsAs}

of_statement : (s : Statement) (c : Create) → StatementFits s → request.Create c ≡ statement_meant s → length c.columns ≤ COLUMN_LIMIT
of_statement (create n cs) c fits e =
    let same : c ≡ record { table = n; columns = cs } = cc in
    let P : Create → Type 0 = λ d. length d.columns ≤ COLUMN_LIMIT in
    subst P (sym same) fits.1
of_statement _ c fits e = absurd (cc)

-- there are at most 16
pub read_columns : (text : List ℕ) (c : Create) → TextReadsAs text (request.Create c) → length c.columns ≤ COLUMN_LIMIT
read_columns text c x = of_statement x.reads.statement c x.reads.fits x.reads.meant
