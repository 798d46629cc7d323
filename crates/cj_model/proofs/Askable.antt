-- What is known of a SELECT that some text reads as.
use Rattle.std.proofs.Common.{◌≡◌, sym, subst, List, ℕ}
use Rattle.cj_model.proofs.Common.{Items, Select}
use Rattle.cj_model.specs.declared.select.Items.TheVariants.{All as Whole, Listed}
use Rattle.cj_model.specs.declared.request.Request.TheVariants as request
use Rattle.cj_model.specs.Sql.Grammar.{Statement, select, select_meant, statement_meant, StatementFits, ItemsFit, TextReadsAs}
use Rattle.cj_model.proofs.QueryLaws.{HasItems, IsAskable}

items_of : (items : Items) → ItemsFit items → HasItems items
items_of Whole fits = tt
items_of (Listed xs) fits = (fits.0, fits.1)

of_statement : (st : Statement) (s : Select) → StatementFits st → request.Select s ≡ statement_meant st → IsAskable s
of_statement (select f) s fits e =
    let same : s ≡ select_meant f = cc in
    subst IsAskable (sym same) (record { some = fits.tables.0; few = fits.tables.1; items = items_of f.items fits.items })
of_statement _ s fits e = absurd (cc)

-- it names tables, and items that are not too many
pub read_askable : (text : List ℕ) (s : Select) → TextReadsAs text (request.Select s) → IsAskable s
read_askable text s x = of_statement x.reads.statement s x.reads.fits x.reads.meant
