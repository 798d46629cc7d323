-- Wherever some text reads as a request, its canonical text reads as it.
use Rattle.std.proofs.Common.{refl, sym, subst, [], false}
use Rattle.cj_print.proofs.Common.{Tokens, append-nil}
use Rattle.cj_model.specs.Sql.Grammar.{Statement, statement_tokens, statement_meant, StatementFits, end_tokens, TextReadsAs}
use Rattle.cj_print.specs.Canonical.{canonical, CanonicalReadsBack}
use Rattle.cj_print.proofs.Forms.{form}
use Rattle.cj_print.proofs.CanonicalForm.{form_means, form_fits}
use Rattle.cj_model.proofs.Spellable.{AreTokens, are_tokens, FineRequest, statement_fine}
use Rattle.cj_print.proofs.CanonicalTokens.{canonical_spelled}

-- the canonical text of what a statement means reads as it
statement_reads : (s : Statement) → StatementFits s → FineRequest (statement_meant s) → TextReadsAs (canonical (statement_meant s)) (statement_meant s)
statement_reads s fits fine =
    let text = canonical (statement_meant s) in
    let tokens = statement_tokens (form (statement_meant s)) [] in
    record {
      tokens = tokens;
      tokens_of = subst (λ z. Tokens z tokens) (append-nil text) ((canonical_spelled (statement_meant s) fine).before [] [] tt tt);
      reads = record { statement = form (statement_meant s); semicolon = false; tokens_are = refl; fits = form_fits s fits; meant = sym (form_means s) };
    }

pub canonical_reads_back : CanonicalReadsBack
canonical_reads_back text r h =
    let s = h.reads.statement in
    let rest = end_tokens h.reads.semicolon in
    let are : AreTokens (statement_tokens s rest) = subst (λ xs. AreTokens xs) h.reads.tokens_are (are_tokens h.tokens text h.tokens_of) in
    subst (λ x. TextReadsAs (canonical x) x) (sym h.reads.meant) (statement_reads s h.reads.fits (statement_fine s rest are))
