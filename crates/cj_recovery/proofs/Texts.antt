-- The act of a text.
use Rattle.std.proofs.Common.{◌≡◌, ℕ, true, List, None, ap, sym, ◌∙◌, subst}
use Rattle.cj_recovery.proofs.Common.{Act, Request, canonical, canonical_reads_back, is_plain, request_of, text_one}
use Rattle.cj_model.specs.Sql.Grammar.{TextReadsAs, ReadsAsNothing}
use Rattle.cj_recovery.specs.Proving.Steps.{IsTextOf, FindsAct}

-- the text of an act reads as its request
pub text_reads : (text : List ℕ) (a : Act) → IsTextOf text a → TextReadsAs text (request_of a)
text_reads text a is = subst (λ (t : List ℕ). TextReadsAs t (request_of a)) (sym is.canonical) (canonical_reads_back is.written.text (request_of a) is.written.reads)

-- a text that reads as nothing is no act's
pub no_reading : (text : List ℕ) → ReadsAsNothing text → FindsAct text None
no_reading text none a is = none (request_of a) (text_reads text a is)

-- a text that reads as a request which isn't plain, or isn't so written
pub no_act : (text : List ℕ) (r : Request) → TextReadsAs text r → (is_plain r ≡ true → text ≡ canonical r → ⊥) → FindsAct text None
no_act text r reads none a is =
    let same : request_of a ≡ r = text_one text (request_of a) r (text_reads text a is) reads in
    none (sym (ap is_plain same) ∙ is.written.plain) (is.canonical ∙ ap canonical same)
