use Rattle.std.proofs.Common.{◌≡◌, List, ℕ, Bool, true, false, cond, None, Some, refl, sym, ◌∙◌, subst}
use Rattle.cj_script.proofs.Common.{is_name, NamesBackendAndDump}
use Rattle.cj_words.specs.Words.{FindsValue}
use Rattle.cj_script.proofs.Requests.{no_dump, no_dump_name, one_dump}
use Rattle.cj_script.proofs.arguments.dump_named.Goals as goal

-- a word is a name exactly where one is made of it
name_found : (word name : List ℕ) (t : Bool) → Some name ≡ cond t (Some word) None → (t ≡ true) × (name ≡ word)
name_found word name true is = (refl, cc is)
name_found word name false is = absurd (cc is)

name_none : (word : List ℕ) (t : Bool) → None ≡ cond t (Some word) None → t ≡ false
name_none word true is = absurd (cc is)
name_none word false is = refl

pub returns-in_default : goal.returns-in_default
returns-in_default c = no_dump c.args.names.now c.args.rest.now (rw c.in_default.is at c.named.ensures)

pub returns-in-Some-of : goal.returns-in-Some-of
returns-in-Some-of c =
    let is = name_found c.in-Some.word.now c.in-Some-of.name (is_name c.in-Some.word.now) (sym c.in-Some-of.is ∙ c.of.ensures) in
    subst (λ (z : List ℕ). FindsValue (NamesBackendAndDump c.args.names.now c.args.rest.now) (Some (c.in-Some.b, z))) (sym is.1)
    (one_dump c.args.names.now c.args.rest.now c.in-Some.b c.in-Some.word.now c.in-Some.ensures is.0)

pub returns-in-None : goal.returns-in-None
returns-in-None c =
    no_dump_name c.args.names.now c.args.rest.now c.in-Some.b c.in-Some.word.now c.in-Some.ensures (name_none c.in-Some.word.now (is_name c.in-Some.word.now) (sym c.in-None.is ∙ c.of.ensures))
