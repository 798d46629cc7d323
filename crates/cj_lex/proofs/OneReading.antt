-- A text has one list of tokens.
use Rattle.std.proofs.Common.{◌≡◌, ℕ, List, [], ◌∷◌, refl, subst}
use Rattle.cj_model.specs.declared.token.Token.{Token}
use Rattle.cj_model.specs.Sql.Lexical.{Tokens}
use Rattle.cj_lex.proofs.Complete.{first_complete}
use Rattle.cj_lex.proofs.Finished.{finished_complete}

pub tokens_one : (text : List ℕ) (xs ys : List Token) → Tokens text xs → Tokens text ys → xs ≡ ys
tokens_one text [] [] p q = refl
tokens_one text [] (y ∷ ys) p q = let a = finished_complete text p in let b = first_complete text y q.0 q.1 in cc
tokens_one text (x ∷ xs) [] p q = let a = first_complete text x p.0 p.1 in let b = finished_complete text q in cc
tokens_one text (x ∷ xs) (y ∷ ys) p q =
    let a = first_complete text x p.0 p.1 in
    let b = first_complete text y q.0 q.1 in
    let heads : x ≡ y = cc in
    let rests : q.0 ≡ p.0 = cc in
    let tails = tokens_one p.0 xs ys p.2 (subst (λ (z : List ℕ). Tokens z ys) rests q.2) in
    cc
