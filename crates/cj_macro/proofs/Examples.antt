-- Requests with calls, their canonical texts, and those of the requests with values in place of the calls, by computing.
use Rattle.std.proofs.Common.{◌≡◌, refl, ℕ, List, [], ◌∷◌, codes, pos, negsuc, Some, None}
use Rattle.std.specs.Prelude.{drop}
use Rattle.std.specs.Fmt.{digits}
use Rattle.cj_macro.proofs.Common.{And, bounds, draws_from, generator_after_draws, Not, Or, Request, rewritten, Term, Test}
use Rattle.cj_outside.specs.Draws.{of_list}
use Rattle.cj_model.specs.declared.term.Term.TheVariants as term
use Rattle.cj_model.specs.declared.term.Expr.TheVariants as expr
use Rattle.cj_model.specs.declared.term.Cmp.TheVariants as cmp
use Rattle.cj_model.specs.declared.select.Items.TheVariants as items
use Rattle.cj_model.specs.declared.write.Write.TheVariants as write
use Rattle.cj_model.specs.declared.request.Request.TheVariants as request
use Rattle.cj_print.specs.Canonical.{canonical}

abbrev col : List ℕ → Term
col name = term.Col (record { table = None; column = name })

abbrev rand : ℕ → Term
rand n = term.Rand (pos n)

-- ---- INSERT

an_insert : Request
an_insert = request.Write (write.Insert (codes "t") None ((term.Now ∷ term.Now ∷ rand 6 ∷ []) ∷ []))

an_insert_text : canonical an_insert ≡ codes "INSERT INTO t VALUES (NOW(), NOW(), RAND(6))"
unfolding an_insert digits
an_insert_text = refl

its_bounds : bounds an_insert ≡ 6 ∷ []
unfolding an_insert
its_bounds = refl

an_insert_rewritten : canonical (rewritten (pos 1700000000) (4 ∷ []) an_insert) ≡ codes "INSERT INTO t VALUES (1700000000, 1700000000, 4)"
unfolding an_insert digits
an_insert_rewritten = refl

-- tuple by tuple
tuples : canonical (rewritten (negsuc 0) (1 ∷ 2 ∷ 3 ∷ 4 ∷ []) (request.Write (write.Insert (codes "t") None ((rand 10 ∷ rand 20 ∷ []) ∷ (term.Now ∷ rand 30 ∷ []) ∷ (rand 40 ∷ term.Now ∷ []) ∷ []))))
    ≡ codes "INSERT INTO t VALUES (1, 2), (-1, 3), (4, -1)"
unfolding digits
tuples = refl

-- ---- UPDATE: the assignments, then WHERE

an_update : Request
an_update =
    request.Write
    (write.Update
    (codes "t")
    (record { column = codes "v"; value = expr.Plus (rand 10) (rand 20) } ∷ record { column = codes "w"; value = expr.One (rand 30) } ∷ [])
    (Some (Or (Test cmp.Eq (col (codes "k")) (rand 40)) (Not (And (Test cmp.Lt (rand 50) (rand 60)) (Test cmp.Ge term.Now (rand 70)))))))

an_update_text : canonical an_update ≡ codes "UPDATE t SET v = RAND(10) + RAND(20), w = RAND(30) WHERE k = RAND(40) OR NOT (RAND(50) < RAND(60) AND NOW() >= RAND(70))"
unfolding an_update digits
an_update_text = refl

their_bounds : bounds an_update ≡ 10 ∷ 20 ∷ 30 ∷ 40 ∷ 50 ∷ 60 ∷ 70 ∷ []
unfolding an_update
their_bounds = refl

an_update_rewritten : canonical (rewritten (pos 9) (1 ∷ 2 ∷ 3 ∷ 4 ∷ 5 ∷ 6 ∷ 7 ∷ []) an_update) ≡ codes "UPDATE t SET v = 1 + 2, w = 3 WHERE k = 4 OR NOT (5 < 6 AND 9 >= 7)"
unfolding an_update digits
an_update_rewritten = refl

-- ---- DELETE and SELECT

a_delete : canonical (rewritten (pos 9) (1 ∷ []) (request.Write (write.Delete (codes "t") (Some (And (Test cmp.Lt (col (codes "v")) term.Now) (Test cmp.Eq (col (codes "k")) (rand 10)))))))
    ≡ codes "DELETE FROM t WHERE v < 9 AND k = 1"
unfolding digits
a_delete = refl

a_select : Request
a_select =
    request.Select
    (record { items = items.All; tables = codes "t" ∷ []; cond = Some (Test cmp.Eq (col (codes "k")) (rand 10)); group = None; order = []; limit = Some 3 })

a_select_rewritten : canonical (rewritten (pos 9) (1 ∷ []) a_select) ≡ codes "SELECT * FROM t WHERE k = 1 LIMIT 3"
unfolding a_select digits
a_select_rewritten = refl

-- ---- draws by a list

by_list : draws_from of_list (λ (list : List ℕ) n. drop 1 list) (10 ∷ 7 ∷ []) (6 ∷ 5 ∷ 4 ∷ []) ≡ 4 ∷ 2 ∷ 0 ∷ []
by_list = refl

list_left : generator_after_draws (λ (list : List ℕ) n. drop 1 list) (10 ∷ 7 ∷ 3 ∷ []) (6 ∷ 5 ∷ []) ≡ 3 ∷ []
list_left = refl
