-- Statements of each kind, and their canonical texts, by computing.
use Rattle.std.proofs.Common.{◌≡◌, refl, ℕ, true, false, List, [], ◌∷◌, codes, pos, negsuc, Some, None}
use Rattle.std.specs.Fmt.{digits}
use Rattle.cj_print.proofs.Common.{And, ColRef, Condition, Not, Or, Request, Term, Test, canonical}
use Rattle.cj_model.specs.declared.value.Value.TheVariants as value
use Rattle.cj_model.specs.declared.value.Kind.TheVariants as kind
use Rattle.cj_model.specs.declared.term.Term.TheVariants as term
use Rattle.cj_model.specs.declared.term.Expr.TheVariants as expr
use Rattle.cj_model.specs.declared.term.Cmp.TheVariants as cmp
use Rattle.cj_model.specs.declared.select.Item.TheVariants as item
use Rattle.cj_model.specs.declared.select.Items.TheVariants as items
use Rattle.cj_model.specs.declared.write.Write.TheVariants as write
use Rattle.cj_model.specs.declared.request.Request.TheVariants as request

abbrev col : List ℕ → ColRef
col name = record { table = None; column = name }

abbrev of_table : List ℕ → List ℕ → ColRef
of_table table name = record { table = Some table; column = name }

abbrev v : Term
v = term.Col (col (codes "v"))

abbrev is : Term → Condition
is x = Test cmp.Eq v x

abbrev one : Term
one = term.Lit (value.Int (pos 1))

abbrev delete : Condition → Request
delete c = request.Write (write.Delete (codes "t") (Some c))

a_select : Request
a_select =
    request.Select
    (record {
      items = items.Listed (item.Col (of_table (codes "a") (codes "k")) ∷ item.Col (col (codes "v")) ∷ []);
      tables = codes "a" ∷ codes "c" ∷ [];
      cond =
          Some
          (And
          (Or (Test cmp.Eq (term.Col (of_table (codes "a") (codes "k"))) (term.Col (of_table (codes "c") (codes "k")))) (Not (Test cmp.Lt v (term.Lit (value.Int (negsuc 0))))))
          (Test cmp.Ne v (term.Lit (value.Text (codes "it's")))));
      group = None;
      order = record { col = col (codes "v"); desc = true } ∷ [];
      limit = Some 3;
    })

a_select_text : canonical a_select ≡ codes "SELECT a.k, v FROM a, c WHERE (a.k = c.k OR NOT v < -1) AND v <> 'it''s' ORDER BY v DESC LIMIT 3"
unfolding a_select digits
a_select_text = refl

a_sum : Request
a_sum =
    request.Select
    (record {
      items = items.Listed (item.Count ∷ item.Sum (col (codes "v")) ∷ []);
      tables = codes "t" ∷ [];
      cond = None;
      group = Some (col (codes "k"));
      order = record { col = col (codes "k"); desc = false } ∷ [];
      limit = None;
    })

a_sum_text : canonical a_sum ≡ codes "SELECT COUNT(*), SUM(v) FROM t GROUP BY k ORDER BY k"
unfolding a_sum digits
a_sum_text = refl

a_create : canonical (request.Create (record { table = codes "t"; columns = record { name = codes "k"; kind = kind.Integer; key = true } ∷ record { name = codes "v"; kind = kind.Text; key = false } ∷ [] }))
    ≡ codes "CREATE TABLE t (k INTEGER PRIMARY KEY, v TEXT)"
a_create = refl

an_insert : canonical (request.Write (write.Insert (codes "t") (Some (codes "k" ∷ codes "v" ∷ [])) ((one ∷ term.Now ∷ []) ∷ (term.Rand (pos 6) ∷ one ∷ []) ∷ []))) ≡ codes "INSERT INTO t (k, v) VALUES (1, NOW()), (RAND(6), 1)"
unfolding digits
an_insert = refl

an_update : canonical (request.Write (write.Update (codes "t") (record { column = codes "v"; value = expr.Minus v one } ∷ record { column = codes "w"; value = expr.One one } ∷ []) None)) ≡ codes "UPDATE t SET v = v - 1, w = 1"
unfolding digits
an_update = refl

-- OR and AND group from the left: only the right side of the same word has parentheses
left_or : canonical (delete (Or (Or (is one) (is one)) (Or (is one) (is one)))) ≡ codes "DELETE FROM t WHERE v = 1 OR v = 1 OR (v = 1 OR v = 1)"
unfolding digits
left_or = refl

left_and : canonical (delete (And (And (is one) (is one)) (And (is one) (is one)))) ≡ codes "DELETE FROM t WHERE v = 1 AND v = 1 AND (v = 1 AND v = 1)"
unfolding digits
left_and = refl

-- an AND under OR has none, and an OR or AND under NOT has
and_under_or : canonical (delete (Or (And (is one) (is one)) (And (is one) (Not (Not (is one)))))) ≡ codes "DELETE FROM t WHERE v = 1 AND v = 1 OR v = 1 AND NOT NOT v = 1"
unfolding digits
and_under_or = refl

under_not : canonical (delete (And (Not (And (is one) (is one))) (Not (Or (is one) (is one))))) ≡ codes "DELETE FROM t WHERE NOT (v = 1 AND v = 1) AND NOT (v = 1 OR v = 1)"
unfolding digits
under_not = refl
