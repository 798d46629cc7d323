-- A request with values in place of its calls is plain.
use Rattle.std.proofs.Common.{◌≡◌, refl, ℕ, ℤ, Bool, true, List, [], ◌∷◌, Option, Some, None}
use Rattle.std.specs.List.{flat_map, list_all}
use Rattle.cj_macro.proofs.Common.{And, both_true, Col, Condition, condition_bounds, draws_behind, draws_for, each_rewritten, Expr, Lit, Minus, Not, Now, One, Or, Plus, Rand, Request, rewritten, rewritten_condition, rewritten_expr, rewritten_set, rewritten_term, rewritten_tuple, rewritten_where, rewritten_write, Set, set_bounds, Term, term_bounds, Test, tuple_bounds, Write}
use Rattle.cj_model.specs.declared.write.Write.TheVariants as write
use Rattle.cj_model.specs.declared.request.Request.TheVariants as request
use Rattle.cj_model.specs.Sql.PlainRequests.{is_plain_term, is_plain_expr, is_plain_condition, is_plain_where, is_plain_write, is_plain}

plain_term : (moment : ℤ) (draws : List ℕ) (t : Term) → is_plain_term (rewritten_term moment draws t) ≡ true
plain_term moment draws (Lit v) = refl
plain_term moment draws (Col c) = refl
plain_term moment draws Now = refl
plain_term moment draws (Rand n) = refl

plain_expr : (moment : ℤ) (draws : List ℕ) (e : Expr) → is_plain_expr (rewritten_expr moment draws e) ≡ true
plain_expr moment draws (One t) = plain_term moment draws t
plain_expr moment draws (Plus l r) = both_true (plain_term moment (draws_for (term_bounds l) draws) l) (plain_term moment (draws_behind (term_bounds l) draws) r)
plain_expr moment draws (Minus l r) = both_true (plain_term moment (draws_for (term_bounds l) draws) l) (plain_term moment (draws_behind (term_bounds l) draws) r)

plain_condition : (moment : ℤ) (draws : List ℕ) (c : Condition) → is_plain_condition (rewritten_condition moment draws c) ≡ true
plain_condition moment draws (Test cmp l r) = both_true (plain_term moment (draws_for (term_bounds l) draws) l) (plain_term moment (draws_behind (term_bounds l) draws) r)
plain_condition moment draws (Not c) = plain_condition moment draws c
plain_condition moment draws (And c d) = both_true (plain_condition moment (draws_for (condition_bounds c) draws) c) (plain_condition moment (draws_behind (condition_bounds c) draws) d)
plain_condition moment draws (Or c d) = both_true (plain_condition moment (draws_for (condition_bounds c) draws) c) (plain_condition moment (draws_behind (condition_bounds c) draws) d)

plain_where : (moment : ℤ) (draws : List ℕ) (o : Option Condition) → is_plain_where (rewritten_where moment draws o) ≡ true
plain_where moment draws None = refl
plain_where moment draws (Some c) = plain_condition moment draws c

-- each item passes a test, where each one does that is rewritten with any draws
each_passes : {A : Type 0} (test : A → Bool) (bounds_of : A → List ℕ) (item : List ℕ → A → A) → ((draws : List ℕ) (x : A) → test (item draws x) ≡ true)
    → (draws : List ℕ) (xs : List A) → list_all test (each_rewritten bounds_of item draws xs) ≡ true
each_passes test bounds_of item k draws [] = refl
each_passes test bounds_of item k draws (x ∷ xs) = both_true (k (draws_for (bounds_of x) draws) x) (each_passes test bounds_of item k (draws_behind (bounds_of x) draws) xs)

plain_tuple : (moment : ℤ) (draws : List ℕ) (row : List Term) → list_all is_plain_term (rewritten_tuple moment draws row) ≡ true
plain_tuple moment draws row = each_passes is_plain_term term_bounds (rewritten_term moment) (plain_term moment) draws row

plain_set : (moment : ℤ) (draws : List ℕ) (s : Set) → is_plain_expr (rewritten_set moment draws s).value ≡ true
plain_set moment draws s = plain_expr moment draws s.value

plain_write : (moment : ℤ) (draws : List ℕ) (w : Write) → is_plain_write (rewritten_write moment draws w) ≡ true
plain_write moment draws (write.Insert table columns rows) = each_passes (λ (row : List Term). list_all is_plain_term row) tuple_bounds (rewritten_tuple moment) (plain_tuple moment) draws rows
plain_write moment draws (write.Update table sets when) =
    both_true
    (each_passes (λ (s : Set). is_plain_expr s.value) set_bounds (rewritten_set moment) (plain_set moment) (draws_for (flat_map set_bounds sets) draws) sets)
    (plain_where moment (draws_behind (flat_map set_bounds sets) draws) when)
plain_write moment draws (write.Delete table when) = plain_where moment draws when

pub rewritten_is_plain : (moment : ℤ) (draws : List ℕ) (r : Request) → is_plain (rewritten moment draws r) ≡ true
rewritten_is_plain moment draws (request.Select s) = plain_where moment draws s.cond
rewritten_is_plain moment draws (request.Write w) = plain_write moment draws w
rewritten_is_plain moment draws (request.Create c) = refl
rewritten_is_plain moment draws (request.Drop table) = refl
rewritten_is_plain moment draws request.Begin = refl
rewritten_is_plain moment draws request.Commit = refl
rewritten_is_plain moment draws request.Rollback = refl
