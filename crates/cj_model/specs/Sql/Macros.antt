-- Calls of clock and random numbers: the draws that a request asks for, and the request with values for the calls.
-- Each NOW() is replaced by one moment, and each RAND(n) by a draw of its own from 0 to n - 1, in text order.
use Rattle.std.specs.Prelude.{ℕ, ℤ, pos, negsuc, ◌<◌, ◌^◌, List, [], ◌∷◌, ◌++◌, All, drop, flat_map, fold, length, take}
use Rattle.std.specs.declared.option.Option.{Option}
use Rattle.std.specs.declared.option.Option.TheVariants.{None, Some}
use Rattle.cj_model.specs.declared.value.Value.TheVariants as value
use Rattle.cj_model.specs.declared.term.Term.{Term}
use Rattle.cj_model.specs.declared.term.Term.TheVariants.{Lit, Col, Now, Rand}
use Rattle.cj_model.specs.declared.term.Expr.{Expr}
use Rattle.cj_model.specs.declared.term.Expr.TheVariants.{One, Plus, Minus}
use Rattle.cj_model.specs.declared.select.Select.{Select}
use Rattle.cj_model.specs.declared.write.Set.{Set}
use Rattle.cj_model.specs.declared.write.Write.{Write}
use Rattle.cj_model.specs.declared.write.Write.TheVariants as write
use Rattle.cj_model.specs.declared.request.Request.{Request}
use Rattle.cj_model.specs.declared.request.Request.TheVariants as request
use Rattle.cj_model.specs.Database.Conditions.{Condition, Test, Not, And, Or}

-- ---- the numbers of the RANDs, in text order

-- the number itself if it isn't negative
abbrev pub natural_of : ℤ → ℕ
natural_of (pos n) = n
natural_of (negsuc n) = 0

abbrev pub term_bounds : Term → List ℕ
term_bounds (Lit v) = []
term_bounds (Col c) = []
term_bounds Now = []
term_bounds (Rand n) = natural_of n ∷ []

abbrev pub expr_bounds : Expr → List ℕ
expr_bounds (One t) = term_bounds t
expr_bounds (Plus l r) = term_bounds l ++ term_bounds r
expr_bounds (Minus l r) = term_bounds l ++ term_bounds r

abbrev pub condition_bounds : Condition → List ℕ
condition_bounds (Test cmp l r) = term_bounds l ++ term_bounds r
condition_bounds (Not c) = condition_bounds c
condition_bounds (And c d) = condition_bounds c ++ condition_bounds d
condition_bounds (Or c d) = condition_bounds c ++ condition_bounds d

abbrev pub where_bounds : Option Condition → List ℕ
where_bounds None = []
where_bounds (Some c) = condition_bounds c

abbrev pub tuple_bounds : List Term → List ℕ
tuple_bounds row = flat_map term_bounds row

abbrev pub set_bounds : Set → List ℕ
set_bounds s = expr_bounds s.value

-- an INSERT's tuple by tuple; an UPDATE's assignments, then its WHERE
abbrev pub write_bounds : Write → List ℕ
write_bounds (write.Insert table columns rows) = flat_map tuple_bounds rows
write_bounds (write.Update table sets when) = flat_map set_bounds sets ++ where_bounds when
write_bounds (write.Delete table when) = where_bounds when

abbrev pub bounds : Request → List ℕ
bounds (request.Select s) = where_bounds s.cond
bounds (request.Write w) = write_bounds w
bounds (request.Create c) = []
bounds (request.Drop table) = []
bounds request.Begin = []
bounds request.Commit = []
bounds request.Rollback = []

-- there is something to choose from, and each choice is in the range of 64 bits with a sign
abbrev pub IsDrawable : ℕ → Type 0
IsDrawable n = (0 < n) × (n < 2 ^ 63)

-- each RAND of the request has a number of at least 1, and below 2^63
abbrev pub RandsAreDrawable : Request → Type 0
RandsAreDrawable r = All IsDrawable (bounds r)

-- ---- draws

-- The draws from a state, one for each bound in turn. The state fixes what is drawn next, and the state after it.
abbrev pub draws_from : {S : Type 0} → (S → ℕ → ℕ) → (S → ℕ → S) → S → List ℕ → List ℕ
draws_from drawn later state [] = []
draws_from drawn later state (n ∷ ns) = drawn state n ∷ draws_from drawn later (later state n) ns

-- the state after a draw for each bound
abbrev pub generator_after_draws : {S : Type 0} → (S → ℕ → S) → S → List ℕ → S
generator_after_draws later state ns = fold later state ns

-- the first of the draws, one for each bound
abbrev pub draws_for : List ℕ → List ℕ → List ℕ
draws_for bounds draws = take (length bounds) draws

-- the draws after the first ones, of which there is one for each bound
abbrev pub draws_behind : List ℕ → List ℕ → List ℕ
draws_behind bounds draws = drop (length bounds) draws

-- ---- values in place of the calls

-- the first draw
abbrev pub first_draw : List ℕ → ℕ
first_draw [] = 0
first_draw (draw ∷ draws) = draw

abbrev pub rewritten_term : ℤ → List ℕ → Term → Term
rewritten_term moment draws (Lit v) = Lit v
rewritten_term moment draws (Col c) = Col c
rewritten_term moment draws Now = Lit (value.Int moment)
rewritten_term moment draws (Rand n) = Lit (value.Int (pos (first_draw draws)))

-- the expression with values: the left side uses the first of the draws, the right side the next ones
abbrev pub rewritten_expr : ℤ → List ℕ → Expr → Expr
rewritten_expr moment draws (One t) = One (rewritten_term moment draws t)
rewritten_expr moment draws (Plus l r) = Plus (rewritten_term moment (draws_for (term_bounds l) draws) l) (rewritten_term moment (draws_behind (term_bounds l) draws) r)
rewritten_expr moment draws (Minus l r) = Minus (rewritten_term moment (draws_for (term_bounds l) draws) l) (rewritten_term moment (draws_behind (term_bounds l) draws) r)

abbrev pub rewritten_condition : ℤ → List ℕ → Condition → Condition
rewritten_condition moment draws (Test cmp l r) = Test cmp (rewritten_term moment (draws_for (term_bounds l) draws) l) (rewritten_term moment (draws_behind (term_bounds l) draws) r)
rewritten_condition moment draws (Not c) = Not (rewritten_condition moment draws c)
rewritten_condition moment draws (And c d) =
    And (rewritten_condition moment (draws_for (condition_bounds c) draws) c) (rewritten_condition moment (draws_behind (condition_bounds c) draws) d)
rewritten_condition moment draws (Or c d) =
    Or (rewritten_condition moment (draws_for (condition_bounds c) draws) c) (rewritten_condition moment (draws_behind (condition_bounds c) draws) d)

abbrev pub rewritten_where : ℤ → List ℕ → Option Condition → Option Condition
rewritten_where moment draws None = None
rewritten_where moment draws (Some c) = Some (rewritten_condition moment draws c)

-- the items with values: each in turn uses as many draws as it has RANDs, and the next items the draws after them
abbrev pub each_rewritten : {A : Type 0} → (A → List ℕ) → (List ℕ → A → A) → List ℕ → List A → List A
each_rewritten bounds_of rewritten_item draws [] = []
each_rewritten bounds_of rewritten_item draws (x ∷ xs) =
    rewritten_item (draws_for (bounds_of x) draws) x ∷ each_rewritten bounds_of rewritten_item (draws_behind (bounds_of x) draws) xs

abbrev pub rewritten_tuple : ℤ → List ℕ → List Term → List Term
rewritten_tuple moment draws row = each_rewritten term_bounds (rewritten_term moment) draws row

abbrev pub rewritten_set : ℤ → List ℕ → Set → Set
rewritten_set moment draws s = record { column = s.column; value = rewritten_expr moment draws s.value }

-- the write with values: an UPDATE's assignments use the first of the draws, its WHERE the next ones
abbrev pub rewritten_write : ℤ → List ℕ → Write → Write
rewritten_write moment draws (write.Insert table columns rows) = write.Insert table columns (each_rewritten tuple_bounds (rewritten_tuple moment) draws rows)
rewritten_write moment draws (write.Update table sets when) =
    write.Update table
    (each_rewritten set_bounds (rewritten_set moment) (draws_for (flat_map set_bounds sets) draws) sets)
    (rewritten_where moment (draws_behind (flat_map set_bounds sets) draws) when)
rewritten_write moment draws (write.Delete table when) = write.Delete table (rewritten_where moment draws when)

abbrev pub rewritten_select : ℤ → List ℕ → Select → Select
rewritten_select moment draws s = record s { cond = rewritten_where moment draws s.cond }

-- the request with each NOW the literal of the moment, and each RAND the literal of its draw
abbrev pub rewritten : ℤ → List ℕ → Request → Request
rewritten moment draws (request.Select s) = request.Select (rewritten_select moment draws s)
rewritten moment draws (request.Write w) = request.Write (rewritten_write moment draws w)
rewritten moment draws (request.Create c) = request.Create c
rewritten moment draws (request.Drop table) = request.Drop table
rewritten moment draws request.Begin = request.Begin
rewritten moment draws request.Commit = request.Commit
rewritten moment draws request.Rollback = request.Rollback
