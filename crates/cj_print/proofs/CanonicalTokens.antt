-- The canonical text of a request has the tokens of its canonical form.
use Rattle.std.proofs.Common.{◌≡◌, refl, sym, ap, subst, ℕ, suc, Bool, true, false, ◌||◌, List, [], ◌∷◌, ◌++◌, map, codes, pos, negsuc, Option, Some, None}
use Rattle.cj_print.proofs.Common.{And, ColRef, Condition, Expr, Key, Keyword, Not, Or, Request, Select, Set, Symbol, Term, Test, Token, Tokens, Value, Write, append-nil, append_assoc, decimal}
use Rattle.cj_model.specs.declared.token.Keyword.TheVariants as word
use Rattle.cj_model.specs.declared.token.Symbol.TheVariants as symbol
use Rattle.cj_model.specs.declared.token.Token.TheVariants as token
use Rattle.cj_model.specs.declared.value.Value.TheVariants as value
use Rattle.cj_model.specs.declared.value.Kind.{Kind}
use Rattle.cj_model.specs.declared.value.Kind.TheVariants as kind
use Rattle.cj_model.specs.declared.term.Term.TheVariants as term
use Rattle.cj_model.specs.declared.term.Expr.TheVariants as expr
use Rattle.cj_model.specs.declared.term.Cmp.{Cmp}
use Rattle.cj_model.specs.declared.term.Cmp.TheVariants as cmp
use Rattle.cj_model.specs.declared.schema.ColDef.{ColDef}
use Rattle.cj_model.specs.declared.select.Item.{Item}
use Rattle.cj_model.specs.declared.select.Item.TheVariants as item
use Rattle.cj_model.specs.declared.select.Items.{Items}
use Rattle.cj_model.specs.declared.select.Items.TheVariants as items
use Rattle.cj_model.specs.declared.write.Write.TheVariants as write
use Rattle.cj_model.specs.declared.request.Request.TheVariants as request
use Rattle.cj_model.specs.Sql.Literals.{literal, form_of}
use Rattle.cj_model.specs.Sql.TermForms.{EachFits, commas, const_tokens, qualifier_tokens, col_tokens, term_tokens, expr_tokens}
use Rattle.cj_model.specs.Sql.ConditionForms as c
use Rattle.cj_model.specs.Sql.ConditionForms.{CondForm, OrsForm, ConjForm, AndsForm, PrimForm, cmp_token, cond_tokens, ors_tokens, conj_tokens, ands_tokens, prim_tokens}
use Rattle.cj_model.specs.Sql.Grammar.{name_tokens, kind_token, primary_tokens, coldef_tokens, tuple_tokens, list_tokens, set_tokens, where_tokens, item_tokens, items_tokens, group_tokens, direction_tokens, key_tokens, order_tokens, limit_tokens, select_tokens, statement_tokens}
use Rattle.cj_print.specs.Canonical.{behind_commas, separated, name_text, qualifier_text, col_text, term_text, expr_text, cmp_text, is_and, is_or, bracketed, cond_text, where_text, kind_text, primary_text, coldef_text, tuple_text, list_text, set_text, write_text, item_text, items_text, group_text, direction_text, key_text, order_text, limit_text, select_text, canonical}
use Rattle.cj_print.proofs.Forms.{const_form, term_form, expr_form, or_end, and_end, or_also, and_also, forms, where_form, set_form, direction_form, key_form, select_form, write_form, form}
use Rattle.cj_model.proofs.Spellable.{IsToken, FineName, FineTable, FineCol, FineTerm, FineConst, FineExpr, FineCond, FineWhere, FineColDef, FineList, FineSet, FineItem, FineItems, FineGroup, FineKey, FineLimit, FineSelect, FineWrite, FineRequest}
use Rattle.cj_print.proofs.Spelling.{capitals, sign, space, comma, dot, left, right, ends, spaced, put_word, put_sign, put_name, put_number, put_text, put_minus, Spelled, Ended, Parts, Cuts, after, both_ended, then_part, then_end, as_spelled, no_text}

-- the same tokens, told otherwise
retold : (z : List ℕ) (f h : List Token → List Token) → ((xs : List Token) → h xs ≡ f xs) → Spelled z f → Spelled z h
retold z f h e x = record { before = λ rest xs p k. subst (λ ts. Tokens (z ++ rest) ts) (sym (e xs)) (x.before rest xs p k) }

-- ---- words and signs with the spaces around them

first_word : (k : Keyword) → Ended (capitals k ++ 32 ∷ []) (λ xs. token.Word k ∷ xs)
first_word k = record { before = λ rest xs h. rw (append_assoc (capitals k) (32 ∷ []) rest) (put_word k (32 ∷ rest) xs space (spaced rest xs h)) }

spaced_word : (k : Keyword) → Ended (32 ∷ (capitals k ++ 32 ∷ [])) (λ xs. token.Word k ∷ xs)
spaced_word k = record { before = λ rest xs h. spaced (capitals k ++ 32 ∷ [] ++ rest) (token.Word k ∷ xs) ((first_word k).before rest xs h) }

last_word : (k : Keyword) → Spelled (capitals k) (λ xs. token.Word k ∷ xs)
last_word k = record { before = λ rest xs p h. put_word k rest xs p h }

behind_word : (k : Keyword) → Spelled (32 ∷ capitals k) (λ xs. token.Word k ∷ xs)
behind_word k = record { before = λ rest xs p h. spaced (capitals k ++ rest) (token.Word k ∷ xs) (put_word k rest xs p h) }

spaced_sign : (s : Symbol) → Ended (32 ∷ (sign s ++ 32 ∷ [])) (λ xs. token.Symbol s ∷ xs)
spaced_sign s =
    record { before = λ rest xs h. spaced (sign s ++ 32 ∷ [] ++ rest) (token.Symbol s ∷ xs) (rw (append_assoc (sign s) (32 ∷ []) rest) (put_sign s (32 ∷ rest) xs (ends (token.Symbol s) (32 ∷ rest) space) (spaced rest xs h))) }

open_sign : Ended (codes "(") (λ xs. token.Symbol symbol.Open ∷ xs)
open_sign = record { before = λ rest xs h. put_sign symbol.Open rest xs tt h }

space_open : Ended (codes " (") (λ xs. token.Symbol symbol.Open ∷ xs)
space_open = record { before = λ rest xs h. spaced (40 ∷ rest) (token.Symbol symbol.Open ∷ xs) (put_sign symbol.Open rest xs tt h) }

close_sign : Ended (codes ")") (λ xs. token.Symbol symbol.Close ∷ xs)
close_sign = record { before = λ rest xs h. put_sign symbol.Close rest xs tt h }

comma_sign : Ended (codes ", ") (λ xs. token.Symbol symbol.Comma ∷ xs)
comma_sign = record { before = λ rest xs h. put_sign symbol.Comma (32 ∷ rest) xs tt (spaced rest xs h) }

dot_sign : Ended (codes ".") (λ xs. token.Symbol symbol.Dot ∷ xs)
dot_sign = record { before = λ rest xs h. put_sign symbol.Dot rest xs tt h }

-- a word right before `(`
call_word : (k : Keyword) → Ended (capitals k ++ 40 ∷ []) (λ xs. token.Word k ∷ token.Symbol symbol.Open ∷ xs)
call_word k =
    record { before = λ rest xs h. rw (append_assoc (capitals k) (40 ∷ []) rest) (put_word k (40 ∷ rest) (token.Symbol symbol.Open ∷ xs) left (put_sign symbol.Open rest xs tt h)) }

-- in parentheses
in_parens : (z : List ℕ) (f : List Token → List Token) → Spelled z f → Ended (codes "(" ++ z ++ codes ")") (λ xs. token.Symbol symbol.Open ∷ f (token.Symbol symbol.Close ∷ xs))
in_parens z f x = then_end _ _ _ _ (after _ _ _ _ open_sign x) (λ rest. right) close_sign

-- ---- terms

name_spelled : (n : List ℕ) → FineName n → Spelled (name_text n) (name_tokens n)
name_spelled n k = record { before = λ rest xs p h. put_name n rest xs k p h }

number_spelled : (n : ℕ) → IsToken (token.Number n) → Spelled (decimal n) (λ xs. token.Number n ∷ xs)
number_spelled n k = record { before = λ rest xs p h. put_number n rest xs k p h }

qualified : (o : Option (List ℕ)) (n : List ℕ) → FineTable o → FineName n → Spelled (qualifier_text o ++ n) (λ xs. qualifier_tokens o (token.Name n ∷ xs))
qualified None n k l = name_spelled n l
qualified (Some t) n k l = after _ _ _ _ (then_end _ _ _ _ (name_spelled t k) (λ rest. dot) dot_sign) (name_spelled n l)

col_spelled : (x : ColRef) → FineCol x → Spelled (col_text x) (col_tokens x)
col_spelled x k = retold _ _ _ (λ xs. refl) (qualified x.table x.column k.0 k.1)

literal_spelled : (v : Value) → FineTerm (term.Lit v) → Spelled (literal v) (const_tokens (form_of v))
literal_spelled (value.Int (pos n)) k = record { before = λ rest xs p h. put_number n rest xs k p h }
literal_spelled (value.Int (negsuc n)) k = record { before = λ rest xs p h. put_minus (suc n) rest xs k p h }
literal_spelled (value.Text x) k = record { before = λ rest xs p h. put_text x rest xs k p h }

now_spelled : Spelled (codes "NOW()") (λ xs. token.Word word.Now ∷ token.Symbol symbol.Open ∷ token.Symbol symbol.Close ∷ xs)
now_spelled = as_spelled _ _ (both_ended _ _ _ _ (call_word word.Now) close_sign)

rand_spelled : (n : ℕ) → IsToken (token.Number n)
    → Spelled (codes "RAND(" ++ decimal n ++ codes ")") (λ xs. token.Word word.Rand ∷ token.Symbol symbol.Open ∷ token.Number n ∷ token.Symbol symbol.Close ∷ xs)
rand_spelled n k = as_spelled _ _ (then_end _ _ _ _ (after _ _ _ _ (call_word word.Rand) (number_spelled n k)) (λ rest. right) close_sign)

const_spelled : (x : Term) → FineConst x → Spelled (term_text x) (const_tokens (const_form x))
const_spelled (term.Lit v) k = literal_spelled v k.1
const_spelled (term.Col x) k = absurd k.0
const_spelled term.Now k = retold _ _ _ (λ xs. refl) now_spelled
const_spelled (term.Rand (pos n)) k = retold _ _ _ (λ xs. refl) (rand_spelled n k.1)
const_spelled (term.Rand (negsuc n)) k = absurd k.1

term_spelled : (x : Term) → FineTerm x → Spelled (term_text x) (term_tokens (term_form x))
term_spelled (term.Lit v) k = retold _ _ _ (λ xs. refl) (literal_spelled v k)
term_spelled (term.Col x) k = retold _ _ _ (λ xs. refl) (col_spelled x k)
term_spelled term.Now k = retold _ _ _ (λ xs. refl) now_spelled
term_spelled (term.Rand (pos n)) k = retold _ _ _ (λ xs. refl) (rand_spelled n k)
term_spelled (term.Rand (negsuc n)) k = absurd k

expr_spelled : (x : Expr) → FineExpr x → Spelled (expr_text x) (expr_tokens (expr_form x))
expr_spelled (expr.One a) k = retold _ _ _ (λ xs. refl) (term_spelled a k)
expr_spelled (expr.Plus a b) k =
    retold _ _ _ (λ xs. refl) (after _ _ _ _ (then_end _ _ _ _ (term_spelled a k.0) (λ rest. space) (spaced_sign symbol.Plus)) (term_spelled b k.1))
expr_spelled (expr.Minus a b) k =
    retold _ _ _ (λ xs. refl) (after _ _ _ _ (then_end _ _ _ _ (term_spelled a k.0) (λ rest. space) (spaced_sign symbol.Minus)) (term_spelled b k.1))

-- ---- conditions

cmp_spelled : (op : Cmp) → Ended (cmp_text op) (λ xs. cmp_token op ∷ xs)
cmp_spelled cmp.Eq = spaced_sign symbol.Eq
cmp_spelled cmp.Ne = spaced_sign symbol.Ne
cmp_spelled cmp.Lt = spaced_sign symbol.Lt
cmp_spelled cmp.Le = spaced_sign symbol.Le
cmp_spelled cmp.Gt = spaced_sign symbol.Gt
cmp_spelled cmp.Ge = spaced_sign symbol.Ge

cmp_cuts : (op : Cmp) → Cuts (cmp_text op)
cmp_cuts cmp.Eq rest = space
cmp_cuts cmp.Ne rest = space
cmp_cuts cmp.Lt rest = space
cmp_cuts cmp.Le rest = space
cmp_cuts cmp.Gt rest = space
cmp_cuts cmp.Ge rest = space

-- what stands at the end of a chain comes after its tokens
or_end_tokens : (m : OrsForm) (x : ConjForm) (xs : List Token) → ors_tokens (or_end m x) xs ≡ ors_tokens m (token.Word word.Or ∷ conj_tokens x xs)
or_end_tokens c.no_or x xs = refl
or_end_tokens (c.or y m) x xs = ap (λ r. token.Word word.Or ∷ conj_tokens y r) (or_end_tokens m x xs)

and_end_tokens : (m : AndsForm) (x : PrimForm) (xs : List Token) → ands_tokens (and_end m x) xs ≡ ands_tokens m (token.Word word.And ∷ prim_tokens x xs)
and_end_tokens c.no_and x xs = refl
and_end_tokens (c.and y m) x xs = ap (λ r. token.Word word.And ∷ prim_tokens y r) (and_end_tokens m x xs)

or_also_tokens : (d : CondForm) (x : ConjForm) (xs : List Token) → cond_tokens (or_also d x) xs ≡ cond_tokens d (token.Word word.Or ∷ conj_tokens x xs)
or_also_tokens (c.ors y m) x xs = ap (λ r. conj_tokens y r) (or_end_tokens m x xs)

and_also_tokens : (j : ConjForm) (x : PrimForm) (xs : List Token) → conj_tokens (and_also j x) xs ≡ conj_tokens j (token.Word word.And ∷ prim_tokens x xs)
and_also_tokens (c.ands y m) x xs = ap (λ r. prim_tokens y r) (and_end_tokens m x xs)

-- the texts of a condition at its three places have the tokens of its three forms
record Places (x : Condition) : Type 0 where
  alone : Spelled (cond_text x) (cond_tokens (forms x).alone)
  joined : Spelled (bracketed (is_or x) (cond_text x)) (conj_tokens (forms x).joined)
  tight : Spelled (bracketed (is_or x || is_and x) (cond_text x)) (prim_tokens (forms x).tight)

bare : (z : List ℕ) (f : List Token → List Token) → Spelled z f → Spelled (bracketed false z) f
bare z f x = subst (λ y. Spelled y f) (sym (append-nil z)) x

enclosed : (z : List ℕ) (d : CondForm) → Spelled z (cond_tokens d) → Spelled (bracketed true z) (prim_tokens (c.parens d))
enclosed z d x = retold _ _ _ (λ xs. refl) (as_spelled _ _ (in_parens z (cond_tokens d) x))

cond_spelled : (x : Condition) → FineCond x → Places x
cond_spelled (Test op a b) k =
    let p = c.test (term_form a) op (term_form b) in
    let s : Spelled (cond_text (Test op a b)) (prim_tokens p) =
    retold _ _ _ (λ xs. refl) (after _ _ _ _ (then_end _ _ _ _ (term_spelled a k.0) (cmp_cuts op) (cmp_spelled op)) (term_spelled b k.1)) in
    record { alone = retold _ _ _ (λ xs. refl) s; joined = bare _ _ (retold _ _ _ (λ xs. refl) s); tight = bare _ _ s }
cond_spelled (Not x) k =
    let s : Spelled (cond_text (Not x)) (prim_tokens (c.not (forms x).tight)) = retold _ _ _ (λ xs. refl) (after _ _ _ _ (first_word word.Not) (cond_spelled x k).tight) in
    record { alone = retold _ _ _ (λ xs. refl) s; joined = bare _ _ (retold _ _ _ (λ xs. refl) s); tight = bare _ _ s }
cond_spelled (And a b) k =
    let s : Spelled (cond_text (And a b)) (conj_tokens (and_also (forms a).joined (forms b).tight)) =
    retold _ _ _ (and_also_tokens (forms a).joined (forms b).tight)
    (after _ _ _ _ (then_end _ _ _ _ (cond_spelled a k.0).joined (λ rest. space) (spaced_word word.And)) (cond_spelled b k.1).tight) in
    let d : Spelled (cond_text (And a b)) (cond_tokens (forms (And a b)).alone) = retold _ _ _ (λ xs. refl) s in
    record { alone = d; joined = bare _ _ s; tight = enclosed _ (forms (And a b)).alone d }
cond_spelled (Or a b) k =
    let d : Spelled (cond_text (Or a b)) (cond_tokens (or_also (forms a).alone (forms b).joined)) =
    retold _ _ _ (or_also_tokens (forms a).alone (forms b).joined)
    (after _ _ _ _ (then_end _ _ _ _ (cond_spelled a k.0).alone (λ rest. space) (spaced_word word.Or)) (cond_spelled b k.1).joined) in
    record { alone = d; joined = retold _ _ _ (λ xs. refl) (enclosed _ (forms (Or a b)).alone d); tight = enclosed _ (forms (Or a b)).alone d }

where_spelled : (o : Option Condition) → FineWhere o → Spelled (where_text o) (where_tokens (where_form o))
where_spelled None k = retold _ _ _ (λ xs. refl) no_text
where_spelled (Some x) k = retold _ _ _ (λ xs. refl) (after _ _ _ _ (spaced_word word.Where) (cond_spelled x k).alone)

where_parts : (o : Option Condition) → Parts (where_text o)
where_parts None rest p = p
where_parts (Some x) rest p = space

-- ---- lists

-- items behind commas have the tokens of a list
chain_spelled : {A : Type 0} (P : A → Type 0) (text : A → List ℕ) (item : A → List Token → List Token) → ((x : A) → P x → Spelled (text x) (item x))
    → (x : A) (xs : List A) → P x → EachFits P xs → Spelled (text x ++ behind_commas text xs) (commas item (x ∷ xs))
chain_spelled P text item one x [] k h = retold _ _ _ (λ xs. refl) (subst (λ y. Spelled y (item x)) (sym (append-nil (text x))) (one x k))
chain_spelled P text item one x (y ∷ ys) k h =
    retold _ _ _ (λ xs. refl) (then_part (text x) (codes ", " ++ (text y ++ behind_commas text ys)) _ _ (one x k) (λ rest p. comma) (after _ _ _ _ comma_sign (chain_spelled P text item one y ys h.0 h.1)))

separated_spelled : {A : Type 0} (P : A → Type 0) (text : A → List ℕ) (item : A → List Token → List Token) → ((x : A) → P x → Spelled (text x) (item x))
    → (xs : List A) → EachFits P xs → Spelled (separated text xs) (commas item xs)
separated_spelled P text item one [] h = retold _ _ _ (λ xs. refl) no_text
separated_spelled P text item one (x ∷ xs) h = chain_spelled P text item one x xs h.0 h.1

-- a list of forms has the tokens of a list of what they are made of
commas_mapped : {A F : Type 0} (tokens : F → List Token → List Token) (f : A → F) (xs : List A) (rest : List Token) → commas tokens (map f xs) rest ≡ commas (λ x. tokens (f x)) xs rest
commas_mapped tokens f [] rest = refl
commas_mapped tokens f (x ∷ []) rest = refl
commas_mapped tokens f (x ∷ y ∷ more) rest = ap (λ r. tokens (f x) (token.Symbol symbol.Comma ∷ r)) (commas_mapped tokens f (y ∷ more) rest)

forms_spelled : {A F : Type 0} (P : A → Type 0) (text : A → List ℕ) (tokens : F → List Token → List Token) (f : A → F) → ((x : A) → P x → Spelled (text x) (tokens (f x)))
    → (xs : List A) → EachFits P xs → Spelled (separated text xs) (commas tokens (map f xs))
forms_spelled P text tokens f one xs h = retold _ _ _ (commas_mapped tokens f xs) (separated_spelled P text (λ x. tokens (f x)) one xs h)

-- ---- CREATE

kind_spelled : (k : Kind) → Spelled (kind_text k) (λ xs. kind_token k ∷ xs)
kind_spelled kind.Integer = behind_word word.Integer
kind_spelled kind.Text = behind_word word.Text

kind_parts : (k : Kind) → Parts (kind_text k)
kind_parts kind.Integer rest p = space
kind_parts kind.Text rest p = space

primary_spelled : (b : Bool) → Spelled (primary_text b) (primary_tokens b)
primary_spelled true = retold _ _ _ (λ xs. refl) (after _ _ _ _ (spaced_word word.Primary) (last_word word.Key))
primary_spelled false = retold _ _ _ (λ xs. refl) no_text

primary_parts : (b : Bool) → Parts (primary_text b)
primary_parts true rest p = space
primary_parts false rest p = p

coldef_spelled : (x : ColDef) → FineColDef x → Spelled (coldef_text x) (coldef_tokens x)
coldef_spelled x k =
    retold _ _ _ (λ xs. refl) (then_part _ _ _ _ (then_part _ _ _ _ (name_spelled x.name k) (kind_parts x.kind) (kind_spelled x.kind)) (primary_parts x.key) (primary_spelled x.key))

-- ---- INSERT, UPDATE, DELETE

tuple_spelled : (xs : List Term) → EachFits FineConst xs → Spelled (tuple_text xs) (tuple_tokens (map const_form xs))
tuple_spelled xs k = retold _ _ _ (λ ts. refl) (as_spelled _ _ (in_parens _ _ (forms_spelled FineConst term_text const_tokens const_form const_spelled xs k)))

list_spelled : (o : Option (List (List ℕ))) → FineList o → Spelled (list_text o) (list_tokens o)
list_spelled None k = retold _ _ _ (λ xs. refl) no_text
list_spelled (Some names) k =
    retold _ _ _ (λ xs. refl)
    (as_spelled _ _ (then_end _ _ _ _ (after _ _ _ _ space_open (separated_spelled FineName name_text name_tokens name_spelled names k)) (λ rest. right) close_sign))

list_parts : (o : Option (List (List ℕ))) → Parts (list_text o)
list_parts None rest p = p
list_parts (Some names) rest p = space

set_spelled : (s : Set) → FineSet s → Spelled (set_text s) (set_tokens (set_form s))
set_spelled s k =
    retold _ _ _ (λ xs. refl) (after _ _ _ _ (then_end _ _ _ _ (name_spelled s.column k.0) (λ rest. space) (spaced_sign symbol.Eq)) (expr_spelled s.value k.1))

write_spelled : (w : Write) → FineWrite w → Spelled (write_text w) (statement_tokens (write_form w))
write_spelled (write.Insert n names rows) k =
    retold _ _ _ (λ xs. refl)
    (after _ _ _ _
    (then_end _ _ _ _
    (then_part _ _ _ _ (after _ _ _ _ (both_ended _ _ _ _ (first_word word.Insert) (first_word word.Into)) (name_spelled n k.0)) (list_parts names) (list_spelled names k.1))
    (λ rest. space) (spaced_word word.Values))
    (forms_spelled (EachFits FineConst) tuple_text tuple_tokens (map const_form) tuple_spelled rows k.2))
write_spelled (write.Update n sets o) k =
    retold _ _ _ (λ xs. refl)
    (then_part _ _ _ _
    (after _ _ _ _ (then_end _ _ _ _ (after _ _ _ _ (first_word word.Update) (name_spelled n k.0)) (λ rest. space) (spaced_word word.Set))
    (forms_spelled FineSet set_text set_tokens set_form set_spelled sets k.1))
    (where_parts o) (where_spelled o k.2))
write_spelled (write.Delete n o) k =
    retold _ _ _ (λ xs. refl)
    (then_part _ _ _ _ (after _ _ _ _ (both_ended _ _ _ _ (first_word word.Delete) (first_word word.From)) (name_spelled n k.0)) (where_parts o) (where_spelled o k.1))

-- ---- SELECT

item_spelled : (x : Item) → FineItem x → Spelled (item_text x) (item_tokens x)
item_spelled (item.Col x) k = retold _ _ _ (λ xs. refl) (col_spelled x k)
item_spelled item.Count k =
    record { before = λ rest xs p h. (call_word word.Count).before (42 ∷ 41 ∷ rest) (token.Symbol symbol.Star ∷ token.Symbol symbol.Close ∷ xs) (put_sign symbol.Star (41 ∷ rest) (token.Symbol symbol.Close ∷ xs) tt (put_sign symbol.Close rest xs tt h)) }
item_spelled (item.Sum x) k =
    retold _ _ _ (λ xs. refl) (as_spelled _ _ (then_end _ _ _ _ (after _ _ _ _ (call_word word.Sum) (col_spelled x k)) (λ rest. right) close_sign))

items_spelled : (xs : Items) → FineItems xs → Spelled (items_text xs) (items_tokens xs)
items_spelled items.All k = record { before = λ rest xs p h. put_sign symbol.Star rest xs tt h }
items_spelled (items.Listed xs) k = retold _ _ _ (λ ts. refl) (separated_spelled FineItem item_text item_tokens item_spelled xs k)

group_spelled : (o : Option ColRef) → FineGroup o → Spelled (group_text o) (group_tokens o)
group_spelled None k = retold _ _ _ (λ xs. refl) no_text
group_spelled (Some x) k = retold _ _ _ (λ xs. refl) (after _ _ _ _ (both_ended _ _ _ _ (spaced_word word.Group) (first_word word.By)) (col_spelled x k))

group_parts : (o : Option ColRef) → Parts (group_text o)
group_parts None rest p = p
group_parts (Some x) rest p = space

direction_spelled : (b : Bool) → Spelled (direction_text b) (direction_tokens (direction_form b))
direction_spelled true = retold _ _ _ (λ xs. refl) (behind_word word.Desc)
direction_spelled false = retold _ _ _ (λ xs. refl) no_text

direction_parts : (b : Bool) → Parts (direction_text b)
direction_parts true rest p = space
direction_parts false rest p = p

key_spelled : (x : Key) → FineKey x → Spelled (key_text x) (key_tokens (key_form x))
key_spelled x k = retold _ _ _ (λ xs. refl) (then_part _ _ _ _ (col_spelled x.col k) (direction_parts x.desc) (direction_spelled x.desc))

order_spelled : (ks : List Key) → EachFits FineKey ks → Spelled (order_text ks) (order_tokens (map key_form ks))
order_spelled [] h = retold _ _ _ (λ xs. refl) no_text
order_spelled (k ∷ ks) h =
    retold _ _ _ (λ xs. refl)
    (after _ _ _ _ (both_ended _ _ _ _ (spaced_word word.Order) (first_word word.By)) (forms_spelled FineKey key_text key_tokens key_form key_spelled (k ∷ ks) h))

order_parts : (ks : List Key) → Parts (order_text ks)
order_parts [] rest p = p
order_parts (k ∷ ks) rest p = space

limit_spelled : (o : Option ℕ) → FineLimit o → Spelled (limit_text o) (limit_tokens o)
limit_spelled None k = retold _ _ _ (λ xs. refl) no_text
limit_spelled (Some n) k = retold _ _ _ (λ xs. refl) (after _ _ _ _ (spaced_word word.Limit) (number_spelled n k))

limit_parts : (o : Option ℕ) → Parts (limit_text o)
limit_parts None rest p = p
limit_parts (Some n) rest p = space

select_spelled : (s : Select) → FineSelect s → Spelled (select_text s) (select_tokens (select_form s))
select_spelled s k =
    let head = then_end _ _ _ _ (after _ _ _ _ (first_word word.Select) (items_spelled s.items k.items)) (λ rest. space) (spaced_word word.From) in
    let tables = after _ _ _ _ head (separated_spelled FineName name_text name_tokens name_spelled s.tables k.tables) in
    let cond = then_part _ _ _ _ tables (where_parts s.cond) (where_spelled s.cond k.cond) in
    let group = then_part _ _ _ _ cond (group_parts s.group) (group_spelled s.group k.group) in
    let order = then_part _ _ _ _ group (order_parts s.order) (order_spelled s.order k.order) in
    retold _ _ _ (λ xs. refl) (then_part _ _ _ _ order (limit_parts s.limit) (limit_spelled s.limit k.limit))

-- ---- requests

-- the canonical text has the tokens of the canonical form
pub canonical_spelled : (r : Request) → FineRequest r → Spelled (canonical r) (statement_tokens (form r))
canonical_spelled (request.Create x) k =
    retold _ _ _ (λ xs. refl)
    (as_spelled _ _
    (then_end _ _ _ _
    (after _ _ _ _ (then_end _ _ _ _ (after _ _ _ _ (both_ended _ _ _ _ (first_word word.Create) (first_word word.Table)) (name_spelled x.table k.0)) (λ rest. space) space_open)
    (separated_spelled FineColDef coldef_text coldef_tokens coldef_spelled x.columns k.1))
    (λ rest. right) close_sign))
canonical_spelled (request.Drop n) k = retold _ _ _ (λ xs. refl) (after _ _ _ _ (both_ended _ _ _ _ (first_word word.Drop) (first_word word.Table)) (name_spelled n k))
canonical_spelled (request.Write w) k = retold _ _ _ (λ xs. refl) (write_spelled w k)
canonical_spelled (request.Select s) k = retold _ _ _ (λ xs. refl) (select_spelled s k)
canonical_spelled request.Begin k = retold _ _ _ (λ xs. refl) (last_word word.Begin)
canonical_spelled request.Commit k = retold _ _ _ (λ xs. refl) (last_word word.Commit)
canonical_spelled request.Rollback k = retold _ _ _ (λ xs. refl) (last_word word.Rollback)
