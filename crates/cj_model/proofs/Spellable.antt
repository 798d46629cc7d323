-- What a text reads as has names, texts and numbers that can be spelled.
use Rattle.std.proofs.Common.{◌≡◌, refl, sym, subst, ℕ, zero, suc, ◌≤◌, ◌^◌, Bool, true, false, List, [], ◌∷◌, length, map, pos, negsuc, Option, Some, None, arith}
use Rattle.std.proofs.lemmas.Str.Ascii.{lowercase-lowercase}
use Rattle.cj_model.proofs.Common.{ColDef, ColRef, Expr, Items, Key, Select, Set, Term, Write, length-map, nat_tests}
use Rattle.cj_model.specs.declared.token.Token.{Token}
use Rattle.cj_model.specs.declared.token.Token.TheVariants as token
use Rattle.cj_model.specs.declared.token.Symbol.TheVariants as symbol
use Rattle.cj_model.specs.declared.value.Value.TheVariants as value
use Rattle.cj_model.specs.declared.term.Term.TheVariants as term
use Rattle.cj_model.specs.declared.term.Expr.TheVariants as expr
use Rattle.cj_model.specs.declared.select.Item.{Item}
use Rattle.cj_model.specs.declared.select.Item.TheVariants as item
use Rattle.cj_model.specs.declared.select.Items.TheVariants as items
use Rattle.cj_model.specs.declared.write.Write.TheVariants as write
use Rattle.cj_model.specs.declared.request.Request.{Request}
use Rattle.cj_model.specs.declared.request.Request.TheVariants as request
use Rattle.cj_model.specs.declared.term.Cmp.{Cmp}
use Rattle.cj_model.specs.declared.limits.TheConstants.{NAME_LIMIT, TEXT_LIMIT}
use Rattle.cj_model.specs.Database.Conditions.{Condition, Test, Not, And, Or}
use Rattle.cj_model.specs.Sql.Names.{lower, IsText}
use Rattle.cj_model.specs.Sql.Lexical.{is_letter, is_word, EachByte, IsWordSpelling, keyword, Spells, Tokens}
use Rattle.cj_model.specs.Sql.TermForms as t
use Rattle.cj_model.specs.Sql.TermForms.{ConstForm, TermForm, ExprForm, EachFits, commas, const_tokens, const_meant, qualifier_tokens, col_tokens, term_tokens, term_meant, expr_tokens, expr_meant}
use Rattle.cj_model.specs.Sql.ConditionForms as c
use Rattle.cj_model.specs.Sql.ConditionForms.{CondForm, OrsForm, ConjForm, AndsForm, PrimForm, cmp_token, cond_tokens, ors_tokens, conj_tokens, ands_tokens, prim_tokens, cond_meant, ors_meant, conj_meant, ands_meant, prim_meant}
use Rattle.cj_model.specs.Sql.Grammar as g
use Rattle.cj_model.specs.Sql.Grammar.{SetForm, Direction, KeyForm, SelectForm, Statement, name_tokens, kind_token, primary_tokens, coldef_tokens, tuple_tokens, list_tokens, set_tokens, where_tokens, item_tokens, items_tokens, group_tokens, direction_tokens, key_tokens, order_tokens, limit_tokens, statement_tokens, set_meant, where_meant, key_meant, statement_meant, end_tokens, TextReadsAs}

-- ---- tokens

-- what a token of some text is, with its names in lower case
abbrev pub IsToken : Token → Type 0
IsToken (token.Word k) = Unit {0}
IsToken (token.Name n) = IsWordSpelling n × (length n ≤ NAME_LIMIT) × (keyword n ≡ None) × (n ≡ map lower n)
IsToken (token.Number n) = n ≤ 2 ^ 63
IsToken (token.Text x) = IsText x × (length x ≤ TEXT_LIMIT)
IsToken (token.Symbol s) = Unit {0}

-- each of them is one
abbrev pub AreTokens : List Token → Type 0
AreTokens [] = Unit {0}
AreTokens (x ∷ xs) = IsToken x × AreTokens xs

letter_lower : (b : ℕ) → is_letter b ≡ true → is_letter (lower b) ≡ true
letter_lower b h = grind (arith, nat_tests, h)

word_lower : (b : ℕ) → is_word b ≡ true → is_word (lower b) ≡ true
word_lower b h = grind (arith, nat_tests, h)

each_lower : (z : List ℕ) → EachByte is_word z → EachByte is_word (map lower z)
each_lower [] h = tt
each_lower (b ∷ z) h = (word_lower b h.0, each_lower z h.1)

is_word_lower : (z : List ℕ) → IsWordSpelling z → IsWordSpelling (map lower z)
is_word_lower [] h = absurd h
is_word_lower (b ∷ z) h = (letter_lower b h.0, each_lower z h.1)

lower_again : (z : List ℕ) → map lower (map lower z) ≡ map lower z
lower_again [] = refl
lower_again (b ∷ z) = rw (lowercase-lowercase b, lower_again z) refl

spelled_name : (n z : List ℕ) → n ≡ map lower z → IsWordSpelling z → length z ≤ NAME_LIMIT → keyword n ≡ None → IsToken (token.Name n)
spelled_name n z e w l k =
    let same : length (map lower z) ≡ length z = length-map z lower in
    (rw e (is_word_lower z w), rw e (omega (arith, same, l)), k, rw e (sym (lower_again z)))

spelled_token : (x : Token) (z : List ℕ) → Spells x z → IsToken x
spelled_token (token.Word k) z h = tt
spelled_token (token.Name n) z h = spelled_name n z h.3 h.0 h.1 h.2
spelled_token (token.Number n) z h = h.2
spelled_token (token.Text x) z h = (h.1, h.2)
spelled_token (token.Symbol s) z h = tt

-- the tokens of a text
pub are_tokens : (xs : List Token) (text : List ℕ) → Tokens text xs → AreTokens xs
are_tokens [] text h = tt
are_tokens (x ∷ xs) text h = (spelled_token x h.1.spelling h.1.spells, are_tokens xs h.0 h.2)

-- ---- what is made of such tokens

abbrev pub FineName : List ℕ → Type 0
FineName n = IsToken (token.Name n)

abbrev pub FineTable : Option (List ℕ) → Type 0
FineTable None = Unit {0}
FineTable (Some n) = FineName n

abbrev pub FineCol : ColRef → Type 0
FineCol x = FineTable x.table × FineName x.column

abbrev pub FineTerm : Term → Type 0
FineTerm (term.Lit (value.Int (pos n))) = n ≤ 2 ^ 63
FineTerm (term.Lit (value.Int (negsuc n))) = suc n ≤ 2 ^ 63
FineTerm (term.Lit (value.Text x)) = IsToken (token.Text x)
FineTerm (term.Col x) = FineCol x
FineTerm term.Now = Unit {0}
FineTerm (term.Rand (pos n)) = n ≤ 2 ^ 63
FineTerm (term.Rand (negsuc n)) = ⊥

-- a term that isn't a column
abbrev pub IsConst : Term → Type 0
IsConst (term.Lit v) = Unit {0}
IsConst (term.Col x) = ⊥
IsConst term.Now = Unit {0}
IsConst (term.Rand n) = Unit {0}

abbrev pub FineConst : Term → Type 0
FineConst x = IsConst x × FineTerm x

abbrev pub FineExpr : Expr → Type 0
FineExpr (expr.One a) = FineTerm a
FineExpr (expr.Plus a b) = FineTerm a × FineTerm b
FineExpr (expr.Minus a b) = FineTerm a × FineTerm b

abbrev pub FineCond : Condition → Type 0
FineCond (Test op a b) = FineTerm a × FineTerm b
FineCond (Not x) = FineCond x
FineCond (And x y) = FineCond x × FineCond y
FineCond (Or x y) = FineCond x × FineCond y

abbrev pub FineWhere : Option Condition → Type 0
FineWhere None = Unit {0}
FineWhere (Some x) = FineCond x

abbrev pub FineColDef : ColDef → Type 0
FineColDef x = FineName x.name

abbrev pub FineList : Option (List (List ℕ)) → Type 0
FineList None = Unit {0}
FineList (Some names) = EachFits FineName names

abbrev pub FineSet : Set → Type 0
FineSet s = FineName s.column × FineExpr s.value

abbrev pub FineItem : Item → Type 0
FineItem (item.Col x) = FineCol x
FineItem item.Count = Unit {0}
FineItem (item.Sum x) = FineCol x

abbrev pub FineItems : Items → Type 0
FineItems items.All = Unit {0}
FineItems (items.Listed xs) = EachFits FineItem xs

abbrev pub FineGroup : Option ColRef → Type 0
FineGroup None = Unit {0}
FineGroup (Some x) = FineCol x

abbrev pub FineKey : Key → Type 0
FineKey k = FineCol k.col

abbrev pub FineLimit : Option ℕ → Type 0
FineLimit None = Unit {0}
FineLimit (Some n) = n ≤ 2 ^ 63

pub record FineSelect (s : Select) : Type 0 where
  pub items : FineItems s.items
  pub tables : EachFits FineName s.tables
  pub cond : FineWhere s.cond
  pub group : FineGroup s.group
  pub order : EachFits FineKey s.order
  pub limit : FineLimit s.limit

abbrev pub FineWrite : Write → Type 0
FineWrite (write.Insert n names rows) = FineName n × FineList names × EachFits (EachFits FineConst) rows
FineWrite (write.Update n sets o) = FineName n × EachFits FineSet sets × FineWhere o
FineWrite (write.Delete n o) = FineName n × FineWhere o

abbrev pub FineRequest : Request → Type 0
FineRequest (request.Create x) = FineName x.table × EachFits FineColDef x.columns
FineRequest (request.Drop n) = FineName n
FineRequest (request.Write w) = FineWrite w
FineRequest (request.Select s) = FineSelect s
FineRequest request.Begin = Unit {0}
FineRequest request.Commit = Unit {0}
FineRequest request.Rollback = Unit {0}

-- ---- terms

const_fine : (f : ConstForm) (rest : List Token) → AreTokens (const_tokens f rest) → FineConst (const_meant f) × AreTokens rest
const_fine (t.number n) rest h = ((tt, h.0), h.1)
const_fine (t.minus zero) rest h = ((tt, h.1.0), h.1.1)
const_fine (t.minus (suc n)) rest h = ((tt, h.1.0), h.1.1)
const_fine (t.string x) rest h = ((tt, h.0), h.1)
const_fine t.now rest h = ((tt, tt), h.1.1.1)
const_fine (t.rand n) rest h = ((tt, h.1.1.0), h.1.1.1.1)

table_fine : (o : Option (List ℕ)) (rest : List Token) → AreTokens (qualifier_tokens o rest) → FineTable o × AreTokens rest
table_fine None rest h = (tt, h)
table_fine (Some n) rest h = (h.0, h.1.1)

col_fine : (x : ColRef) (rest : List Token) → AreTokens (col_tokens x rest) → FineCol x × AreTokens rest
col_fine x rest h = let a = table_fine x.table (token.Name x.column ∷ rest) h in ((a.0, a.1.0), a.1.1)

term_fine : (f : TermForm) (rest : List Token) → AreTokens (term_tokens f rest) → FineTerm (term_meant f) × AreTokens rest
term_fine (t.constant x) rest h = let a = const_fine x rest h in (a.0.1, a.1)
term_fine (t.column x) rest h = col_fine x rest h

expr_fine : (f : ExprForm) (rest : List Token) → AreTokens (expr_tokens f rest) → FineExpr (expr_meant f) × AreTokens rest
expr_fine (t.one a) rest h = term_fine a rest h
expr_fine (t.sum a b) rest h =
    let x = term_fine a (token.Symbol symbol.Plus ∷ term_tokens b rest) h in
    let y = term_fine b rest x.1.1 in ((x.0, y.0), y.1)
expr_fine (t.difference a b) rest h =
    let x = term_fine a (token.Symbol symbol.Minus ∷ term_tokens b rest) h in
    let y = term_fine b rest x.1.1 in ((x.0, y.0), y.1)

-- ---- conditions

after_cmp : (op : Cmp) (rest : List Token) → AreTokens (cmp_token op ∷ rest) → AreTokens rest
after_cmp op rest h = h.1

mutual
  cond_fine : (f : CondForm) (rest : List Token) → AreTokens (cond_tokens f rest) → FineCond (cond_meant f) × AreTokens rest
  cond_fine (c.ors x m) rest h = let a = conj_fine x (ors_tokens m rest) h in ors_fine m (conj_meant x) rest a.0 a.1

  ors_fine : (m : OrsForm) (left : Condition) (rest : List Token) → FineCond left → AreTokens (ors_tokens m rest) → FineCond (ors_meant left m) × AreTokens rest
  ors_fine c.no_or left rest k h = (k, h)
  ors_fine (c.or x m) left rest k h = let a = conj_fine x (ors_tokens m rest) h.1 in ors_fine m (Or left (conj_meant x)) rest (k, a.0) a.1

  conj_fine : (f : ConjForm) (rest : List Token) → AreTokens (conj_tokens f rest) → FineCond (conj_meant f) × AreTokens rest
  conj_fine (c.ands p m) rest h = let a = prim_fine p (ands_tokens m rest) h in ands_fine m (prim_meant p) rest a.0 a.1

  ands_fine : (m : AndsForm) (left : Condition) (rest : List Token) → FineCond left → AreTokens (ands_tokens m rest) → FineCond (ands_meant left m) × AreTokens rest
  ands_fine c.no_and left rest k h = (k, h)
  ands_fine (c.and p m) left rest k h = let a = prim_fine p (ands_tokens m rest) h.1 in ands_fine m (And left (prim_meant p)) rest (k, a.0) a.1

  prim_fine : (f : PrimForm) (rest : List Token) → AreTokens (prim_tokens f rest) → FineCond (prim_meant f) × AreTokens rest
  prim_fine (c.not p) rest h = prim_fine p rest h.1
  prim_fine (c.parens x) rest h = let a = cond_fine x (token.Symbol symbol.Close ∷ rest) h.1 in (a.0, a.1.1)
  prim_fine (c.test a op b) rest h =
      let x = term_fine a (cmp_token op ∷ term_tokens b rest) h in
      let y = term_fine b rest (after_cmp op (term_tokens b rest) x.1) in ((x.0, y.0), y.1)

where_fine : (o : Option CondForm) (rest : List Token) → AreTokens (where_tokens o rest) → FineWhere (where_meant o) × AreTokens rest
where_fine None rest h = (tt, h)
where_fine (Some x) rest h = cond_fine x rest h.1

-- ---- lists

-- each item of a list is fine, where one is
commas_fine : {A B : Type 0} (item : A → List Token → List Token) (f : A → B) (P : B → Type 0) → ((x : A) (rest : List Token) → AreTokens (item x rest) → P (f x) × AreTokens rest)
    → (xs : List A) (rest : List Token) → AreTokens (commas item xs rest) → EachFits P (map f xs) × AreTokens rest
commas_fine item f P k [] rest h = (tt, h)
commas_fine item f P k (x ∷ []) rest h = let a = k x rest h in ((a.0, tt), a.1)
commas_fine item f P k (x ∷ y ∷ more) rest h =
    let a = k x (token.Symbol symbol.Comma ∷ commas item (y ∷ more) rest) h in
    let b = commas_fine item f P k (y ∷ more) rest a.1.1 in ((a.0, b.0), b.1)

-- the same, of items that mean themselves
list_fine : {A : Type 0} (item : A → List Token → List Token) (P : A → Type 0) → ((x : A) (rest : List Token) → AreTokens (item x rest) → P x × AreTokens rest)
    → (xs : List A) (rest : List Token) → AreTokens (commas item xs rest) → EachFits P xs × AreTokens rest
list_fine item P k [] rest h = (tt, h)
list_fine item P k (x ∷ []) rest h = let a = k x rest h in ((a.0, tt), a.1)
list_fine item P k (x ∷ y ∷ more) rest h =
    let a = k x (token.Symbol symbol.Comma ∷ commas item (y ∷ more) rest) h in
    let b = list_fine item P k (y ∷ more) rest a.1.1 in ((a.0, b.0), b.1)

name_fine : (n : List ℕ) (rest : List Token) → AreTokens (name_tokens n rest) → FineName n × AreTokens rest
name_fine n rest h = (h.0, h.1)

primary_fine : (b : Bool) (rest : List Token) → AreTokens (primary_tokens b rest) → AreTokens rest
primary_fine true rest h = h.1.1
primary_fine false rest h = h

coldef_fine : (x : ColDef) (rest : List Token) → AreTokens (coldef_tokens x rest) → FineColDef x × AreTokens rest
coldef_fine x rest h = (h.0, primary_fine x.key rest h.1.1)

tuple_fine : (xs : List ConstForm) (rest : List Token) → AreTokens (tuple_tokens xs rest) → EachFits FineConst (map const_meant xs) × AreTokens rest
tuple_fine xs rest h = let a = commas_fine const_tokens const_meant FineConst const_fine xs (token.Symbol symbol.Close ∷ rest) h.1 in (a.0, a.1.1)

names_fine : (o : Option (List (List ℕ))) (rest : List Token) → AreTokens (list_tokens o rest) → FineList o × AreTokens rest
names_fine None rest h = (tt, h)
names_fine (Some names) rest h = let a = list_fine name_tokens FineName name_fine names (token.Symbol symbol.Close ∷ rest) h.1 in (a.0, a.1.1)

set_fine : (s : SetForm) (rest : List Token) → AreTokens (set_tokens s rest) → FineSet (set_meant s) × AreTokens rest
set_fine s rest h = let a = expr_fine s.value rest h.1.1 in ((h.0, a.0), a.1)

-- ---- SELECT

item_fine : (x : Item) (rest : List Token) → AreTokens (item_tokens x rest) → FineItem x × AreTokens rest
item_fine (item.Col x) rest h = col_fine x rest h
item_fine item.Count rest h = (tt, h.1.1.1.1)
item_fine (item.Sum x) rest h = let a = col_fine x (token.Symbol symbol.Close ∷ rest) h.1.1 in (a.0, a.1.1)

items_fine : (xs : Items) (rest : List Token) → AreTokens (items_tokens xs rest) → FineItems xs × AreTokens rest
items_fine items.All rest h = (tt, h.1)
items_fine (items.Listed xs) rest h = list_fine item_tokens FineItem item_fine xs rest h

group_fine : (o : Option ColRef) (rest : List Token) → AreTokens (group_tokens o rest) → FineGroup o × AreTokens rest
group_fine None rest h = (tt, h)
group_fine (Some x) rest h = col_fine x rest h.1.1

direction_fine : (d : Direction) (rest : List Token) → AreTokens (direction_tokens d rest) → AreTokens rest
direction_fine g.unsaid rest h = h
direction_fine g.ascending rest h = h.1
direction_fine g.descending rest h = h.1

key_fine : (k : KeyForm) (rest : List Token) → AreTokens (key_tokens k rest) → FineKey (key_meant k) × AreTokens rest
key_fine k rest h = let a = col_fine k.col (direction_tokens k.direction rest) h in (a.0, direction_fine k.direction rest a.1)

order_fine : (ks : List KeyForm) (rest : List Token) → AreTokens (order_tokens ks rest) → EachFits FineKey (map key_meant ks) × AreTokens rest
order_fine [] rest h = (tt, h)
order_fine (k ∷ ks) rest h = commas_fine key_tokens key_meant FineKey key_fine (k ∷ ks) rest h.1.1

limit_fine : (o : Option ℕ) (rest : List Token) → AreTokens (limit_tokens o rest) → FineLimit o
limit_fine None rest h = tt
limit_fine (Some n) rest h = h.1.0

select_fine : (s : SelectForm) (rest : List Token) → AreTokens (g.select_tokens s rest) → FineSelect (g.select_meant s)
select_fine s rest h =
    let limit = limit_tokens s.limit rest in
    let order = order_tokens s.order limit in
    let group = group_tokens s.group order in
    let a = items_fine s.items _ h.1 in
    let b = list_fine name_tokens FineName name_fine s.tables (where_tokens s.cond group) a.1.1 in
    let d = where_fine s.cond group b.1 in
    let e = group_fine s.group order d.1 in
    let f = order_fine s.order limit e.1 in
    record { items = a.0; tables = b.0; cond = d.0; group = e.0; order = f.0; limit = limit_fine s.limit rest f.1 }

-- ---- statements

-- what a statement means is fine, where its tokens are tokens
pub statement_fine : (s : Statement) (rest : List Token) → AreTokens (statement_tokens s rest) → FineRequest (statement_meant s)
statement_fine (g.create n cs) rest h = (h.1.1.0, (list_fine coldef_tokens FineColDef coldef_fine cs (token.Symbol symbol.Close ∷ rest) h.1.1.1.1).0)
statement_fine (g.drop n) rest h = h.1.1.0
statement_fine (g.insert n names rows) rest h =
    let a = names_fine names _ h.1.1.1 in
    (h.1.1.0, a.0, (commas_fine tuple_tokens (map const_meant) (EachFits FineConst) tuple_fine rows rest a.1.1).0)
statement_fine (g.update n sets o) rest h =
    let a = commas_fine set_tokens set_meant FineSet set_fine sets (where_tokens o rest) h.1.1.1 in
    (h.1.0, a.0, (where_fine o rest a.1).0)
statement_fine (g.delete n o) rest h = (h.1.1.0, (where_fine o rest h.1.1.1).0)
statement_fine (g.select s) rest h = select_fine s rest h
statement_fine g.begin rest h = tt
statement_fine g.commit rest h = tt
statement_fine g.rollback rest h = tt

-- what some text reads as is fine
pub request_fine : (text : List ℕ) (r : Request) → TextReadsAs text r → FineRequest r
request_fine text r h =
    let s = h.reads.statement in
    let rest = end_tokens h.reads.semicolon in
    let are : AreTokens (statement_tokens s rest) = subst (λ xs. AreTokens xs) h.reads.tokens_are (are_tokens h.tokens text h.tokens_of) in
    subst FineRequest (sym h.reads.meant) (statement_fine s rest are)
