-- The canonical form of what a statement means means the same, and fits where the statement does.
use Rattle.std.proofs.Common.{◌≡◌, ◌∙◌, refl, ap, ℕ, Bool, List, [], ◌∷◌, length, map, Option, Some, None, arith}
use Rattle.cj_print.proofs.Common.{Condition, Expr, Key, Select, Set, length-map}
use Rattle.cj_model.specs.declared.write.Write.TheVariants as write
use Rattle.cj_model.specs.declared.request.Request.TheVariants as request
use Rattle.cj_model.specs.Sql.TermForms.{EachFits, SomeFit, const_meant, ConstFits}
use Rattle.cj_model.specs.Sql.ConditionForms.{CondForm}
use Rattle.cj_model.specs.Sql.Grammar as g
use Rattle.cj_model.specs.Sql.Grammar.{SetForm, Direction, KeyForm, SelectForm, Statement, set_meant, where_meant, descends, key_meant, select_meant, statement_meant, SetFits, WhereFits, StatementFits}
use Rattle.cj_print.proofs.Forms.{const_form, where_form, set_form, direction_form, key_form, select_form, form}
use Rattle.cj_print.proofs.FewestParentheses.{const_means, const_least, expr_means, expr_least, cond_means, cond_fits}

-- ---- lists

-- what is written anew of each item means the same
means_again : {A B : Type 0} (f : A → B) (w : B → A) → ((x : A) → f (w (f x)) ≡ f x) → (xs : List A) → map f (map w (map f xs)) ≡ map f xs
means_again f w e [] = refl
means_again f w e (x ∷ xs) = rw (e x, means_again f w e xs) refl

-- and each fits
each_again : {A B : Type 0} (P : A → Type 0) (f : A → B) (w : B → A) → ((x : A) → P x → P (w (f x))) → (xs : List A) → EachFits P xs → EachFits P (map w (map f xs))
each_again P f w k [] h = tt
each_again P f w k (x ∷ xs) h = (k x h.0, each_again P f w k xs h.1)

-- there are as many
length_again : {A B : Type 0} (f : A → B) (w : B → A) (xs : List A) → length (map w (map f xs)) ≡ length xs
length_again f w xs = length-map (map f xs) w ∙ length-map xs f

some_again : {A B : Type 0} (P : A → Type 0) (f : A → B) (w : B → A) → ((x : A) → P x → P (w (f x))) → (n : ℕ) (xs : List A) → SomeFit P n xs → SomeFit P n (map w (map f xs))
some_again P f w k n xs h =
    let e = length_again f w xs in
    let some = h.0 in
    let few = h.1 in
    (omega (arith, e, some), omega (arith, e, few), each_again P f w k xs h.2)

-- ---- meaning

set_means : (s : SetForm) → set_meant (set_form (set_meant s)) ≡ set_meant s
set_means s = let f : Expr → Set = λ e. record { column = s.column; value = e } in ap f (expr_means s.value)

where_means : (o : Option CondForm) → where_meant (where_form (where_meant o)) ≡ where_meant o
where_means None = refl
where_means (Some x) = ap (λ y. Some y) (cond_means x)

direction_means : (d : Direction) → descends (direction_form (descends d)) ≡ descends d
direction_means g.unsaid = refl
direction_means g.ascending = refl
direction_means g.descending = refl

key_means : (k : KeyForm) → key_meant (key_form (key_meant k)) ≡ key_meant k
key_means k = let f : Bool → Key = λ b. record { col = k.col; desc = b } in ap f (direction_means k.direction)

select_means : (s : SelectForm) → select_meant (select_form (select_meant s)) ≡ select_meant s
select_means s =
    let f : Option Condition → List Key → Select = λ o ks. record { items = s.items; tables = s.tables; cond = o; group = s.group; order = ks; limit = s.limit } in
    ap (λ o. f o (map key_meant (map key_form (map key_meant s.order)))) (where_means s.cond) ∙ ap (f (where_meant s.cond)) (means_again key_meant key_form key_means s.order)

pub form_means : (s : Statement) → statement_meant (form (statement_meant s)) ≡ statement_meant s
form_means (g.create n cs) = refl
form_means (g.drop n) = refl
form_means (g.insert n names rows) =
    ap (λ xs. request.Write (write.Insert n names xs)) (means_again (map const_meant) (map const_form) (means_again const_meant const_form const_means) rows)
form_means (g.update n sets o) =
    ap (λ xs. request.Write (write.Update n xs (where_meant (where_form (where_meant o))))) (means_again set_meant set_form set_means sets)
    ∙ ap (λ y. request.Write (write.Update n (map set_meant sets) y)) (where_means o)
form_means (g.delete n o) = ap (λ y. request.Write (write.Delete n y)) (where_means o)
form_means (g.select s) = ap (λ y. request.Select y) (select_means s)
form_means g.begin = refl
form_means g.commit = refl
form_means g.rollback = refl

-- ---- limits

where_fits : (o : Option CondForm) → WhereFits o → WhereFits (where_form (where_meant o))
where_fits None h = tt
where_fits (Some x) h = cond_fits x h

set_fits : (s : SetForm) → SetFits s → SetFits (set_form (set_meant s))
set_fits s h = expr_least s.value h

pub form_fits : (s : Statement) → StatementFits s → StatementFits (form (statement_meant s))
form_fits (g.create n cs) h = h
form_fits (g.drop n) h = tt
form_fits (g.insert n names rows) h =
    (h.0, some_again (SomeFit ConstFits 16) (map const_meant) (map const_form) (some_again ConstFits const_meant const_form const_least 16) 4096 rows h.1)
form_fits (g.update n sets o) h = (some_again SetFits set_meant set_form set_fits 16 sets h.0, where_fits o h.1)
form_fits (g.delete n o) h = where_fits o h
form_fits (g.select s) h =
    record {
      items = h.items;
      tables = h.tables;
      different = h.different;
      cond = where_fits s.cond h.cond;
      order = let e = length_again key_meant key_form s.order in let few = h.order in omega (arith, e, few);
      limit = h.limit;
      alone = h.alone;
    }
form_fits g.begin h = tt
form_fits g.commit h = tt
form_fits g.rollback h = tt
