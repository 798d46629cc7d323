-- Laws of the result cache.
use Rattle.std.proofs.Common.{◌≡◌, true, false, cond, List, [], ◌∷◌, refl, ap, sym, ◌∙◌, subst, ⊎_elim}
use Rattle.std.specs.Prelude.{⊤, All, IfSome}
use Rattle.std.specs.Option.{option_map}
use Rattle.std.specs.declared.option.Option.{Option}
use Rattle.std.specs.declared.option.Option.TheVariants.{None, Some}
use Rattle.std.proofs.lemmas.List.Elements.{All-cons, All-head, All-tail, All-take}
use Rattle.std.proofs.lemmas.Bool.{both_ways, cases_Bool}
use Rattle.cj_model.proofs.Common.{Answer, Select, cons_option}
use Rattle.cj_model.specs.declared.cached.Cached.{Cached}
use Rattle.cj_model.specs.Proving.SameStatements.{same_statement-Decides}
use Rattle.cj_model.specs.Cluster.Caching.{CacheState, brought_to_front, cached_entry, is_entry_for, answer_kept, after_look, after_keep, without}

no : {A : Type 0} → false ≡ true → A
no e = absurd (both_ways false refl e)

-- ---- what holds of each entry

-- the entry that is found is one of the statement
entry_found : (P : Cached → Type 0) (s : Select) (entries : List Cached) → All P entries → IfSome (cached_entry s entries) (λ e. (e.select ≡ s) × P e)
entry_found P s [] all = tt
entry_found P s (e ∷ entries) all = ⊎_elim
    (λ (same : is_entry_for s e ≡ true). subst (λ b. IfSome (cond b (Some e) (cached_entry s entries)) (λ (f : Cached). (f.select ≡ s) × P f)) (sym same) (sym ((same_statement-Decides s e.select).0 same), All-head P e entries all))
    (λ (other : is_entry_for s e ≡ false). subst (λ b. IfSome (cond b (Some e) (cached_entry s entries)) (λ (f : Cached). (f.select ≡ s) × P f)) (sym other) (entry_found P s entries (All-tail P e entries all)))
    (cases_Bool (is_entry_for s e))

-- what holds of each entry holds of the one whose answer is given
pub kept_answer : (P : Cached → Type 0) (s : Select) (c : CacheState) (a : Answer) → All P c.entries → answer_kept s c ≡ Some a → (e : Cached) × (e.select ≡ s) × (e.answer ≡ a) × P e
kept_answer P s c a all is = from (cached_entry s c.entries) (entry_found P s c.entries all) is
  where
    from : (o : Option Cached) → IfSome o (λ e. (e.select ≡ s) × P e) → option_map (λ (e : Cached). e.answer) o ≡ Some a → (e : Cached) × (e.select ≡ s) × (e.answer ≡ a) × P e
    from None h e = cc
    from (Some e) h is = (e, h.0, cc, h.1)

all_without : (P : Cached → Type 0) (s : Select) (entries : List Cached) → All P entries → All P (without s entries)
all_without P s [] all = all
all_without P s (e ∷ entries) all = ⊎_elim
    (λ (same : is_entry_for s e ≡ true). subst (λ b. All P (cond b entries (e ∷ without s entries))) (sym same) (All-tail P e entries all))
    (λ (other : is_entry_for s e ≡ false). subst (λ b. All P (cond b entries (e ∷ without s entries))) (sym other) (All-cons P e (without s entries) (All-head P e entries all) (all_without P s entries (All-tail P e entries all))))
    (cases_Bool (is_entry_for s e))

-- what holds of each entry still does when one was brought to the front
pub all_looked : (P : Cached → Type 0) (s : Select) (c : CacheState) → All P c.entries → All P (after_look s c).entries
all_looked P s c all = from (cached_entry s c.entries) (entry_found P s c.entries all)
  where
    from : (o : Option Cached) → IfSome o (λ e. (e.select ≡ s) × P e) → All P (cons_option o (without s c.entries))
    from None h = all_without P s c.entries all
    from (Some e) h = All-cons P e (without s c.entries) h.1 (all_without P s c.entries all)

pub all_put : (P : Cached → Type 0) (e : Cached) (c : CacheState) → P e → All P c.entries → All P (after_keep e c).entries
all_put P e c here all = All-take P c.capacity (e ∷ without e.select c.entries) (All-cons P e (without e.select c.entries) here (all_without P e.select c.entries all))

-- ---- which answer is kept

pub none_without : (s : Select) (entries : List Cached) → cached_entry s entries ≡ None → without s entries ≡ entries
none_without s [] is = refl
none_without s (e ∷ entries) is = ⊎_elim
    (λ (same : is_entry_for s e ≡ true).
    let here : cached_entry s (e ∷ entries) ≡ Some e = ap (λ b. cond b (Some e) (cached_entry s entries)) same in
    cc)
    (λ (other : is_entry_for s e ≡ false).
    let rest : cached_entry s entries ≡ None = sym (ap (λ b. cond b (Some e) (cached_entry s entries)) other) ∙ is in
    ap (λ b. cond b entries (e ∷ without s entries)) other ∙ ap (λ (es : List Cached). e ∷ es) (none_without s entries rest))
    (cases_Bool (is_entry_for s e))

found_in_front : (s : Select) (entries : List Cached) → cached_entry s (brought_to_front s entries) ≡ cached_entry s entries
found_in_front s entries = from (cached_entry s entries) refl (entry_found (λ _. ⊤) s entries (λ k d lt. tt))
  where
    from : (o : Option Cached) → cached_entry s entries ≡ o → IfSome o (λ e. (e.select ≡ s) × ⊤) → cached_entry s (cons_option o (without s entries)) ≡ o
    from None is h = ap (cached_entry s) (none_without s entries is) ∙ is
    from (Some e) is h = ap (λ b. cond b (Some e) (cached_entry s (without s entries))) ((same_statement-Decides s e.select).1 (sym h.0))

-- a look-up keeps the answer that it finds
pub kept_looked : (s : Select) (c : CacheState) → answer_kept s (after_look s c) ≡ answer_kept s c
kept_looked s c = ap (option_map (λ (e : Cached). e.answer)) (found_in_front s c.entries)
