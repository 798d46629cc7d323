-- What a map holds, as entries.
use Rattle.std.proofs.Common.{◌≡◌, ℕ, zero, suc, ◌-◌, ◌<◌, ◌≤◌, Bool, true, false, cond, List, [], ◌∷◌, length, map, take, refl, sym, ap, ◌∙◌, subst, arith, ⊎_elim}
use Rattle.std.specs.Prelude.{is_some, option_map}
use Rattle.std.specs.List.{IsDistinct, cons_option}
use Rattle.std.specs.Map.{keys_of, lookup, lookup_entry, remove_entry}
use Rattle.std.specs.Option.{option_map_or}
use Rattle.std.specs.declared.option.Option.{Option}
use Rattle.std.specs.declared.option.Option.TheVariants.{None, Some}
use Rattle.std.proofs.lemmas.Bool.{cases_Bool}
use Rattle.std.proofs.lemmas.List.{length-map, take-map, take_all}
use Rattle.std.proofs.lemmas.Simd.{map-map}
use Rattle.cj_cache.proofs.Common.{Cached, Held, Select, same_statement, same_statement-Decides}
use Rattle.lru.specs.LruCache.{LruCache, promoted, put_entries}
use Rattle.cj_model.specs.Cluster.Caching.{brought_to_front, cached_entry, without}
use Rattle.cj_model.proofs.CachingLaws.{none_without}
use Rattle.cj_cache.specs.Kept.{cached, popped_each, without_each}

abbrev Pairs : Type 0
Pairs = List (Select × Held)

-- ---- looking up

cond_entry : (b : Bool) (e : Select × Held) (o : Option (Select × Held)) → cond b (Some (cached e)) (option_map cached o) ≡ option_map cached (cond b (Some e) o)
cond_entry true e o = refl
cond_entry false e o = refl

pub entry_shown : (s : Select) (es : Pairs) → cached_entry s (map cached es) ≡ option_map cached (lookup_entry (same_statement s) es)
entry_shown s [] = refl
entry_shown s (e ∷ es) = ap (λ o. cond (same_statement s e.0) (Some (cached e)) o) (entry_shown s es) ∙ cond_entry (same_statement s e.0) e (lookup_entry (same_statement s) es)

cond_value : (b : Bool) (e : Select × Held) (o : Option (Select × Held)) (v : Option Held) → v ≡ option_map (λ (p : Select × Held). p.1) o → cond b (Some e.1) v ≡ option_map (λ (p : Select × Held). p.1) (cond b (Some e) o)
cond_value true e o v is = refl
cond_value false e o v is = is

value_of_entry : (s : Select) (es : Pairs) → lookup (same_statement s) es ≡ option_map (λ (p : Select × Held). p.1) (lookup_entry (same_statement s) es)
value_of_entry s [] = refl
value_of_entry s (e ∷ es) = cond_value (same_statement s e.0) e (lookup_entry (same_statement s) es) (lookup (same_statement s) es) (value_of_entry s es)

pub answer_shown : (s : Select) (es : Pairs) → option_map (λ (h : Held). h.answer.value) (lookup (same_statement s) es) ≡ option_map (λ (e : Cached). e.answer) (cached_entry s (map cached es))
answer_shown s es = ap (option_map (λ (h : Held). h.answer.value)) (value_of_entry s es) ∙ each (lookup_entry (same_statement s) es) ∙ ap (option_map (λ (e : Cached). e.answer)) (sym (entry_shown s es))
  where
    each : (o : Option (Select × Held)) → option_map (λ (h : Held). h.answer.value) (option_map (λ (p : Select × Held). p.1) o) ≡ option_map (λ (e : Cached). e.answer) (option_map cached o)
    each None = refl
    each (Some p) = refl

pub some_shown : (s : Select) (es : Pairs) → is_some (lookup (same_statement s) es) ≡ is_some (cached_entry s (map cached es))
some_shown s es = ap is_some (value_of_entry s es) ∙ each (lookup_entry (same_statement s) es) ∙ ap is_some (sym (entry_shown s es))
  where
    each : (o : Option (Select × Held)) → is_some (option_map (λ (p : Select × Held). p.1) o) ≡ is_some (option_map cached o)
    each None = refl
    each (Some p) = refl

-- ---- taking out and putting in

cond_rest : (b : Bool) (e : Select × Held) (es rest : Pairs) → cond b (map cached es) (cached e ∷ map cached rest) ≡ map cached (cond b es (e ∷ rest))
cond_rest true e es rest = refl
cond_rest false e es rest = refl

pub without_shown : (s : Select) (es : Pairs) → without s (map cached es) ≡ map cached (remove_entry (same_statement s) es)
without_shown s [] = refl
without_shown s (e ∷ es) = ap (λ (r : List Cached). cond (same_statement s e.0) (map cached es) (cached e ∷ r)) (without_shown s es) ∙ cond_rest (same_statement s e.0) e es (remove_entry (same_statement s) es)

pub brought_shown : (s : Select) (es : Pairs) → map cached (promoted (same_statement s) es) ≡ brought_to_front s (map cached es)
brought_shown s es = from (lookup_entry (same_statement s) es) refl ∙ ap (λ o. cons_option o (without s (map cached es))) (sym (entry_shown s es))
  where
    from : (o : Option (Select × Held)) → lookup_entry (same_statement s) es ≡ o → map cached (option_map_or (λ e. e ∷ remove_entry (same_statement s) es) o es) ≡ cons_option (option_map cached o) (without s (map cached es))
    from None is = sym (none_without s (map cached es) (entry_shown s es ∙ ap (option_map cached) is))
    from (Some e) is = ap (λ (r : List Cached). cached e ∷ r) (sym (without_shown s es))

-- the pair that is found has the key, and one pair fewer is left without it
found_key : (s : Select) (es : Pairs) (p : Select × Held) → lookup_entry (same_statement s) es ≡ Some p → (s ≡ p.0) × (suc (length (remove_entry (same_statement s) es)) ≡ length es)
found_key s [] p is = cc
found_key s (e ∷ es) p is = ⊎_elim
    (λ (same : same_statement s e.0 ≡ true).
    let here : Some e ≡ Some p = sym (ap (λ b. cond b (Some e) (lookup_entry (same_statement s) es)) same) ∙ is in
    let it : e ≡ p = cc in
    ((same_statement-Decides s e.0).0 same ∙ ap (λ (q : Select × Held). q.0) it, ap (λ b. suc (length (cond b es (e ∷ remove_entry (same_statement s) es)))) same))
    (λ (other : same_statement s e.0 ≡ false).
    let rest = found_key s es p (sym (ap (λ b. cond b (Some e) (lookup_entry (same_statement s) es)) other) ∙ is) in
    (rest.0, ap (λ b. suc (length (cond b es (e ∷ remove_entry (same_statement s) es)))) other ∙ ap suc rest.1))
    (cases_Bool (same_statement s e.0))

first_of : (n : ℕ) (x : Cached) (es : Pairs) → 0 < n → x ∷ map cached (take (n - 1) es) ≡ take n (x ∷ map cached es)
first_of zero x es lt = absurd (omega arith)
first_of (suc n) x es lt =
    let less : suc n - 1 ≡ n = omega arith in
    ap (λ m. x ∷ map cached (take m es)) less ∙ ap (λ (r : List Cached). x ∷ r) (sym (take-map cached n es))

pub put_shown : (c : LruCache Select Held) (s : Select) (h : Held) → length c.entries ≤ c.cap → 0 < c.cap → map cached (put_entries same_statement c s h) ≡ take c.cap (cached (s, h) ∷ without s (map cached c.entries))
put_shown c s h few some = from (lookup_entry (same_statement s) c.entries) refl
  where
    from : (o : Option (Select × Held)) → lookup_entry (same_statement s) c.entries ≡ o → map cached (option_map_or (λ e. (e.0, h) ∷ remove_entry (same_statement s) c.entries) o ((s, h) ∷ take (c.cap - 1) c.entries)) ≡ take c.cap (cached (s, h) ∷ without s (map cached c.entries))
    from None is =
        first_of c.cap (cached (s, h)) c.entries some
        ∙ ap (λ (r : List Cached). take c.cap (cached (s, h) ∷ r)) (sym (none_without s (map cached c.entries) (entry_shown s c.entries ∙ ap (option_map cached) is)))
    from (Some p) is =
        let found = found_key s c.entries p is in
        let rest = remove_entry (same_statement s) c.entries in
        let long : length (map cached ((s, h) ∷ rest)) ≡ suc (length rest) = ap suc (length-map rest cached) in
        ap (λ (t : Select). map cached ((t, h) ∷ rest)) (sym found.0)
        ∙ sym (take_all c.cap (map cached ((s, h) ∷ rest)) (omega (arith, long, found.1, few)))
        ∙ ap (λ (r : List Cached). take c.cap (cached (s, h) ∷ r)) (sym (without_shown s c.entries))

pub popped_shown : (ss : List Select) (es : Pairs) → map cached (popped_each ss es) ≡ without_each ss (map cached es)
popped_shown [] es = refl
popped_shown (s ∷ ss) es = popped_shown ss (remove_entry (same_statement s) es) ∙ ap (without_each ss) (sym (without_shown s es))

-- the statements of a map's entries are its keys
pub keys_shown : (es : Pairs) → IsDistinct same_statement (keys_of es) → IsDistinct same_statement (map (λ (e : Cached). e.select) (map cached es))
keys_shown es = subst (IsDistinct same_statement) (sym (map-map (λ (e : Cached). e.select) cached es))

pub none_left : (ss : List Select) → without_each ss [] ≡ []
none_left [] = refl
none_left (s ∷ ss) = none_left ss
