-- Statements by their tables: each change leaves the kept ones listed.
use Rattle.std.proofs.Common.{◌≡◌, ℕ, Bool, true, false, cond, List, [], ◌∷◌, filter, take, map, Option, sym, subst, ap, ◌∙◌, ⊎_elim}
use Rattle.std.specs.Prelude.{All, ⊤, Some, is_some}
use Rattle.std.specs.List.{list_any}
use Rattle.std.specs.HashMap.{get}
use Rattle.std.specs.HashSet.{HashSet}
use Rattle.std.specs.Map.{remove_entry}
use Rattle.std.specs.Option.{option_map_or}
use Rattle.std.specs.Str.{bytes_eq}
use Rattle.std.proofs.lemmas.Bool.{both_ways, cases_Bool, or_parts}
use Rattle.std.proofs.lemmas.List.Elements.{All-cons, All-filter, All-head, All-nil, All-tail, All-weaker}
use Rattle.std.proofs.lemmas.Map.Views.{All-map-remove_entry}
use Rattle.cj_cache.proofs.Common.{Cached, Held, Select, same_statement}
use Rattle.cj_model.specs.Cluster.Caching.{brought_to_front, cached_entry, is_entry_for, without}
use Rattle.cj_model.proofs.CachingLaws.{all_looked, all_put}
use Rattle.cj_cache.specs.Kept.{cached}
use Rattle.cj_cache.specs.Proving.ByTable.{AreListed, ByTable, IsListed, StillLists, lists}

module _ {S T : Type 0} where
  pub none_listed : (m : ByTable S T) → AreListed m []
  unfolding AreListed
  none_listed m = All-nil (IsListed m)

  -- more is listed
  pub still_listed : (m n : ByTable S T) (entries : List Cached) → StillLists (λ _. ⊤) m n → AreListed m entries → AreListed n entries
  unfolding AreListed
  still_listed m n entries still = All-weaker (IsListed m) (IsListed n) (λ e all k d lt. still _ e.select tt (all k d lt)) entries

  -- a statement that isn't kept goes
  pub others_listed : (m n : ByTable S T) (s : Select) (entries : List Cached) → is_some (cached_entry s entries) ≡ false → StillLists (λ t. same_statement s t ≡ false) m n → AreListed m entries → AreListed n entries
  unfolding AreListed
  others_listed m n s [] none still all = All-nil (IsListed n)
  others_listed m n s (e ∷ entries) none still all = ⊎_elim
      (λ (same : is_entry_for s e ≡ true). absurd (both_ways (is_some (cached_entry s (e ∷ entries))) none (ap (λ b. is_some (cond b (Some e) (cached_entry s entries))) same)))
      (λ (other : is_entry_for s e ≡ false).
      All-cons (IsListed n) e entries
      (λ k d lt. still _ e.select other (All-head (IsListed m) e entries all k d lt))
      (others_listed m n s entries (sym (ap (λ b. is_some (cond b (Some e) (cached_entry s entries))) other) ∙ none) still (All-tail (IsListed m) e entries all)))
      (cases_Bool (is_entry_for s e))

  pub looked_listed : (m : ByTable S T) (s : Select) (old new : List Cached) → new ≡ brought_to_front s old → AreListed m old → AreListed m new
  unfolding AreListed
  looked_listed m s old new is all = subst (All (IsListed m)) (sym is) (all_looked (IsListed m) s (record { entries = old; hits = 0; misses = 0; capacity = 0 }) all)

  -- an entry is put in front, whose tables list it now
  pub put_listed : (m n : ByTable S T) (e : Cached) (capacity : ℕ) (old new : List Cached) → new ≡ take capacity (e ∷ without e.select old) → IsListed n e → StillLists (λ _. ⊤) m n → AreListed m old → AreListed n new
  unfolding AreListed
  put_listed m n e capacity old new is here still all = subst (All (IsListed n)) (sym is) (all_put (IsListed n) e (record { entries = old; hits = 0; misses = 0; capacity = capacity }) here (still_listed m n old still all))

  pub popped_listed : (m : ByTable S T) (s : Select) (pairs : List (Select × Held)) → AreListed m (map cached pairs) → AreListed m (map cached (remove_entry (same_statement s) pairs))
  unfolding AreListed
  popped_listed m s pairs = All-map-remove_entry (same_statement s) cached (IsListed m) pairs

  -- a table that none of them needs goes
  pub unneeded_listed : (m n : ByTable S T) (table : List ℕ) (entries : List Cached) → ((t : List ℕ) → bytes_eq table t ≡ false → get bytes_eq n t ≡ get bytes_eq m t) → All (λ e. list_any (bytes_eq table) e.select.tables ≡ false) entries → AreListed m entries → AreListed n entries
  unfolding AreListed
  unneeded_listed m n table [] still none all = All-nil (IsListed n)
  unneeded_listed m n table (e ∷ entries) still none all =
      All-cons (IsListed n) e entries
      (tables e.select.tables (All-head (λ (x : Cached). list_any (bytes_eq table) x.select.tables ≡ false) e entries none) (All-head (IsListed m) e entries all))
      (unneeded_listed m n table entries still (All-tail (λ (x : Cached). list_any (bytes_eq table) x.select.tables ≡ false) e entries none) (All-tail (IsListed m) e entries all))
    where
      tables : (ts : List (List ℕ)) → list_any (bytes_eq table) ts ≡ false → All (λ t. lists m t e.select ≡ true) ts → All (λ t. lists n t e.select ≡ true) ts
      tables [] off on = All-nil (λ t. lists n t e.select ≡ true)
      tables (t ∷ ts) off on =
          let parts = or_parts (bytes_eq table t) (list_any (bytes_eq table) ts) off in
          All-cons (λ t. lists n t e.select ≡ true) t ts
          (ap (λ (o : Option (HashSet Select S)). list_any (same_statement e.select) (option_map_or (λ (set : HashSet Select S). set.keys) o [])) (still t parts.0) ∙ All-head (λ t. lists m t e.select ≡ true) t ts on)
          (tables ts parts.1 (All-tail (λ t. lists m t e.select ≡ true) t ts on))

  -- some of them go
  pub fewer_listed : (m : ByTable S T) (p : Cached → Bool) (entries : List Cached) → AreListed m entries → AreListed m (filter p entries)
  unfolding AreListed
  fewer_listed m p = All-filter p (IsListed m)
