-- A cache of two answers over three tables, worked out.
use Rattle.std.proofs.Common.{◌≡◌, ℕ, Bool, true, false, List, [], ◌∷◌, refl, sym, ap, ◌∙◌}
use Rattle.std.specs.declared.option.Option.TheVariants.{None, Some}
use Rattle.std.proofs.lemmas.Bool.{both_ways, false_from_ne_true}
use Rattle.cj_cache.proofs.Common.{Cached, Select, bytes_eq, same_statement, same_statement-Decides}
use Rattle.cj_model.specs.declared.answer.Answer.{Answer}
use Rattle.cj_model.specs.declared.select.Items.TheVariants as items
use Rattle.cj_model.specs.Cluster.Caching.{CacheState, doomed, without_tables, empty_cache, answer_kept, after_look, after_keep}

-- `SELECT *` of the table whose name is this letter
abbrev all_of : ℕ → Select
all_of letter = record { items = items.All; tables = (letter ∷ []) ∷ []; cond = None; group = None; order = []; limit = None }

abbrev is_named : ℕ → List (List ℕ) → Bool
is_named letter [] = false
is_named letter (name ∷ names) = bytes_eq name (letter ∷ [])

itself : (s : Select) → same_statement s s ≡ true
itself s = (same_statement-Decides s s).1 refl

-- statements of two tables are two
differ : (m n : ℕ) → is_named m ((m ∷ []) ∷ []) ≡ true → is_named m ((n ∷ []) ∷ []) ≡ false → same_statement (all_of m) (all_of n) ≡ false
differ m n here there = false_from_ne_true (same_statement (all_of m) (all_of n)) (λ e. both_ways (is_named m ((n ∷ []) ∷ [])) there (sym (ap (λ (s : Select). is_named m s.tables) ((same_statement-Decides (all_of m) (all_of n)).0 e)) ∙ here))

a_b : same_statement (all_of 97) (all_of 98) ≡ false
a_b = differ 97 98 refl refl

a_c : same_statement (all_of 97) (all_of 99) ≡ false
a_c = differ 97 99 refl refl

b_a : same_statement (all_of 98) (all_of 97) ≡ false
b_a = differ 98 97 refl refl

b_c : same_statement (all_of 98) (all_of 99) ≡ false
b_c = differ 98 99 refl refl

c_a : same_statement (all_of 99) (all_of 97) ≡ false
c_a = differ 99 97 refl refl

module _ (x y z : Answer) where
  abbrev of_a : Cached
  of_a = record { select = all_of 97; answer = x; at = 1 }

  abbrev of_b : Cached
  of_b = record { select = all_of 98; answer = y; at = 2 }

  abbrev of_c : Cached
  of_c = record { select = all_of 99; answer = z; at = 3 }

  abbrev state : List Cached → ℕ → ℕ → CacheState
  state entries hits misses = record { entries = entries; hits = hits; misses = misses; capacity = 2 }

  keeps_a : after_keep of_a (empty_cache 2) ≡ state (of_a ∷ []) 0 0
  keeps_a = refl

  keeps_b : after_keep of_b (state (of_a ∷ []) 0 0) ≡ state (of_b ∷ of_a ∷ []) 0 0
  keeps_b = rw b_a refl

  -- the answer of a is found and comes to the front
  finds_a : answer_kept (all_of 97) (state (of_b ∷ of_a ∷ []) 0 0) ≡ Some x
  finds_a = rw (a_b, itself (all_of 97)) refl

  looks_at_a : after_look (all_of 97) (state (of_b ∷ of_a ∷ []) 0 0) ≡ state (of_a ∷ of_b ∷ []) 1 0
  looks_at_a = rw (a_b, itself (all_of 97)) refl

  -- the answer of b goes
  keeps_c : after_keep of_c (state (of_a ∷ of_b ∷ []) 1 0) ≡ state (of_c ∷ of_a ∷ []) 1 0
  keeps_c = rw c_a refl

  lost_b : answer_kept (all_of 98) (state (of_c ∷ of_a ∷ []) 1 0) ≡ None
  lost_b = rw (b_c, b_a) refl

  -- table a changes
  dooms_a : doomed ((97 ∷ []) ∷ []) (state (of_c ∷ of_a ∷ []) 1 0) ≡ all_of 97 ∷ []
  dooms_a = refl

  drops_a : without_tables ((97 ∷ []) ∷ []) (state (of_c ∷ of_a ∷ []) 1 0) ≡ state (of_c ∷ []) 1 0
  drops_a = refl

  misses_a : after_look (all_of 97) (state (of_c ∷ []) 1 0) ≡ state (of_c ∷ []) 1 1
  misses_a = rw a_c refl

  -- all at once: one hit, one miss, and the answer of c alone
  pub worked_out : after_look (all_of 97) (without_tables ((97 ∷ []) ∷ []) (after_keep of_c (after_look (all_of 97) (after_keep of_b (after_keep of_a (empty_cache 2)))))) ≡ state (of_c ∷ []) 1 1
  worked_out =
      ap (λ c. after_look (all_of 97) (without_tables ((97 ∷ []) ∷ []) (after_keep of_c (after_look (all_of 97) c)))) keeps_b
      ∙ ap (λ c. after_look (all_of 97) (without_tables ((97 ∷ []) ∷ []) (after_keep of_c c))) looks_at_a
      ∙ ap (λ c. after_look (all_of 97) (without_tables ((97 ∷ []) ∷ []) c)) keeps_c
      ∙ misses_a
