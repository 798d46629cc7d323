-- The columns that a query names outside its condition.
use Rattle.std.proofs.Common.{◌≡◌, Bool, true, false, ◌||◌, List, [], ◌∷◌, ◌++◌, map, refl, ap, ◌∙◌}
use Rattle.cj_query.proofs.Common.{ColRef, flat_map, Key, list_any, list_any-append, option_to_list, Select}
use Rattle.cj_model.specs.Database.Queries.{columns_named, columns_of_item, items_listed}

list_any-flat_map : {X Y : Type 0} (p : Y → Bool) (f : X → List Y) (xs : List X) → list_any p (flat_map f xs) ≡ list_any (λ x. list_any p (f x)) xs
list_any-flat_map p f [] = refl
list_any-flat_map p f (x ∷ xs) = list_any-append p (f x) (flat_map f xs) ∙ ap (λ b. list_any p (f x) || b) (list_any-flat_map p f xs)

list_any-map : {X Y : Type 0} (p : Y → Bool) (f : X → Y) (xs : List X) → list_any p (map f xs) ≡ list_any (λ x. p (f x)) xs
list_any-map p f [] = refl
list_any-map p f (x ∷ xs) = ap (λ b. p (f x) || b) (list_any-map p f xs)

or_again : (a b c : Bool) → ((a || b) || c) ≡ (a || (b || c))
or_again true b c = refl
or_again false b c = refl

-- a test of the items' columns, the group's and the keys'
pub any_named : (p : ColRef → Bool) (s : Select) → list_any p (columns_named s) ≡ (list_any (λ i. list_any p (columns_of_item i)) (items_listed s.items) || (list_any p (option_to_list s.group) || list_any (λ (k : Key). p k.col) s.order))
any_named p s =
    let keys = list_any (λ (k : Key). p k.col) s.order in
    list_any-append p (flat_map columns_of_item (items_listed s.items) ++ option_to_list s.group) (map (λ (k : Key). k.col) s.order)
    ∙ ap (λ b. list_any p (flat_map columns_of_item (items_listed s.items) ++ option_to_list s.group) || b) (list_any-map p (λ (k : Key). k.col) s.order)
    ∙ ap (λ b. b || keys) (list_any-append p (flat_map columns_of_item (items_listed s.items)) (option_to_list s.group)
    ∙ ap (λ b. b || list_any p (option_to_list s.group)) (list_any-flat_map p columns_of_item (items_listed s.items)))
    ∙ or_again (list_any (λ i. list_any p (columns_of_item i)) (items_listed s.items)) (list_any p (option_to_list s.group)) keys
