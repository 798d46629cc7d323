-- What is known of an option in each of its two cases.
use Rattle.std.proofs.Common.{◌≢◌, ◌≤◌, ℕ, List, length, take, map, All, IfNone, IfSome, MatchOption, Option, subst}
use Rattle.std.proofs.lemmas.List.{take_all}
use Rattle.std.proofs.lemmas.List.Elements.{All-map}
use Rattle.std.specs.declared.option.Option.TheVariants.{None, Some}

pub in_both : {X : Type 0} (N : Type 0) (S : X → Type 0) (found : Option X) → IfNone found N → IfSome found S → MatchOption found N S
in_both N S None none some = none
in_both N S (Some x) none some = some

-- none of a list has this status, once none before an index behind its end has it
pub none_has : {C X : Type 0} (cause : Option C) (status index : ℕ) (rows : List X) (read : X → ℕ) → length rows ≤ index
    → IfNone cause (All (λ row. read row ≢ status) (take index rows)) → IfNone cause (All (λ other. other ≢ status) (map read rows))
none_has (Some cause) status index rows read end none = tt
none_has None status index rows read end none =
    All-map (λ other. other ≢ status) read rows (subst (λ xs. All (λ row. read row ≢ status) xs) (take_all index rows end) none)
