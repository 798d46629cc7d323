-- Transactions that a backend has begun.
use Rattle.std.proofs.Common.{◌≡◌, ℕ, ◌==◌, true, List, ◌∙◌, subst}
use Rattle.std.specs.List.{Contains}
use Rattle.std.proofs.lemmas.Bool.{eqb-true}
use Rattle.std.proofs.lemmas.List.Folds.{Any-from_list_any}
use Rattle.std.proofs.lemmas.List.Elements.{Contains-get_or}
use Rattle.cj_cluster.specs.History.Transactions.{has_begun}

-- it is one of them
pub contains_begun : (begun : List ℕ) (tx : ℕ) → has_begun begun tx ≡ true → Contains begun tx
contains_begun begun tx is =
    let a = Any-from_list_any (λ t. t == tx) begun is in
    subst (Contains begun) (a.3 ∙ eqb-true a.1 tx a.4) (Contains-get_or begun a.0 a.1 a.2)
