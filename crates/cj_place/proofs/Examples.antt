-- Rows that are refused, and what hosts what.
use Rattle.std.proofs.Common.{◌≡◌, ℕ, true, false, List, [], ◌∷◌, refl}
use Rattle.std.specs.Prelude.{codes}
use Rattle.cj_place.proofs.Common.{None, PlaceRow, Some, hosts}
use Rattle.cj_model.specs.declared.placement.Level.TheVariants.{Raidb0, Raidb1, Raidb2}
use Rattle.cj_place.specs.declared.error.PlaceError.TheVariants.{BackendCount, Twice, Stranger, NoHost, ManyHosts, NotAll}
use Rattle.cj_place.specs.Layouts.{layout_of, last_host, placement_of, hosted_tables}
use Rattle.cj_place.specs.Refusals.{refusal_of_placement}

abbrev two : List (List ℕ)
two = codes "b0" ∷ codes "b1" ∷ []

abbrev row : List ℕ → List (List ℕ) → PlaceRow
row table names = record { table = table; hosts = names }

-- a partitioned table on two backends
many : refusal_of_placement Raidb0 two (row (codes "t") two ∷ []) ≡ Some (ManyHosts (codes "t"))
many = refl

-- a table on none
none : refusal_of_placement Raidb0 two (row (codes "t") [] ∷ []) ≡ Some (NoHost (codes "t"))
none = refl

-- no backends
empty : refusal_of_placement Raidb0 [] [] ≡ Some BackendCount
empty = refl

-- a table on one of two backends, under full replication
lone : refusal_of_placement Raidb1 two (row (codes "t") (codes "b0" ∷ []) ∷ []) ≡ Some (NotAll (codes "t"))
lone = refl

-- a host that is no backend, named twice: that it is named twice counts first
twice_stranger : refusal_of_placement Raidb2 two (row (codes "t") (codes "b2" ∷ codes "b2" ∷ []) ∷ []) ≡ Some (Twice (codes "b2"))
twice_stranger = refl

stranger : refusal_of_placement Raidb2 two (row (codes "t") (codes "b2" ∷ []) ∷ []) ≡ Some (Stranger (codes "b2"))
stranger = refl

-- u on the second, t on both
fine : refusal_of_placement Raidb2 two (row (codes "u") (codes "b1" ∷ []) ∷ row (codes "t") two ∷ []) ≡ None
fine = refl

-- the first backend hosts t alone
first : hosted_tables (layout_of Raidb2 two (row (codes "u") (codes "b1" ∷ []) ∷ row (codes "t") two ∷ [])) 0 ≡ codes "t" ∷ []
first = refl

-- a table that no row names is on every backend where all are, and else on none
unnamed : hosts (placement_of (layout_of Raidb2 two (row (codes "t") two ∷ []))) 1 (codes "u") ≡ false
unnamed = refl

everywhere : hosts (placement_of (layout_of Raidb1 two (row (codes "t") two ∷ []))) 1 (codes "u") ≡ true
everywhere = refl

-- with both enabled, the second is the last host of u; with itself alone, of t too, which is first
last : last_host (layout_of Raidb2 two (row (codes "u") (codes "b1" ∷ []) ∷ row (codes "t") two ∷ [])) 1 3 ≡ Some (codes "u")
last = refl

last_alone : last_host (layout_of Raidb2 two (row (codes "u") (codes "b1" ∷ []) ∷ row (codes "t") two ∷ [])) 1 2 ≡ Some (codes "t")
last_alone = refl

last_of_all : last_host (layout_of Raidb1 two []) 1 2 ≡ Some []
last_of_all = refl

not_last_of_all : last_host (layout_of Raidb1 two []) 1 3 ≡ None
not_last_of_all = refl
