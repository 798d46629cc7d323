-- Which backends of a mask host each of some tables.
use Rattle.std.proofs.Common.{◌≡◌, ℕ, ◌+◌, ◌<◌, ◌&&◌, Bool, true, false, List, length, take, get_or, refl, ap, sym, ◌∙◌, bit_and}
use Rattle.std.proofs.lemmas.List.Folds.{list_all_more}
use Rattle.cj_model.specs.Cluster.Placements.{hosts_all}
use Rattle.cj_model.proofs.MaskBits.{has-and}
use Rattle.cj_place.proofs.Common.{Placement, hosts, in_mask}

and_more : (a b c : Bool) → ((a && b) && c) ≡ (a && (b && c))
and_more true b c = refl
and_more false b c = refl

-- one more table that a backend hosts
pub hosting_more : (p : Placement) (on : Bool) (tables : List (List ℕ)) (i : ℕ) (table : List ℕ) (mask hosting b : ℕ) → i < length tables → table ≡ get_or tables i table → in_mask mask b ≡ (on && hosts_all p b (take i tables))
    → in_mask hosting b ≡ hosts p b table → in_mask (bit_and mask hosting) b ≡ (on && hosts_all p b (take (i + 1) tables))
hosting_more p on tables i table mask hosting b lt is so_far there =
    has-and mask hosting b
    ∙ (rw (so_far, there) (and_more on (hosts_all p b (take i tables)) (hosts p b table))
    ∙ ap (λ x. on && x) (sym (list_all_more (hosts p b) tables i table lt ∙ ap (λ t. hosts_all p b (take i tables) && hosts p b t) (sym is))))
