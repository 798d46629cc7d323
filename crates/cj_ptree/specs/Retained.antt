-- What is left of parts whose values are edited.
use Rattle.std.specs.Prelude.{Bool, cond, List, [], ◌∷◌}
use Rattle.cj_ptree.specs.Pairs.{is_filled, retained}

module _ {K V : Type 0} (stays : V → Bool) (edited : V → V) where
  -- the parts that have pairs left
  abbrev pub parts_left : List (K × List (K × V)) → List (K × List (K × V))
  parts_left [] = []
  parts_left (p ∷ ps) = cond (is_filled (retained stays edited p.1)) ((p.0, retained stays edited p.1) ∷ parts_left ps) (parts_left ps)
