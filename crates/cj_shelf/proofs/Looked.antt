-- A name among names, and the dump that has it.
use Rattle.std.proofs.Common.{◌≡◌, ℕ, zero, suc, ◌+◌, ◌<◌, true, false, List, [], ◌∷◌, length, get_or, take, Option, None, Some, Result, Ok, Err, refl, sym, ap, subst, ◌∙◌, arith}
use Rattle.std.specs.Prelude.{slice_get, is_some, option_map, IsErrAnd}
use Rattle.std.proofs.lemmas.Bool.{or_parts}
use Rattle.std.proofs.lemmas.List.{length-map}
use Rattle.std.proofs.lemmas.List.Folds.{list_any-append}
use Rattle.std.proofs.lemmas.Option.{slice_get-map, slice_get_read, slice_get_within}
use Rattle.cj_shelf.proofs.Common.{Dump, IsDump, Label, ShelfError, bytes_eq, bytes_eq-Decides, dump_bytes}
use Rattle.cj_shelf.specs.declared.error.ShelfError.TheVariants as errors
use Rattle.cj_shelf.specs.Shelves.{dump_bodies, names_of, is_shelved, first_of, GivesFirst}
use Rattle.cj_shelf.specs.Proving.{labelled, IsFirstPlace, dumps_in, AreBodies, Labels, FindsDump}
use Rattle.cj_shelf.proofs.Bodies.{one_dump}
use Rattle.cj_shelf.proofs.Listed.{one_more}

-- ---- places

-- the name on the label at a place
pub name_at : (labels : List Label) (place : ℕ) (label : Label) → place < length labels → label ≡ get_or labels place label → slice_get (labelled labels) place ≡ Some label.name
name_at labels place label lt is = slice_get-map (λ (x : Label). x.name) labels place ∙ ap (option_map (λ (x : Label). x.name)) (slice_get_read labels (length labels) place label refl lt is)

pub same_name : (a b : List ℕ) → bytes_eq a b ≡ true → a ≡ b
same_name a b = (bytes_eq-Decides a b).0

-- one name more that is another one
pub none_more : (name : List ℕ) (names : List (List ℕ)) (place : ℕ) (other : List ℕ) → slice_get names place ≡ Some other → bytes_eq other name ≡ false → is_shelved name (take place names) ≡ false → is_shelved name (take (place + 1) names) ≡ false
none_more name names place other at differs before = ap (is_shelved name) (one_more names place other at) ∙ list_any-append (λ n. bytes_eq n name) (take place names) (other ∷ []) ∙ rw (before, differs) refl

pub place_within : (name : List ℕ) (labels : List Label) (place : ℕ) → IsFirstPlace name (labelled labels) (Some place) → place < length labels
place_within name labels place first = omega (arith, slice_get_within (labelled labels) place name first.0, length-map labels (λ (x : Label). x.name))

-- the first place tells whether the name is among them
pub place_tells : (name : List ℕ) (names : List (List ℕ)) (place : Option ℕ) → IsFirstPlace name names place → is_some place ≡ is_shelved name names
place_tells name names None first = sym first
place_tells name [] (Some k) first = absurd cc
place_tells name (n ∷ names) (Some zero) first = let is : n ≡ name = cc in let same : bytes_eq n name ≡ true = (bytes_eq-Decides n name).1 is in rw same refl
place_tells name (n ∷ names) (Some (suc k)) first = let parts = or_parts (bytes_eq n name) (is_shelved name (take k names)) first.1 in rw parts.0 (place_tells name names (Some k) (first.0, parts.1))

-- ---- dumps

first_at : (name : List ℕ) (dumps : List Dump) (k : ℕ) → IsFirstPlace name (names_of dumps) (Some k) → first_of name dumps ≡ slice_get dumps k
first_at name [] k first = refl
first_at name (d ∷ dumps) zero first = let is : d.name ≡ name = cc in let same : bytes_eq d.name name ≡ true = (bytes_eq-Decides d.name name).1 is in rw same refl
first_at name (d ∷ dumps) (suc k) first = let parts = or_parts (bytes_eq d.name name) (is_shelved name (take k (names_of dumps))) first.1 in rw parts.0 (first_at name dumps k (first.0, parts.1))

pub none_first : (name : List ℕ) (dumps : List Dump) → is_shelved name (names_of dumps) ≡ false → first_of name dumps ≡ None
none_first name [] none = refl
none_first name (d ∷ dumps) none = let parts = or_parts (bytes_eq d.name name) (is_shelved name (names_of dumps)) none in rw parts.0 (none_first name dumps parts.1)

-- a body in the list is that of the dump at its place
dump_at : (bodies : List (List ℕ)) (dumps : List Dump) (k : ℕ) (body : List ℕ) → AreBodies bodies dumps → slice_get bodies k ≡ Some body → (d : Dump) × IsDump d × (body ≡ dump_bytes d) × (slice_get dumps k ≡ Some d)
dump_at bodies [] k body are read = absurd (cc (ap (λ (bs : List (List ℕ)). slice_get bs k) are.same, read))
dump_at bodies (d ∷ dumps) zero body are read = let is : body ≡ dump_bytes d = cc (ap (λ (bs : List (List ℕ)). slice_get bs 0) are.same, read) in (d, are.each.0, is, refl)
dump_at bodies (d ∷ dumps) (suc k) body are read = dump_at (dump_bodies dumps) dumps k body (record { same = refl; each = are.each.1 }) (sym (ap (λ (bs : List (List ℕ)). slice_get bs (suc k)) are.same) ∙ read)

-- what was read at the first place of a name is the first dump of the name
module _ (name : List ℕ) (list : List (List ℕ)) (labels : List Label) (place : ℕ) (body : List ℕ) (l : Labels list labels) (read : slice_get list place ≡ Some body) where
  pub found : (d : Dump) → IsFirstPlace name (labelled labels) (Some place) → body ≡ dump_bytes d → IsDump d → (first_of name (dumps_in list) ≡ Some d) × (d.name ≡ name)
  found d first its is =
      let at = dump_at list (dumps_in list) place body l.dumps read in
      let same : at.0 ≡ d = one_dump at.0 d at.1 is (sym at.2 ∙ its) in
      let there : slice_get (dumps_in list) place ≡ Some d = at.3 ∙ ap (λ (x : Dump). Some x) same in
      let first' : IsFirstPlace name (names_of (dumps_in list)) (Some place) = subst (λ (ns : List (List ℕ)). IsFirstPlace name ns (Some place)) l.names first in
      let named : Some d.name ≡ Some name = ap (option_map (λ (x : Dump). x.name)) (sym there) ∙ sym (slice_get-map (λ (x : Dump). x.name) (dumps_in list) place) ∙ first'.0 in
      (first_at name (dumps_in list) place first' ∙ there, cc)

  -- it is no bad one
  pub refused : (at : ℕ) (e : ShelfError) (r : Result (Option Dump) ShelfError) → FindsDump body at (Err e) → IsErrAnd r (λ x. x ≡ e) → GivesFirst name (dumps_in list) r
  refused at e (Ok x) f is = absurd is
  refused at e (Err errors.Failed) f is = tt
  refused at e (Err errors.NoMemory) f is = tt
  refused at e (Err (errors.BadRecord offset)) f is =
      let bad = subst (λ (x : ShelfError). FindsDump body at (Err x)) (sym is) f in
      let there = dump_at list (dumps_in list) place body l.dumps read in
      bad.0 there.0 there.1 there.2
