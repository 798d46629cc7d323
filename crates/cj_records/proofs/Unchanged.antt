-- Records that stay as they are.
use Rattle.std.proofs.Common.{◌≡◌, ℕ, zero, suc, ◌+◌, ◌<◌, ◌≤◌, Bool, true, List, [], ◌∷◌, length, get_or, drop, Result, Ok, Err, Some, refl, sym, ap, subst, ◌∙◌, arith, length-take, length-drop}
use Rattle.std.specs.Prelude.{slice_get}
use Rattle.std.specs.Global.{Vec}
use Rattle.cj_records.proofs.Common.{AllWithin, Laid, Place, ReadsPart, RecordsError, bodies_at, body_at, body_behind, end_of, length-map}
use Rattle.cj_records.specs.declared.error.RecordsError.TheVariants as errors
use Rattle.cj_records.specs.Records.{RecordList, SameRecords, Reads}
use Rattle.cj_records.proofs.Appended.{kept_at}

pub same_then : {S : Type 0} (tells : Bool) (held : S → List ℕ) (a b c : RecordList S) → SameRecords tells held a b → SameRecords tells held b c → SameRecords tells held a c
same_then tells held a b c s t = record {
  magic = t.magic ∙ s.magic;
  list = λ u. t.list u ∙ s.list u;
  count = t.count ∙ s.count;
  end = t.end ∙ s.end;
  torn = t.torn ∙ s.torn;
  bytes = λ u. t.bytes u ∙ s.bytes u;
  refused = λ u. t.refused u ∙ s.refused u;
}

-- the same fields over a store with the same bytes
pub kept_same : {S : Type 0} (tells : Bool) (held : S → List ℕ) (s0 s1 : S) (magic : List ℕ) (places : List Place) (end : ℕ) (torn : Bool) → (tells ≡ true → held s1 ≡ held s0) → SameRecords tells held (kept_at held s0 magic places end torn) (kept_at held s1 magic places end torn)
kept_same tells held s0 s1 magic places end torn same = record {
  magic = refl;
  list = λ t. ap (λ (h : List ℕ). bodies_at h places) (same t);
  count = length-map places (body_at (held s1)) ∙ sym (length-map places (body_at (held s0)));
  end = refl;
  torn = refl;
  bytes = same;
  refused = λ t. ap (λ (h : List ℕ). body_behind h end) (same t);
}

-- a body that is read at its place
item_at : (places : List Place) (held : List ℕ) (n : ℕ) (place : Place) → n < length places → place ≡ get_or places n place → slice_get (bodies_at held places) n ≡ Some (body_at held place)
item_at [] held n place lt is = absurd (omega arith)
item_at (p ∷ ps) held zero place lt is = ap (λ (q : Place). Some (body_at held q)) (sym is)
item_at (p ∷ ps) held (suc n) place lt is = item_at ps held n place (omega arith) is

pub place_within : (places : List Place) (end n : ℕ) (place : Place) → AllWithin end places → n < length places → place ≡ get_or places n place → end_of place ≤ end
place_within [] end n place all lt is = absurd (omega arith)
place_within (p ∷ ps) end zero place all lt is = subst (λ (q : Place). end_of q ≤ end) (sym is) all.0
place_within (p ∷ ps) end (suc n) place all lt is = place_within ps end n place all.1 (omega arith) is

pub reads : {S : Type 0} (old : RecordList S) (held magic : List ℕ) (places : List Place) (end n : ℕ) (torn : Bool) (place : Place) (r : Result (Vec ℕ) RecordsError) → bodies_at held places ≡ old.list → AllWithin end places → Laid magic held (bodies_at held places) end torn → n < length places → place ≡ get_or places n place → ReadsPart held place r → Reads old n r
reads old held magic places end n torn place (Ok body) list within laid lt is part = subst (λ (xs : List (List ℕ)). slice_get xs n ≡ Some body.items) list (item_at places held n place lt is ∙ ap (λ (b : List ℕ). Some b) (sym part))
reads old held magic places end n torn place (Err errors.Failed) list within laid lt is part = tt
reads old held magic places end n torn place (Err errors.NoMemory) list within laid lt is part = tt
reads old held magic places end n torn place (Err (errors.BadRecord offset)) list within laid lt is part =
    let inside = place_within places end n place within lt is in
    omega (arith, inside, laid.gate, part, length-take place.len (drop (place.at + 9) held), length-drop (place.at + 9) held)
