-- What is taken one after another is what reading the list gives.
use Rattle.std.proofs.Common.{◌≡◌, ℕ, suc, List, [], ◌∷◌, ◌++◌, Result, Ok, Err, sym, ap, ◌∙◌}
use Rattle.cj_dump.proofs.Common.{DumpError, Place, ◌>>=◌}
use Rattle.cj_dump.specs.Layouts.{FieldReading, FieldLayout, TakesOff, behind, listed_reads}

-- the next is read, and what reading them all gives stays
pub one_more : {A : Type 0} (item : List A → FieldLayout A) (seen before more : List A) (x : A) (n left : ℕ) (place next : Place) (all : FieldReading (List A)) → (item seen).reads place ≡ Ok (x, next) → seen ≡ before → more ≡ before ++ x ∷ [] → suc left ≡ n
    → listed_reads item before n place ≡ all → listed_reads item more left next ≡ all
one_more {A} item seen before more x n left place next all e same pushed one kept =
    ap (λ (items : List A). listed_reads item items left next) pushed
    ∙ sym (ap (λ (r : FieldReading A). r >>= λ y. listed_reads item (before ++ y.0 ∷ []) left y.1) (ap (λ (s : List A). (item s).reads place) (sym same) ∙ e))
    ∙ ap (λ (k : ℕ). listed_reads item before k place) one
    ∙ kept

-- what is taken behind another part
pub one_behind : {K A : Type 0} (f : FieldLayout K) (key : A → K) (g : K → FieldLayout A) (k : K) (place mid next : Place) (r : Result A DumpError) → f.reads place ≡ Ok (k, mid) → TakesOff (g k) mid next r → TakesOff (behind f key g) place next r
one_behind {K} f key g k place mid next (Ok x) e h = ap (λ (t : FieldReading K). t >>= λ y. (g y.0).reads y.1) e ∙ h
one_behind {K} f key g k place mid next (Err d) e h = λ some. ap (λ (t : FieldReading K). t >>= λ y. (g y.0).reads y.1) e ∙ h some
