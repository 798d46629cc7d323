-- What was added in two steps.
use Rattle.std.proofs.Common.{◌≡◌, ◌∙◌, ap, ℕ, List, ◌++◌, OnOk}
use Rattle.std.specs.declared.result.Result.{Result}
use Rattle.std.specs.declared.result.Result.TheVariants.{Ok, Err}
use Rattle.std.proofs.lemmas.List.{append_assoc}

-- a head and then the rest were added, which are the whole
pub added : {A E : Type 0} (r : Result A E) (old mid new head rest whole : List ℕ) → head ++ rest ≡ whole → mid ≡ old ++ head → OnOk r (new ≡ mid ++ rest) → OnOk r (new ≡ old ++ whole)
added (Ok x) old mid new head rest whole w h e = e ∙ ap (λ z. z ++ rest) h ∙ append_assoc old head rest ∙ ap (λ z. old ++ z) w
added (Err x) old mid new head rest whole w h e = tt

-- three parts, and then the rest
pub three : (a b c d : List ℕ) → a ++ (b ++ c ++ d) ≡ a ++ b ++ c ++ d
three a b c d = simp append_assoc
