-- What a start that is refused leaves of the log, and what it counts.
use Rattle.std.proofs.Common.{◌≡◌, ◌⊎◌, inl, inr, ℕ, ◌+◌, List, [], ◌∷◌, ◌++◌, length, Result, Ok, Err, ap, sym, ◌∙◌, subst, append_assoc}
use Rattle.cj_core.proofs.Common.{CountsFaultOfPart, CountsFaultOfStart, Event, IsErrAnd, IsPrefix, items_append, items_behind, items_of, KeepsItems, log, LogItem}
use Rattle.cj_core.proofs.Common.{LosesNothing, next, OpensTo, RefusesBytes, StartError}
use Rattle.cj_book.proofs.Common.{IsKeptIn, Starts}
use Rattle.cj_book.specs.declared.error.StartError.TheVariants as errors

-- what the bytes keep of a history that has grown
pub loses_nothing : (old new : List ℕ) (items : List LogItem) (opening h : List Event) → KeepsItems old items → OpensTo items opening → IsPrefix opening h → IsKeptIn new h → LosesNothing old new
loses_nothing old new items opening h found opens p kept = let all = from kept.at_least in inr (items, found, all.0, all.1)
  where
    behind : List LogItem
    behind = items_behind (0 + length (log opening)) p.0

    split : items_of h ≡ items ++ behind
    split = sym (ap items_of p.1) ∙ (items_append 0 opening p.0 ∙ ap (λ (xs : List LogItem). xs ++ behind) opens.same)

    from : KeepsItems new (items_of h) ⊎ (refused : LogItem) × KeepsItems new (items_of h ++ refused ∷ []) → (more : List LogItem) × KeepsItems new (items ++ more)
    from (inl all) = (behind, subst (KeepsItems new) split all)
    from (inr (refused, all)) = (behind ++ refused ∷ [], subst (KeepsItems new) (ap (λ (xs : List LogItem). xs ++ refused ∷ []) split ∙ append_assoc items behind (refused ∷ [])) all)

-- a start that the bytes of the log refused
refused_bytes : {S : Type 0} (W : Type 0) (held : S → List ℕ) (old : List ℕ) (error : StartError) (store : S) → Starts {S = S} held old (Err (error, store)) → RefusesBytes {W = W} held old (Err (error, store))
refused_bytes W held old errors.StoreFault store only = inl only
refused_bytes W held old errors.NoMemory store only = inl only
refused_bytes W held old _ store bad = bad

pub refused_again : {S W : Type 0} (held : S → List ℕ) (old : List ℕ) (result : Result W (StartError × S)) (e : StartError × S) → IsErrAnd result (λ x. x ≡ e) → Starts {S = S} held old (Err e) → RefusesBytes held old result
refused_again held old (Ok w) e is bytes = absurd is
refused_again {S = S} {W = W} held old (Err x) (error, store) is bytes = subst (λ (y : StartError × S). RefusesBytes {W = W} held old (Err y)) (sym is) (refused_bytes W held old error store bytes)

-- one that a part of it refused
pub refused_part : {S : Type 0} (T W : Type 0) (held : S → List ℕ) (old : List ℕ) (error : StartError) (store : S) (before now : ℕ) → CountsFaultOfPart {T = T} before (Err error) now → LosesNothing old (held store) → RefusesBytes {W = W} held old (Err (error, store))
refused_part T W held old errors.StoreFault store before now counts nothing = nothing
refused_part T W held old errors.NoMemory store before now counts nothing = nothing
refused_part T W held old _ store before now counts nothing = absurd counts

-- what a part of a start counted is what the start counts
pub fault_of_start : {S : Type 0} (T : Type 0) (faults : S → ℕ) (old : ℕ) (error : StartError) (store : S) (before now : ℕ) → before ≡ old → faults store ≡ now → CountsFaultOfPart {T = T} before (Err error) now → CountsFaultOfStart faults old (Err (error, store))
fault_of_start T faults old errors.StoreFault store before now same is counts = is ∙ (counts ∙ ap next same)
fault_of_start T faults old errors.NoMemory store before now same is counts = is ∙ (counts ∙ same)
fault_of_start T faults old _ store before now same is counts = absurd counts
