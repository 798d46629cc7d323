-- Texts that are read byte by byte.
use Rattle.std.proofs.Common.{◌≡◌, ◌∙◌, refl, sym, ap, ℕ, ◌+◌, ◌<◌, List, [], ◌∷◌, ◌++◌, length, drop, get_or, Option}
use Rattle.std.proofs.Common.{None, Some, append_assoc}
use Rattle.std.specs.Option.{option_map}
use Rattle.cj_outside.proofs.Sent.{drop_item}
use Rattle.cj_cases.specs.Spellings.{led_by, next_step, spelled, spelled_from}
use Rattle.cj_cases.specs.declared.spelling.Place.{Place}
use Rattle.cj_cases.specs.declared.spelling.Place.TheVariants.{Between}
use Rattle.cj_cases.specs.declared.spelling.Step.TheVariants.{Goes, Gives, Wrong}

-- these bytes in front
abbrev pub led_by_all : List ℕ → Option (List ℕ) → Option (List ℕ)
led_by_all bytes more = option_map (λ m. bytes ++ m) more

led_more : (bytes : List ℕ) (x : ℕ) (more : Option (List ℕ))
    → led_by_all bytes (led_by x more) ≡ led_by_all (bytes ++ x ∷ []) more
led_more bytes x None = refl
led_more bytes x (Some m) = ap (λ (t : List ℕ). Some t) (sym (append_assoc bytes (x ∷ []) m))

-- a byte that leads to another place
pub goes : (text bytes : List ℕ) (i b : ℕ) (place next : Place) → i < length text → b ≡ get_or text i b
    → spelled text ≡ led_by_all bytes (spelled_from place (drop i text)) → Goes next ≡ next_step place b
    → spelled text ≡ led_by_all bytes (spelled_from next (drop (i + 1) text))
goes text bytes i b place next lt is so step =
    so ∙ ap (λ (t : List ℕ). led_by_all bytes (spelled_from place t)) (drop_item text i b lt is)
    ∙ ap (λ s. led_by_all bytes (elim s [
      | Goes p ↦ spelled_from p (drop (i + 1) text)
      | Gives x ↦ led_by x
          (spelled_from Between (drop (i + 1) text))
      | Wrong ↦ None
    ])) (sym step)

-- one that spells a byte
pub spells : (text bytes : List ℕ) (i b x : ℕ) (place : Place) → i < length text → b ≡ get_or text i b
    → spelled text ≡ led_by_all bytes (spelled_from place (drop i text)) → Gives x ≡ next_step place b
    → spelled text ≡ led_by_all (bytes ++ x ∷ []) (spelled_from Between (drop (i + 1) text))
spells text bytes i b x place lt is so step =
    so ∙ ap (λ (t : List ℕ). led_by_all bytes (spelled_from place t)) (drop_item text i b lt is)
    ∙ ap (λ s. led_by_all bytes (elim s [
      | Goes p ↦ spelled_from p (drop (i + 1) text)
      | Gives y ↦ led_by y
          (spelled_from Between (drop (i + 1) text))
      | Wrong ↦ None
    ])) (sym step)
    ∙ led_more bytes x (spelled_from Between (drop (i + 1) text))

-- one that is wrong
pub is_wrong : (text bytes : List ℕ) (i b : ℕ) (place : Place) → i < length text → b ≡ get_or text i b
    → spelled text ≡ led_by_all bytes (spelled_from place (drop i text)) → Wrong ≡ next_step place b
    → spelled text ≡ None
is_wrong text bytes i b place lt is so step =
    so ∙ ap (λ (t : List ℕ). led_by_all bytes (spelled_from place t)) (drop_item text i b lt is)
    ∙ ap (λ s. led_by_all bytes (elim s [
      | Goes p ↦ spelled_from p (drop (i + 1) text)
      | Gives y ↦ led_by y
          (spelled_from Between (drop (i + 1) text))
      | Wrong ↦ None
    ])) (sym step)
