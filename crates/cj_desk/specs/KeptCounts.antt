-- Calls that leave a count of a desk as it was.
use Rattle.std.specs.Prelude.{◌≡◌, ℕ}
use Rattle.cj_desk.specs.DeskStates.{DeskCall}

-- the call leads the desk from a to z, and the count stays
abbrev pub KeepsCount : {S : Type 0} → (S → DeskCall → S → Type 0) → (S → ℕ) → S → DeskCall → S → Type 0
KeepsCount leads_to count a x z = leads_to a x z × (count z ≡ count a)
