-- The words of a line, and which of them are numbers and backends.
use Rattle.std.specs.Prelude.{◌≡◌, ℕ, ◌<◌, Bool, false, not, ◌&&◌, ◌||◌, ◌==◌, List, [], ◌∷◌, ◌++◌, length, take, slice_index}
use Rattle.std.specs.Char.{is_ascii_digit}
use Rattle.std.specs.List.{list_all}
use Rattle.std.specs.declared.option.Option.{Option}
use Rattle.std.specs.declared.option.Option.TheVariants.{None, Some}
use Rattle.cj_model.specs.Sql.Names.{is_nothing}
use Rattle.cj_cluster.specs.Script.Lines.{HasNoSpace, IsBackend, IsNumber}

-- the value found is the only one of which the fact holds; if none is found, the fact holds of none
abbrev pub FindsValue : {A : Type 0} → (A → Type 0) → Option A → Type 0
FindsValue {A} P None = (x : A) → P x → ⊥
FindsValue {A} P (Some y) = P y × ((x : A) → P x → x ≡ y)

-- the first word of a line, and what follows the space after it, if there is a space
abbrev pub CutsWord : List ℕ → List ℕ → Option (List ℕ) → Type 0
CutsWord line word None = HasNoSpace line × (word ≡ line)
CutsWord line word (Some rest) = HasNoSpace word × (line ≡ word ++ 32 ∷ rest)

-- the first space is at this index
pub record IsFirstSpace (bytes : List ℕ) (at : ℕ) : Type 0 where
  pub within : at < length bytes
  pub space : slice_index bytes at ≡ 32
  pub word : HasNoSpace (take at bytes)

-- the first byte is no 0, unless it is the only one
abbrev pub begins_number : List ℕ → Bool
begins_number [] = false
begins_number (b ∷ z) = not (b == 48) || is_nothing z

-- decimal digits, without a leading zero
abbrev pub is_numeral : List ℕ → Bool
is_numeral z = begins_number z && list_all is_ascii_digit z

-- a number, a space and more
pub record IsNumbered (rest : List ℕ) (n : ℕ) (more : List ℕ) : Type 0 where
  pub word : List ℕ
  pub number : IsNumber word n
  pub parts : rest ≡ word ++ 32 ∷ more

-- a backend's name, a space and more
pub record IsNamed (names : List (List ℕ)) (rest : List ℕ) (b : ℕ) (more : List ℕ) : Type 0 where
  pub word : List ℕ
  pub backend : IsBackend names word b
  pub parts : rest ≡ word ++ 32 ∷ more
