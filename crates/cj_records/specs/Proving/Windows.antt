-- What contracts see of a window on a store.
use Rattle.std.specs.Prelude.{ℕ, List}

-- a window: the offset at which it begins, and the bytes that it shows
pub record WindowView : Type 0 where
  pub from : ℕ
  pub bytes : List ℕ
