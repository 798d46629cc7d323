-- The bytes at the front of a text that pass a test.
use Rattle.std.proofs.Common.{◌≡◌, refl, ℕ, suc, ◌+◌, Bool, true, false, cond, List, [], ◌∷◌, ◌++◌, length, take, drop, arith}
use Rattle.std.specs.List.{prefix_len}
use Rattle.cj_model.specs.Sql.Lexical.{EachByte, EndsBefore}

-- the bytes at the front that pass
abbrev pub front : (ℕ → Bool) → List ℕ → List ℕ
front q z = take (prefix_len q z) z

-- the text after them
abbrev pub past : (ℕ → Bool) → List ℕ → List ℕ
past q z = drop (prefix_len q z) z

-- each of them passes
pub front_each : (q : ℕ → Bool) (z : List ℕ) → EachByte q (front q z)
front_each q [] = tt
front_each q (b ∷ z) =
    elim (q b) as (λ v. q b ≡ v → EachByte q (take (cond v (1 + prefix_len q z) 0) (b ∷ z))) [
      | true ↦ λ e. let one : 1 + prefix_len q z ≡ suc (prefix_len q z) = omega arith in rw one (e, front_each q z)
      | false ↦ λ e. tt
    ] refl

-- the next byte does not
pub past_ends : (q : ℕ → Bool) (z : List ℕ) → EndsBefore q (past q z)
past_ends q [] = tt
past_ends q (b ∷ z) =
    elim (q b) as (λ v. q b ≡ v → EndsBefore q (drop (cond v (1 + prefix_len q z) 0) (b ∷ z))) [
      | true ↦ λ e. let one : 1 + prefix_len q z ≡ suc (prefix_len q z) = omega arith in rw one (past_ends q z)
      | false ↦ λ e. e
    ] refl

-- a first byte that passes is part of the front
pub front_first : (q : ℕ → Bool) (b : ℕ) (z : List ℕ) → q b ≡ true → front q (b ∷ z) ≡ b ∷ front q z
front_first q b z h = let one : 1 + prefix_len q z ≡ suc (prefix_len q z) = omega arith in rw (h, one) refl

-- where the first byte does not pass, there are none
no_more : (q : ℕ → Bool) (rest : List ℕ) → EndsBefore q rest → prefix_len q rest ≡ 0
no_more q [] h = refl
no_more q (b ∷ z) h = rw h refl

-- bytes that pass are the front, where the next one does not pass
pub prefix_all : (q : ℕ → Bool) (w rest : List ℕ) → EachByte q w → EndsBefore q rest → prefix_len q (w ++ rest) ≡ length w
prefix_all q [] rest e h = no_more q rest h
prefix_all q (b ∷ w) rest e h =
    let ih = prefix_all q w rest e.1 h in
    let one : 1 + prefix_len q (w ++ rest) ≡ suc (length w) = omega arith in
    rw e.0 one
