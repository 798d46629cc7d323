-- What a pass that is cut from a seat notes.
use mathlib.Core.Logic.{dite}
use native.Mathlib.Decide.{ℕ_discrete}
use Rattle.std.proofs.Common.{◌≡◌, ℕ, ◌<◌, ◌≤◌, Bool, true, false, leb, cond, List, [], ◌∷◌, ◌++◌, refl, sym, ap, ◌∙◌, subst, arith, leb-true, ne_eqb, Contains}
use Rattle.cj_board.proofs.Common.{Cell, Contains-append_right, Role, max_word}
use Rattle.cj_board.specs.Views.{IsCellOf, role_position, position_note_of, fault_note_of, count_note_of}

note_in : (b p : ℕ) → p < max_word → position_note_of (Cell b p) ≡ (b, p) ∷ []
note_in b p lt = by_test (leb max_word p) refl
  where
    by_test : (t : Bool) → leb max_word p ≡ t → cond {A = List (ℕ × ℕ)} t [] ((b, p) ∷ []) ≡ (b, p) ∷ []
    by_test true e = let le = leb-true max_word p e in absurd (omega arith)
    by_test false e = refl

last_of : (xs ys : List (ℕ × ℕ)) (note : List (ℕ × ℕ)) (x : ℕ × ℕ) → note ≡ x ∷ [] → Contains (xs ++ (ys ++ note)) x
last_of xs ys note x is = Contains-append_right xs (ys ++ note) x (Contains-append_right ys note x (subst (λ (l : List (ℕ × ℕ)). Contains l x) (sym is) (0, omega arith, refl)))

-- the position, unless the backend is out
pub position_noted : (b : ℕ) (role : Role) (xs ys : List (ℕ × ℕ)) → IsCellOf b role → role_position role < max_word → Contains (xs ++ (ys ++ position_note_of role)) (b, role_position role)
position_noted b role xs ys cell lt = last_of xs ys (position_note_of role) (b, role_position role) (ap position_note_of cell ∙ note_in b (role_position role) lt)

-- the number of faults
pub faults_noted : (b faults : ℕ) (role : Role) (xs ys : List (ℕ × ℕ)) → IsCellOf b role → Contains (xs ++ (ys ++ fault_note_of role faults)) (b, faults)
faults_noted b faults role xs ys cell = last_of xs ys (fault_note_of role faults) (b, faults) (ap (λ (r : Role). fault_note_of r faults) cell)

-- an own pass notes its session, so the session was given if all that are noted were
pub own_given : (own count last : ℕ) (xs : List (ℕ × ℕ)) → ((s n : ℕ) → Contains (xs ++ count_note_of own count) (s, n) → s ≤ last) → own ≤ last
own_given own count last xs all = dite (ℕ_discrete own 0)
    (λ e. omega arith)
    (λ ne. all own count (Contains-append_right xs (count_note_of own count) (own, count)
    (subst (λ (b : Bool). Contains (cond {A = List (ℕ × ℕ)} b [] ((own, count) ∷ [])) (own, count)) (sym (ne_eqb own 0 ne)) (0, omega arith, refl))))
