-- Lines that are not empty: what a move's line is like, and how many there are.
use Rattle.std.proofs.Common.{◌≡◌, ℕ, ◌+◌, ◌*◌, ◌≤◌, Bool, not, List, [], ◌∷◌, ◌++◌, length, inl, inr, refl, ap, sym, subst, ◌∙◌, arith, length-append}
use Rattle.std.proofs.lemmas.List.Elements.{filter-append}
use Rattle.cj_script.proofs.Common.{Move, MoveLine, WorldState}
use Rattle.cj_cluster.specs.declared.moves.Move.TheVariants.{Open, Close, Schedule, Abort, Apply, End, Read, Arm, Disable, Replay, Enable, Mark, Dump, Load}
use Rattle.cj_script.specs.Script.{audit_line, is_empty, filled, PlaysLine}

-- ---- the line of a move

-- a verb and more behind a space
verb_more : (line more : List ℕ) (v w : ℕ) → line ≡ v ∷ w ∷ more → 2 ≤ length line
verb_more line more v w is = omega (arith, ap length is)

-- a move's line has two bytes at least
pub move_line_long : (names : List (List ℕ)) (line : List ℕ) (m : Move) → MoveLine names line m → 2 ≤ length line
move_line_long names line (Open user) (is, e) = verb_more line _ _ _ e
move_line_long names line (Close s) (number, is, e) = verb_more line _ _ _ e
move_line_long names line (Schedule s r) (number, sql, is, reads, e) = verb_more line _ _ _ e
move_line_long names line (Abort tx) (number, is, e) = verb_more line _ _ _ e
move_line_long names line (Apply b) (name, is, e) = verb_more line _ _ _ e
move_line_long names line End e = verb_more line _ _ _ e
move_line_long names line (Read s b select) (number, name, sql, is, named, reads, e) = verb_more line _ _ _ e
move_line_long names line (Arm b) (name, is, e) = verb_more line _ _ _ e
move_line_long names line (Disable b) (name, is, e) = verb_more line _ _ _ e
move_line_long names line (Replay b) (name, is, e) = verb_more line _ _ _ e
move_line_long names line (Enable b) (name, is, e) = verb_more line _ _ _ e
move_line_long names line (Mark name) (is, e) = verb_more line _ _ _ e
move_line_long names line (Dump b name) (backend, is, named, e) = verb_more line _ _ _ e
move_line_long names line (Load b name) (backend, is, named, e) = verb_more line _ _ _ e

-- ---- lists of lines

-- an empty line is left out
pub filled_empty : (line : List ℕ) (lines : List (List ℕ)) → line ≡ [] → filled (line ∷ lines) ≡ filled lines
filled_empty line lines is = ap (λ (l : List ℕ). filled (l ∷ lines)) is

-- and a move's is not
pub filled_move : (names : List (List ℕ)) (line : List ℕ) (lines : List (List ℕ)) (m : Move) → MoveLine names line m → filled (line ∷ lines) ≡ line ∷ filled lines
filled_move names [] lines m reads = absurd (omega (arith, move_line_long names [] m reads))
filled_move names (b ∷ bytes) lines m reads = refl

-- nor is an audit's
pub filled_audit : (line : List ℕ) (lines : List (List ℕ)) → line ≡ audit_line → filled (line ∷ lines) ≡ line ∷ filled lines
filled_audit line lines is = subst (λ (l : List ℕ). filled (l ∷ lines) ≡ l ∷ filled lines) (sym is) refl

-- a line that plays has two bytes at least for each that is not empty
filled_one : (tells armable : Bool) (names : List (List ℕ)) (c : WorldState) (line written : List ℕ) (z : WorldState) → PlaysLine tells armable names c line written z → 2 * length (filled (line ∷ [])) ≤ length line
filled_one tells armable names c line written z (inl skips) = let none : length (filled (line ∷ [])) ≡ 0 = ap length (filled_empty line [] skips.empty) in omega arith
filled_one tells armable names c line written z (inr (inr (is, audits))) =
    let one : length (filled (line ∷ [])) ≡ 1 = ap length (filled_audit line [] is) in
    let long = verb_more line _ _ _ is in
    omega arith
filled_one tells armable names c line written z (inr (inl makes)) =
    let one : length (filled (line ∷ [])) ≡ 1 = ap length (filled_move names line [] makes.move makes.reads) in
    let long = move_line_long names line makes.move makes.reads in
    omega arith

-- one more
pub filled_more : (tells armable : Bool) (names : List (List ℕ)) (c : WorldState) (lines : List (List ℕ)) (line written : List ℕ) (z : WorldState) (room bytes : ℕ) → PlaysLine tells armable names c line written z
    → 2 * length (filled lines) + (length line + room) ≤ bytes → 2 * length (filled (lines ++ line ∷ [])) + room ≤ bytes
filled_more tells armable names c lines line written z room bytes h few =
    let one = filled_one tells armable names c line written z h in
    let many : length (filled (lines ++ line ∷ [])) ≡ length (filled lines) + length (filled (line ∷ [])) =
    ap length (filter-append (λ (l : List ℕ). not (is_empty l)) lines (line ∷ [])) ∙ length-append (filled lines) (filled (line ∷ []))
    in
    omega arith
