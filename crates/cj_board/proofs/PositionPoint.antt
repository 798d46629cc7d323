-- Positions are in the log, and cells know them, at each step.
use Rattle.std.proofs.Common.{◌≡◌, ◌≢◌, ℕ, suc, ◌+◌, ◌*◌, ◌<◌, List, [], ◌∷◌, ◌++◌, set, sym, ap, ◌∙◌, subst, arith}
use Rattle.cj_board.proofs.Common.{Book, Cell, Event, Pass, Role, SeatView}
use mathlib.Core.Logic.{dite}
use native.Mathlib.Decide.{ℕ_discrete}
use Rattle.cj_board.specs.Points.{position_word, IsInLog, KnowsPosition, PositionsAreInLog, HasSeat, SeatsAreKnown}
use Rattle.cj_board.proofs.EachSeat.{each_set, each_more}
use Rattle.cj_board.proofs.Words.{position_first, position_same, position_else, position_aside}
use Rattle.cj_board.proofs.Histories.{log_grows}

-- the positions are the same
knows_same : (ws us : List ℕ) → ((b : ℕ) → position_word us b ≡ position_word ws b) → (role : Role) (front : List Event) → KnowsPosition ws role front → KnowsPosition us role front
knows_same ws us same (Book m) front k = k
knows_same ws us same (Cell b p) front k = (k.0 ∙ sym (same b), k.1)
knows_same ws us same Pass front k = k

knows_else : (n made : ℕ) (who : ℕ → ℕ) (h : List Event) (ws : List ℕ) (p b i j : ℕ) (role : Role) (front : List Event) → i ≡ who (suc b) → j ≢ i → HasSeat n made who h j role front → KnowsPosition ws role front
    → KnowsPosition (set ws (2 * b + 1) p) role front
knows_else n made who h ws p b i j (Book m) front at ne s k = k
knows_else n made who h ws p b i j (Cell c q) front at ne s k = (k.0 ∙ sym (position_else ws p b c (λ e. ne (s.0 ∙ (ap (λ z. who (suc z)) e ∙ sym at)))), k.1)
knows_else n made who h ws p b i j Pass front at ne s k = k

-- the history is longer, and the first word is another
pub positions_append : (h : List Event) (ws : List ℕ) (vs : List SeatView) (i x : ℕ) (e : Event) (w : SeatView) (m : ℕ) → PositionsAreInLog h ws vs → w.role ≡ Book m → PositionsAreInLog (h ++ e ∷ []) (set ws 0 x) (set vs i w)
positions_append h ws vs i x e w m t role = record {
  in_log = λ b ne. let k = t.in_log b (λ z. ne (position_first ws x b ∙ z)) in let g = log_grows h e in let q = position_first ws x b in omega arith;
  known = each_set (λ j v. KnowsPosition ws v.role v.front) (λ j v. KnowsPosition (set ws 0 x) v.role v.front) vs i w t.known (λ j v _ k. knows_same ws (set ws 0 x) (position_first ws x) v.role v.front k)
      (subst (λ (r : Role). KnowsPosition (set ws 0 x) r w.front) (sym role) tt);
}

-- the position of b becomes p, which is in the log that its cell has seen
pub positions_move : (n made : ℕ) (who : ℕ → ℕ) (h : List Event) (ws : List ℕ) (vs : List SeatView) (i b p : ℕ) (w : SeatView) → SeatsAreKnown n made who h ws vs → PositionsAreInLog h ws vs
    → i ≡ who (suc b) → b < n → w.role ≡ Cell b p → IsInLog p w.front → IsInLog p h → PositionsAreInLog h (set ws (2 * b + 1) p) (set vs i w)
positions_move n made who h ws vs i b p w s t at lt role seen inside = let words = s.words in let same : position_word (set ws (2 * b + 1) p) b ≡ p = position_same ws p b (omega arith) in record {
  in_log = λ c. dite (ℕ_discrete c b)
      (λ e. subst (λ (z : ℕ). IsInLog z h) (sym (ap (λ z. position_word (set ws (2 * b + 1) p) z) e ∙ same)) inside)
      (λ ne. subst (λ (z : ℕ). IsInLog z h) (sym (position_else ws p b c ne)) (t.in_log c));
  known = λ j v e. each_set (λ j v. HasSeat n made who h j v.role v.front × KnowsPosition ws v.role v.front) (λ j v. KnowsPosition (set ws (2 * b + 1) p) v.role v.front) vs i w
      (λ j v e. (s.seats j v e, t.known j v e)) (λ j v ne k. knows_else n made who h ws p b i j v.role v.front at ne k.0 k.1)
      (subst (λ (r : Role). KnowsPosition (set ws (2 * b + 1) p) r w.front) (sym role) (sym same, seen)) j v e;
}

-- a number of faults is set
pub positions_fault : (h : List Event) (ws : List ℕ) (vs : List SeatView) (b f i : ℕ) (w : SeatView) → PositionsAreInLog h ws vs → KnowsPosition ws w.role w.front → PositionsAreInLog h (set ws (2 * b + 2) f) (set vs i w)
positions_fault h ws vs b f i w t mine = let us : List ℕ = set ws (2 * b + 2) f in record {
  in_log = λ c. subst (λ (z : ℕ). IsInLog z h) (sym (position_aside ws f b c)) (t.in_log c);
  known = each_set (λ j v. KnowsPosition ws v.role v.front) (λ j v. KnowsPosition us v.role v.front) vs i w t.known (λ j v _ k. knows_same ws us (position_aside ws f b) v.role v.front k) (knows_same ws us (position_aside ws f b) w.role w.front mine);
}

-- the words stay
pub positions_set : (h : List Event) (ws : List ℕ) (vs : List SeatView) (i : ℕ) (w : SeatView) → PositionsAreInLog h ws vs → KnowsPosition ws w.role w.front → PositionsAreInLog h ws (set vs i w)
positions_set h ws vs i w t mine = let F : ℕ → SeatView → Type 0 = λ j v. KnowsPosition ws v.role v.front in record {
  in_log = t.in_log;
  known = each_set F F vs i w t.known (λ j v _ k. k) mine;
}

pub positions_more : (h : List Event) (ws : List ℕ) (vs : List SeatView) (w : SeatView) → PositionsAreInLog h ws vs → KnowsPosition ws w.role w.front → PositionsAreInLog h ws (vs ++ w ∷ [])
positions_more h ws vs w t mine = let F : ℕ → SeatView → Type 0 = λ j v. KnowsPosition ws v.role v.front in record {
  in_log = t.in_log;
  known = each_more F F vs w t.known (λ j v _ k. k) mine;
}
