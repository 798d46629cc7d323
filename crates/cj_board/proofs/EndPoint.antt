-- Cells stand at the end of each log at which their backends were enabled, until they have seen a longer one, at each step.
use Rattle.std.proofs.Common.{◌≡◌, ℕ, suc, ◌<◌, ◌≤◌, true, List, [], ◌∷◌, ◌++◌, length, set, refl, sym, ap, ◌∙◌, subst, arith, ◌⊎◌, inl, inr, ⊎_elim}
use mathlib.Core.List.{IsPrefix}
use Rattle.cj_board.proofs.Common.{Book, Cell, Event, IsLegal, Pass, Role, SeatView, log, max_word}
use Rattle.cj_cluster.specs.History.Histories.{is_enabled, is_free}
use Rattle.cj_board.specs.Points.{AtEachSeat, CellStandsAtEnd, CellsStandAtEnd, EnabledAreAtEnd, KnowsPosition, StandsAtEnd, position_word}
use Rattle.cj_board.proofs.EachSeat.{each_set, each_more}
use Rattle.cj_board.proofs.Histories.{log_bound, log_of_prefix}
use Rattle.cj_board.proofs.Words.{position_first}

-- what begins a longer history begins the shorter one, or is the longer one
begins_longer : (m h : List Event) (e : Event) → IsPrefix m (h ++ e ∷ []) → IsPrefix m h ⊎ (m ≡ h ++ e ∷ [])
begins_longer [] h e p = inl (h, refl)
begins_longer (x ∷ []) [] e p = let same : x ≡ e = cc (p.1) in inr (ap (λ (z : Event). z ∷ []) same)
begins_longer (x ∷ y ∷ m) [] e p = absurd (cc (p.1))
begins_longer (x ∷ m) (y ∷ h) e p =
    let heads : x ≡ y = cc (p.1) in
    ⊎_elim (λ (q : IsPrefix m h). inl (q.0, cc (heads, q.1))) (λ (q : m ≡ h ++ e ∷ []). inr (cc (heads, q))) (begins_longer m h e (p.0, cc (p.1)))

-- ---- one backend

stands_longer : (b p : ℕ) (front h : List Event) (e : Event) → (is_free (h ++ e ∷ []) ≡ true → is_enabled (h ++ e ∷ []) b ≡ true → p ≡ length (log (h ++ e ∷ []))) → StandsAtEnd b p front h → StandsAtEnd b p front (h ++ e ∷ [])
stands_longer b p front h e now old m begins idle on = ⊎_elim
    (λ (q : IsPrefix m h). old m q idle on)
    (λ (q : m ≡ h ++ e ∷ []). inl (subst (λ (l : List Event). is_free l ≡ true → is_enabled l b ≡ true → p ≡ length (log l)) (sym q) now idle on))
    (begins_longer m h e begins)

-- a cell that moves has seen a longer log, or was out
pub stands_moved : (b p q : ℕ) (front h : List Event) → IsLegal h → (p < length (log front)) ⊎ (p ≡ max_word) → StandsAtEnd b p front h → StandsAtEnd b q front h
stands_moved b p q front h legal from old m begins idle on = ⊎_elim
    (λ (e : p ≡ length (log m)). let top = log_bound h legal in let le = log_of_prefix m h begins in inr (⊎_elim (λ (lt : p < length (log front)). omega arith) (λ (o : p ≡ max_word). absurd (omega arith)) from))
    (λ (lt : length (log m) < length (log front)). inr lt)
    (old m begins idle on)

-- nothing was enabled before the first event
pub stands_first : (b : ℕ) → StandsAtEnd b 0 [] []
stands_first b m begins idle on = let le = log_of_prefix m [] begins in inl (omega arith)

-- more was seen
pub stands_seen : (h : List Event) (role : Role) (front more : List Event) → length (log front) ≤ length (log more) → CellStandsAtEnd h role front → CellStandsAtEnd h role more
stands_seen h (Book n) front more le s = tt
stands_seen h (Cell b p) front more le s = λ m begins idle on. ⊎_elim (λ (e : p ≡ length (log m)). inl e) (λ (lt : length (log m) < length (log front)). inr (omega arith)) (s m begins idle on)
stands_seen h Pass front more le s = tt

cell_longer : (h : List Event) (ws : List ℕ) (x : ℕ) (e : Event) → EnabledAreAtEnd (h ++ e ∷ []) (set ws 0 x) → (role : Role) (front : List Event) → KnowsPosition ws role front → CellStandsAtEnd h role front → CellStandsAtEnd (h ++ e ∷ []) role front
cell_longer h ws x e all (Book m) front k s = tt
cell_longer h ws x e all (Cell b p) front k s = stands_longer b p front h e (λ idle on. k.0 ∙ (sym (position_first ws x b) ∙ all idle b on)) s
cell_longer h ws x e all Pass front k s = tt

-- ---- the steps

pub ends_append : (made : ℕ) (h : List Event) (ws : List ℕ) (vs : List SeatView) (i x : ℕ) (e : Event) (w : SeatView) (m : ℕ) → CellsStandAtEnd made h vs → AtEachSeat vs (λ j v. KnowsPosition ws v.role v.front) → ((b : ℕ) → made ≤ b → position_word ws b ≡ 0)
    → EnabledAreAtEnd (h ++ e ∷ []) (set ws 0 x) → w.role ≡ Book m → CellsStandAtEnd made (h ++ e ∷ []) (set vs i w)
ends_append made h ws vs i x e w m s known none all role = record {
  cells = λ j v at. each_set (λ j v. KnowsPosition ws v.role v.front × CellStandsAtEnd h v.role v.front) (λ j v. CellStandsAtEnd (h ++ e ∷ []) v.role v.front) vs i w
      (λ j v at. (known j v at, s.cells j v at)) (λ j v ne k. cell_longer h ws x e all v.role v.front k.0 k.1)
      (subst (λ (r : Role). CellStandsAtEnd (h ++ e ∷ []) r w.front) (sym role) tt) j v at;
  unmade = λ b le. stands_longer b 0 [] h e (λ idle on. sym (none b le) ∙ (sym (position_first ws x b) ∙ all idle b on)) (s.unmade b le);
}

pub ends_set : (made : ℕ) (h : List Event) (vs : List SeatView) (i : ℕ) (w : SeatView) → CellsStandAtEnd made h vs → CellStandsAtEnd h w.role w.front → CellsStandAtEnd made h (set vs i w)
ends_set made h vs i w s mine = let F : ℕ → SeatView → Type 0 = λ j v. CellStandsAtEnd h v.role v.front in record {
  cells = each_set F F vs i w s.cells (λ j v ne y. y) mine;
  unmade = s.unmade;
}

pub ends_more : (made : ℕ) (h : List Event) (vs : List SeatView) (w : SeatView) → CellsStandAtEnd made h vs → CellStandsAtEnd h w.role w.front → CellsStandAtEnd made h (vs ++ w ∷ [])
ends_more made h vs w s mine = let F : ℕ → SeatView → Type 0 = λ j v. CellStandsAtEnd h v.role v.front in record {
  cells = each_more F F vs w s.cells (λ j v ne y. y) mine;
  unmade = s.unmade;
}

-- the book makes its next cell
pub ends_cell : (made : ℕ) (h : List Event) (vs : List SeatView) (i : ℕ) (w u : SeatView) → CellsStandAtEnd made h vs → CellStandsAtEnd h w.role w.front → u.role ≡ Cell made 0 → u.front ≡ [] → CellsStandAtEnd (suc made) h (set vs i w ++ u ∷ [])
ends_cell made h vs i w u s mine role front =
    let more = ends_more made h (set vs i w) u (ends_set made h vs i w s mine) (subst (λ (z : Role × List Event). CellStandsAtEnd h z.0 z.1) (λ k. (sym role k, sym front k)) (s.unmade made (omega arith))) in
    record { cells = more.cells; unmade = λ b le. s.unmade b (omega arith) }
