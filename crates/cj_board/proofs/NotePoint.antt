-- Notes of positions still hold, at each step.
use Rattle.std.proofs.Common.{◌≢◌, ℕ, ◌+◌, ◌*◌, List, [], ◌∷◌, ◌++◌, length, get_or, set, sym, ap, ◌∙◌, arith, All}
use Rattle.cj_board.proofs.Common.{Event, SeatView, log}
use mathlib.Core.Logic.{dite}
use native.Mathlib.Decide.{ℕ_discrete}
use Rattle.cj_board.specs.Points.{position_word, IsPositionNote, PositionNotesHold}
use Rattle.cj_board.proofs.EachSeat.{each_set, each_more}
use Rattle.cj_board.proofs.Histories.{log_grows}
use Rattle.cj_board.proofs.Words.{position_first, position_else, position_aside}

all_notes : (g h : List Event) (ws us : List ℕ) (xs : List (ℕ × ℕ)) → ((x : ℕ × ℕ) → IsPositionNote g ws x → IsPositionNote h us x) → All (IsPositionNote g ws) xs → All (IsPositionNote h us) xs
all_notes g h ws us xs f a k d lt = f (get_or xs k d) (a k d lt)

pub notes_append : (h : List Event) (ws : List ℕ) (vs : List SeatView) (i x : ℕ) (e : Event) (w : SeatView) → PositionNotesHold h ws vs → All (IsPositionNote h ws) w.position_notes → PositionNotesHold (h ++ e ∷ []) (set ws 0 x) (set vs i w)
notes_append h ws vs i x e w all mine = each_set (λ j v. All (IsPositionNote h ws) v.position_notes) (λ j v. All (IsPositionNote (h ++ e ∷ []) (set ws 0 x)) v.position_notes) vs i w all
    (λ j v _ a. all_notes h (h ++ e ∷ []) ws (set ws 0 x) v.position_notes still a) (all_notes h (h ++ e ∷ []) ws (set ws 0 x) w.position_notes still mine)
  where
    still : (y : ℕ × ℕ) → IsPositionNote h ws y → IsPositionNote (h ++ e ∷ []) (set ws 0 x) y
    still y n = let g = log_grows h e in let le = n.0 in (omega arith, λ s. position_first ws x y.0 ∙ n.1 (omega arith))

-- a backend that was not at the end of the log moves
pub notes_move : (h : List Event) (ws : List ℕ) (vs : List SeatView) (i b q : ℕ) (w : SeatView) → PositionNotesHold h ws vs → All (IsPositionNote h ws) w.position_notes → position_word ws b ≢ length (log h) → PositionNotesHold h (set ws (2 * b + 1) q) (set vs i w)
notes_move h ws vs i b q w all mine off = each_set (λ j v. All (IsPositionNote h ws) v.position_notes) (λ j v. All (IsPositionNote h (set ws (2 * b + 1) q)) v.position_notes) vs i w all
    (λ j v _ a. all_notes h h ws (set ws (2 * b + 1) q) v.position_notes moved a) (all_notes h h ws (set ws (2 * b + 1) q) w.position_notes moved mine)
  where
    moved : (y : ℕ × ℕ) → IsPositionNote h ws y → IsPositionNote h (set ws (2 * b + 1) q) y
    moved y n = (n.0, λ s. dite (ℕ_discrete y.0 b) (λ e. absurd (off (sym (ap (λ z. position_word ws z) e) ∙ (n.1 s ∙ sym s)))) (λ ne. position_else ws q b y.0 ne ∙ n.1 s))

-- a number of faults is set
pub notes_fault : (h : List Event) (ws : List ℕ) (vs : List SeatView) (b f i : ℕ) (w : SeatView) → PositionNotesHold h ws vs → All (IsPositionNote h ws) w.position_notes → PositionNotesHold h (set ws (2 * b + 2) f) (set vs i w)
notes_fault h ws vs b f i w all mine = each_set (λ j v. All (IsPositionNote h ws) v.position_notes) (λ j v. All (IsPositionNote h (set ws (2 * b + 2) f)) v.position_notes) vs i w all
    (λ j v _ a. all_notes h h ws (set ws (2 * b + 2) f) v.position_notes same a) (all_notes h h ws (set ws (2 * b + 2) f) w.position_notes same mine)
  where
    same : (y : ℕ × ℕ) → IsPositionNote h ws y → IsPositionNote h (set ws (2 * b + 2) f) y
    same y n = (n.0, λ s. position_aside ws f b y.0 ∙ n.1 s)

-- the words stay
pub notes_set : (h : List Event) (ws : List ℕ) (vs : List SeatView) (i : ℕ) (w : SeatView) → PositionNotesHold h ws vs → All (IsPositionNote h ws) w.position_notes → PositionNotesHold h ws (set vs i w)
notes_set h ws vs i w all mine = let F : ℕ → SeatView → Type 0 = λ j v. All (IsPositionNote h ws) v.position_notes in each_set F F vs i w all (λ j v _ a. a) mine

pub notes_more : (h : List Event) (ws : List ℕ) (vs : List SeatView) (w : SeatView) → PositionNotesHold h ws vs → All (IsPositionNote h ws) w.position_notes → PositionNotesHold h ws (vs ++ w ∷ [])
notes_more h ws vs w all mine = let F : ℕ → SeatView → Type 0 = λ j v. All (IsPositionNote h ws) v.position_notes in each_more F F vs w all (λ j v _ a. a) mine
