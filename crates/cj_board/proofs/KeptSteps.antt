-- The whole rule, at each kind of step.
use Rattle.std.proofs.Common.{◌≡◌, ◌≢◌, ℕ, suc, ◌+◌, ◌*◌, ◌<◌, ◌≤◌, List, [], ◌∷◌, ◌++◌, length, set, inr, refl, sym, ap, ◌∙◌, subst, arith, All}
use mathlib.Core.Option.{some}
use lib.ListN.{get_elem?}
use Rattle.std.proofs.lemmas.List.Elements.{All-nil}
use Rattle.cj_board.proofs.Common.{Book, Cell, Event, IsLegal, Role, SeatView, log}
use Rattle.cj_board.specs.Points.{position_word, fault_word, max_word, HasSeat, BeginsHistory, IsInLog, KnowsPosition, IsPositionNote, IsFaultNote, KnowsFaults, KnowsGiven, fault_tokens_of, CellStandsAtEnd, EnabledAreAtEnd, OwnPassesCount, IsKept}
use Rattle.cj_board.specs.Steps.{HasPositionNotes, HasFaultTokens, HasCountNotes, after_append, with_position, at_position, with_faults, after_count, after_making_cell, one_cell_more}
use Rattle.cj_board.specs.Views.{cells_made, next_cell, next_cell_of}
use Rattle.cj_board.proofs.KnownSeats.{known_append, known_move, known_fault, known_set, known_more, known_cell, put}
use Rattle.cj_board.proofs.FrontPoint.{fronts_append, fronts_turn, fronts_set, fronts_more}
use Rattle.cj_board.proofs.PositionPoint.{positions_append, positions_move, positions_fault, positions_set, positions_more}
use Rattle.cj_board.proofs.NotePoint.{notes_append, notes_move, notes_fault, notes_set, notes_more}
use Rattle.cj_board.proofs.EnabledPoint.{enabled_append, enabled_move, enabled_fault}
use Rattle.cj_board.proofs.EndPoint.{ends_append, ends_set, ends_more, ends_cell}
use Rattle.cj_board.proofs.FaultPoint.{faults_append, faults_move, faults_fault, faults_set, faults_split, faults_join}
use Rattle.cj_board.proofs.SessionPoint.{SameCounts, counts_append, counts_set, counts_split, counts_up}

-- what a view has to meet by itself, at the number j
pub record Fits (n made : ℕ) (who : ℕ → ℕ) (h : List Event) (ws : List ℕ) (j : ℕ) (v : SeatView) : Type 0 where
  pub seat : HasSeat n made who h j v.role v.front
  pub begins : BeginsHistory h v
  pub position : KnowsPosition ws v.role v.front
  pub end : CellStandsAtEnd h v.role v.front
  pub positions : All (IsPositionNote h ws) v.position_notes
  pub faults : All (IsFaultNote ws) v.fault_notes
  pub fault : KnowsFaults ws v.role v.faults

pub same_counts : (v w : SeatView) → w.role ≡ v.role → w.own_session ≡ v.own_session → w.count ≡ v.count → w.count_notes ≡ v.count_notes → w.given ≡ v.given → w.last_given ≡ v.last_given → SameCounts v w
same_counts v w role own count notes given last = record {
  books = λ g l k. subst (λ (z : Role × List ℕ × ℕ). KnowsGiven g l z.0 z.1 z.2) (λ i. (sym role i, sym given i, sym last i)) k;
  own = own;
  count = count;
  notes = notes;
}

module _ (n made : ℕ) (who : ℕ → ℕ) (h : List Event) (ws : List ℕ) (vs : List SeatView) where
  pub fits : (j : ℕ) (v : SeatView) → IsKept n made who h ws vs → get_elem? vs j ≡ some v → Fits n made who h ws j v
  fits j v s at = record { seat = s.known.seats j v at; begins = s.begin.fronts j v at; position = s.positions.known j v at; end = s.ends.cells j v at; positions = s.notes j v at; faults = s.faults.notes j v at; fault = s.faults.known j v at }

  pub stands_append : (i x m : ℕ) (e : Event) (v : SeatView) → IsKept n made who h ws vs → get_elem? vs i ≡ some v → v.role ≡ Book m → x ≡ length h + 1 → IsLegal (h ++ e ∷ []) → HasPositionNotes h v.position_notes e → HasFaultTokens v.fault_tokens e
      → HasCountNotes v.given h v.count_notes e → IsKept n made who (h ++ e ∷ []) (set ws 0 x) (set vs i (after_append e v))
  stands_append i x m e v s at role is legal notes tokens counts =
      let f = fits i v s at in
      let w = after_append e v in
      let seat : HasSeat n made who h i (Book m) v.front = subst (λ (r : Role). HasSeat n made who h i r v.front) role f.seat in
      let words = s.known.words in
      let enabled : EnabledAreAtEnd (h ++ e ∷ []) (set ws 0 x) = enabled_append h ws x e v.position_notes s.enabled f.positions legal notes in
      record {
        known = known_append n made who h (h ++ e ∷ []) ws vs i x w m s.known seat.0 seat.1 role (ap (λ l. l ++ e ∷ []) seat.2);
        begin = fronts_append h ws vs i x e v s.begin (omega arith) is legal seat.2 f.begins;
        positions = positions_append h ws vs i x e w m s.positions role;
        notes = notes_append h ws vs i x e w s.notes f.positions;
        enabled = enabled;
        ends = ends_append made h ws vs i x e w m s.ends s.positions.known s.known.positions enabled role;
        faults = faults_append h ws vs i x e v w s.faults at tokens refl refl refl refl;
        counts = counts_append h vs i e v w s.counts at (role ∙ ap Book (sym (ap cells_made role))) counts (same_counts v w refl refl refl refl refl refl);
      }

  -- a position that was not the end of the log is another
  pub stands_move : (i b p q : ℕ) (v : SeatView) → IsKept n made who h ws vs → get_elem? vs i ≡ some v → v.role ≡ Cell b p → IsInLog q v.front → IsInLog q h → p ≢ length (log h) → CellStandsAtEnd h (Cell b q) v.front
      → IsKept n made who h (set ws (2 * b + 1) q) (set vs i (at_position q v))
  stands_move i b p q v s at role seen inside off end =
      let f = fits i v s at in
      let w = at_position q v in
      let seat : HasSeat n made who h i (Cell b p) v.front = subst (λ (r : Role). HasSeat n made who h i r v.front) role f.seat in
      let knows : KnowsPosition ws (Cell b p) v.front = subst (λ (r : Role). KnowsPosition ws r v.front) role f.position in
      let off' : position_word ws b ≢ length (log h) = λ e. off (knows.0 ∙ e) in
      let role' : w.role ≡ Cell b q = ap (with_position q) role in
      record {
        known = known_move n made who h ws vs b q i w s.known seat.1 (subst (λ (r : Role). HasSeat n made who h i r v.front) (sym role') seat);
        begin = fronts_turn h ws vs (2 * b + 1) q i w s.begin (λ z. omega arith) f.begins;
        positions = positions_move n made who h ws vs i b q w s.known s.positions seat.0 seat.2 role' seen inside;
        notes = notes_move h ws vs i b q w s.notes f.positions off';
        enabled = enabled_move h ws b q s.enabled off';
        ends = ends_set made h vs i w s.ends (subst (λ (r : Role). CellStandsAtEnd h r v.front) (sym role') end);
        faults = faults_move h ws vs i b q v w s.faults at (subst (λ (r : Role). KnowsFaults ws r v.faults) (sym role') (subst (λ (r : Role). KnowsFaults ws r v.faults) role f.fault)) refl refl;
        counts = counts_set h vs i v w s.counts at record { books = λ g l k. subst (λ (r : Role). KnowsGiven g l r v.given v.last_given) (sym role') tt; own = refl; count = refl; notes = refl };
      }

  pub stands_fault : (i b p f : ℕ) (v : SeatView) → IsKept n made who h ws vs → get_elem? vs i ≡ some v → v.role ≡ Cell b p → fault_word ws b ≤ f → (f ≢ max_word → f ≡ fault_word ws b + 1) → f ≤ max_word
      → IsKept n made who h (set ws (2 * b + 2) f) (set vs i (with_faults b f v))
  stands_fault i b p f v s at role up next fit =
      let g = fits i v s at in
      let w = with_faults b f v in
      let seat : HasSeat n made who h i (Cell b p) v.front = subst (λ (r : Role). HasSeat n made who h i r v.front) role g.seat in
      record {
        known = known_fault n made who h ws vs b f i w s.known seat.1 g.seat;
        begin = fronts_turn h ws vs (2 * b + 2) f i w s.begin (λ z. omega arith) g.begins;
        positions = positions_fault h ws vs b f i w s.positions g.position;
        notes = notes_fault h ws vs b f i w s.notes g.positions;
        enabled = enabled_fault h ws b f s.enabled;
        ends = ends_set made h vs i w s.ends g.end;
        faults = faults_fault h ws vs n made who i b f p v w s.known s.faults at seat.0 seat.2 role refl refl refl up next fit;
        counts = counts_set h vs i v w s.counts at (same_counts v w refl refl refl refl refl refl);
      }

  -- the words stay
  pub stands_set : (i : ℕ) (v w : SeatView) → IsKept n made who h ws vs → get_elem? vs i ≡ some v → Fits n made who h ws i w → ((b : ℕ) → fault_tokens_of b w.fault_tokens ≤ fault_tokens_of b v.fault_tokens) → SameCounts v w → IsKept n made who h ws (set vs i w)
  stands_set i v w s at f less same = record {
    known = known_set n made who h ws vs i w s.known f.seat;
    begin = fronts_set h ws vs i w s.begin f.begins;
    positions = positions_set h ws vs i w s.positions f.position;
    notes = notes_set h ws vs i w s.notes f.positions;
    enabled = s.enabled;
    ends = ends_set made h vs i w s.ends f.end;
    faults = faults_set h ws vs i v w s.faults at f.faults f.fault less;
    counts = counts_set h vs i v w s.counts at same;
  }

  -- a view is cut in two
  pub stands_split : (i : ℕ) (v w u : SeatView) → IsKept n made who h ws vs → get_elem? vs i ≡ some v → Fits n made who h ws i w → Fits n made who h ws (length (set vs i w)) u
      → ((b : ℕ) → fault_tokens_of b w.fault_tokens + fault_tokens_of b u.fault_tokens ≤ fault_tokens_of b v.fault_tokens) → OwnPassesCount h (set vs i w ++ u ∷ []) → IsKept n made who h ws (set vs i w ++ u ∷ [])
  stands_split i v w u s at f g less counts = record {
    known = known_more n made who h ws (set vs i w) u (known_set n made who h ws vs i w s.known f.seat) g.seat;
    begin = fronts_more h ws (set vs i w) u (fronts_set h ws vs i w s.begin f.begins) g.begins;
    positions = positions_more h ws (set vs i w) u (positions_set h ws vs i w s.positions f.position) g.position;
    notes = notes_more h ws (set vs i w) u (notes_set h ws vs i w s.notes f.positions) g.positions;
    enabled = s.enabled;
    ends = ends_more made h (set vs i w) u (ends_set made h vs i w s.ends f.end) g.end;
    faults = faults_split h ws vs i v w u s.faults at f.faults f.fault g.faults g.fault less;
    counts = counts;
  }

  -- two views are put together, and one is spent
  pub stands_join : (i k : ℕ) (v w both spent : SeatView) → IsKept n made who h ws vs → get_elem? vs i ≡ some v → k ≢ i → get_elem? vs k ≡ some w → Fits n made who h ws i both → Fits n made who h ws k spent
      → ((b : ℕ) → fault_tokens_of b both.fault_tokens + fault_tokens_of b spent.fault_tokens ≤ fault_tokens_of b v.fault_tokens + fault_tokens_of b w.fault_tokens) → OwnPassesCount h (set (set vs i both) k spent) → IsKept n made who h ws (set (set vs i both) k spent)
  stands_join i k v w both spent s at apart there f g less counts = record {
    known = known_set n made who h ws (set vs i both) k spent (known_set n made who h ws vs i both s.known f.seat) g.seat;
    begin = fronts_set h ws (set vs i both) k spent (fronts_set h ws vs i both s.begin f.begins) g.begins;
    positions = positions_set h ws (set vs i both) k spent (positions_set h ws vs i both s.positions f.position) g.position;
    notes = notes_set h ws (set vs i both) k spent (notes_set h ws vs i both s.notes f.positions) g.positions;
    enabled = s.enabled;
    ends = ends_set made h (set vs i both) k spent (ends_set made h vs i both s.ends f.end) g.end;
    faults = faults_join h ws vs i k v w both spent s.faults at apart there f.faults f.fault g.faults g.fault less;
    counts = counts;
  }

  -- the book makes its next cell
  pub stands_cell : (i m : ℕ) (v : SeatView) → IsKept n made who h ws vs → get_elem? vs i ≡ some v → v.role ≡ Book m → m < n
      → IsKept n (suc made) (put who (suc made) (length (set vs i (after_making_cell v)))) h ws (set vs i (after_making_cell v) ++ next_cell_of v ∷ [])
  stands_cell i m v s at role lt =
      let f = fits i v s at in
      let w = after_making_cell v in
      let u = next_cell_of v in
      let seat : HasSeat n made who h i (Book m) v.front = subst (λ (r : Role). HasSeat n made who h i r v.front) role f.seat in
      let next : m ≡ made = seat.1 in
      let left : w.role ≡ Book (suc made) = ap one_cell_more role ∙ ap (λ z. Book (suc z)) next in
      let right : u.role ≡ Cell made 0 = ap next_cell role ∙ ap (λ z. Cell z 0) next in
      let position : KnowsPosition ws u.role [] = subst (λ (r : Role). KnowsPosition ws r []) (sym right) (sym (s.known.positions made (omega arith)), λ ne. omega arith) in
      let fault : KnowsFaults ws u.role 0 = subst (λ (r : Role). KnowsFaults ws r 0) (sym right) (sym (s.known.faults made (omega arith))) in
      record {
        known = known_cell n made who h ws vs i w u s.known seat.0 (omega arith) left seat.2 right;
        begin = fronts_more h ws (set vs i w) u (fronts_set h ws vs i w s.begin f.begins) ((h, refl), ([], refl), ([], refl));
        positions = positions_more h ws (set vs i w) u (positions_set h ws vs i w s.positions (subst (λ (r : Role). KnowsPosition ws r v.front) (sym left) tt)) position;
        notes = notes_more h ws (set vs i w) u (notes_set h ws vs i w s.notes f.positions) (All-nil (IsPositionNote h ws));
        enabled = s.enabled;
        ends = ends_cell made h vs i w u s.ends (subst (λ (r : Role). CellStandsAtEnd h r v.front) (sym left) tt) right refl;
        faults = faults_split h ws vs i v w u s.faults at f.faults (subst (λ (r : Role). KnowsFaults ws r v.faults) (sym left) tt) (All-nil (IsFaultNote ws)) fault (λ b. omega arith);
        counts = counts_split h vs i v w u s.counts at
            record { books = λ g l k. subst (λ (r : Role). KnowsGiven g l r v.given v.last_given) (sym left) (subst (λ (r : Role). KnowsGiven g l r v.given v.last_given) role k); own = refl; count = refl; notes = refl } refl
            (λ z e. let t : Cell made 0 ≡ Book z = sym right ∙ e in absurd cc) (inr refl);
      }

  -- an own pass counts one more
  pub stands_count : (i : ℕ) (v : SeatView) → IsKept n made who h ws vs → get_elem? vs i ≡ some v → 0 < v.own_session → IsKept n made who h ws (set vs i (after_count v))
  stands_count i v s at lt = let f = fits i v s at in let w = after_count v in record {
    known = known_set n made who h ws vs i w s.known f.seat;
    begin = fronts_set h ws vs i w s.begin f.begins;
    positions = positions_set h ws vs i w s.positions f.position;
    notes = notes_set h ws vs i w s.notes f.positions;
    enabled = s.enabled;
    ends = ends_set made h vs i w s.ends f.end;
    faults = faults_set h ws vs i v w s.faults at f.faults f.fault (λ b. omega arith);
    counts = counts_up h vs i v w s.counts at refl refl refl refl refl refl lt;
  }
