-- Who has which seat stays known at each step.
use Rattle.std.proofs.Common.{◌≡◌, ◌≢◌, ℕ, suc, ◌+◌, ◌*◌, ◌<◌, List, [], ◌∷◌, ◌++◌, length, set, refl, sym, ap, ◌∙◌, subst, arith, length-set, eqb, cond, eq-eqb, ne_eqb}
use Rattle.cj_board.proofs.Common.{Book, Cell, Event, Pass, Role, SeatView}
use Rattle.cj_board.specs.Points.{HasSeat, SeatsAreKnown}
use Rattle.cj_board.specs.Views.{IsNotBook}
use Rattle.cj_board.proofs.EachSeat.{each_set, each_more}
use Rattle.cj_board.proofs.Words.{position_first, position_else, position_aside, fault_first, fault_aside, fault_else}

module _ (n made : ℕ) (who : ℕ → ℕ) where
  -- another than the book's
  other_seat : (h h' : List Event) (i j : ℕ) (role : Role) (front : List Event) → i ≡ who 0 → j ≢ i → HasSeat n made who h j role front → HasSeat n made who h' j role front
  other_seat h h' i j (Book m) front at ne s = absurd (ne (s.0 ∙ sym at))
  other_seat h h' i j (Cell b p) front at ne s = s
  other_seat h h' i j Pass front at ne s = s

  -- the book appends
  pub known_append : (h h' : List Event) (ws : List ℕ) (vs : List SeatView) (i x : ℕ) (w : SeatView) (m : ℕ) → SeatsAreKnown n made who h ws vs
      → i ≡ who 0 → m ≡ made → w.role ≡ Book m → w.front ≡ h' → SeatsAreKnown n made who h' (set ws 0 x) (set vs i w)
  known_append h h' ws vs i x w m s at is role front = record {
    words = length-set ws 0 x ∙ s.words;
    positions = λ b le. position_first ws x b ∙ s.positions b le;
    faults = λ b le. fault_first ws x b ∙ s.faults b le;
    seats = each_set (λ j v. HasSeat n made who h j v.role v.front) (λ j v. HasSeat n made who h' j v.role v.front) vs i w s.seats (λ j v ne k. other_seat h h' i j v.role v.front at ne k)
        (subst (λ (r : Role). HasSeat n made who h' i r w.front) (sym role) (at, is, front));
  }

  -- a position is set
  pub known_move : (h : List Event) (ws : List ℕ) (vs : List SeatView) (b p i : ℕ) (w : SeatView) → SeatsAreKnown n made who h ws vs → b < made → HasSeat n made who h i w.role w.front
      → SeatsAreKnown n made who h (set ws (2 * b + 1) p) (set vs i w)
  known_move h ws vs b p i w s lt mine = let F : ℕ → SeatView → Type 0 = λ j v. HasSeat n made who h j v.role v.front in record {
    words = length-set ws (2 * b + 1) p ∙ s.words;
    positions = λ c le. position_else ws p b c (λ e. omega arith) ∙ s.positions c le;
    faults = λ c le. fault_aside ws p b c ∙ s.faults c le;
    seats = each_set F F vs i w s.seats (λ j v ne y. y) mine;
  }

  -- a number of faults is set
  pub known_fault : (h : List Event) (ws : List ℕ) (vs : List SeatView) (b f i : ℕ) (w : SeatView) → SeatsAreKnown n made who h ws vs → b < made → HasSeat n made who h i w.role w.front
      → SeatsAreKnown n made who h (set ws (2 * b + 2) f) (set vs i w)
  known_fault h ws vs b f i w s lt mine = let F : ℕ → SeatView → Type 0 = λ j v. HasSeat n made who h j v.role v.front in record {
    words = length-set ws (2 * b + 2) f ∙ s.words;
    positions = λ c le. position_aside ws f b c ∙ s.positions c le;
    faults = λ c le. fault_else ws f b c (λ e. omega arith) ∙ s.faults c le;
    seats = each_set F F vs i w s.seats (λ j v ne y. y) mine;
  }

  -- the words stay
  pub known_set : (h : List Event) (ws : List ℕ) (vs : List SeatView) (i : ℕ) (w : SeatView) → SeatsAreKnown n made who h ws vs → HasSeat n made who h i w.role w.front → SeatsAreKnown n made who h ws (set vs i w)
  known_set h ws vs i w s mine = let F : ℕ → SeatView → Type 0 = λ j v. HasSeat n made who h j v.role v.front in record {
    words = s.words;
    positions = s.positions;
    faults = s.faults;
    seats = each_set F F vs i w s.seats (λ j v ne y. y) mine;
  }

  pub known_more : (h : List Event) (ws : List ℕ) (vs : List SeatView) (w : SeatView) → SeatsAreKnown n made who h ws vs → HasSeat n made who h (length vs) w.role w.front → SeatsAreKnown n made who h ws (vs ++ w ∷ [])
  known_more h ws vs w s mine = let F : ℕ → SeatView → Type 0 = λ j v. HasSeat n made who h j v.role v.front in record {
    words = s.words;
    positions = s.positions;
    faults = s.faults;
    seats = each_more F F vs w s.seats (λ j v ne y. y) mine;
  }

-- a map with one entry more
abbrev pub put : (ℕ → ℕ) → ℕ → ℕ → ℕ → ℕ
put f k x j = cond (eqb j k) x (f j)

pub put_else : (f : ℕ → ℕ) (k x j : ℕ) → j ≢ k → put f k x j ≡ f j
put_else f k x j ne = ap (λ b. cond b x (f j)) (ne_eqb j k ne)

pub put_here : (f : ℕ → ℕ) (k x : ℕ) → put f k x k ≡ x
put_here f k x = ap (λ b. cond b x (f k)) (eq-eqb k k refl)

module _ (n made : ℕ) (who : ℕ → ℕ) (h : List Event) where
  seat_before : (x j : ℕ) (role : Role) (front : List Event) → IsNotBook role → HasSeat n made who h j role front → HasSeat n (suc made) (put who (suc made) x) h j role front
  seat_before x j (Book m) front not s = absurd (not m refl)
  seat_before x j (Cell b p) front not s = let lt = s.1 in (s.0 ∙ sym (put_else who (suc made) x (suc b) (λ e. omega arith)), omega arith, s.2)
  seat_before x j Pass front not s = s

  -- no other is the book's
  pub not_book : (i j : ℕ) (role : Role) (front : List Event) → i ≡ who 0 → j ≢ i → HasSeat n made who h j role front → IsNotBook role
  not_book i j role front at ne s m is = let t : HasSeat n made who h j (Book m) front = subst (λ (r : Role). HasSeat n made who h j r front) is s in ne (t.0 ∙ sym at)

  -- the book makes its next cell
  pub known_cell : (ws : List ℕ) (vs : List SeatView) (i : ℕ) (w u : SeatView) → SeatsAreKnown n made who h ws vs → i ≡ who 0 → made < n → w.role ≡ Book (suc made) → w.front ≡ h → u.role ≡ Cell made 0
      → SeatsAreKnown n (suc made) (put who (suc made) (length (set vs i w))) h ws (set vs i w ++ u ∷ [])
  known_cell ws vs i w u s at lt role front new =
      let end : ℕ = length (set vs i w) in
      let who' : ℕ → ℕ = put who (suc made) end in
      let F : ℕ → SeatView → Type 0 = λ j v. HasSeat n (suc made) who' h j v.role v.front in
      record {
        words = s.words;
        positions = λ b le. s.positions b (omega arith);
        faults = λ b le. s.faults b (omega arith);
        seats = each_more F F (set vs i w) u
            (each_set (λ j v. HasSeat n made who h j v.role v.front) F vs i w s.seats
            (λ j v ne y. seat_before end j v.role v.front (not_book i j v.role v.front at ne y) y)
            (subst (λ (r : Role). HasSeat n (suc made) who' h i r w.front) (sym role) (at ∙ sym (put_else who (suc made) end 0 (λ e. omega arith)), refl, front)))
            (λ j v ne y. y)
            (subst (λ (r : Role). HasSeat n (suc made) who' h end r u.front) (sym new) (sym (put_here who (suc made) end), omega arith, lt));
      }
