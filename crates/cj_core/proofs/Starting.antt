-- How backends move into cells, and what is seen of both.
use Rattle.std.proofs.Common.{◌≡◌, Bool, true, ℕ, suc, ◌+◌, ◌<◌, ◌≤◌, List, [], ◌∷◌, ◌++◌, length, map, reverse, get_or, Option, Some, refl, ap, sym, ◌∙◌, subst, arith, length-append, append_assoc, append-nil, ⊎_elim}
use Rattle.cj_core.proofs.Common.{All-nil, All-push, AreCellsAt, AreEmpty, AreFresh, AreNewCells, started_backend, BackendState, cases_lt, cell_board, CellState, get_or_append_left, get_or_push, HaveBegunNone, IsFresh, length-reverse, map-map, map_push}
use Rattle.cj_core.proofs.Common.{All-head, All-tail, nil_from_length, Placement, reverse-append, reverse-reverse, SeatedCell, Slot, state_by}
use Rattle.cj_state.proofs.Common.{Arming, TableId}
use Rattle.cj_board.specs.declared.seats.CellSeat.{CellSeat}

-- ---- what is seen of backends in their cells

-- two lists of which the same is seen, of each item, agree in each part of it
same_part : {A B S T : Type 0} (f : A → S) (g : B → S) (part : S → T) (xs : List A) (ys : List B) → map f xs ≡ map g ys → map (λ x. part (f x)) xs ≡ map (λ y. part (g y)) ys
same_part f g part xs ys same = sym (map-map part f xs) ∙ (ap (map part) same ∙ map-map part g ys)

-- so do backends and their cells in what is told
pub told_of_backends : {X : Type 0} (told : X → Option (List Slot)) (faults asks : X → ℕ) (login : X → Option (List ℕ)) (arming : X → Arming) (backends : List X) (cells : List CellState)
    → map (state_by told faults asks login arming) backends ≡ map started_backend cells → map told backends ≡ map (λ (x : CellState). x.told) cells
told_of_backends told faults asks login arming backends cells = same_part (state_by told faults asks login arming) started_backend (λ (s : BackendState). s.told) backends cells

-- ---- into the cells

-- what was moved and what is left, last first, are all; so too after one more
moved_on : {A X Y : Type 0} (f : Y → A) (g : X → A) (all left : List X) (x : X) (moved : List Y) (y : Y) → f y ≡ g x → map f moved ++ map g (reverse (left ++ x ∷ [])) ≡ map g all
    → map f (moved ++ y ∷ []) ++ map g (reverse left) ≡ map g all
moved_on f g all left x moved y same was =
    ap (λ l. l ++ map g (reverse left)) (map_push f moved y)
    ∙ (append_assoc (map f moved) (f y ∷ []) (map g (reverse left)) ∙ (ap (λ z. map f moved ++ z ∷ map g (reverse left)) same ∙ (ap (λ l. map f moved ++ map g l) (sym (reverse-append left (x ∷ []))) ∙ was)))

-- what moves into a cell: what is seen of the backend stays, and the cell has taken no entry
pub made_fresh : (number : ℕ) (p : Placement) (s : BackendState) (y : CellState)
    → y ≡ record { b = number; placement = p; position = Some 0; begun = []; login = s.login; told = s.told; faults = s.faults; asks = s.asks; arming = s.arming } → IsFresh p number y × (started_backend y ≡ s)
made_fresh number p s y made = (rw made (record { number = refl; placement = refl; position = refl; begun = refl }), ap started_backend made)

-- The backends left, last first, and those that have moved into cells by their numbers, are all. Those left have begun no transaction.
pub record Moving {X : Type 0} (state_of : X → BackendState) (begun_of : X → List ℕ) (p : Placement) (all left : List X) (cells : List CellState) (capacity : ℕ) : Type 0 where
  pub as_many : length cells + length left ≡ p.backends
  pub none : HaveBegunNone (map begun_of (reverse left))
  pub each : (b : ℕ) (d : CellState) → b < length cells → IsFresh p b (get_or cells b d)
  pub shown : map started_backend cells ++ map state_of (reverse left) ≡ map state_of all
  pub room : p.backends ≤ capacity

module _ {X : Type 0} {state_of : X → BackendState} {begun_of : X → List ℕ} {p : Placement} {all : List X} {cells : List CellState} {capacity : ℕ} where
  pub moving_first : (left : List X) → left ≡ reverse all → length all ≡ p.backends → cells ≡ [] → p.backends ≤ capacity → HaveBegunNone (map begun_of all) → Moving state_of begun_of p all left cells capacity
  moving_first left back count none room begun =
      let no_cells : length cells ≡ 0 = ap length none in
      let whole : reverse left ≡ all = ap reverse back ∙ reverse-reverse all in
      let long : length left ≡ length all = ap length back ∙ length-reverse all in
      record {
        as_many = omega arith;
        none = subst (λ (xs : List X). HaveBegunNone (map begun_of xs)) (sym whole) begun;
        each = λ b d lt. absurd (omega arith);
        shown = rw (none, whole) refl;
        room = room;
      }

  -- the last of those left moves into a cell
  module _ {before : List X} (left : List X) (x : X) (is : before ≡ left ++ x ∷ []) (moving : Moving state_of begun_of p all before cells capacity) where
    count : length cells + (length left + 1) ≡ p.backends
    count = ap (λ m. length cells + m) (sym (ap length is ∙ length-append left (x ∷ []))) ∙ moving.as_many

    -- it has begun no transaction, and neither have the others
    none_begun : HaveBegunNone (begun_of x ∷ map begun_of (reverse left))
    none_begun = subst (λ (xs : List X). HaveBegunNone (map begun_of xs)) (ap reverse is ∙ reverse-append left (x ∷ [])) moving.none

    pub moving_none : begun_of x ≡ []
    moving_none = All-head (λ (ts : List ℕ). ts ≡ []) (begun_of x) (map begun_of (reverse left)) none_begun

    pub moving_room : (length cells < p.backends) × (length cells < capacity)
    moving_room =
        let all_of : length cells + (length left + 1) ≡ p.backends = count in
        let room : p.backends ≤ capacity = moving.room in
        (omega arith, omega arith)

    pub moving_more : (y : CellState) (now : List CellState) (capacity_now : ℕ) → IsFresh p (length cells) y × (started_backend y ≡ state_of x) → now ≡ cells ++ y ∷ [] → capacity_now ≡ capacity
        → Moving state_of begun_of p all left now capacity_now
    moving_more y now capacity_now made pushed same =
        let more = length-append cells (y ∷ []) in
        let all_of : length cells + (length left + 1) ≡ p.backends = count in
        rw (pushed, same)
        (record {
          as_many = omega arith;
          none = All-tail (λ (ts : List ℕ). ts ≡ []) (begun_of x) (map begun_of (reverse left)) none_begun;
          each =
              λ k d lt.
              ⊎_elim (λ (c : k < length cells). subst (IsFresh p k) (sym (get_or_append_left cells (y ∷ []) d k c)) (moving.each k d c))
              (λ (c : length cells ≤ k).
              let e : length cells ≡ k = omega arith in
              subst (IsFresh p k) (sym (get_or_push cells y d k e)) (subst (λ (n : ℕ). IsFresh p n y) e made.0))
              (cases_lt k (length cells));
          shown = moved_on started_backend state_of all left x cells y made.1 (subst (λ l. map started_backend cells ++ map state_of (reverse l) ≡ map state_of all) is moving.shown);
          room = moving.room;
        })

  -- each backend has its cell
  pub moving_last : {left : List X} → length left ≡ 0 → Moving state_of begun_of p all left cells capacity → AreFresh p cells × (map started_backend cells ≡ map state_of all)
  moving_last {left} empty moving =
      let as_many : length cells + length left ≡ p.backends = moving.as_many in
      let none : left ≡ [] = nil_from_length left empty in (
        record { as_many = omega arith; each = moving.each },
        sym (append-nil (map started_backend cells)) ∙ (ap (λ l. map started_backend cells ++ map state_of (reverse l)) (sym none) ∙ moving.shown),
      )

-- ---- their seats

-- As many seats are left as backends, of the next cells, and the cells are at the board. The backends that are left hold nothing.
pub record Seating {X : Type 0} (told_of : X → Option (List Slot)) (tells : Bool) (id : TableId) (left : List X) (seats : List CellSeat) (cells : List SeatedCell) : Type 0 where
  pub as_many : length seats ≡ length left
  pub free : AreNewCells id (length cells) (reverse seats)
  pub nothing : AreEmpty tells (map told_of (reverse left))
  pub at : AreCellsAt id cells

module _ {X : Type 0} {told_of : X → Option (List Slot)} {tells : Bool} {id : TableId} where
  pub seating_first : (all left : List X) (given seats : List CellSeat) (cells : List SeatedCell) → left ≡ reverse all → seats ≡ reverse given → length given ≡ length all → AreNewCells id 0 given → AreEmpty tells (map told_of all) → cells ≡ []
      → Seating told_of tells id left seats cells
  seating_first all left given seats cells back back_too count free nothing none =
      rw (back, back_too, none)
      (record {
        as_many = length-reverse given ∙ (count ∙ sym (length-reverse all));
        free = rw (reverse-reverse given) free;
        nothing = rw (reverse-reverse all) nothing;
        at = All-nil (λ (x : SeatedCell). x.board ≡ id);
      })

  -- the last of those left takes the last seat
  module _ {before : List X} (left : List X) (x : X) (is : before ≡ left ++ x ∷ []) {seats_before : List CellSeat} (seats : List CellSeat) (seat : CellSeat) (seat_is : seats_before ≡ seats ++ seat ∷ []) (cells : List SeatedCell)
      (seating : Seating told_of tells id before seats_before cells) where
    turned : AreNewCells id (length cells) (seat ∷ reverse seats)
    turned = subst (AreNewCells id (length cells)) (ap reverse seat_is ∙ reverse-append seats (seat ∷ [])) seating.free

    empties : AreEmpty tells (told_of x ∷ map told_of (reverse left))
    empties = subst (λ (xs : List X). AreEmpty tells (map told_of xs)) (ap reverse is ∙ reverse-append left (x ∷ [])) seating.nothing

    pub seating_nothing : tells ≡ true → told_of x ≡ Some []
    seating_nothing on = All-head (λ (t : Option (List Slot)). t ≡ Some []) (told_of x) (map told_of (reverse left)) (empties on)

    pub seating_more : (y : SeatedCell) (now : List SeatedCell) → y.board ≡ cell_board seat → now ≡ cells ++ y ∷ [] → Seating told_of tells id left seats now
    seating_more y now at pushed =
        let more : length (cells ++ y ∷ []) ≡ suc (length cells) = length-append cells (y ∷ []) ∙ omega arith in
        let count : length seats + 1 ≡ length left + 1 = sym (length-append seats (seat ∷ [])) ∙ (ap length (sym seat_is) ∙ (seating.as_many ∙ (ap length is ∙ length-append left (x ∷ [])))) in
        rw pushed
        (record {
          as_many = omega (arith, count);
          free = subst (λ (n : ℕ). AreNewCells id n (reverse seats)) (sym more) turned.3;
          nothing = λ on. All-tail (λ (t : Option (List Slot)). t ≡ Some []) (told_of x) (map told_of (reverse left)) (empties on);
          at = All-push (λ (x : SeatedCell). x.board ≡ id) cells y seating.at (at ∙ turned.1);
        })
