-- How backends leave their cells, and what they hold then.
use Rattle.std.proofs.Common.{◌≡◌, ℕ, ◌+◌, ◌<◌, ◌≤◌, Bool, List, [], ◌∷◌, ◌++◌, length, map, reverse, get_or, slice_get, Option, None, Some, refl, ap, sym, ◌∙◌, subst, arith, length-append, append_assoc, append-nil, false}
use Rattle.cj_core.proofs.Common.{AreCurrent, AreHolding, at_log_end, started_backend, BackendState, CellState, database_after, database_of, everywhere, get_or-map, HoldsPart, is_there, IsCell, IsWorld, KeepEachBegun, KeepsBegun, length-map, length-reverse, log, map_push, nil_from_length, part}
use Rattle.cj_core.proofs.Common.{reverse-append, reverse-reverse, slice_get-get_or, Slot, take_all, WorldState}

-- ---- out of the cells

-- one pair more, at the end
keep_pushed : (cells : List CellState) (begun : List (List ℕ)) (x : CellState) (b : List ℕ) → KeepEachBegun cells begun → KeepsBegun x.position x.begun b → KeepEachBegun (cells ++ x ∷ []) (begun ++ b ∷ [])
keep_pushed [] [] x b all one = (one, tt)
keep_pushed (y ∷ cells) (a ∷ begun) x b all one = (all.0, keep_pushed cells begun x b all.1 one)
keep_pushed _ _ x b all one = absurd all

-- what is seen of a backend that left its cell, part by part
pub left_seen : (s : BackendState) (x : CellState) → s.told ≡ x.told → s.faults ≡ x.faults → s.asks ≡ x.asks → s.login ≡ x.login → s.arming ≡ x.arming → s ≡ started_backend x
left_seen s x told faults asks login arming = rw (sym told, sym faults, sym asks, sym login, sym arming) refl

-- The cells that were left already, and those that are left, last first, are all; each backend that left its cell is as that says, and there is room for the others.
pub record Leaving {X : Type 0} (state_of : X → BackendState) (begun_of : X → List ℕ) (all left : List CellState) (backends : List X) (capacity : ℕ) : Type 0 where
  pub moved : List CellState
  pub whole : moved ++ reverse left ≡ all
  pub shown : map state_of backends ≡ map started_backend moved
  pub begun : KeepEachBegun moved (map begun_of backends)
  pub room : length backends + length left ≤ capacity

module _ {X : Type 0} {state_of : X → BackendState} {begun_of : X → List ℕ} {all : List CellState} where
  pub leaving_first : (left : List CellState) (backends : List X) {capacity : ℕ} → left ≡ reverse all → backends ≡ [] → length all ≤ capacity → Leaving state_of begun_of all left backends capacity
  leaving_first left backends back none room =
      let again : reverse left ≡ all = ap reverse back ∙ reverse-reverse all in
      let long : length left ≡ length all = ap length back ∙ length-reverse all in
      let empty : length backends ≡ 0 = ap length none in
      record { moved = []; whole = again; shown = ap (map state_of) none; begun = subst (λ (bs : List X). KeepEachBegun [] (map begun_of bs)) (sym none) tt; room = omega arith }

  module _ {before : List CellState} {backends : List X} {capacity : ℕ} (left : List CellState) (x : CellState) (is : before ≡ left ++ x ∷ []) (leaving : Leaving state_of begun_of all before backends capacity) where
    count : length backends + (length left + 1) ≤ capacity
    count = subst (λ m. length backends + m ≤ capacity) (ap length is ∙ length-append left (x ∷ [])) leaving.room

    pub leaving_room : length backends < capacity
    leaving_room = let all_of : length backends + (length left + 1) ≤ capacity = count in omega arith

    pub leaving_more : (y : X) (now : List X) (capacity_now : ℕ) → state_of y ≡ started_backend x → KeepsBegun x.position x.begun (begun_of y) → now ≡ backends ++ y ∷ [] → capacity_now ≡ capacity → Leaving state_of begun_of all left now capacity_now
    leaving_more y now capacity_now seen kept pushed same =
        let more = length-append backends (y ∷ []) in
        let all_of : length backends + (length left + 1) ≤ capacity = count in
        rw (pushed, same)
        (record {
          moved = leaving.moved ++ x ∷ [];
          whole = append_assoc leaving.moved (x ∷ []) (reverse left) ∙ (ap (λ l. leaving.moved ++ l) (sym (ap reverse is ∙ reverse-append left (x ∷ []))) ∙ leaving.whole);
          shown = map_push state_of backends y ∙ (ap (λ l. l ++ state_of y ∷ []) leaving.shown ∙ (ap (λ s. map started_backend leaving.moved ++ s ∷ []) seen ∙ sym (map_push started_backend leaving.moved x)));
          begun = subst (KeepEachBegun (leaving.moved ++ x ∷ [])) (sym (map_push begun_of backends y)) (keep_pushed leaving.moved (map begun_of backends) x (begun_of y) leaving.begun kept);
          room = omega arith;
        })

  -- where none is left, all backends have left
  pub leaving_last : {left : List CellState} {backends : List X} {capacity : ℕ} → length left ≡ 0 → Leaving state_of begun_of all left backends capacity → (map state_of backends ≡ map started_backend all) × KeepEachBegun all (map begun_of backends)
  leaving_last {left} {backends} empty leaving =
      let none : left ≡ [] = nil_from_length left empty in
      let every : leaving.moved ≡ all = sym (append-nil leaving.moved) ∙ (ap (λ l. leaving.moved ++ reverse l) (sym none) ∙ leaving.whole) in
      (leaving.shown ∙ ap (map started_backend) every, subst (λ (cells : List CellState). KeepEachBegun cells (map begun_of backends)) every leaving.begun)

-- ---- what they hold

some_cell : CellState
some_cell = record { b = 0; placement = everywhere 0; position = None; begun = []; login = None; told = None; faults = 0; asks = 0; arming = record { armed = false; times = 0 } }

module _ (tells : Bool) (w : WorldState) (world : IsWorld tells w) (told : List (Option (List Slot))) (is : told ≡ map (λ (x : CellState). x.told) w.cells) where
  pub are_holding : AreHolding tells w.core told
  are_holding on b p at_p =
      let there = is_there w.core.positions b p at_p in
      let long : length w.core.positions ≡ length w.cells = ap length world.positions ∙ length-map w.cells (λ (x : CellState). x.position) in
      let lt : b < length w.cells = omega arith in
      let x : CellState = get_or w.cells b some_cell in
      let cell : IsCell tells w.core.placement (log w.core.history) b x = world.cells b some_cell lt in
      let place : x.position ≡ Some p = sym (get_or-map (λ (z : CellState). z.position) w.cells b some_cell None lt) ∙ (ap (λ ps. get_or ps b None) (sym world.positions) ∙ at_p) in
      let held : x.told ≡ Some (part w.core.placement b (database_after (log w.core.history) p)) = subst (HoldsPart tells w.core.placement b (log w.core.history) x.told) place cell.holds on in
      let within : b < length (map (λ (z : CellState). z.told) w.cells) = subst (λ m. b < m) (sym (length-map w.cells (λ (z : CellState). z.told))) lt in
      ap (λ l. slice_get l b) is
      ∙ (slice_get-get_or (map (λ (z : CellState). z.told) w.cells) b None within
      ∙ ap (λ t. Some t) (get_or-map (λ (z : CellState). z.told) w.cells b some_cell None lt ∙ held))

  pub are_current : AreCurrent tells w.core told
  are_current tells_on fr b on =
      let end = at_log_end w.core world.sound fr b on in
      let le : length (log w.core.history) ≤ length (log w.core.history) = omega arith in
      are_holding tells_on b (length (log w.core.history)) end ∙ ap (λ l. Some (Some (part w.core.placement b (database_of l)))) (take_all (length (log w.core.history)) (log w.core.history) le)
