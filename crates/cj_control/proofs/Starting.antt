-- What the parts of a world that has started give, and cells and backends in a row.
use Rattle.std.proofs.Common.{◌≡◌, ℕ, ◌+◌, ◌<◌, ◌≤◌, Bool, true, cond, suc, List, [], ◌∷◌, ◌++◌, inl, max, All, Option, Some, length, map, get_or, refl, ap, sym, ◌∙◌, subst, arith, length-append}
use Rattle.std.proofs.Math.Nat.{le-max_left}
use mathlib.Core.List.{IsPrefix}
use Rattle.std.proofs.lemmas.List.{get_or-map, length-map}
use Rattle.std.proofs.lemmas.List.Elements.{All-from_get_or, All-nil, All-pop, All-weaker}
use Rattle.std.proofs.lemmas.List.Sums.{sum_by-append, sum_by-cons}
use Rattle.atomic_table.specs.Seated.{TableId}
use Rattle.cj_auth.specs.Admission.{Register}
use Rattle.cj_board.specs.Counting.{greatest_of, session_after, sessions_in}
use Rattle.cj_book.specs.BookLogs.{BookLogState}
use Rattle.cj_book.specs.Seated.{GivesOwnPassesOnly, SeatedBook}
use Rattle.cj_cluster.specs.declared.event.Event.{Event}
use Rattle.cj_cluster.specs.declared.event.Event.TheVariants.{Enabled, Ended, Marker, Sched}
use Rattle.cj_cluster.specs.History.Histories.{database_after, is_enabled, is_free, log}
use Rattle.cj_cluster.proofs.Pushed.{prefix_trans}
use Rattle.cj_cluster.specs.Moves.Moves.{entry_numbered, user_of}
use Rattle.cj_dump.specs.declared.dump.Dump.{Dump}
use Rattle.cj_model.specs.declared.request.Act.TheVariants.{Abort}
use Rattle.cj_model.specs.declared.request.Entry.{Entry}
use Rattle.cj_model.specs.declared.database.Slot.{Slot}
use Rattle.cj_model.specs.Cluster.Placements.{Placement, part}
use Rattle.cj_place.specs.Layouts.{placement_of}
use Rattle.cj_recovery.specs.Openings.{IsOpening}
use Rattle.cj_replica.specs.Cells.{CellState}
use Rattle.cj_replica.specs.Seated.{SeatedCell}
use Rattle.cj_start.specs.Started.{with_abort, AbortsEach}
use Rattle.cj_state.specs.Seats.{states_of}
use Rattle.cj_locked.specs.Locked.{LastIsNoted}
use Rattle.cj_locked.specs.Turns.{needs_turn, turn_events_of}
use Rattle.cj_control.specs.Starting.{AreOfStarted, FallTo, HoldFrom, IsCurrentAt}

-- ---- a start brings only events that need the turn

abbrev AllTurn : List Event → Type 0
AllTurn h = turn_events_of h ≡ length h

turn_none : AllTurn []
turn_none = refl

turn_cons : (x : Event) (h : List Event) → needs_turn x ≡ true → AllTurn h → AllTurn (x ∷ h)
turn_cons x h on all =
    let one : turn_events_of (x ∷ h) ≡ cond {A = ℕ} (needs_turn x) 1 0 + turn_events_of h = sum_by-cons (λ y. cond (needs_turn y) 1 0) x h in
    let is : cond {A = ℕ} (needs_turn x) 1 0 ≡ 1 = ap (λ (t : Bool). cond {A = ℕ} t 1 0) on in
    let both : turn_events_of (x ∷ h) ≡ suc (length h) = omega (arith, one, is, all) in both

turn_append : (g h : List Event) → AllTurn g → AllTurn h → AllTurn (g ++ h)
turn_append g h all more =
    let both : turn_events_of (g ++ h) ≡ turn_events_of g + turn_events_of h = sum_by-append (λ y. cond (needs_turn y) 1 0) g h in
    let long : length (g ++ h) ≡ length g + length h = length-append g h in omega (arith, both, long, all, more)

turn_opening : (h : List Event) → IsOpening h → AllTurn h
turn_opening [] o = turn_none
turn_opening (Sched e ∷ Ended f s ∷ h) o = turn_cons (Sched e) (Ended f s ∷ h) refl (turn_cons (Ended f s) h refl (turn_opening h o.2))
turn_opening (Marker name m ∷ h) o = turn_cons (Marker name m) h refl (turn_opening h o)
turn_opening _ o = absurd o

turn_enabled : (bs : List ℕ) → AllTurn (map Enabled bs)
turn_enabled [] = turn_none
turn_enabled (b ∷ bs) = turn_cons (Enabled b) (map Enabled bs) refl (turn_enabled bs)

turn_aborts : (txs : List ℕ) (h z : List Event) → AbortsEach h txs z → AllTurn h → AllTurn z
turn_aborts [] h z is all = subst AllTurn (sym is) all
turn_aborts (tx ∷ txs) h z q all =
    let e : Entry = record { session = 0; seq = 0; tx = tx; user = user_of (entry_numbered (log h) tx); act = Abort } in
    turn_aborts txs (with_abort h tx q.0) z q.1 (turn_append h (Sched e ∷ Ended q.0 0 ∷ []) all (turn_cons (Sched e) (Ended q.0 0 ∷ []) refl (turn_cons (Ended q.0 0) [] refl turn_none)))

-- ---- the parts

each_placed : (P : CellState → Type 0) (xs : List SeatedCell) → ((i : ℕ) (d : CellState) → i < length (states_of xs) → P (get_or (states_of xs) i d)) → All (λ (x : SeatedCell). P x.state) xs
each_placed P [] each = All-nil (λ (x : SeatedCell). P x.state)
each_placed P (x ∷ xs) each =
    All-from_get_or (λ (y : SeatedCell). P y.state) (x ∷ xs) x
    (λ i lt.
    subst P (get_or-map (λ (y : SeatedCell). y.state) (x ∷ xs) i x x.state lt)
    (each i x.state (subst (λ n. i < n) (sym (length-map (x ∷ xs) (λ (y : SeatedCell). y.state))) lt)))

module _ {S : Type 0} (tells logged : Bool) (count : S → ℕ) (id pass : TableId) (b : SeatedBook) (l : BookLogState S) (xs : List SeatedCell) (register : Register) (taken : List Dump) (of : AreOfStarted tells logged count id pass b l xs register taken) where
  pub started_idle : is_free b.state.history ≡ true
  started_idle = subst (λ (h : List Event). is_free h ≡ true) (sym of.apart.book.history) of.started.idle

  pub started_turns : turn_events_of b.state.history ≡ length b.state.history
  started_turns =
      subst AllTurn (sym of.apart.book.history)
      (turn_aborts _ (of.opening ++ map Enabled of.started.enabled) of.world.core.history of.started.history
      (turn_append of.opening (map Enabled of.started.enabled) (turn_opening of.opening of.opens.opening) (turn_enabled of.started.enabled)))

  pub started_gives : GivesOwnPassesOnly b
  started_gives = of.apart.gives of.numbers

  -- no session was given an own pass, so none has a number that is not in the history
  pub started_noted : LastIsNoted b.view
  started_noted =
      let last = b.view.last_given in
      let most = greatest_of (sessions_in b.view.front) in
      let gives : b.state.greatest + 1 ≡ suc (max last most) = started_gives in
      let same : b.view.front ≡ of.world.core.history = of.apart.front ∙ of.apart.book.history in
      let follows : of.world.core.greatest + 1 ≡ suc (max 0 most) = subst (λ (h : List Event). of.world.core.greatest + 1 ≡ session_after 0 h) (sym same) of.numbers in
      let greatest : b.state.greatest ≡ of.world.core.greatest = of.apart.book.greatest in
      let up : last ≤ max last most = le-max_left last most in
      let below : last < suc (max 0 most) = omega (arith, gives, follows, greatest, up) in record { known = inl below }

  pub started_placed : All (λ (x : SeatedCell). x.state.placement ≡ placement_of b.state.layout) xs
  started_placed =
      each_placed (λ x. x.placement ≡ placement_of b.state.layout) xs
      (λ i d lt.
      subst (λ (cells : List CellState). (get_or cells i d).placement ≡ placement_of b.state.layout) (sym of.apart.cells)
      ((of.sound.cells i d (subst (λ (cells : List CellState). i < length cells) of.apart.cells lt)).placement ∙ sym of.apart.book.placement))

  backends_are : of.world.core.placement.backends ≡ length b.state.layout.names
  backends_are = sym (ap (λ (p : Placement). p.backends) of.apart.book.placement)

  pub started_count : length xs ≡ length b.state.layout.names
  started_count = sym (length-map xs (λ (x : SeatedCell). x.state)) ∙ (ap (λ (cells : List CellState). length cells) of.apart.cells ∙ (of.started.cells ∙ (ap (λ (p : Placement). p.backends) (sym of.started.placement) ∙ backends_are)))

  pub started_registered : register.backends ≡ length b.state.layout.names
  started_registered = ap (λ (r : Register). r.backends) of.apart.accounts ∙ (of.sound.registered ∙ backends_are)

-- ---- in a row

module _ {X : Type 0} (number : X → ℕ) where
  pub fall_push : (k : ℕ) (xs : List X) (x : X) → FallTo number (k + 1) xs → number x ≡ k → FallTo number k (xs ++ x ∷ [])
  fall_push k [] x falls is = ((let zero : number x ≡ 0 + k = omega (arith, is) in zero), tt)
  fall_push k (y ∷ xs) x falls is =
      let first : number y ≡ length xs + (k + 1) = falls.0 in
      let long : length (xs ++ x ∷ []) ≡ length xs + 1 = length-append xs (x ∷ []) in (omega (arith, first, long), fall_push k xs x falls.1 is)

  pub fall_pop : (k : ℕ) (xs : List X) (x : X) → FallTo number k (xs ++ x ∷ []) → FallTo number (k + 1) xs × (number x ≡ k)
  fall_pop k [] x falls = (tt, (let is : number x ≡ 0 + k = falls.0 in omega (arith, is)))
  fall_pop k (y ∷ xs) x falls =
      let first : number y ≡ length (xs ++ x ∷ []) + k = falls.0 in
      let long : length (xs ++ x ∷ []) ≡ length xs + 1 = length-append xs (x ∷ []) in
      let later : FallTo number (k + 1) xs × (number x ≡ k) = fall_pop k xs x falls.1 in ((omega (arith, first, long), later.0), later.1)

module _ {X : Type 0} (P : ℕ → X → Type 0) where
  pub hold_push : (k : ℕ) (xs : List X) (x : X) → HoldFrom P k xs → P (k + length xs) x → HoldFrom P k (xs ++ x ∷ [])
  hold_push k [] x holds one = (subst (λ n. P n x) (let is : k + 0 ≡ k = omega arith in is) one, tt)
  hold_push k (y ∷ xs) x holds one = (holds.0, hold_push (k + 1) xs x holds.1 (subst (λ n. P n x) (let is : k + suc (length xs) ≡ k + 1 + length xs = omega arith in is) one))

-- the last element of a list that is popped
module _ {X : Type 0} (number : X → ℕ) where
  pub fall_next : (k : ℕ) (xs left : List X) (x : X) → xs ≡ left ++ x ∷ [] → FallTo number k xs → FallTo number (k + 1) left × (number x ≡ k)
  fall_next k xs left x is falls = fall_pop number k left x (subst (FallTo number k) is falls)

-- numbers by the length of another list, which takes or gives elements
module _ {X Y : Type 0} (number : X → ℕ) where
  pub fall_on : (to now : List Y) (y : Y) → now ≡ to ++ y ∷ [] → (left : List X) → FallTo number (length to + 1) left → FallTo number (length now) left
  fall_on to now y pushed left falls = subst (λ n. FallTo number n left) (sym (ap (λ (l : List Y). length l) pushed ∙ length-append to (y ∷ []))) falls

  pub fall_more : (from left : List Y) (y : Y) → from ≡ left ++ y ∷ [] → (xs now : List X) (x : X) → now ≡ xs ++ x ∷ [] → FallTo number (length from) xs → number x ≡ length left → FallTo number (length left) now
  fall_more from left y popped xs now x pushed falls is =
      subst (FallTo number (length left)) (sym pushed)
      (fall_push number (length left) xs x (subst (λ n. FallTo number n xs) (ap (λ (l : List Y). length l) popped ∙ length-append left (y ∷ [])) falls) is)

pub hold_more : {X : Type 0} (P : ℕ → X → Type 0) (xs now : List X) (x : X) → now ≡ xs ++ x ∷ [] → HoldFrom P 0 xs → P (length xs) x → HoldFrom P 0 now
hold_more P xs now x pushed holds one = subst (HoldFrom P 0) (sym pushed) (hold_push P 0 xs x holds (subst (λ n. P n x) (let is : length xs ≡ 0 + length xs = omega arith in is) one))

pub stays_room : {n old new : ℕ} → n ≤ old → new ≡ old → n ≤ new
stays_room {n} room same = subst (λ m. n ≤ m) (sym same) room

-- the element at the end goes from one list to the end of the other
pub moves_one : {X Y : Type 0} {n : ℕ} (left : List X) (to_now : List Y) (x : X) (to : List Y) (y : Y) (from : List X) → from ≡ left ++ x ∷ [] → length to + length from ≡ n → to_now ≡ to ++ y ∷ [] → length to_now + length left ≡ n
moves_one {X} {Y} {n} left to_now x to y from is count pushed =
    let long : length from ≡ length left + 1 = ap (λ (l : List X). length l) is ∙ length-append left (x ∷ []) in
    let more : length to_now ≡ length to + 1 = ap (λ (l : List Y). length l) pushed ∙ length-append to (y ∷ []) in omega (arith, more, long, count)

pub all_pop : {X : Type 0} (P : X → Type 0) (xs left : List X) (x : X) → xs ≡ left ++ x ∷ [] → All P xs → All P left × P x
all_pop P xs left x is all = All-pop P xs left (Some x) is all

-- what was seen is in front of a pass that has seen more
pub all_seen : {X : Type 0} (f : X → List Event) (g h : List Event) (xs : List X) → IsPrefix g h → All (λ x. IsPrefix (f x) g) xs → All (λ x. IsPrefix (f x) h) xs
all_seen f g h xs longer all = All-weaker (λ x. IsPrefix (f x) g) (λ x. IsPrefix (f x) h) (λ x seen. prefix_trans (f x) g h seen longer) xs all

pub current_at : (tells : Bool) (p : Placement) (g h : List Event) (b k : ℕ) (told : Option (List Slot)) → g ≡ h → b ≡ k
    → (tells ≡ true → is_free g ≡ true → is_enabled g b ≡ true → told ≡ Some (part p b (database_after (log g) (length (log g))))) → IsCurrentAt tells p h k told
current_at tells p g h b k told same number held =
    subst (λ (x : List Event). IsCurrentAt tells p x k told) same (subst (λ n. IsCurrentAt tells p g n told) number held)
