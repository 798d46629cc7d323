-- What the table asks of each step.
use Rattle.std.proofs.Common.{◌≡◌, ◌≢◌, ℕ, zero, suc, ◌+◌, ◌*◌, ◌%◌, ◌^◌, ◌<◌, ◌≤◌, eqb, leb, cond, List, [], ◌∷◌, ◌++◌, length, get_or, set, ◌⊎◌, inl, inr, ⊎_elim, refl, sym, ap, ◌∙◌, subst, arith, eq-eqb, replicate, Bool, true, false, leb-true, leb-false, All, Contains}
use mathlib.Core.Logic.{dite}
use mathlib.Core.Option.{none, some, some-injective, some-ne-none}
use mathlib.Core.List.{IsPrefix}
use native.Mathlib.Decide.{dec_le}
use lib.ListN.{get_elem?, length-replicate}
use lib.Seq.{set-get_or}
use prog.Atomic.{either}
use Rattle.std.proofs.lemmas.List.Elements.{All-append, All-nil, All-contains}
use Rattle.cj_board.proofs.Common.{Book, Cell, Event, IsLegal, Pass, Role, SeatView, event_count_of, log, set_else}
use Rattle.atomic_table.specs.Table.{State, Me, step, keeps, stepped, Allows, Splits, Joins, opening}
use Rattle.cj_cluster.proofs.Pushed.{legal_prefix, prefix_length, prefix_self, prefix_trans}
use Rattle.cj_board.specs.Points.{AtEachSeat, position_word, fault_word, max_word, fault_tokens_of, HasSeat, BeginsHistory, IsInLog, KnowsPosition, IsPositionNote, IsFaultNote, KnowsFaults, StandsAtEnd, CellStandsAtEnd, IsCountNote, KnowsGiven, CountsSessions, OwnPassesCount, IsKept, IsKeptBoard}
use Rattle.cj_board.specs.Steps.{HasPositionNotes, HasFaultTokens, HasCountNotes, after_append, at_position, with_faults, after_looking, after_count, after_split, one_fault_more, longer_of, after_join, after_learning, after_making_cell, after_opening, after_closing}
use Rattle.cj_board.specs.Views.{IsBook, IsCellOf, IsPass, IsNotBook, role_position, cells_made, book_with_cells, empty_pass, position_note_of, fault_note_of, count_note_of, pass_of, pass_without_tokens, own_pass_of, next_cell_of}
use Rattle.cj_board.specs.Proving.Told.{ToldAppend, ToldAdvance, ToldStoredPosition, ToldPosition, ToldStoredFaults, ToldFaults, ToldFronts, ToldCell, ToldOfCell, ToldCountUp, ToldCount, ToldEvents}
use Rattle.cj_board.proofs.Counts.{counts_of_prefix}
use Rattle.cj_board.proofs.FaultPoint.{tokens-append}
use Rattle.cj_board.proofs.EndPoint.{stands_first, stands_moved, stands_seen}
use Rattle.cj_board.proofs.Histories.{log_bound, log_of_prefix, longer_begins}
use Rattle.cj_board.proofs.KeptSteps.{Fits, fits, same_counts, stands_append, stands_move, stands_fault, stands_set, stands_split, stands_join, stands_cell, stands_count}
use Rattle.cj_board.proofs.KnownSeats.{put}
use Rattle.cj_board.proofs.SessionPoint.{SameCounts, counts_split, counts_join, counts_open, counts_close}

abbrev M : Type 0
M = Me Event SeatView

pub pass_not_book : (r : Role) → IsPass r → IsNotBook r
pass_not_book r e m f = cc

-- the fit of a view in the state
abbrev Fit : (n : ℕ) (s : State Event SeatView) → IsKeptBoard n s → ℕ → SeatView → Type 0
Fit n s k j v = Fits n k.made k.who k.history s.words j v

fit_at : (n : ℕ) (s : State Event SeatView) (k : IsKeptBoard n s) (j : ℕ) (v : SeatView) → get_elem? s.views j ≡ some v → Fit n s k j v
fit_at n s k j v at = fits n k.made k.who k.history s.words s.views j v k.kept at

same_all : (v : SeatView) → SameCounts v v
same_all v = same_counts v v refl refl refl refl refl refl

-- a load, after which the seat with the view v has the view w
loads : (n : ℕ) (s : State Event SeatView) (k : IsKeptBoard n s) (id i : ℕ) (c : List (ℕ × Event)) (v w : SeatView) → get_elem? s.views id ≡ some v → Fit n s k id w → w.fault_tokens ≡ v.fault_tokens → SameCounts v w
    → IsKeptBoard n (stepped s i (get_or s.words i 0) id c w keeps)
loads n s k id i c v w at f same counts = record {
  made = k.made;
  who = k.who;
  history = k.history;
  kept = subst (λ (z : List ℕ). IsKept n k.made k.who k.history z (set s.views id w)) (sym (set-get_or s.words i 0))
      (stands_set n k.made k.who k.history s.words s.views id v w k.kept at f (λ b. let t : fault_tokens_of b w.fault_tokens ≡ fault_tokens_of b v.fault_tokens = ap (fault_tokens_of b) same in omega arith) counts);
}

-- ---- the first state

zeros_at : (m i : ℕ) → get_or (replicate m (zero)) i zero ≡ zero
zeros_at zero i = refl
zeros_at (suc m) zero = refl
zeros_at (suc m) (suc i) = zeros_at m i

one_seat : (F : ℕ → SeatView → Type 0) → F 0 (book_with_cells 0) → AtEachSeat (book_with_cells 0 ∷ []) F
one_seat F f zero v e = subst (F 0) (some-injective (book_with_cells 0) v e) f
one_seat F f (suc j) v e = absurd (some-ne-none v (sym e))

pub opens : (n : ℕ) → IsKeptBoard n (opening (replicate (2 * n + 1) 0) [] (book_with_cells 0))
opens n = let ws : List ℕ = replicate (2 * n + 1) 0 in record {
  made = 0;
  who = λ _. 0;
  history = [];
  kept = record {
    known = record {
      words = length-replicate (2 * n + 1) 0;
      positions = λ b _. zeros_at (2 * n + 1) (2 * b + 1);
      faults = λ b _. zeros_at (2 * n + 1) (2 * b + 2);
      seats = one_seat (λ j v. HasSeat n 0 (λ _. 0) [] j v.role v.front) (refl, refl, refl);
    };
    begin = record {
      count = sym (zeros_at (2 * n + 1) 0);
      legal = record { short = omega arith; each = λ k d lt. absurd (omega arith) };
      fronts = one_seat (λ j v. BeginsHistory [] v) (([], refl), ([], refl), ([], refl));
    };
    positions = record { in_log = λ b ne. let z = zeros_at (2 * n + 1) (2 * b + 1) in omega arith; known = one_seat (λ j v. KnowsPosition ws v.role v.front) tt };
    notes = one_seat (λ j v. All (IsPositionNote [] ws) v.position_notes) (All-nil (IsPositionNote [] ws));
    enabled = λ idle b on. absurd cc;
    ends = record { cells = one_seat (λ j v. CellStandsAtEnd [] v.role v.front) tt; unmade = λ b le. stands_first b };
    faults = record {
      notes = one_seat (λ j v. All (IsFaultNote ws) v.fault_notes) (All-nil (IsFaultNote ws));
      known = one_seat (λ j v. KnowsFaults ws v.role v.faults) tt;
      covered = λ b ne. omega arith;
    };
    counts = record {
      given = [];
      last = 0;
      holder = λ _. 0;
      count_of = λ _. 0;
      seats = one_seat (CountsSessions [] 0 (λ _. 0) (λ _. 0)) record { book = (refl, refl); own = λ lt. absurd (omega arith); notes = All-nil (IsCountNote 0 (λ _. 0)) };
      counted = λ z c. let lt = c.1 in absurd (omega arith);
      members = All-nil (λ z. z ≤ 0);
    };
  };
}

-- ---- the book appends

pub append_allowed : (n slots id d : ℕ) (me : M) (e : Event) → IsBook me.0.role → d ≡ length me.0.front → IsLegal (me.0.front ++ e ∷ []) → HasPositionNotes me.0.front me.0.position_notes e → HasFaultTokens me.0.fault_tokens e
    → HasCountNotes me.0.given me.0.front me.0.count_notes e → Allows (IsKeptBoard n) slots id me 0 (λ x. either (eqb x d) (d + 1) x) (ToldAppend (step slots 0 d (d + 1) (some e)) me)
append_allowed n slots id d me e book len legal notes tokens counts s k _ at _ =
    let f = fit_at n s k id me.0 at in
    let seat : HasSeat n k.made k.who k.history id (Book (cells_made me.0.role)) me.0.front = subst (λ (r : Role). HasSeat n k.made k.who k.history id r me.0.front) book f.seat in
    let h = k.history in
    let found : get_or s.words 0 0 ≡ d = sym k.kept.begin.count ∙ (sym (ap length seat.2) ∙ sym len) in
    let next : either (eqb (get_or s.words 0 0) d) (d + 1) (get_or s.words 0 0) ≡ d + 1 = ap (λ z. either (eqb z d) (d + 1) z) found ∙ ap (λ b. either b (d + 1) d) (eq-eqb d d refl) in
    let is : d + 1 ≡ length h + 1 = ap (λ z. z + 1) (len ∙ ap length seat.2) in (
      after_append e me.0,
      keeps,
      tt,
      record {
        made = k.made;
        who = k.who;
        history = h ++ e ∷ [];
        kept = stands_append n k.made k.who h s.words s.views id (either (eqb (get_or s.words 0 0) d) (d + 1) (get_or s.words 0 0)) (cells_made me.0.role) e me.0 k.kept at book (next ∙ is)
            (subst (λ (l : List Event). IsLegal (l ++ e ∷ [])) seat.2 legal) (subst (λ (l : List Event). HasPositionNotes l me.0.position_notes e) seat.2 notes) tokens
            (subst (λ (l : List Event). HasCountNotes me.0.given l me.0.count_notes e) seat.2 counts);
      },
      λ e' same. ap (λ (z : Event). let m : M = (after_append z me.0, me.1) in m) (some-injective e e' same),
    )

-- ---- a cell's position

advances : (n slots id b : ℕ) (me : M) → IsCellOf b me.0.role → role_position me.0.role < length (log me.0.front)
    → Allows (IsKeptBoard n) slots id me (2 * b + 1) (λ x. (x + 1) % 2 ^ 64) (ToldAdvance (step slots (2 * b + 1) 1 0 none) me)
advances n slots id b me cell lt s k _ at _ =
    let f = fit_at n s k id me.0 at in
    let h = k.history in
    let x : ℕ = get_or s.words (2 * b + 1) 0 in
    let p : ℕ = role_position me.0.role in
    let knows : KnowsPosition s.words (Cell b p) me.0.front = subst (λ (r : Role). KnowsPosition s.words r me.0.front) cell f.position in
    let x_is : p ≡ x = knows.0 in
    let top = log_bound h k.kept.begin.legal in
    let seen = log_of_prefix me.0.front h f.begins.0 in
    let next : (x + 1) % 2 ^ 64 ≡ x + 1 = omega arith in
    let small : x < 4611686018427387904 = omega arith in
    let end : StandsAtEnd b p me.0.front h = subst (λ (r : Role). CellStandsAtEnd h r me.0.front) cell f.end in (
      at_position (x + 1) me.0,
      keeps,
      tt,
      record {
        made = k.made;
        who = k.who;
        history = h;
        kept = subst (λ (z : ℕ). IsKept n k.made k.who h (set s.words (2 * b + 1) z) (set s.views id (at_position (x + 1) me.0))) (sym next)
            (stands_move n k.made k.who h s.words s.views id b p (x + 1) me.0 k.kept at cell (λ _. omega arith) (λ _. omega arith) (λ e. omega arith) (stands_moved b p (x + 1) me.0.front h k.kept.begin.legal (inl lt) end));
      },
      (refl, sym x_is, small),
    )

pub advance_allowed : (n slots id b i : ℕ) (me : M) → i ≡ 2 * b + 1 → IsCellOf b me.0.role → role_position me.0.role < length (log me.0.front)
    → Allows (IsKeptBoard n) slots id me i (λ x. (x + 1) % 2 ^ 64) (ToldAdvance (step slots i 1 0 none) me)
advance_allowed n slots id b i me e cell lt = subst (λ (z : ℕ). Allows (IsKeptBoard n) slots id me z (λ x. (x + 1) % 2 ^ 64) (ToldAdvance (step slots z 1 0 none) me)) (sym e) (advances n slots id b me cell lt)

-- a position that is not at the end of the log becomes q
places : (n slots id b q : ℕ) (me : M) → IsCellOf b me.0.role → IsInLog q me.0.front → (role_position me.0.role < length (log me.0.front)) ⊎ (role_position me.0.role ≡ max_word)
    → Allows (IsKeptBoard n) slots id me (2 * b + 1) (λ _. q) (λ _. ToldStoredPosition (step slots (2 * b + 1) q 0 none) me q)
places n slots id b q me cell seen from s k _ at _ =
    let f = fit_at n s k id me.0 at in
    let h = k.history in
    let p : ℕ = role_position me.0.role in
    let top = log_bound h k.kept.begin.legal in
    let grows = log_of_prefix me.0.front h f.begins.0 in
    let off : p ≢ length (log h) = λ e. ⊎_elim (λ (lt : p < length (log me.0.front)). omega arith) (λ (o : p ≡ max_word). omega arith) from in
    let end : StandsAtEnd b p me.0.front h = subst (λ (r : Role). CellStandsAtEnd h r me.0.front) cell f.end in (
      at_position q me.0,
      keeps,
      tt,
      record {
        made = k.made;
        who = k.who;
        history = h;
        kept = stands_move n k.made k.who h s.words s.views id b p q me.0 k.kept at cell seen (λ ne. let i = seen ne in omega arith) off (stands_moved b p q me.0.front h k.kept.begin.legal from end);
      },
      refl,
    )

pub place_allowed : (n slots id b i q : ℕ) (me : M) → i ≡ 2 * b + 1 → IsCellOf b me.0.role → IsInLog q me.0.front → (role_position me.0.role < length (log me.0.front)) ⊎ (role_position me.0.role ≡ max_word)
    → Allows (IsKeptBoard n) slots id me i (λ _. q) (λ _. ToldStoredPosition (step slots i q 0 none) me q)
place_allowed n slots id b i q me e cell seen from = subst (λ (z : ℕ). Allows (IsKeptBoard n) slots id me z (λ _. q) (λ _. ToldStoredPosition (step slots z q 0 none) me q)) (sym e) (places n slots id b q me cell seen from)

looks : (n slots id b : ℕ) (me : M) → Allows (IsKeptBoard n) slots id me (2 * b + 1) (λ x. x) (ToldPosition (step slots (2 * b + 1) 0 0 none) me)
looks n slots id b me s k _ at _ =
    let f = fit_at n s k id me.0 at in
    let x : ℕ = get_or s.words (2 * b + 1) 0 in
    let top = log_bound k.history k.kept.begin.legal in
    let inside = k.kept.positions.in_log b in
    let w : ℕ → SeatView = λ c. after_looking c x me.0 in
    let within : x ≢ max_word → x ≤ 4611686018427387904 = λ ne. let i = inside ne in omega arith in (
      w b,
      keeps,
      tt,
      loads n s k id (2 * b + 1) me.1 me.0 (w b) at record { seat = f.seat; begins = f.begins; position = f.position; end = f.end; positions = f.positions; faults = f.faults; fault = f.fault } refl (same_counts me.0 (w b) refl refl refl refl refl refl),
      λ c e. (ap (λ (z : ℕ). let m : M = (w z, me.1) in m) (let same : b ≡ c = omega arith in same), within),
    )

pub look_allowed : (n slots id b i : ℕ) (me : M) → i ≡ 2 * b + 1 → Allows (IsKeptBoard n) slots id me i (λ x. x) (ToldPosition (step slots i 0 0 none) me)
look_allowed n slots id b i me e = subst (λ (z : ℕ). Allows (IsKeptBoard n) slots id me z (λ x. x) (ToldPosition (step slots z 0 0 none) me)) (sym e) (looks n slots id b me)

-- ---- a cell's faults

pub store_faults_allowed : (n slots id b i f : ℕ) (me : M) → i ≡ 2 * b + 2 → IsCellOf b me.0.role → (me.0.faults < max_word → f ≡ me.0.faults + 1) → (max_word ≤ me.0.faults → f ≡ me.0.faults) → f ≤ max_word
    → Allows (IsKeptBoard n) slots id me i (λ _. f) (λ _. ToldStoredFaults (step slots i f 0 none) me f)
store_faults_allowed n slots id b i f me e cell more full fit = subst (λ (z : ℕ). Allows (IsKeptBoard n) slots id me z (λ _. f) (λ _. ToldStoredFaults (step slots z f 0 none) me f)) (sym e) (λ s k _ at _.
    let g = fit_at n s k id me.0 at in
    let h = k.history in
    let knows : KnowsFaults s.words (Cell b (role_position me.0.role)) me.0.faults = subst (λ (r : Role). KnowsFaults s.words r me.0.faults) cell g.fault in
    let less : fault_word s.words b ≤ f = ⊎_elim (λ (lt : me.0.faults < max_word). let m = more lt in omega arith) (λ (le : max_word ≤ me.0.faults). let m = full le in omega arith) (lt_or_le me.0.faults max_word) in
    let next : f ≢ max_word → f ≡ fault_word s.words b + 1 = λ ne. ⊎_elim (λ (lt : me.0.faults < max_word). let m = more lt in omega arith) (λ (le : max_word ≤ me.0.faults). let m = full le in absurd (omega arith)) (lt_or_le me.0.faults max_word) in (
      with_faults b f me.0,
      keeps,
      tt,
      record { made = k.made; who = k.who; history = h; kept = stands_fault n k.made k.who h s.words s.views id b (role_position me.0.role) f me.0 k.kept at cell less next fit },
      λ c same. ap (λ (z : ℕ). let m : M = (with_faults z f me.0, me.1) in m) (let q : b ≡ c = omega arith in q),
    ))
  where
    lt_or_le : (x y : ℕ) → (x < y) ⊎ (y ≤ x)
    lt_or_le x y = dite (dec_le y x) (λ le. inr le) (λ no. inl (omega arith))

pub load_faults_allowed : (n slots id b i : ℕ) (me : M) → i ≡ 2 * b + 2 → IsCellOf b me.0.role → Allows (IsKeptBoard n) slots id me i (λ x. x) (ToldFaults (step slots i 0 0 none) me)
load_faults_allowed n slots id b i me e cell = subst (λ (z : ℕ). Allows (IsKeptBoard n) slots id me z (λ x. x) (ToldFaults (step slots z 0 0 none) me)) (sym e) (λ s k _ at _.
    let g = fit_at n s k id me.0 at in
    let knows : KnowsFaults s.words (Cell b (role_position me.0.role)) me.0.faults = subst (λ (r : Role). KnowsFaults s.words r me.0.faults) cell g.fault in
    (me.0, keeps, tt, loads n s k id (2 * b + 2) me.1 me.0 me.0 at g refl (same_all me.0), (refl, sym knows)))

pub check_cell_allowed : (n slots id : ℕ) (me : M) → Allows (IsKeptBoard n) slots id me 0 (λ x. x) (ToldCell (step slots 0 0 0 none) me)
check_cell_allowed n slots id me s k _ at _ =
    let g = fit_at n s k id me.0 at in
    let p : ℕ = role_position me.0.role in
    let told : (b : ℕ) → IsCellOf b me.0.role → ToldOfCell b me.0 = λ b cell.
    let knows : KnowsFaults s.words (Cell b p) me.0.faults = subst (λ (r : Role). KnowsFaults s.words r me.0.faults) cell g.fault in
    let stands : StandsAtEnd b p me.0.front k.history = subst (λ (r : Role). CellStandsAtEnd k.history r me.0.front) cell g.end in
    let position : KnowsPosition s.words (Cell b p) me.0.front = subst (λ (r : Role). KnowsPosition s.words r me.0.front) cell g.position in
    record {
      faults = λ m c. let note = All-contains (IsFaultNote s.words) me.0.fault_notes (b, m) g.faults c in omega arith;
      within = position.1;
      stands = λ m begins. stands m (prefix_trans m me.0.front k.history begins g.begins.0);
    } in
    (me.0, keeps, tt, loads n s k id 0 me.1 me.0 me.0 at g refl (same_all me.0), (refl, told))

-- one more, by a sum that stops at the last word
pub sum_is : (n f : ℕ) → (n < max_word → f ≡ n + 1) → (max_word ≤ n → f ≡ n) → f ≡ one_fault_more n
sum_is n f more full = by_test (leb max_word n) refl
  where
    by_test : (t : Bool) → leb max_word n ≡ t → f ≡ cond t n (n + 1)
    by_test true e = full (leb-true max_word n e)
    by_test false e = more (leb-false max_word n e)

-- ---- loads that tell what the rule says of a view

pub compare_allowed : (n slots id : ℕ) (me : M) → Allows (IsKeptBoard n) slots id me 0 (λ x. x) (ToldFronts (step slots 0 0 0 none) me)
compare_allowed n slots id me s k _ at _ =
    let f = fit_at n s k id me.0 at in
    let counts = k.kept.counts in
    let mine = counts.seats id me.0 at in
    let given : IsBook me.0.role → (t m : ℕ) → Contains me.0.count_notes (t, m) → t ≤ me.0.last_given = λ book t m c.
    let knows : KnowsGiven counts.given counts.last (Book (cells_made me.0.role)) me.0.given me.0.last_given = subst (λ (r : Role). KnowsGiven counts.given counts.last r me.0.given me.0.last_given) book mine.book in
    let last = knows.1 in
    let top = (All-contains (IsCountNote counts.last counts.count_of) me.0.count_notes (t, m) mine.notes c).1 in omega arith in
    (me.0, keeps, tt, loads n s k id 0 me.1 me.0 me.0 at f refl (same_all me.0), (refl, f.begins.1, f.begins.2, legal_prefix me.0.front k.history f.begins.0 k.kept.begin.legal, given))

pub count_allowed : (n slots id : ℕ) (me : M) → 0 < me.0.own_session → Allows (IsKeptBoard n) slots id me 0 (λ x. x) (ToldCountUp (step slots 0 0 0 none) me)
count_allowed n slots id me lt s k _ at _ = (
  after_count me.0,
  keeps,
  tt,
  record {
    made = k.made;
    who = k.who;
    history = k.history;
    kept = subst (λ (z : List ℕ). IsKept n k.made k.who k.history z (set s.views id (after_count me.0))) (sym (set-get_or s.words 0 0)) (stands_count n k.made k.who k.history s.words s.views id me.0 k.kept at lt);
  },
  refl,
)

pub check_count_allowed : (n slots id : ℕ) (me : M) → Allows (IsKeptBoard n) slots id me 0 (λ x. x) (ToldCount (step slots 0 0 0 none) me)
check_count_allowed n slots id me s k _ at _ =
    let f = fit_at n s k id me.0 at in
    let counts = k.kept.counts in
    let mine = counts.seats id me.0 at in
    let within : 0 < me.0.own_session → event_count_of me.0.own_session me.0.front ≤ me.0.count = λ lt.
    let o = mine.own lt in
    let top = counts.counted me.0.own_session o.2 in
    let less = counts_of_prefix me.0.own_session me.0.front k.history f.begins.0 in
    let is = o.1 in omega arith in
    (me.0, keeps, tt, loads n s k id 0 me.1 me.0 me.0 at f refl (same_all me.0), (refl, within))

pub load_events_allowed : (n slots id : ℕ) (me : M) → Allows (IsKeptBoard n) slots id me 0 (λ x. x) (ToldEvents (step slots 0 0 0 none) me)
load_events_allowed n slots id me s k _ at _ =
    let f = fit_at n s k id me.0 at in
    let short : length me.0.front ≤ length k.history = prefix_length me.0.front k.history f.begins.0 in
    let all = k.kept.begin.count in
    (me.0, keeps, tt, loads n s k id 0 me.1 me.0 me.0 at f refl (same_all me.0), (refl, omega arith))

-- ---- views cut in two

-- a view with these tokens
abbrev keeping : List ℕ → SeatView → SeatView
keeping ts v = record v { fault_tokens = ts }

-- a pass that has seen no more than the seat
cuts_off : (n id : ℕ) (v w : SeatView) (ts : List ℕ) → w.role ≡ Pass → w.front ≡ v.front → w.front_before ≡ [] → w.front_joined ≡ []
    → ((s : State Event SeatView) (k : IsKeptBoard n s) → get_elem? s.views id ≡ some v → All (IsPositionNote k.history s.words) w.position_notes × All (IsFaultNote s.words) w.fault_notes)
    → ((b : ℕ) → fault_tokens_of b ts + fault_tokens_of b w.fault_tokens ≤ fault_tokens_of b v.fault_tokens) → w.own_session ≡ 0 → (w.count_notes ≡ v.count_notes ++ count_note_of v.own_session v.count) ⊎ (w.count_notes ≡ [])
    → Splits (IsKeptBoard n) id v (keeping ts v) w
cuts_off n id v w ts role front before joined noted less own counts s k at =
    let f = fit_at n s k id v at in
    record {
      made = k.made;
      who = k.who;
      history = k.history;
      kept = stands_split n k.made k.who k.history s.words s.views id v (keeping ts v) w k.kept at
          record { seat = f.seat; begins = f.begins; position = f.position; end = f.end; positions = f.positions; faults = f.faults; fault = f.fault }
          record {
            seat = subst (λ (r : Role). HasSeat n k.made k.who k.history (length (set s.views id (keeping ts v))) r w.front) (sym role) tt;
            begins = (
              subst (λ (l : List Event). IsPrefix l k.history) (sym front) f.begins.0,
              subst (λ (l : List Event). IsPrefix l w.front) (sym before) (w.front, refl),
              subst (λ (l : List Event). IsPrefix l w.front) (sym joined) (w.front, refl),
            );
            position = subst (λ (r : Role). KnowsPosition s.words r w.front) (sym role) tt;
            end = subst (λ (r : Role). CellStandsAtEnd k.history r w.front) (sym role) tt;
            positions = (noted s k at).0;
            faults = (noted s k at).1;
            fault = subst (λ (r : Role). KnowsFaults s.words r w.faults) (sym role) tt;
          } less (counts_split k.history s.views id v (keeping ts v) w k.kept.counts at (same_counts v (keeping ts v) refl refl refl refl refl refl) own (pass_not_book w.role role) counts);
    }

all_one : {X : Type 0} (P : X → Type 0) (x : X) → P x → All P (x ∷ [])
all_one P x p zero d lt = p
all_one P x p (suc k) d lt = absurd (omega arith)

-- what a cell notes of its own position
own_position : (n : ℕ) (s : State Event SeatView) (k : IsKeptBoard n s) (role : Role) (front : List Event) → KnowsPosition s.words role front → ((b : ℕ) → IsInLog (position_word s.words b) k.history) → All (IsPositionNote k.history s.words) (position_note_of role)
own_position n s k (Book m) front knows within = All-nil (IsPositionNote k.history s.words)
own_position n s k (Cell b p) front knows within = by_test (leb max_word p) refl
  where
    by_test : (t : Bool) → leb max_word p ≡ t → All (IsPositionNote k.history s.words) (cond t [] ((b, p) ∷ []))
    by_test true e = All-nil (IsPositionNote k.history s.words)
    by_test false e = let lt = leb-false max_word p e in let at = knows.0 in let le = within b (λ z. omega arith) in all_one (IsPositionNote k.history s.words) (b, p) (omega arith, λ _. sym at)
own_position n s k Pass front knows within = All-nil (IsPositionNote k.history s.words)

-- and of its faults
own_faults : (ws : List ℕ) (role : Role) (f : ℕ) → KnowsFaults ws role f → All (IsFaultNote ws) (fault_note_of role f)
own_faults ws (Book m) f k = All-nil (IsFaultNote ws)
own_faults ws (Cell b p) f k = all_one (IsFaultNote ws) (b, f) (omega arith)
own_faults ws Pass f k = All-nil (IsFaultNote ws)

notes_of_pass : (n id : ℕ) (v : SeatView) (s : State Event SeatView) (k : IsKeptBoard n s) → get_elem? s.views id ≡ some v → All (IsPositionNote k.history s.words) (pass_of v).position_notes × All (IsFaultNote s.words) (pass_of v).fault_notes
notes_of_pass n id v s k at = let f = fit_at n s k id v at in (
  All-append (IsPositionNote k.history s.words) v.position_notes (position_note_of v.role) f.positions (own_position n s k v.role v.front f.position k.kept.positions.in_log),
  All-append (IsFaultNote s.words) v.fault_notes (fault_note_of v.role v.faults) f.faults (own_faults s.words v.role v.faults f.fault),
)

pub split_allowed : (n id : ℕ) (v : SeatView) → Splits (IsKeptBoard n) id v (after_split v) (pass_of v)
split_allowed n id v = cuts_off n id v (pass_of v) [] refl refl refl refl (notes_of_pass n id v) (λ b. omega arith) refl (inl refl)

pub split_without_tokens_allowed : (n id : ℕ) (v : SeatView) → Splits (IsKeptBoard n) id v v (pass_without_tokens v)
split_without_tokens_allowed n id v = cuts_off n id v (pass_without_tokens v) v.fault_tokens refl refl refl refl (notes_of_pass n id v) (λ b. omega arith) refl (inl refl)

pub cell_allowed : (n id m : ℕ) (v : SeatView) → v.role ≡ Book m → m < n → Splits (IsKeptBoard n) id v (after_making_cell v) (next_cell_of v)
cell_allowed n id m v role lt s k at = record {
  made = suc k.made;
  who = put k.who (suc k.made) (length (set s.views id (after_making_cell v)));
  history = k.history;
  kept = stands_cell n k.made k.who k.history s.words s.views id m v k.kept at role lt;
}

pub own_pass_allowed : (n id : ℕ) (v : SeatView) → IsBook v.role → Splits (IsKeptBoard n) id v (after_opening v) (own_pass_of v)
own_pass_allowed n id v book s k at =
    let f = fit_at n s k id v at in
    let seat : HasSeat n k.made k.who k.history id (Book (cells_made v.role)) v.front = subst (λ (r : Role). HasSeat n k.made k.who k.history id r v.front) book f.seat in
    let o = notes_of_pass n id v s k at in
    record {
      made = k.made;
      who = k.who;
      history = k.history;
      kept = stands_split n k.made k.who k.history s.words s.views id v (after_opening v) (own_pass_of v) k.kept at
          record { seat = f.seat; begins = f.begins; position = f.position; end = f.end; positions = f.positions; faults = f.faults; fault = f.fault }
          record { seat = tt; begins = (f.begins.0, (v.front, refl), (v.front, refl)); position = tt; end = tt; positions = o.0; faults = o.1; fault = tt } (λ b. omega arith)
          (counts_open n k.made k.who k.history s.words s.views id v (after_opening v) (own_pass_of v) k.kept.known seat.0 k.kept.counts at book seat.2 refl refl refl refl refl refl refl refl refl refl);
    }

-- ---- views put together

knows_more : (ws : List ℕ) (role : Role) (g h : List Event) → length (log g) ≤ length (log h) → KnowsPosition ws role g → KnowsPosition ws role h
knows_more ws (Book m) g h le k = tt
knows_more ws (Cell b p) g h le k = (k.0, λ ne. let i = k.1 ne in omega arith)
knows_more ws Pass g h le k = tt

seat_more : (n made : ℕ) (who : ℕ → ℕ) (h : List Event) (j : ℕ) (role : Role) (front front' : List Event) → IsNotBook role → HasSeat n made who h j role front → HasSeat n made who h j role front'
seat_more n made who h j (Book m) front front' not s = absurd (not m refl)
seat_more n made who h j (Cell b p) front front' not s = s
seat_more n made who h j Pass front front' not s = s

pass_is_none : IsNotBook Pass
pass_is_none m e = cc

-- a seat takes in another's view, which is spent
takes : (n : ℕ) (s : State Event SeatView) (k : IsKeptBoard n s) (id other : ℕ) (v w both : SeatView) → get_elem? s.views id ≡ some v → ¬ (other ≡ id) → get_elem? s.views other ≡ some w → Fit n s k id both → both.fault_tokens ≡ v.fault_tokens ++ w.fault_tokens
    → OwnPassesCount k.history (set (set s.views id both) other empty_pass) → IsKeptBoard n record { words = s.words; homes = s.homes; views = set (set s.views id both) other empty_pass }
takes n s k id other v w both at apart there f ts counts = record {
  made = k.made;
  who = k.who;
  history = k.history;
  kept = stands_join n k.made k.who k.history s.words s.views id other v w both empty_pass k.kept at apart there f
      record { seat = tt; begins = ((k.history, refl), ([], refl), ([], refl)); position = tt; end = tt; positions = All-nil (IsPositionNote k.history s.words); faults = All-nil (IsFaultNote s.words); fault = tt }
      (λ b. let t : fault_tokens_of b both.fault_tokens ≡ fault_tokens_of b (v.fault_tokens ++ w.fault_tokens) = ap (fault_tokens_of b) ts in let a = tokens-append b v.fault_tokens w.fault_tokens in omega arith) counts;
}

pub join_allowed : (n id other : ℕ) (v w : SeatView) → IsNotBook v.role → Joins (IsKeptBoard n) id v other w (after_join v w) empty_pass
join_allowed n id other v w not s k at apart there =
    let f = fit_at n s k id v at in
    let was = sym (set_else s.views id other (after_join v w) apart) ∙ there in
    let g = fit_at n s k other w was in
    let b = longer_begins v.front w.front k.history f.begins.0 g.begins.0 in
    takes n s k id other v w (after_join v w) at apart was
    record {
      seat = seat_more n k.made k.who k.history id v.role v.front (longer_of v.front w.front) not f.seat;
      begins = b;
      position = knows_more s.words v.role v.front (longer_of v.front w.front) (log_of_prefix v.front (longer_of v.front w.front) b.1) f.position;
      end = stands_seen k.history v.role v.front (longer_of v.front w.front) (log_of_prefix v.front (longer_of v.front w.front) b.1) f.end;
      positions = All-append (IsPositionNote k.history s.words) v.position_notes w.position_notes f.positions g.positions;
      faults = All-append (IsFaultNote s.words) v.fault_notes w.fault_notes f.faults g.faults;
      fault = f.fault;
    } refl (counts_join k.history s.views id other v w (after_join v w) empty_pass k.kept.counts at was refl refl refl refl refl refl pass_is_none refl refl)

-- the book takes in a view, and has the whole history already
book_fits : (n : ℕ) (s : State Event SeatView) (k : IsKeptBoard n s) (id other : ℕ) (v w : SeatView) → IsBook v.role → Fit n s k id v → Fit n s k other w → Fit n s k id (after_learning v w)
book_fits n s k id other v w book f g =
    let seat : HasSeat n k.made k.who k.history id (Book (cells_made v.role)) v.front = subst (λ (r : Role). HasSeat n k.made k.who k.history id r v.front) book f.seat in
    record {
      seat = f.seat;
      begins = (f.begins.0, prefix_self v.front, subst (λ (l : List Event). IsPrefix w.front l) (sym seat.2) g.begins.0);
      position = f.position;
      end = f.end;
      positions = All-append (IsPositionNote k.history s.words) v.position_notes w.position_notes f.positions g.positions;
      faults = All-append (IsFaultNote s.words) v.fault_notes w.fault_notes f.faults g.faults;
      fault = f.fault;
    }

pub join_to_book_allowed : (n id other : ℕ) (v w : SeatView) → IsBook v.role → Joins (IsKeptBoard n) id v other w (after_learning v w) empty_pass
join_to_book_allowed n id other v w book s k at apart there =
    let f = fit_at n s k id v at in
    let was = sym (set_else s.views id other (after_learning v w) apart) ∙ there in
    let g = fit_at n s k other w was in
    takes n s k id other v w (after_learning v w) at apart was (book_fits n s k id other v w book f g) refl
    (counts_join k.history s.views id other v w (after_learning v w) empty_pass k.kept.counts at was refl refl refl refl refl refl pass_is_none refl refl)

pub close_allowed : (n id other : ℕ) (v w : SeatView) → IsBook v.role → v.own_session ≡ 0 → 0 < w.own_session → Joins (IsKeptBoard n) id v other w (after_closing v w) empty_pass
close_allowed n id other v w book own is_own s k at apart there =
    let f = fit_at n s k id v at in
    let was = sym (set_else s.views id other (after_closing v w) apart) ∙ there in
    let g = fit_at n s k other w was in
    let l = book_fits n s k id other v w book f g in
    let seat : HasSeat n k.made k.who k.history id (Book (cells_made v.role)) v.front = subst (λ (r : Role). HasSeat n k.made k.who k.history id r v.front) book f.seat in
    takes n s k id other v w (after_closing v w) at apart was record { seat = l.seat; begins = l.begins; position = l.position; end = l.end; positions = l.positions; faults = l.faults; fault = l.fault } refl
    (counts_close n k.made k.who k.history s.words s.views id other v w (after_closing v w) empty_pass k.kept.known seat.0 k.kept.counts at was apart book is_own refl own refl refl refl pass_is_none refl refl)
