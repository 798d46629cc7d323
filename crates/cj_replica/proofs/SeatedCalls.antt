-- A cell stays seated over its calls.
use Rattle.std.proofs.Common.{◌≡◌, ◌⊎◌, inl, inr, ⊎_elim, ℕ, ◌+◌, ◌-◌, ◌<◌, ◌≤◌, min, Bool, true, false, leb, cond, List, length, Option, None, Some, IfSome, Result, Ok, Err, slice_get, refl, ap, sym, ◌∙◌, subst, arith}
use mathlib.Core.List.{IsPrefix}
use Rattle.std.proofs.lemmas.Bool.{leb-true}
use Rattle.std.proofs.lemmas.Option.{slice_get_within}
use Rattle.atomic_table.specs.Seated.{TableId}
use Rattle.cj_outside.specs.Causes.{next}
use Rattle.cj_model.specs.declared.database.Slot.{Slot}
use Rattle.cj_model.specs.declared.request.Entry.{Entry}
use Rattle.cj_model.specs.Cluster.Placements.{part}
use Rattle.cj_model.specs.Sql.PlainRequests.{request_of}
use Rattle.cj_model.specs.Sql.WrittenRequests.{IsWritten}
use Rattle.cj_cluster.specs.declared.event.Event.{Event}
use Rattle.cj_cluster.specs.History.Histories.{database_after, is_enabled, is_free, log}
use Rattle.cj_cluster.specs.History.Legality.{IsLegal}
use Rattle.cj_cluster.specs.Proving.Invariants.{HasBegunDrafts, HoldsPart}
use Rattle.cj_cluster.proofs.Pushed.{log-prefix, prefix_length}
use Rattle.cj_cluster.proofs.TransactionLaws.{fit_at, legal_fit}
use Rattle.cj_board.specs.declared.view.SeatView.{SeatView}
use Rattle.cj_board.specs.declared.view.Role.{Role}
use Rattle.cj_board.specs.declared.view.Role.TheVariants.{Cell}
use Rattle.cj_board.specs.Points.{StandsAtEnd, max_word}
use Rattle.cj_board.specs.Steps.{one_fault_more, with_position, word_of_position}
use Rattle.cj_board.specs.Views.{IsCellOf, role_position}
use Rattle.cj_board.proofs.Histories.{log_bound}
use Rattle.cj_replica.specs.declared.replica.Caught.{Caught}
use Rattle.cj_replica.specs.declared.replica.CellError.{CellError}
use Rattle.cj_replica.specs.declared.replica.CellError.TheVariants.{Failed, Starved}
use Rattle.cj_replica.specs.Cells.{CellState, CatchesUp, LoadsDatabase, HasCellCause, IsEntryAfter, position_after}
use Rattle.cj_replica.specs.Logged.{IsLoggedOutcome}
use Rattle.cj_replica.specs.Seated.{SeatedCell, IsSeated, view_after_entry, view_after_load}
use Rattle.cj_replica.proofs.HeldParts.{outcome_logged, holds_taken, drafts_taken, holds_dump, drafts_dump, holds_longer, drafts_longer}

abbrev at_seat : CellState → TableId → SeatView → ℕ → SeatedCell
at_seat x id v f = record { state = x; board = id; view = v; faults_before = f }

-- the backend and the seat both count a fault more, or both none
abbrev pub CountsBoth : ℕ → ℕ → ℕ → ℕ → Type 0
CountsBoth faults faults' known known' = ((faults' ≡ faults) × (known' ≡ known)) ⊎ ((faults' ≡ next faults) × (known' ≡ one_fault_more known))

still_counted : (f n n' m m' : ℕ) → CountsBoth n n' m m' → n ≡ min (f + m) max_word → n' ≡ min (f + m') max_word
still_counted f n n' m m' both counted =
    ⊎_elim (λ (s : (n' ≡ n) × (m' ≡ m)). let a = s.0 in let b = s.1 in omega arith)
    (λ (s : (n' ≡ next n) × (m' ≡ one_fault_more m)). by_test (leb max_word m) refl s.0 s.1) both
  where
    by_test : (t : Bool) → leb max_word m ≡ t → n' ≡ next n → m' ≡ cond t m (m + 1) → n' ≡ min (f + m') max_word
    by_test true e more known = let full = leb-true max_word m e in let known_is : m' ≡ m = known in omega arith
    by_test false e more known = let known_is : m' ≡ m + 1 = known in omega arith

module _ (tells : Bool) (x y : CellState) (id id' : TableId) (v w : SeatView) (f : ℕ) (is : IsSeated tells (at_seat x id v f)) where
  -- where it has seen the same
  pub seated_same : y.b ≡ x.b → y.placement ≡ x.placement → w.role ≡ Cell x.b (word_of_position y.position) → w.front ≡ v.front → IfSome y.position (λ p. p ≤ length (log v.front))
      → HoldsPart tells x.placement x.b (log v.front) y.told y.position → HasBegunDrafts tells x.placement x.b (log v.front) y.begun y.position → CountsBoth x.faults y.faults v.faults w.faults → IsSeated tells (at_seat y id' w f)
  seated_same number placement role front within holds drafts counts = record {
    role = role ∙ ap (λ (b : ℕ). Cell b (word_of_position y.position)) (sym number);
    legal = subst IsLegal (sym front) is.legal;
    within = rw front within;
    holds = rw (front, number, placement) holds;
    drafts = rw (front, number, placement) drafts;
    counted = still_counted f x.faults y.faults v.faults w.faults counts is.counted;
  }

  -- where it has seen more
  pub seated_longer : y ≡ x → w.role ≡ v.role → w.faults ≡ v.faults → IsPrefix v.front w.front → IsLegal w.front → IsSeated tells (at_seat y id' w f)
  seated_longer same role faults longer legal =
      let logs = log-prefix v.front w.front longer in
      subst (λ (z : CellState). IsSeated tells (at_seat z id' w f)) (sym same) record {
        role = role ∙ is.role;
        legal = legal;
        within = more (prefix_length (log v.front) (log w.front) logs) x.position is.within;
        holds = holds_longer tells x.placement x.b (log v.front) (log w.front) logs x.told x.position is.within is.holds;
        drafts = drafts_longer tells x.placement x.b (log v.front) (log w.front) logs x.begun x.position is.within is.drafts;
        counted = is.counted ∙ ap (λ (m : ℕ). min (f + m) max_word) (sym faults);
      }
    where
      more : {m n : ℕ} → m ≤ n → (q : Option ℕ) → IfSome q (λ p. p ≤ m) → IfSome q (λ p. p ≤ n)
      more le None in_log = tt
      more le (Some p) in_log = omega arith

-- ---- what a call leaves of the seat

module _ {T : Type 0} (b n : ℕ) (v : SeatView) where
  entry_role : (q : ℕ) (r : Result T CellError) → v.role ≡ Cell b q → (view_after_entry b n v r).role ≡ Cell b (word_of_position (position_after n r))
  entry_role q (Ok x) is = ap (with_position n) is
  entry_role q (Err Starved) is = ap (with_position max_word) is
  entry_role q (Err Failed) is = ap (with_position max_word) is

  entry_front : (r : Result T CellError) → (view_after_entry b n v r).front ≡ v.front
  entry_front (Ok x) = refl
  entry_front (Err Starved) = refl
  entry_front (Err Failed) = refl

  entry_counts : (before after : ℕ) (r : Result T CellError) → HasCellCause before after r → CountsBoth before after v.faults (view_after_entry b n v r).faults
  entry_counts before after (Ok x) cause = inl (cause.uncounted (λ is. cc is), refl)
  entry_counts before after (Err Starved) cause = inl (cause.uncounted (λ is. cc is), refl)
  entry_counts before after (Err Failed) cause = inr (cause.counted refl, refl)

  load_role : (r : Result T CellError) → v.role ≡ Cell b max_word → (view_after_load b n v r).role ≡ Cell b (word_of_position (position_after n r))
  load_role (Ok x) is = ap (with_position n) is
  load_role (Err Starved) is = is
  load_role (Err Failed) is = is

  load_front : (r : Result T CellError) → (view_after_load b n v r).front ≡ v.front
  load_front (Ok x) = refl
  load_front (Err Starved) = refl
  load_front (Err Failed) = refl

  load_counts : (before after : ℕ) (r : Result T CellError) → HasCellCause before after r → CountsBoth before after v.faults (view_after_load b n v r).faults
  load_counts before after (Ok x) cause = inl (cause.uncounted (λ is. cc is), refl)
  load_counts before after (Err Starved) cause = inl (cause.uncounted (λ is. cc is), refl)
  load_counts before after (Err Failed) cause = inr (cause.counted refl, refl)

-- ---- where it stands

-- the number of its seat
pub number_of : (b c q : ℕ) (role : Role) → IsCellOf b role → role ≡ Cell c q → b ≡ c
number_of b c q role cell is = let same : Cell b (role_position role) ≡ Cell c q = sym cell ∙ is in cc same

stands_at : (q : Option ℕ) (n : ℕ) → IsEntryAfter q n → (p : ℕ) × (q ≡ Some p) × (n ≡ p + 1)
stands_at None n is = absurd is
stands_at (Some p) n is = (p, refl, is)

module _ (tells : Bool) (x : CellState) (id : TableId) (v : SeatView) (f : ℕ) (is : IsSeated tells (at_seat x id v f)) where
  -- the word of its position
  pub word_is : (p : ℕ) → x.position ≡ Some p → (role_position v.role ≡ p) × (p < max_word)
  word_is p place =
      let within : p ≤ length (log v.front) = subst (λ (q : Option ℕ). IfSome q (λ n. n ≤ length (log v.front))) place is.within in
      let top = log_bound v.front is.legal in
      (ap role_position is.role ∙ ap word_of_position place, omega arith)

  -- the next entry
  pub follows_in : (n : ℕ) (e : Entry) → IsEntryAfter x.position n → slice_get (log v.front) (n - 1) ≡ Some e → (n ≡ role_position v.role + 1) × (role_position v.role < length (log v.front)) × IsWritten (request_of e.act)
  follows_in n e follows entry =
      let s = stands_at x.position n follows in
      let next_is = s.2 in
      let word = (word_is s.0 s.1).0 in
      let place : n - 1 ≡ s.0 = omega arith in
      let there : slice_get (log v.front) s.0 ≡ Some e = ap (slice_get (log v.front)) (sym place) ∙ entry in
      let inside = slice_get_within (log v.front) s.0 e there in
      (omega arith, omega arith, (fit_at (log v.front) s.0 e (legal_fit v.front is.legal) there).written)

  -- what the replica did is what the entry comes to
  pub entry_logged : (y : CellState) (n : ℕ) (e : Entry) (given : List ℕ) (r : Result Caught CellError) → IsEntryAfter x.position n → slice_get (log v.front) (n - 1) ≡ Some e → CatchesUp x n e given r y → tells ≡ true → IsLoggedOutcome (log v.front) n r
  entry_logged y n e given r follows entry takes on =
      let s = stands_at x.position n follows in
      let next_is = s.2 in
      let place : n - 1 ≡ s.0 = omega arith in
      let there : slice_get (log v.front) s.0 ≡ Some e = ap (slice_get (log v.front)) (sym place) ∙ entry in
      let taken : CatchesUp x (s.0 + 1) e given r y = subst (λ m. CatchesUp x m e given r y) next_is takes in
      subst (λ m. IsLoggedOutcome (log v.front) m r) (sym next_is)
      (outcome_logged tells x.placement x.b (log v.front) (legal_fit v.front is.legal) s.0 e there x y given r taken refl refl s.1 is.holds is.drafts on)

-- the board says where the word of its position stands, which is its position: that of a backend that is out is past every log
pub stands_seen : (b : ℕ) (q : Option ℕ) (v : SeatView) → v.role ≡ Cell b (word_of_position q) → IsLegal v.front → StandsAtEnd b (role_position v.role) v.front v.front → (m : List Event) → IsPrefix m v.front → is_free m ≡ true → is_enabled m b ≡ true
    → (q ≡ Some (length (log m))) ⊎ (length (log m) < length (log v.front))
stands_seen b q v role legal stands m begins idle on =
    ⊎_elim (λ (at : role_position v.role ≡ length (log m)). inl (placed q (sym (ap role_position role) ∙ at))) (λ (later : length (log m) < length (log v.front)). inr later) (stands m begins idle on)
  where
    placed : (p : Option ℕ) → word_of_position p ≡ length (log m) → p ≡ Some (length (log m))
    placed None at =
        let word : max_word ≡ length (log m) = at in
        let le = prefix_length (log m) (log v.front) (log-prefix m v.front begins) in
        let top = log_bound v.front legal in
        absurd (omega arith)
    placed (Some p) at = ap (λ (n : ℕ). Some n) at

-- ---- the calls

module _ (tells : Bool) (x y : CellState) (id id' : TableId) (v w : SeatView) (f : ℕ) (is : IsSeated tells (at_seat x id v f)) where
  pub seated_entry : (n : ℕ) (e : Entry) (given : List ℕ) (r : Result Caught CellError) → IsEntryAfter x.position n → slice_get (log v.front) (n - 1) ≡ Some e → CatchesUp x n e given r y → w ≡ view_after_entry x.b n v r → IsSeated tells (at_seat y id' w f)
  seated_entry n e given r follows entry takes view =
      let s = stands_at x.position n follows in
      let next_is = s.2 in
      let place : n - 1 ≡ s.0 = omega arith in
      let there : slice_get (log v.front) s.0 ≡ Some e = ap (slice_get (log v.front)) (sym place) ∙ entry in
      let inside = slice_get_within (log v.front) s.0 e there in
      let taken : CatchesUp x (s.0 + 1) e given r y = subst (λ m. CatchesUp x m e given r y) next_is takes in
      let fits = legal_fit v.front is.legal in
      seated_same tells x y id id' v w f is takes.b takes.placement
      (ap (λ (u : SeatView). u.role) view ∙ (entry_role x.b n v (word_of_position x.position) r is.role ∙ ap (λ q. Cell x.b (word_of_position q)) (sym takes.position)))
      (ap (λ (u : SeatView). u.front) view ∙ entry_front x.b n v r)
      (subst (λ q. IfSome q (λ p. p ≤ length (log v.front))) (sym takes.position) (in_log (omega arith) r))
      (holds_taken tells x.placement x.b (log v.front) fits s.0 e there x y given r taken refl refl s.1 is.holds is.drafts)
      (drafts_taken tells x.placement x.b (log v.front) fits s.0 e there x y given r taken refl refl s.1 is.holds is.drafts)
      (subst (CountsBoth x.faults y.faults v.faults) (sym (ap (λ (u : SeatView). u.faults) view)) (entry_counts x.b n v x.faults y.faults r takes.cause))
    where
      in_log : n ≤ length (log v.front) → (q : Result Caught CellError) → IfSome (position_after n q) (λ p. p ≤ length (log v.front))
      in_log le (Ok c) = le
      in_log le (Err d) = tt

  pub seated_load : (cell_tells : Bool) → (tells ≡ true → cell_tells ≡ true) → (db : List Slot) (n : ℕ) (r : Result Unit CellError) → x.position ≡ None → n ≤ length (log v.front) → (tells ≡ true → db ≡ part x.placement x.b (database_after (log v.front) n)) → LoadsDatabase cell_tells x db n r y → w ≡ view_after_load x.b n v r
      → IsSeated tells (at_seat y id' w f)
  seated_load cell_tells tells_too db n r out within right loads view =
      seated_same tells x y id id' v w f is loads.b loads.placement
      (ap (λ (u : SeatView). u.role) view ∙ (load_role x.b n v r (is.role ∙ ap (λ q. Cell x.b (word_of_position q)) out) ∙ ap (λ q. Cell x.b (word_of_position q)) (sym loads.place)))
      (ap (λ (u : SeatView). u.front) view ∙ load_front x.b n v r)
      (subst (λ q. IfSome q (λ p. p ≤ length (log v.front))) (sym loads.place) (in_log r))
      (holds_dump cell_tells tells tells_too x.placement x.b (log v.front) db n right x y r loads)
      (drafts_dump cell_tells tells tells_too x.placement x.b (log v.front) db n right x y r loads)
      (subst (CountsBoth x.faults y.faults v.faults) (sym (ap (λ (u : SeatView). u.faults) view)) (load_counts x.b n v x.faults y.faults r loads.cause))
    where
      in_log : (q : Result Unit CellError) → IfSome (position_after n q) (λ p. p ≤ length (log v.front))
      in_log (Ok c) = within
      in_log (Err d) = tt
