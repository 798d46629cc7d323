-- The last session that was given an own pass stays noted, and a pass that the book told shows that it was given.
use Rattle.std.proofs.Common.{◌≡◌, ℕ, ◌+◌, ◌<◌, ◌≤◌, inl, inr, max, Bool, true, List, [], ◌∷◌, ◌++◌, map, Contains, Option, None, Some, IfSome, refl, ap, sym, ◌∙◌, subst, arith, ⊎_elim}
use Rattle.std.proofs.lemmas.Bool.{cases_lt}
use Rattle.std.proofs.lemmas.List.{map-append}
use Rattle.std.proofs.lemmas.List.Elements.{filter_map-append, Contains-append_left, Contains-append_right}
use Rattle.atomic_table.specs.Seated.{TableId}
use Rattle.cj_model.specs.declared.limits.TheConstants.{SESSION_NUMBER_LIMIT}
use Rattle.cj_model.specs.declared.request.Entry.{Entry}
use Rattle.cj_cluster.specs.declared.event.Event.{Event}
use Rattle.cj_cluster.specs.History.Histories.{is_free, log, scheduled_entry}
use Rattle.cj_board.specs.declared.view.SeatView.{SeatView}
use Rattle.cj_board.specs.Counting.{greatest_of, log_failure_session, log_failure_sessions, session_after, sessions_in}
use Rattle.cj_board.specs.Steps.{after_append, after_count, after_join, after_learning, after_split}
use Rattle.cj_board.specs.Views.{next_session, pass_of, pass_without_tokens}
use Rattle.cj_place.specs.Layouts.{Layout}
use Rattle.cj_book.specs.BookLogs.{BookLogState, LogFollows}
use Rattle.cj_book.specs.Seated.{knows_counted, own_book_after, own_opened, told_book, view_after, GivesOwnPassesOnly, SeatedBook}
use Rattle.cj_locked.specs.Locked.{IsLocked, IsVacant, LastIsNoted}
use Rattle.cj_pass.specs.Passes.{WasGiven}
use Rattle.cj_locked.specs.Turns.{turn_amount}

-- ---- the greatest session of a history

greatest-append : (xs ys : List ℕ) → greatest_of (xs ++ ys) ≡ max (greatest_of xs) (greatest_of ys)
greatest-append [] ys = omega arith
greatest-append (x ∷ xs) ys = let i = greatest-append xs ys in omega arith

-- it stays or grows as events come
sessions_grow : (g h : List Event) → session_after 0 g ≤ session_after 0 (g ++ h)
sessions_grow g h =
    let number : Entry → ℕ = λ e. e.session in
    let entries : map number (log (g ++ h)) ≡ map number (log g) ++ map number (log h) = ap (map number) (filter_map-append scheduled_entry g h) ∙ map-append number (log g) (log h) in
    let all = ap greatest_of (ap (λ xs. xs ++ log_failure_sessions (g ++ h)) entries ∙ ap (λ xs. (map number (log g) ++ map number (log h)) ++ xs) (filter_map-append log_failure_session g h)) in
    let a = greatest-append (map number (log g) ++ map number (log h)) (log_failure_sessions g ++ log_failure_sessions h) in
    let b = greatest-append (map number (log g)) (map number (log h)) in
    let c = greatest-append (log_failure_sessions g) (log_failure_sessions h) in
    let d = greatest-append (map number (log g)) (log_failure_sessions g) in
    omega (arith, all, a, b, c, d)

-- ---- the book's steps

-- the last session given is the same, each count note is there yet, and so is each session of the history
pub record KeepsNoted (v w : SeatView) : Type 0 where
  pub last : w.last_given ≡ v.last_given
  pub notes : (note : ℕ × ℕ) → Contains v.count_notes note → Contains w.count_notes note
  pub seen : session_after 0 v.front ≤ session_after 0 w.front

pub keeps_same : (v w : SeatView) → w ≡ v → KeepsNoted v w
keeps_same v w is = subst (KeepsNoted v) (sym is) (record { last = refl; notes = λ note there. there; seen = omega arith })

pub keeps_then : (u v w : SeatView) → KeepsNoted u v → KeepsNoted v w → KeepsNoted u w
keeps_then u v w p q =
    record {
      last = q.last ∙ p.last;
      notes = λ note there. q.notes note (p.notes note there);
      seen = let a : session_after 0 u.front ≤ session_after 0 v.front = p.seen in let b : session_after 0 v.front ≤ session_after 0 w.front = q.seen in omega (arith, a, b);
    }

-- it learned what a pass knows, or told a pass
pub keeps_learning : (v u w : SeatView) → w ≡ after_learning v u → KeepsNoted v w
keeps_learning v u w is = subst (KeepsNoted v) (sym is) (record { last = refl; notes = λ note there. Contains-append_left v.count_notes u.count_notes note there; seen = omega arith })

-- it took an own pass back, say
pub keeps_more : (v w : SeatView) (more : List (ℕ × ℕ)) → w.last_given ≡ v.last_given → w.front ≡ v.front → w.count_notes ≡ v.count_notes ++ more → KeepsNoted v w
keeps_more v w more last front notes =
    record {
      last = last;
      notes = λ note there. subst (λ (xs : List (ℕ × ℕ)). Contains xs note) (sym notes) (Contains-append_left v.count_notes more note there);
      seen = subst (λ h. session_after 0 v.front ≤ session_after 0 h) (sym front) (omega arith);
    }

keeps_append : (e : Event) (v : SeatView) → KeepsNoted v (after_append e v)
keeps_append e v = record { last = refl; notes = λ note there. there; seen = sessions_grow v.front (e ∷ []) }

-- an event came, where one did
pub keeps_event : (o : Option Event) (v w : SeatView) → w ≡ view_after o v → KeepsNoted v w
keeps_event None v w is = keeps_same v w is
keeps_event (Some e) v w is = subst (KeepsNoted v) (sym is) (keeps_append e v)

-- an event of a session with an own pass came, where one did
pub keeps_own : (o : Option Event) (v u w : SeatView) → w ≡ own_book_after o v u → KeepsNoted v w
keeps_own None v u w is = keeps_same v w is
keeps_own (Some e) v u w is =
    let heard = knows_counted v u in
    let came = after_append e heard in
    let told = told_book came (after_split (after_count u)) in
    subst (KeepsNoted v) (sym is)
    (keeps_then v heard told (keeps_learning v (pass_of (after_count u)) heard refl) (keeps_then heard came told (keeps_append e heard) (keeps_learning came (pass_without_tokens (after_split (after_count u))) told refl)))

-- the same, where the book told the pass first
pub keeps_own_told : (o : Option Event) (v u t w : SeatView) → w ≡ own_book_after o (told_book v u) t → KeepsNoted v w
keeps_own_told o v u t w is = keeps_then v (told_book v u) w (keeps_learning v (pass_without_tokens u) (told_book v u) refl) (keeps_own o (told_book v u) t w is)

-- ---- what stays

pub still_noted : (v w : SeatView) → KeepsNoted v w → LastIsNoted v → LastIsNoted w
still_noted v w keeps noted =
    record {
      known =
          ⊎_elim
          (λ (low : v.last_given < session_after 0 v.front).
          let last : w.last_given ≡ v.last_given = keeps.last in
          let seen : session_after 0 v.front ≤ session_after 0 w.front = keeps.seen in
          inl (omega (arith, low, last, seen)))
          (λ (note : (k : ℕ) × (v.last_given ≤ SESSION_NUMBER_LIMIT) × Contains v.count_notes (v.last_given, k)).
          inr (
            note.0,
            subst (λ (n : ℕ). n ≤ SESSION_NUMBER_LIMIT) (sym keeps.last) note.1,
            subst (λ (n : ℕ). Contains w.count_notes (n, note.0)) (sym keeps.last) (keeps.notes (v.last_given, note.0) note.2),
          )) noted.known;
    }

-- a session was opened with an own pass, of whose count the book has a note
pub noted_opened : (v w : SeatView) (greatest s : ℕ) → w ≡ own_opened v → greatest + 1 ≡ next_session v → s ≡ greatest + 1 → s ≤ SESSION_NUMBER_LIMIT → Contains w.count_notes (s, 0) → LastIsNoted w
noted_opened v w greatest s is next number within note =
    let last : w.last_given ≡ s = ap (λ (x : SeatView). x.last_given) is ∙ sym (number ∙ next) in
    record { known = inr (0, subst (λ (n : ℕ). n ≤ SESSION_NUMBER_LIMIT) (sym last) within, subst (λ (n : ℕ). Contains w.count_notes (n, 0)) (sym last) note) }

-- only sessions and knowledge of the book have changed
module _ {S : Type 0} (board : TableId) (layout : Layout) (tells : Bool) (count : S → ℕ) (total : ℕ) (old new : SeatedBook) (l : Option (BookLogState S)) (locked : IsLocked board layout tells count total (record { book = old; log = l }))
    (history : new.state.history ≡ old.state.history) (pending : new.pending ≡ old.pending) where
  vacant_still : (x : Option (BookLogState S)) → IfSome x (IsVacant tells count old) → IfSome x (IsVacant tells count new)
  vacant_still None vacant = tt
  vacant_still (Some y) vacant =
      record {
        idle = subst (λ (h : List Event). is_free h ≡ true) (sym history) vacant.idle;
        unpending = pending ∙ vacant.unpending;
        follows = subst (λ (h : List Event). LogFollows tells count y h) (sym history) vacant.follows;
      }

  pub locked_still : new.board ≡ old.board → new.state.layout ≡ old.state.layout → GivesOwnPassesOnly new → LastIsNoted new.view → IsLocked board layout tells count total (record { book = new; log = l })
  locked_still at laid gives noted =
      record {
        on = at ∙ locked.on;
        laid = laid ∙ locked.laid;
        gives = gives;
        counted = locked.counted ∙ (λ i. turn_amount (sym history i) (sym pending i));
        vacant = vacant_still l locked.vacant;
        noted = noted;
      }

-- ---- where all numbers were given

-- a pass that the book told shows it
pub shows_given : (v p q : SeatView) (greatest n : ℕ) → LastIsNoted v → greatest + 1 ≡ next_session v → SESSION_NUMBER_LIMIT ≤ greatest → n ≡ SESSION_NUMBER_LIMIT → q ≡ after_join p (pass_without_tokens v) → q.front ≡ v.front → WasGiven q n
shows_given v p q greatest n noted next all is joined seen =
    ⊎_elim
    (λ (low : v.last_given < session_after 0 v.front). let below : v.last_given ≤ g = omega (arith, low) in let there : n < session_after 0 v.front = omega (arith, reaches, all, is, below) in in_front there)
    (λ (note : (k : ℕ) × (v.last_given ≤ SESSION_NUMBER_LIMIT) × Contains v.count_notes (v.last_given, k)).
    ⊎_elim (λ (low : v.last_given < SESSION_NUMBER_LIMIT). let there : n < session_after 0 v.front = omega (arith, reaches, all, is, low) in in_front there)
    (λ (high : SESSION_NUMBER_LIMIT ≤ v.last_given).
    let within : v.last_given ≤ SESSION_NUMBER_LIMIT = note.1 in
    let last : v.last_given ≡ n = omega (arith, within, high, is) in
    inl (
      note.0,
      subst (λ (z : SeatView). Contains z.count_notes (n, note.0)) (sym joined)
          (Contains-append_right p.count_notes (pass_without_tokens v).count_notes (n, note.0)
          (Contains-append_left v.count_notes _ (n, note.0) (subst (λ (m : ℕ). Contains v.count_notes (m, note.0)) last note.2))),
    ))
    (cases_lt v.last_given SESSION_NUMBER_LIMIT)) noted.known
  where
    g : ℕ
    g = greatest_of (sessions_in v.front)

    reaches : greatest + 1 ≡ max v.last_given (greatest_of (sessions_in v.front)) + 1
    reaches = omega (arith, next)

    in_front : n < session_after 0 v.front → WasGiven q n
    in_front there = inr (subst (λ h. n < session_after 0 h) (sym seen) there)
