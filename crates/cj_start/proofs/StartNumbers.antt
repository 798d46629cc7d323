-- The session numbers of a world that was just started follow its history.
use Rattle.std.proofs.Common.{◌≡◌, ℕ, ◌+◌, List, [], ◌∷◌, ◌++◌, map, refl, sym, subst, arith}
use Rattle.cj_board.specs.Counting.{greatest_of, session_after, sessions_in}
use Rattle.cj_board.specs.Views.{empty_pass}
use Rattle.cj_book.proofs.Owned.{next_stays, opening_gives}
use Rattle.cj_start.proofs.Common.{AbortsEach, Enabled, Ended, Entry, entry_numbered, Event, HasStarted, IsOpening, log, Placement, Sched, with_abort, WorldState}
use Rattle.cj_model.specs.declared.request.Act.TheVariants.{Abort}
use Rattle.cj_cluster.specs.Moves.Moves.{user_of}
use Rattle.cj_state.specs.Sharing.{NumbersFollowHistory}

-- an event that enables a backend is of no session
enables : (bs : List ℕ) → greatest_of (sessions_in (map Enabled bs)) ≡ 0
enables [] = refl
enables (b ∷ bs) = enables bs

-- the administrator's entry is of none
none_more : (e : Entry) (f : ℕ) → e.session ≡ 0 → greatest_of (sessions_in (Sched e ∷ Ended f 0 ∷ [])) ≡ 0
none_more e f none = omega (arith, none)

follows_aborts : (greatest : ℕ) (txs : List ℕ) (h z : List Event) → AbortsEach h txs z → greatest + 1 ≡ session_after 0 h → greatest + 1 ≡ session_after 0 z
follows_aborts greatest [] h z is next = subst (λ (x : List Event). greatest + 1 ≡ session_after 0 x) (sym is) next
follows_aborts greatest (tx ∷ txs) h z q next =
    let e : Entry = record { session = 0; seq = 0; tx = tx; user = user_of (entry_numbered (log h) tx); act = Abort } in
    let none : greatest_of (sessions_in (Sched e ∷ Ended q.0 0 ∷ [])) ≡ 0 = none_more e q.0 refl in
    follows_aborts greatest txs (with_abort h tx q.0) z q.1 (next_stays greatest 0 h (Sched e ∷ Ended q.0 0 ∷ []) next (omega (arith, none)))

pub started_numbers : (p : Placement) (opening : List Event) (faults : List ℕ) (w : WorldState) → IsOpening opening → HasStarted p opening faults w → NumbersFollowHistory w
started_numbers p opening faults w o is =
    let first : w.core.greatest + 1 ≡ session_after 0 opening = opening_gives opening w.core.greatest (record empty_pass { front = opening }) o refl refl is.greatest in
    let none : greatest_of (sessions_in (map Enabled is.enabled)) ≡ 0 = enables is.enabled in
    follows_aborts w.core.greatest _ (opening ++ map Enabled is.enabled) w.core.history is.history (next_stays w.core.greatest 0 opening (map Enabled is.enabled) first (omega (arith, none)))
