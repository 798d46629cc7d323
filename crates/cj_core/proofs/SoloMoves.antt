-- What leaves a session between its calls: a move of no session, and a request counted; and how it begins.
use Rattle.std.proofs.Common.{◌≡◌, ◌≢◌, ℕ, ◌+◌, ◌<◌, ◌≤◌, Bool, true, false, List, All, None, Some, is_some, Ok, Err, refl, ap, sym, ◌∙◌, subst, arith, ⊎_elim}
use Rattle.cj_core.proofs.Common.{All-weaker, Apply, Arm, Arms, both_ways, can_apply, can_end, Core, CoreInvariant, Disable, Disables, DoesMove, Dump, Dumps, Enable, Enables, End, Event, find_session, free-same, happened, is_end_event, is_free, is_open-push, is_open-with}
use Rattle.cj_core.proofs.Common.{IsMoveOfNoSession, IsSoundSession, LacksRoomFor, Load, Loads, Mark, Marks, MeetsLogFault, Move, MoveResult, MovesTo, new_session, NoMemory, not_now, Open, opened_for, OpenSession, OpensSession, Replay, Replays, scheduled_entry, session_at}
use Rattle.cj_core.proofs.Common.{session_at-is, session_of-push_other, session_of-push_same, StandsBetweenCalls, with_one_request, with_request_counted}
use Rattle.cj_cluster.specs.declared.event.Event.TheVariants as event
use Rattle.cj_cluster.specs.declared.moves.Moved.TheVariants as moved
use Rattle.cj_cluster.proofs.Soundness.{session_sound, by_reason}
use Rattle.cj_calls.proofs.SoloTurns.{counted_session}

module _ (tells : Bool) (c z : Core) (s : ℕ) (w : CoreInvariant c) (stands : StandsBetweenCalls c s) where
  -- nothing changes
  as_it_was : z ≡ c → StandsBetweenCalls z s
  as_it_was is = subst (λ (x : Core). StandsBetweenCalls x s) (sym is) stands

  -- an event that schedules nothing and ends nothing
  with_one_event : (ev : Event) → scheduled_entry ev ≡ None → is_end_event ev ≡ false → z ≡ happened c ev → StandsBetweenCalls z s
  with_one_event ev none stays is =
      subst (λ (x : Core). StandsBetweenCalls x s) (sym is) (record { idle = free-same c.history ev none stays ∙ stands.idle; here = stands.here; no_read = stands.no_read })

  -- another session opens
  with_one_session : (user : List ℕ) → z ≡ opened_for c user → StandsBetweenCalls z s
  with_one_session user is =
      let sound = session_sound c s w stands.here in
      let high : (session_at c s).number ≤ c.greatest = sound.0.number.1 in
      let number : (session_at c s).number ≡ s = sound.1 in
      let other : s ≢ c.greatest + 1 = λ e. absurd (omega (arith, e, high, number)) in
      let y : OpenSession = new_session (c.greatest + 1) user in
      let found : find_session (opened_for c user).sessions s ≡ find_session c.sessions s = session_of-push_other c.sessions y s other in
      let same : session_at (opened_for c user) s ≡ session_at c s = session_at-is (opened_for c user) s (find_session c.sessions s) found ∙ sym (session_at-is c s (find_session c.sessions s) refl) in
      subst (λ (x : Core). StandsBetweenCalls x s) (sym is)
      (record { idle = stands.idle; here = is_open-push c.sessions y s stands.here; no_read = ap (λ (x : OpenSession). x.reading) same ∙ stands.no_read })

  opens : (user : List ℕ) (g : MoveResult) → OpensSession c user g z → StandsBetweenCalls z s
  opens user (Ok (moved.Session n)) h = with_one_session user h.2
  opens user (Ok (moved.Refused r)) h = as_it_was h.2
  opens user _ h = absurd h

  arms : (g : MoveResult) → Arms c g z → StandsBetweenCalls z s
  arms (Ok moved.Armed) h = as_it_was h
  arms _ h = absurd h

  disables : (b : ℕ) (g : MoveResult) → Disables c b g z → StandsBetweenCalls z s
  disables b (Ok moved.Disabled) h = with_one_event (event.Disabled b) refl refl h.1
  disables b (Ok (moved.Refused r)) h = as_it_was h.2
  disables b _ h = absurd h

  enables : (b : ℕ) (g : MoveResult) → Enables c b g z → StandsBetweenCalls z s
  enables b (Ok moved.Enabled) h = with_one_event (event.Enabled b) refl refl h.1
  enables b (Ok (moved.Refused r)) h = as_it_was h.2
  enables b _ h = absurd h

  marks : (name : List ℕ) (g : MoveResult) → Marks c name g z → StandsBetweenCalls z s
  marks name (Ok (moved.Marked n)) h = with_one_event (event.Marker name None) refl refl h.2
  marks name (Ok (moved.Refused r)) h =
      ⊎_elim (λ (q : LacksRoomFor 1 c r z). as_it_was q.after) (λ (q : MeetsLogFault 1 c r z). with_one_event (event.LogFailed 0 0) refl refl q.after) h
  marks name (Err NoMemory) h = as_it_was h
  marks name _ h = absurd h

  replays : (b : ℕ) (g : MoveResult) → Replays tells c b g z → StandsBetweenCalls z s
  replays b (Ok (moved.Replayed n d)) h = subst (λ (x : Core). StandsBetweenCalls x s) (sym h.1.2) (record { idle = stands.idle; here = stands.here; no_read = stands.no_read })
  replays b _ h = absurd h

  dumps : (b : ℕ) (name : List ℕ) (g : MoveResult) → Dumps c b name g z → StandsBetweenCalls z s
  dumps b name (Ok (moved.Dumped n)) h = subst (λ (x : Core). StandsBetweenCalls x s) (sym h.1) (record { idle = stands.idle; here = stands.here; no_read = stands.no_read })
  dumps b name (Ok moved.Failed) h = as_it_was h
  dumps b name (Err NoMemory) h = as_it_was h
  dumps b name _ h = absurd h

  loads : (b : ℕ) (name : List ℕ) (g : MoveResult) → Loads tells c b name g z → StandsBetweenCalls z s
  loads b name (Ok (moved.Loaded n)) h = subst (λ (x : Core). StandsBetweenCalls x s) (sym h.after) (record { idle = stands.idle; here = stands.here; no_read = stands.no_read })
  loads b name (Ok moved.Failed) h = as_it_was h
  loads b name (Ok moved.Starved) h = as_it_was h
  loads b name _ h = absurd h

  -- a move that can be made
  does : (m : Move) (g : MoveResult) → IsMoveOfNoSession m → not_now c m ≡ None → DoesMove tells c m g z → StandsBetweenCalls z s
  does (Open user) g none now h = opens user g h
  does (Apply b) g none now h = absurd (both_ways (is_free c.history) (can_apply c b now).is_running stands.idle)
  does End g none now h = absurd (both_ways (is_free c.history) (can_end c now).is_running stands.idle)
  does (Arm b) g none now h = arms g h
  does (Disable b) g none now h = disables b g h
  does (Replay b) g none now h = replays b g h
  does (Enable b) g none now h = enables b g h
  does (Mark name) g none now h = marks name g h
  does (Dump b name) g none now h = dumps b name g h
  does (Load b name) g none now h = loads b name g h
  does _ g none now h = absurd none

  -- any move
  pub stands_moved : (m : Move) (g : MoveResult) → IsMoveOfNoSession m → MovesTo tells c m g z → StandsBetweenCalls z s
  stands_moved m g none h = by_reason (not_now c m) (DoesMove tells c m g z) (StandsBetweenCalls z s) g c z h (λ now t. does m g none now t) (λ why is same. as_it_was same)

-- ---- how it begins

-- the session that was opened last stands between its calls, where no entry is open
pub stands_opened : (c : Core) (user : List ℕ) → CoreInvariant c → is_free c.history ≡ true → StandsBetweenCalls (opened_for c user) (c.greatest + 1)
stands_opened c user w idle =
    let y : OpenSession = new_session (c.greatest + 1) user in
    let below : All (λ (x : OpenSession). x.number < y.number) c.sessions =
    All-weaker (IsSoundSession c.history c.greatest) (λ (x : OpenSession). x.number < c.greatest + 1) (λ x q. let le : x.number ≤ c.greatest = q.number.1 in omega arith) c.sessions w.sessions
    in
    let found : find_session (opened_for c user).sessions (c.greatest + 1) ≡ Some y = session_of-push_same c.sessions y below in
    record {
      idle = idle;
      here = ap is_some found;
      no_read = ap (λ (x : OpenSession). x.reading) (session_at-is (opened_for c user) (c.greatest + 1) (Some y) found);
    }

-- ---- a request counted

-- it stands so after a request was counted
pub stands_counted : (c : Core) (s : ℕ) → StandsBetweenCalls c s → StandsBetweenCalls (with_request_counted c s) s
stands_counted c s stands =
    record {
      idle = stands.idle;
      here = is_open-with with_one_request (λ x. refl) c.sessions s s ∙ stands.here;
      no_read = ap (λ (x : OpenSession). x.reading) (counted_session c s stands.here) ∙ stands.no_read;
    }
