-- Each change of sessions and entries keeps what a world keeps.
use Rattle.std.proofs.Common.{◌≡◌, ℕ, ◌+◌, ◌==◌, ◌<◌, ◌≤◌, not, Bool, true, false, List, [], ◌∷◌, ◌++◌, filter, length, map, get_or, None, refl, ap, sym, ◌∙◌, subst, arith, length-append}
use Rattle.std.proofs.lemmas.Bool.{or_parts, leb-false}
use Rattle.cj_state.proofs.Common.{AreBetween, CellState, core_of, CoreInvariant, Dump, Ended, ended_count, Entry, open_entry_of, Event, events_left, HasServer, HaveFailed, is_entry_of, is_free, IsCell, IsFitEntry, Kept, Layout, log, new_session, no_reports, none_tallied, OpenSession, placement_of, Register, request_of, Sched, Select, session_at, taken_of, Tally, with_session, world_of}
use Rattle.cj_model.specs.declared.limits.TheConstants.{SESSION_LIMIT, SESSION_NUMBER_LIMIT, USER_LIMIT}
use Rattle.cj_model.specs.Cluster.Placements.{hosts_all, needs as needed, needs_backend}
use Rattle.cj_cluster.specs.Moves.Moves.{first_lagging, is_open, is_orphan, has_no_number, abort_entry, with_one_request, answered_at, was_answered, still_reading}
use Rattle.cj_cluster.proofs.Pushed.{enabled-push, log-sched, log-same, log_faults-same, opened-sched, opened-ended}
use Rattle.cj_cluster.proofs.Sessions.{found_open, without}
use Rattle.cj_cluster.proofs.Effects.{SessionsAre, KeepsSession, sessions_are, are_opened, are_closed, are_with, are_sched, are_sched_without, sound_sessions, sound_sched, sound_ended}
use Rattle.cj_cluster.proofs.Soundness.{session_sound, keeps_counted, keeps_answered, keeps_was_answered, keeps_reached, keeps_still_reading}
use Rattle.cj_cluster.proofs.Now.{behind_none, can_abort}
use Rattle.cj_cluster.proofs.Standing.{stand_opened, stand_closed, stand_answered, stand_counted, stand_reading, stand_sched, stand_aborted, stand_ended}
use Rattle.cj_state.proofs.CellsKept.{cell_longer, position_within, position_of, world_behind}
use Rattle.cj_state.proofs.OpenNumbers.{numbers_opened, numbers_without, numbers_with}

-- ---- changes

module _ (tells : Bool) (reg : Register) (l : Layout) (h : List Event) (cells : List CellState) (f s : ℕ) (ss : List OpenSession) (g : ℕ) (ds : List Dump) (numbers : List ℕ) (tally : Tally) (kept : Kept tells (world_of reg l h cells f s ss g ds) numbers tally) where
  -- the sessions alone are changed
  kept_sessions : (ss' : List OpenSession) (g' : ℕ) (numbers' : List ℕ) → SessionsAre h g' ss' → (CoreInvariant (core_of l h cells f s ss' g' ds) → AreBetween (core_of l h cells f s ss' g' ds))
      → numbers' ≡ map (λ (x : OpenSession). x.number) ss' → Kept tells (world_of reg l h cells f s ss' g' ds) numbers' tally
  kept_sessions ss' g' numbers' are stand numbers_are =
      let w = kept.world in
      let sound = sound_sessions (core_of l h cells f s ss g ds) ss' g' w.sound are in
      record {
        world = world_behind w h f s ss' g' (map taken_of ds) refl sound (stand sound);
        numbers_are = numbers_are;
        served = kept.served;
        tallied = kept.tallied;
        taken = kept.taken;
      }

  -- a session is changed
  kept_with : (number : ℕ) (change : OpenSession → OpenSession) → KeepsSession (length (log h)) change
      → (CoreInvariant (core_of l h cells f s (with_session ss number change) g ds) → AreBetween (core_of l h cells f s (with_session ss number change) g ds))
      → Kept tells (world_of reg l h cells f s (with_session ss number change) g ds) numbers tally
  kept_with number change keeps stand =
      kept_sessions (with_session ss number change) g numbers
      (are_with h h g ss number change (sessions_are (core_of l h cells f s ss g ds) kept.world.sound) keeps refl (λ s q lt. refl) (λ e on. on)) stand
      (kept.numbers_are ∙ sym (numbers_with change keeps.number ss number))

  -- it has made one request more, and reads nothing
  pub kept_counted : (number : ℕ) → (session_at (core_of l h cells f s ss g ds) number).reading ≡ None → is_entry_of number (open_entry_of h) ≡ false → Kept tells (world_of reg l h cells f s (with_session ss number with_one_request) g ds) numbers tally
  kept_counted number none idle =
      kept_with number with_one_request (keeps_counted (length (log h))) (λ sound. stand_counted (core_of l h cells f s ss g ds) number with_one_request (λ x. refl) kept.world.between (λ x. refl) none sound idle)

  -- its read was refused
  pub kept_refused : (number : ℕ) → is_entry_of number (open_entry_of h) ≡ false → Kept tells (world_of reg l h cells f s (with_session ss number was_answered) g ds) numbers tally
  kept_refused number idle =
      kept_with number was_answered (keeps_was_answered (length (log h))) (λ sound. stand_answered (core_of l h cells f s ss g ds) number was_answered (λ x. refl) kept.world.between (λ x. refl) sound idle)

  -- its read was answered at a position
  pub kept_reached : (number p : ℕ) → p ≤ length (log h) → is_entry_of number (open_entry_of h) ≡ false → Kept tells (world_of reg l h cells f s (with_session ss number (λ x. answered_at p (was_answered x))) g ds) numbers tally
  kept_reached number p le idle =
      kept_with number (λ x. answered_at p (was_answered x)) (keeps_reached (length (log h)) p le)
      (λ sound. stand_answered (core_of l h cells f s ss g ds) number (λ x. answered_at p (was_answered x)) (λ x. refl) kept.world.between (λ x. refl) sound idle)

  -- its read stays open
  pub kept_reading : (number : ℕ) (select : Select) (tried : ℕ) → is_entry_of number (open_entry_of h) ≡ false → HaveFailed (core_of l h cells f s ss g ds) number tried
      → Kept tells (world_of reg l h cells f s (with_session ss number (still_reading select tried)) g ds) numbers tally
  kept_reading number select tried idle since =
      kept_with number (still_reading select tried) (keeps_still_reading (length (log h)) select tried)
      (λ sound. stand_reading (core_of l h cells f s ss g ds) number select tried kept.world.between idle since.0 since.1 since.2)

  -- a session is opened
  pub kept_opened : (user : List ℕ) → has_no_number (core_of l h cells f s ss g ds) ≡ false → length user ≤ USER_LIMIT
      → Kept tells (world_of reg l h cells f s (ss ++ new_session (g + 1) user ∷ []) (g + 1) ds) (numbers ++ (g + 1) ∷ []) tally
  kept_opened user free_number fits =
      let full = or_parts _ _ free_number in
      let few : length ss < SESSION_LIMIT = leb-false _ _ full.0 in
      let more : g < SESSION_NUMBER_LIMIT = leb-false _ _ full.1 in
      kept_sessions (ss ++ new_session (g + 1) user ∷ []) (g + 1) (numbers ++ (g + 1) ∷ []) (are_opened h g ss user (sessions_are (core_of l h cells f s ss g ds) kept.world.sound) few more fits)
      (λ _. stand_opened (core_of l h cells f s ss g ds) user kept.world.sound kept.world.between) (ap (λ ns. ns ++ (g + 1) ∷ []) kept.numbers_are ∙ sym (numbers_opened ss (g + 1) user))

  -- a session is closed
  pub kept_closed : (number : ℕ) → is_entry_of number (open_entry_of h) ≡ false → Kept tells (world_of reg l h cells f s (without number ss) g ds) (filter (λ n. not (n == number)) numbers) tally
  kept_closed number idle =
      kept_sessions (without number ss) g (filter (λ n. not (n == number)) numbers) (are_closed h g ss number (sessions_are (core_of l h cells f s ss g ds) kept.world.sound) idle)
      (λ _. stand_closed (core_of l h cells f s ss g ds) number kept.world.between) (ap (filter (λ n. not (n == number))) kept.numbers_are ∙ sym (numbers_without ss number))

  -- an entry is scheduled, which some backend serves
  kept_sched : (e : Entry) (ss' : List OpenSession) → is_free h ≡ true → IsFitEntry (log h) e → 3 ≤ events_left h → HasServer (placement_of l) h (request_of e.act)
      → SessionsAre (h ++ Sched e ∷ []) g ss' → AreBetween (core_of l (h ++ Sched e ∷ []) cells 0 0 ss' g ds) → numbers ≡ map (λ (x : OpenSession). x.number) ss'
      → Kept tells (world_of reg l (h ++ Sched e ∷ []) cells 0 0 ss' g ds) numbers no_reports
  kept_sched e ss' fr fit space served are stand numbers_are =
      let w = kept.world in
      let longer : log (h ++ Sched e ∷ []) ≡ log h ++ e ∷ [] = log-sched h e in
      let len : length (log (h ++ Sched e ∷ [])) ≡ length (log h) + 1 = ap length longer ∙ length-append (log h) (e ∷ []) in
      record {
        world =
            record {
              sound = sound_sched (core_of l h cells f s ss g ds) e ss' w.sound fr fit space are;
              named = w.named;
              registered = w.registered;
              few = w.few;
              positions = refl;
              begun = refl;
              cells =
                  λ k d lt.
                  subst (λ (entries : List Entry). IsCell tells (placement_of l) entries k (get_or cells k d)) (sym longer)
                  (cell_longer tells (placement_of l) k (log h) e (get_or cells k d) (λ q there. position_within (core_of l h cells f s ss g ds) w.sound k q (position_of cells k d lt ∙ there)) (w.cells k d lt));
              between = stand;
            };
        numbers_are = numbers_are;
        served =
            λ d on needs.
            let same : e ≡ d = cc (opened-sched h e fr, on) in
            let q = served (subst (λ (x : Entry). needs_backend (request_of x.act) ≡ true) (sym same) needs) in
            (q.0, (enabled-push h (Sched e) q.0 ∙ q.1.0, subst (λ (x : Entry). hosts_all (placement_of l) q.0 (needed (request_of x.act)) ≡ true) same q.1.1));
        tallied = λ d on. none_tallied tells (placement_of l) (log (h ++ Sched e ∷ [])) (ended_count (h ++ Sched e ∷ [])) d;
        taken =
            λ d k on now there.
            let le : length (log (h ++ Sched e ∷ [])) ≤ length (log h) = position_within (core_of l h cells f s ss g ds) w.sound k (length (log (h ++ Sched e ∷ []))) there in
            absurd (omega arith);
      }

  -- an entry of a session is scheduled
  pub kept_scheduled : (number : ℕ) (e : Entry) → is_open (core_of l h cells f s ss g ds) number ≡ true → e.session ≡ number → e.seq ≡ (session_at (core_of l h cells f s ss g ds) number).requests + 1 → is_free h ≡ true → IsFitEntry (log h) e
      → 3 ≤ events_left h → (session_at (core_of l h cells f s ss g ds) number).reading ≡ None → HasServer (placement_of l) h (request_of e.act)
      → Kept tells (world_of reg l (h ++ Sched e ∷ []) cells 0 0 (with_session ss number with_one_request) g ds) numbers no_reports
  kept_scheduled number e here session seq fr fit space none served =
      let x = session_sound (core_of l h cells f s ss g ds) number kept.world.sound here in
      let high : (session_at (core_of l h cells f s ss g ds) number).number ≤ g = x.0.number.1 in
      let is : (session_at (core_of l h cells f s ss g ds) number).number ≡ number = x.1 in
      kept_sched e (with_session ss number with_one_request) fr fit space served
      (are_sched h g ss number e (session_at (core_of l h cells f s ss g ds) number) (sessions_are (core_of l h cells f s ss g ds) kept.world.sound) (found_open (core_of l h cells f s ss g ds) number here) fr
      session seq (omega arith))
      (stand_sched (core_of l h cells f s ss g ds) number e kept.world.sound fr fit session here none served space kept.world.between)
      (kept.numbers_are ∙ sym (numbers_with with_one_request (λ x. refl) ss number))

  -- the administrator's end of an orphan is scheduled
  pub kept_aborted : (e : Entry) → is_orphan (core_of l h cells f s ss g ds) e.tx ≡ true → e ≡ abort_entry (core_of l h cells f s ss g ds) e.tx → is_free h ≡ true → IsFitEntry (log h) e
      → 3 ≤ events_left h → HasServer (placement_of l) h (request_of e.act) → Kept tells (world_of reg l (h ++ Sched e ∷ []) cells 0 0 ss g ds) numbers no_reports
  kept_aborted e orphan is fr fit space served =
      kept_sched e ss fr fit space served (are_sched_without h g ss e (sessions_are (core_of l h cells f s ss g ds) kept.world.sound) fr (ap (λ (d : Entry). d.session) is))
      (subst (λ (d : Entry). AreBetween (core_of l (h ++ Sched d ∷ []) cells 0 0 ss g ds)) (sym is)
      (stand_aborted (core_of l h cells f s ss g ds) e.tx (can_abort (core_of l h cells f s ss g ds) e.tx (rw (orphan, fr) refl)) kept.world.between))
      kept.numbers_are

  -- the open entry ends
  kept_ended : (ss' : List OpenSession) → is_free h ≡ false → first_lagging h 0 (map (λ (x : CellState). x.position) cells) ≡ None
      → SessionsAre (h ++ Ended f s ∷ []) g ss' → (CoreInvariant (core_of l (h ++ Ended f s ∷ []) cells 0 0 ss' g ds) → AreBetween (core_of l (h ++ Ended f s ∷ []) cells 0 0 ss' g ds))
      → numbers ≡ map (λ (x : OpenSession). x.number) ss' → Kept tells (world_of reg l (h ++ Ended f s ∷ []) cells 0 0 ss' g ds) numbers no_reports
  kept_ended ss' fr none are stand numbers_are =
      let w = kept.world in
      let sound = sound_ended (core_of l h cells f s ss g ds) ss' w.sound fr (λ b q is on. behind_none h (map (λ (x : CellState). x.position) cells) none b q is on) are in
      let same : log (h ++ Ended f s ∷ []) ≡ log h = log-same h (Ended f s) refl in
      let closed : open_entry_of (h ++ Ended f s ∷ []) ≡ None = opened-ended h f s fr w.sound.one_open.0 w.sound.one_open.1 in
      record {
        world = world_behind w (h ++ Ended f s ∷ []) 0 0 ss' g (map taken_of ds) same sound (stand sound);
        numbers_are = numbers_are;
        served = λ d on. absurd (cc (closed, on));
        tallied = λ d on. absurd (cc (closed, on));
        taken = λ d k on now there. absurd (cc (closed, on));
      }

  -- the open entry ends, and its session is answered
  pub kept_answered : (number : ℕ) → is_entry_of number (open_entry_of h) ≡ true → is_free h ≡ false → first_lagging h 0 (map (λ (x : CellState). x.position) cells) ≡ None
      → Kept tells (world_of reg l (h ++ Ended f s ∷ []) cells 0 0 (with_session ss number (answered_at (length (log h)))) g ds) numbers no_reports
  kept_answered number waiting fr none =
      let w = kept.world in
      let closed = opened-ended h f s fr w.sound.one_open.0 w.sound.one_open.1 in
      let le : length (log h) ≤ length (log h) = omega arith in
      kept_ended (with_session ss number (answered_at (length (log h)))) fr none
      (are_with h (h ++ Ended f s ∷ []) g ss number (answered_at (length (log h))) (sessions_are (core_of l h cells f s ss g ds) w.sound) (keeps_answered (length (log h)) (length (log h)) le)
      (log-same h (Ended f s) refl) (λ t q lt. log_faults-same h (Ended f s) (λ i j. refl) t q) (λ e on. absurd (cc (closed, on))))
      (λ sound.
      stand_ended (core_of l h cells f s ss g ds) (core_of l (h ++ Ended f s ∷ []) cells 0 0 (with_session ss number (answered_at (length (log h)))) g ds) number (length (log h)) f s refl sound waiting closed
      kept.world.between)
      (kept.numbers_are ∙ sym (numbers_with (answered_at (length (log h))) (λ x. refl) ss number))
