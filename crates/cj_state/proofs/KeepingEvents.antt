-- What a world keeps where an event comes that schedules nothing and ends nothing.
use Rattle.std.proofs.Common.{◌≡◌, ℕ, ◌<◌, ◌≤◌, Bool, true, false, List, [], ◌∷◌, ◌++◌, length, map, Option, None, Some, refl, ap, sym, ◌∙◌, subst}
use Rattle.cj_state.proofs.Common.{AreBetween, both_ways, CellState, core_of, CoreInvariant, Disabled, Dump, Enabled, Entry, Event, is_entry_of, IsTallyOf, Kept, Layout, LogFailed, Marker, OpenSession, placement_of, position_at, ReadFailed, Register, session_at, taken_of, Tally, world_of}
use Rattle.cj_cluster.specs.History.Histories.{scheduled_entry, is_end_event, log, ended_count, is_free, open_entry_of, is_enabled, has_marker, events_left}
use Rattle.cj_cluster.proofs.Pushed.{enabled-push, log-same, log_faults-same, done-same, opened-same, opened-free}
use Rattle.cj_cluster.proofs.Effects.{sessions_are, are_kept, sound_read_failed, sound_log_failed, sound_disabled, sound_enabled, sound_marked, is_there}
use Rattle.cj_cluster.proofs.Standing.{stand_event, stand_log_failed}
use Rattle.cj_state.proofs.CellsKept.{world_behind}

module _ (tells : Bool) (reg : Register) (l : Layout) (h : List Event) (cells : List CellState) (f s : ℕ) (ss : List OpenSession) (g : ℕ) (ds : List Dump) (numbers : List ℕ) (tally : Tally) (kept : Kept tells (world_of reg l h cells f s ss g ds) numbers tally) where
  -- an event comes that leaves the log and the ends, where the state stays sound
  kept_same : (e : Event) → scheduled_entry e ≡ None → is_end_event e ≡ false → CoreInvariant (core_of l (h ++ e ∷ []) cells f s ss g ds)
      → ((d : Entry) → open_entry_of h ≡ Some d → (b : ℕ) → is_enabled (h ++ e ∷ []) b ≡ is_enabled h b) → AreBetween (core_of l (h ++ e ∷ []) cells f s ss g ds)
      → Kept tells (world_of reg l (h ++ e ∷ []) cells f s ss g ds) numbers tally
  kept_same e is stays sound keeps stand =
      let w = kept.world in
      let same : log (h ++ e ∷ []) ≡ log h = log-same h e is in
      let was : ended_count (h ++ e ∷ []) ≡ ended_count h = done-same h e stays in
      let still : open_entry_of (h ++ e ∷ []) ≡ open_entry_of h = opened-same h e is stays in
      record {
        world = world_behind w (h ++ e ∷ []) f s ss g (map taken_of ds) same sound stand;
        numbers_are = kept.numbers_are;
        served = λ d on needs. (let o = kept.served d (sym still ∙ on) needs in (o.0, (keeps d (sym still ∙ on) o.0 ∙ o.1.0, o.1.1)));
        tallied =
            λ d on.
            subst (λ (n : ℕ). IsTallyOf tells (placement_of l) (log (h ++ e ∷ [])) n d tally) (sym was)
            (subst (λ (entries : List Entry). IsTallyOf tells (placement_of l) entries (ended_count h) d tally) (sym same) (kept.tallied d (sym still ∙ on)));
        taken = λ d b on now there. kept.taken d b (sym still ∙ on) (sym (keeps d (sym still ∙ on) b) ∙ now) (there ∙ ap (λ (entries : List Entry). Some (length entries)) same);
      }

  -- no entry is open
  none_open : is_free h ≡ true → (d : Entry) → open_entry_of h ≡ Some d → ⊥
  none_open fr d on = cc (sym (opened-free h fr) ∙ on)

  -- nor that of a session
  none_waits : is_free h ≡ true → (i : ℕ) → is_entry_of i (open_entry_of h) ≡ true → ⊥
  none_waits fr i own = both_ways (is_entry_of i (open_entry_of h)) (ap (is_entry_of i) (opened-free h fr)) own

  -- a backend failed in a read
  pub kept_read_failed : (t q b : ℕ) → 0 < events_left h → Kept tells (world_of reg l (h ++ ReadFailed t q b ∷ []) cells f s ss g ds) numbers tally
  kept_read_failed t q b space =
      let e : Event = ReadFailed t q b in
      kept_same (ReadFailed t q b) refl refl
      (sound_read_failed (core_of l h cells f s ss g ds) t q b ss kept.world.sound space
      (are_kept h (h ++ e ∷ []) g ss (sessions_are (core_of l h cells f s ss g ds) kept.world.sound) (log-same h e refl) (λ t n lt. log_faults-same h e (λ i j. refl) t n) (λ d on. sym (opened-same h e refl refl) ∙ on)))
      (λ _ _ k. enabled-push h (ReadFailed t q b) k)
      (stand_event (core_of l h cells f s ss g ds) e refl refl (λ i j some. refl) (λ i own k. refl) kept.world.between)

  pub kept_disabled : (b : ℕ) → is_free h ≡ true → is_enabled h b ≡ true → 0 < events_left h → Kept tells (world_of reg l (h ++ Disabled b ∷ []) cells f s ss g ds) numbers tally
  kept_disabled b fr on space =
      kept_same (Disabled b) refl refl (sound_disabled (core_of l h cells f s ss g ds) b kept.world.sound fr on space) (λ d now. absurd (none_open fr d now))
      (stand_event (core_of l h cells f s ss g ds) (Disabled b) refl refl (λ i j some. refl) (λ i own. absurd (none_waits fr i own)) kept.world.between)

  pub kept_enabled : (b : ℕ) → is_free h ≡ true → is_enabled h b ≡ false → position_at (core_of l h cells f s ss g ds) b ≡ Some (length (log h)) → 0 < events_left h
      → Kept tells (world_of reg l (h ++ Enabled b ∷ []) cells f s ss g ds) numbers tally
  kept_enabled b fr off there space =
      kept_same (Enabled b) refl refl
      (sound_enabled (core_of l h cells f s ss g ds) b kept.world.sound fr off (is_there (map (λ (x : CellState). x.position) cells) b (length (log h)) there) there space)
      (λ d now. absurd (none_open fr d now))
      (stand_event (core_of l h cells f s ss g ds) (Enabled b) refl refl (λ i j some. refl) (λ i own. absurd (none_waits fr i own)) kept.world.between)

  pub kept_marked : (name : List ℕ) (b : Option ℕ) → is_free h ≡ true → has_marker h name ≡ false → 0 < events_left h → Kept tells (world_of reg l (h ++ Marker name b ∷ []) cells f s ss g ds) numbers tally
  kept_marked name b fr fresh space =
      kept_same (Marker name b) refl refl (sound_marked (core_of l h cells f s ss g ds) name b kept.world.sound fr fresh space) (λ d now. absurd (none_open fr d now))
      (stand_event (core_of l h cells f s ss g ds) (Marker name b) refl refl (λ i j some. refl) (λ i own k. refl) kept.world.between)

  -- the log's store failed in a request of session k, which reads nothing, or in the administrator's move, where k is 0
  pub kept_log_failed : (k n : ℕ) → is_free h ≡ true → k ≤ g → 0 < events_left h → (0 < k → (session_at (core_of l h cells f s ss g ds) k).reading ≡ None) → Kept tells (world_of reg l (h ++ LogFailed k n ∷ []) cells f s ss g ds) numbers tally
  kept_log_failed k n fr given space none =
      let c = core_of l h cells f s ss g ds in
      let sound = sound_log_failed c k n kept.world.sound fr given space in
      kept_same (LogFailed k n) refl refl sound (λ d now. absurd (none_open fr d now)) (stand_log_failed c k n sound fr none kept.world.between)
