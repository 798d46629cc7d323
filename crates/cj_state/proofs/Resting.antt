-- A world over a book that was just opened, of which no backend has taken an entry.
use Rattle.std.proofs.Common.{◌≡◌, ℕ, ◌^◌, ◌<◌, ◌≤◌, Bool, true, false, List, [], ◌∷◌, ◌++◌, length, map, fold, max, replicate, get_or, All, Option, None, Some, refl, ap, sym, ◌∙◌, subst, arith, ⊎_elim}
use Rattle.std.specs.Prelude.{IfSome}
use Rattle.std.proofs.lemmas.List.{length-map, get_or-map, get_or-replicate, length-replicate, ext_get_or}
use Rattle.std.proofs.lemmas.List.Elements.{All-cons, All-get_or, All-head, All-nil, All-tail}
use Rattle.cj_state.proofs.Common.{both_ways, CellState, Core, core_of, Ended, Entry, eqb-true, Event, has-zero, in_mask, Kept, Layout, legal_fit, Marker, no_reports, opened-free, placement_of, position_at, Register, Sched, Slot, world_of}
use Rattle.cj_model.specs.declared.database.Draft.{Draft}
use Rattle.cj_model.specs.declared.limits.TheConstants.{BACKEND_LIMIT}
use Rattle.cj_model.specs.Cluster.Placements.{everywhere}
use Rattle.cj_cluster.specs.History.Histories.{log, ended_count, is_free, is_enabled, open_entry_of, log_faults_of}
use Rattle.cj_book.proofs.Common.{IsAdministratorEntry, IsLegal, IsOpening, IsSessionEntry, greatest_session}
use Rattle.cj_cluster.specs.History.Transactions.{AreFitBehind, has_begun}
use Rattle.cj_cluster.specs.Proving.Invariants.{BackendStands, CoreInvariant, HasBegunDrafts, HoldsPart, IsSoundDump, IsSoundSession}
use Rattle.cj_cluster.proofs.Standing.{stand_none}
use Rattle.cj_recovery.proofs.Longer.{idle_opening}
use Rattle.cj_book.proofs.Recovering.{known_all}
use Rattle.cj_state.specs.Beginnings.{IsFresh, AreFresh, AreEmpty, opened_core}

-- ---- at rest

-- no backend is enabled in a history that a log opened with
none_enabled : (h : List Event) → IsOpening h → (b : ℕ) → is_enabled h b ≡ false
none_enabled [] o b = refl
none_enabled (Sched e ∷ Ended f s ∷ h) o b = none_enabled h o.2 b
none_enabled (Marker name m ∷ h) o b = none_enabled h o b
none_enabled _ o b = absurd o

-- and no fault of the log's store stands in it
no_log_fault : (s q : ℕ) (h : List Event) → IsOpening h → log_faults_of s q h ≡ 0
no_log_fault s q [] o = refl
no_log_fault s q (Sched e ∷ Ended f m ∷ h) o = no_log_fault s q h o.2
no_log_fault s q (Marker name m ∷ h) o = no_log_fault s q h o
no_log_fault s q _ o = absurd o

-- and the greatest is no more than a session's number may be
below_limit : (n : ℕ) (entries : List Entry) → n ≤ 2 ^ 62 → All (λ (e : Entry). e.session ≤ 2 ^ 62) entries → fold (λ m (d : Entry). max m d.session) n entries ≤ 2 ^ 62
below_limit n [] le all = le
below_limit n (e ∷ entries) le all =
    let P : Entry → Type 0 = λ (d : Entry). d.session ≤ 2 ^ 62 in
    let here : e.session ≤ 2 ^ 62 = All-head P e entries all in
    below_limit (max n e.session) entries (omega arith) (All-tail P e entries all)

-- each session of a log has a number that a session may have
sessions_fit : (before entries : List Entry) → AreFitBehind before entries → All (λ (e : Entry). e.session ≤ 2 ^ 62) entries
sessions_fit before [] fit = All-nil (λ (e : Entry). e.session ≤ 2 ^ 62)
sessions_fit before (e ∷ entries) fit =
    All-cons (λ (d : Entry). d.session ≤ 2 ^ 62) e entries
    (⊎_elim (λ (s : IsSessionEntry before e). s.session.1) (λ (a : IsAdministratorEntry before e). let none : e.session ≡ 0 = a.session in omega arith) fit.0.by)
    (sessions_fit (before ++ e ∷ []) entries fit.1)

greatest_fits : (h : List Event) → IsLegal h → greatest_session (log h) ≤ 2 ^ 62
greatest_fits h legal = below_limit 0 (log h) (omega arith) (sessions_fit [] (log h) (legal_fit h legal))

some_cell : CellState
some_cell =
    record { b = 0; placement = everywhere 0; position = None; begun = []; login = None; told = None; faults = 0; asks = 0; arming = record { armed = false; times = 0 } }

module _ (l : Layout) (cells : List CellState) (fresh : AreFresh (placement_of l) cells) where
  as_many : {A : Type 0} (of : CellState → A) → length (map of cells) ≡ length l.names
  as_many of = length-map cells of ∙ fresh.as_many

  -- what each has that has taken no entry
  module _ {A : Type 0} (of : CellState → A) (value out : A) (is : (b : ℕ) (x : CellState) → IsFresh (placement_of l) b x → of x ≡ value) where
    each_is : (b : ℕ) → b < length (map of cells) → get_or (map of cells) b out ≡ value
    each_is b lt =
        let below : b < length cells = subst (λ m. b < m) (length-map cells of) lt in
        get_or-map of cells b some_cell out below ∙ is b (get_or cells b some_cell) (fresh.each b some_cell below)

    all_are : map of cells ≡ replicate (length l.names) value
    all_are =
        ext_get_or out (map of cells) (replicate (length l.names) value) (as_many of ∙ sym (length-replicate (length l.names) value))
        (λ b lt. each_is b lt ∙ sym (get_or-replicate (length l.names) b value out (subst (λ m. b < m) (as_many of) lt)))

  told : (b : ℕ) (x : CellState) → get_or (map (λ (z : CellState). z.told) cells) b None ≡ x.told → All (λ (t : Option (List Slot)). t ≡ Some []) (map (λ (z : CellState). z.told) cells) → b < length cells → x.told ≡ Some []
  told b x is empty lt =
      let long = length-map cells (λ (z : CellState). z.told) in
      sym is ∙ All-get_or (λ (t : Option (List Slot)). t ≡ Some []) (map (λ (z : CellState). z.told) cells) b None (omega arith) empty

  -- ---- over the history that a log opened with

  module _ (h : List Event) (o : IsOpening h) (legal : IsLegal h) where
    abbrev opened : Core
    opened = core_of l h cells 0 0 [] (greatest_session (log h)) []

    idle : is_free h ≡ true
    idle = idle_opening h o

    no_entry : open_entry_of h ≡ None
    no_entry = opened-free h idle

    off : (b : ℕ) → is_enabled h b ≡ true → ⊥
    off b on = absurd (both_ways (is_enabled h b) (none_enabled h o b) on)

    -- each backend stands where it begins
    stands_first : (b : ℕ) → b < length opened.positions → BackendStands h 0 0 b (position_at opened b)
    stands_first b lt = subst (λ (p : Option ℕ). BackendStands h 0 0 b p) (sym (each_is (λ (x : CellState). x.position) (Some 0) None (λ b x f. f.position) b lt)) (omega arith, λ on. absurd (off b on), has-zero b, has-zero b)

    sound_opened : CoreInvariant opened
    sound_opened =
        let even : ended_count h ≡ length (log h) = eqb-true _ _ idle in
        let few : length h ≤ 2 ^ 62 = legal.short in
        record {
          legal = legal;
          short = omega arith;
          one_open = (omega arith, omega arith);
          cells = as_many (λ (x : CellState). x.position);
          hosts = λ b on. absurd (off b on);
          stands = stands_first;
          in_masks = λ b. (λ t. absurd (both_ways (in_mask 0 b) (has-zero b) t), λ t. absurd (both_ways (in_mask 0 b) (has-zero b) t));
          clear = λ _. (refl, refl);
          begun_cells = as_many (λ (x : CellState). x.begun);
          dumps = All-nil (IsSoundDump (length l.names) h);
          sessions = All-nil (IsSoundSession h (greatest_session (log h)));
          rises = tt;
          few = omega arith;
          numbers = greatest_fits h legal;
          known = known_all (log h);
          log_faults = λ s q lt. no_log_fault s q h o;
          waits = λ e is. absurd (cc (sym no_entry ∙ is));
        }

    pub core_opened : opened ≡ opened_core (placement_of l) h
    core_opened =
        ap (λ (ps : List (Option ℕ)). record (opened_core (placement_of l) h) { positions = ps; begun = map (λ (x : CellState). x.begun) cells }) (all_are (λ (x : CellState). x.position) (Some 0) None (λ b x f. f.position))
        ∙ ap (λ (ts : List (List ℕ)). record (opened_core (placement_of l) h) { begun = ts }) (all_are (λ (x : CellState). x.begun) [] [] (λ b x f. f.begun))

    pub kept_opened : (tells : Bool) (reg : Register) → reg.backends ≡ length l.names → length l.names ≤ BACKEND_LIMIT → AreEmpty tells (map (λ (x : CellState). x.told) cells)
        → Kept tells (world_of reg l h cells 0 0 [] (greatest_session (log h)) []) [] no_reports
    kept_opened tells reg registered few empty =
        record {
          world =
              record {
                sound = sound_opened;
                named = refl;
                registered = registered;
                few = few;
                positions = refl;
                begun = refl;
                cells =
                    λ b d lt.
                    let x : CellState = get_or cells b d in
                    let f : IsFresh (placement_of l) b x = fresh.each b d lt in
                    record {
                      number = f.number;
                      placement = f.placement;
                      holds = subst (λ (p : Option ℕ). HoldsPart tells (placement_of l) b (log h) x.told p) (sym f.position) (λ on. told b x (get_or-map (λ (z : CellState). z.told) cells b d None lt) (empty on) lt);
                      drafts =
                          subst (λ (p : Option ℕ). HasBegunDrafts tells (placement_of l) b (log h) x.begun p) (sym f.position)
                          (λ on. All-nil (λ (s : Slot). IfSome s.draft (λ (t : Draft). has_begun x.begun t.tx ≡ true)));
                    };
                between = stand_none opened refl;
              };
          numbers_are = refl;
          served = λ e is. absurd (cc (sym no_entry ∙ is));
          tallied = λ e is. absurd (cc (sym no_entry ∙ is));
          taken = λ e b is. absurd (cc (sym no_entry ∙ is));
        }
