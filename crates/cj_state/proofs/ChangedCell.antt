-- A world of which one cell has changed: what it keeps, and what callers see of it.
use Rattle.std.proofs.Common.{◌≡◌, ◌≢◌, ◌⊎◌, inl, inr, ℕ, ◌<◌, Bool, cond, List, length, map, get_or, set, slice_get, Option, None, Some, Result, refl, ap, sym, ◌∙◌, subst, ⊎_elim}
use Rattle.std.proofs.lemmas.List.{length-map, get_or_default, set-get_or}
use Rattle.cj_state.proofs.Common.{armings_after, armings_of, CacheState, CallsUnder, CellError, CellState, ChangesCell, Core, CoreInvariant, failed_contents, faults_after, faults_of, HasCellCause, IsCell, IsWorld, Kept, log, logins_of, LogView, map-set_same, MayCallUnder, next, position_at, stand_rest, Tally, with_cache, with_log, WorldState, asks_of, asks_with, Balance, with_balance}
use Rattle.cj_state.proofs.CellsKept.{cells_set, position_of}
use Rattle.cj_state.proofs.Contents.{contents_fault}
use Rattle.cj_state.proofs.Counted.{armings_set, asks_set, counts_set, got_other, logins_same, logins_set}

-- the world with these cells
abbrev pub with_cells : WorldState → List CellState → WorldState
with_cells w cells = record w { core = record w.core { positions = map (λ (x : CellState). x.position) cells; begun = map (λ (x : CellState). x.begun) cells }; cells = cells }

module _ {tells : Bool} {w : WorldState} {numbers : List ℕ} {tally : Tally} (kept : Kept tells w numbers tally) {seen_log : LogView} {cache : CacheState} {balance : Balance} {old : WorldState} (seen : with_balance (with_cache (with_log w seen_log) cache) balance ≡ old)
    {b : ℕ} (within : b < old.core.placement.backends) where
  -- each backend of the placement has a cell
  pub has_cell : b < length w.cells
  has_cell =
      subst (λ (m : ℕ). b < m) (sym kept.world.sound.cells ∙ (ap length kept.world.positions ∙ length-map w.cells (λ (x : CellState). x.position)))
      (subst (λ (z : WorldState). b < z.core.placement.backends) (sym seen) within)

  -- which stands where the core says
  pub stands_there : (x : CellState) → x ≡ get_or w.cells b x → position_at old.core b ≡ x.position
  stands_there x there =
      ap (λ (z : WorldState). position_at z.core b) (sym seen) ∙ (ap (λ (ps : List (Option ℕ)). get_or ps b None) kept.world.positions ∙ (position_of w.cells b x has_cell ∙ ap (λ (z : CellState). z.position) (sym there)))

  -- and is its cell
  pub cell_there : (x : CellState) → x ≡ get_or w.cells b x → IsCell tells w.core.placement (log w.core.history) b x
  cell_there x there = subst (IsCell tells w.core.placement (log w.core.history) b) (sym there) (kept.world.cells b x has_cell)

  module _ {How : CellState → CellState → Type 0} {now : List CellState} (ch : ChangesCell w.cells b How now) where
    -- ---- what is counted

    was : get_or w.cells b ch.after ≡ ch.before
    was = get_or_default w.cells b ch.after ch.before has_cell ∙ sym ch.value

    pub changed_faults : (failed : Bool) → ch.after.faults ≡ cond failed (next ch.before.faults) ch.before.faults → faults_of now ≡ faults_after (faults_of old.cells) (cond failed (Some b) None)
    changed_faults failed counted =
        ap faults_of ch.set
        ∙ (counts_set w.cells b ch.after failed has_cell (subst (λ (z : CellState). ch.after.faults ≡ cond failed (next z.faults) z.faults) (sym was) counted)
        ∙ ap (λ (z : WorldState). faults_after (faults_of z.cells) (cond failed (Some b) None)) seen)

    -- a fault where that is the cause of an error
    pub caused_faults : {T : Type 0} (r : Result T CellError) → HasCellCause ch.before.faults ch.after.faults r → faults_of now ≡ faults_after (faults_of old.cells) (failed_contents b r)
    caused_faults r cause =
        let fault = contents_fault b r ch.before.faults ch.after.faults cause in
        changed_faults fault.0 fault.2 ∙ ap (faults_after (faults_of old.cells)) (sym fault.1)

    pub changed_armings : (armed : Bool) → ch.after.arming.times ≡ cond armed (next ch.before.arming.times) ch.before.arming.times → armings_of now ≡ armings_after (armings_of old.cells) (cond armed (Some b) None)
    changed_armings armed counted =
        ap armings_of ch.set
        ∙ (armings_set w.cells b ch.after armed has_cell (subst (λ (z : CellState). ch.after.arming.times ≡ cond armed (next z.arming.times) z.arming.times) (sym was) counted)
        ∙ ap (λ (z : WorldState). armings_after (armings_of z.cells) (cond armed (Some b) None)) seen)

    pub changed_asks : (answered : Bool) → ch.after.asks ≡ cond answered (next ch.before.asks) ch.before.asks → asks_of now ≡ asks_with (asks_of old.cells) (cond answered (Some b) None)
    changed_asks answered counted =
        ap asks_of ch.set
        ∙ (asks_set w.cells b ch.after answered has_cell (subst (λ (z : CellState). ch.after.asks ≡ cond answered (next z.asks) z.asks) (sym was) counted)
        ∙ ap (λ (z : WorldState). asks_with (asks_of z.cells) (cond answered (Some b) None)) seen)

    -- every other cell is as it was
    pub changed_others : (k : ℕ) → k ≢ b → slice_get now k ≡ slice_get old.cells k
    changed_others k other = ap (λ (xs : List CellState). slice_get xs k) ch.set ∙ (got_other w.cells b k ch.after other ∙ ap (λ (z : WorldState). slice_get z.cells k) seen)

    pub changed_logins : ch.after.login ≡ ch.before.login → logins_of now ≡ logins_of old.cells
    changed_logins same = ap logins_of ch.set ∙ (logins_same w.cells b ch.after (same ∙ ap (λ (z : CellState). z.login) (sym was)) ∙ ap (λ (z : WorldState). logins_of z.cells) seen)

    -- its backend was called under this login
    pub changed_under : (login : List ℕ) → ch.after.login ≡ Some login → CallsUnder b login (logins_of old.cells) (logins_of now)
    changed_under login is = ap logins_of ch.set ∙ (logins_set w.cells b ch.after login is ∙ ap (λ (z : WorldState). set (logins_of z.cells) b (Some login)) seen)

    pub may_change_under : (login : List ℕ) → (ch.after.login ≡ Some login) ⊎ (ch.after.login ≡ ch.before.login) → MayCallUnder b login (logins_of old.cells) (logins_of now)
    may_change_under login called = ⊎_elim (λ is. inr (changed_under login is)) (λ same. inl (changed_logins same)) called

    -- ---- what is kept

    -- the core is sound with it
    pub world_with_cell : CoreInvariant (with_cells w now).core → IsCell tells w.core.placement (log w.core.history) b ch.after → IsWorld tells (with_cells w now)
    world_with_cell sound is =
        record {
          sound = sound;
          named = kept.world.named;
          registered = kept.world.registered;
          few = kept.world.few;
          positions = refl;
          begun = refl;
          cells =
              subst (λ (xs : List CellState). (k : ℕ) (x : CellState) → k < length xs → IsCell tells w.core.placement (log w.core.history) k (get_or xs k x)) (sym ch.set)
              (cells_set tells w.core.placement (log w.core.history) w.cells b ch.after is kept.world.cells);
          between = stand_rest w.core (map (λ (x : CellState). x.position) now) (map (λ (x : CellState). x.begun) now) w.core.failed w.core.starved kept.world.between;
        }

    module _ (position : ch.after.position ≡ ch.before.position) (begun : ch.after.begun ≡ ch.before.begun) where
      -- no position changes
      same_places : map (λ (z : CellState). z.position) now ≡ w.core.positions
      same_places = ap (map (λ (z : CellState). z.position)) ch.set ∙ (map-set_same (λ (z : CellState). z.position) w.cells b ch.after ch.before (position ∙ ap (λ (z : CellState). z.position) ch.value) ∙ sym kept.world.positions)

      -- and no transaction begins or ends
      same_begun : map (λ (z : CellState). z.begun) now ≡ w.core.begun
      same_begun = ap (map (λ (z : CellState). z.begun)) ch.set ∙ (map-set_same (λ (z : CellState). z.begun) w.cells b ch.after ch.before (begun ∙ ap (λ (z : CellState). z.begun) ch.value) ∙ sym kept.world.begun)

      same_inside : (with_cells w now).core ≡ w.core
      same_inside =
          ap (λ (ps : List (Option ℕ)). record w.core { positions = ps; begun = map (λ (z : CellState). z.begun) now }) same_places ∙ ap (λ (ts : List (List ℕ)). record w.core { begun = ts }) same_begun

      -- so nothing changes of the core
      pub core_stays : (with_cells w now).core ≡ old.core
      core_stays = same_inside ∙ ap (λ (z : WorldState). z.core) seen

      pub kept_cell : IsCell tells w.core.placement (log w.core.history) b ch.after → Kept tells (with_cells w now) numbers tally
      kept_cell is =
          record {
            world = world_with_cell (subst CoreInvariant (sym same_inside) kept.world.sound) is;
            numbers_are = kept.numbers_are;
            served = kept.served;
            tallied = kept.tallied;
            taken = λ e k running on end. kept.taken e k running on (ap (λ (ps : List (Option ℕ)). get_or ps k None) (sym same_places) ∙ end);
          }

    -- a cell that has not changed either leaves the world as it was
    pub world_stays : ch.after ≡ ch.before → with_balance (with_cache (with_log (with_cells w now) seen_log) cache) balance ≡ old
    world_stays same =
        let core = same_inside (ap (λ (z : CellState). z.position) same) (ap (λ (z : CellState). z.begun) same) in
        let cells : now ≡ w.cells = ch.set ∙ (ap (set w.cells b) (same ∙ ch.value) ∙ set-get_or w.cells b ch.before) in
        ap (λ (c : Core). with_balance (with_cache (with_log (record w { core = c; cells = now }) seen_log) cache) balance) core
        ∙ (ap (λ (xs : List CellState). with_balance (with_cache (with_log (record w { cells = xs }) seen_log) cache) balance) cells ∙ seen)

    -- it changes in what asking and arming change
    module _ (same : ch.after ≡ record ch.before { login = ch.after.login; faults = ch.after.faults; asks = ch.after.asks; arming = ch.after.arming }) where
      pub same_core : (with_cells w now).core ≡ old.core
      same_core = core_stays (ap (λ (z : CellState). z.position) same) (ap (λ (z : CellState). z.begun) same)

      pub kept_asked : Kept tells (with_cells w now) numbers tally
      kept_asked =
          let is = cell_there ch.before ch.value in
          kept_cell (ap (λ (z : CellState). z.position) same) (ap (λ (z : CellState). z.begun) same)
          (subst (IsCell tells w.core.placement (log w.core.history) b) (sym same) (record { number = is.number; placement = is.placement; holds = is.holds; drafts = is.drafts }))
