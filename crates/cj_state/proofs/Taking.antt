-- What a world keeps where a backend takes an entry.
use Rattle.std.proofs.Common.{◌≡◌, ◌≢◌, ℕ, ◌+◌, ◌<◌, ◌≤◌, Bool, true, false, cond, List, [], length, map, get_or, set, slice_get, Option, None, Some, Ok, refl, ap, sym, ◌∙◌, subst, arith, ⊎_elim}
use Rattle.cj_state.proofs.Common.{Act, armings_of, asks_of, Balance, both_ways, CacheState, cases_eq, CellState, ChangesCell, core_of, CoreInvariant, Did, did_fail, Dump, ended_count, Entry, open_entry_of, Event, faults_after, faults_of, get_or-set_other, get_or-set_same, get_or_default, is_enabled, is_free, IsCell, IsWorld, Kept, Layout, log, login_of, LogView, map-set, OpenSession, outcome_of, Placement, placement_of, Register, slice_get_within, stand_rest, takes_part, with_balance, with_cache, with_log, world_of, WorldState}
use Rattle.cj_model.specs.declared.request.Act.TheVariants as act
use Rattle.cj_cluster.specs.declared.moves.Did.TheVariants as did
use Rattle.cj_cluster.specs.declared.moves.Moved.TheVariants as moved
use Rattle.cj_cluster.specs.Moves.Cores.{position_at, begun_at}
use Rattle.cj_cluster.specs.Moves.Moves.{Stance, position_or_zero, TakesEntry, DoesWithEntry, with_stance, Applies, Replays, failed_after, starved_after}
use Rattle.cj_cluster.proofs.Effects.{sound_applied, sound_replayed, stands_there, is_there}
use Rattle.cj_model.proofs.Masks.{has-with_other, has-with_same}
use Rattle.cj_model.specs.Cluster.Masks.{in_mask}
use Rattle.cj_tally.proofs.Reports.{report_tallied}
use Rattle.cj_tally.specs.declared.tally.Tally.{Tally}
use Rattle.cj_tally.specs.Tallies.{taken_after, with_report, IsReportOf}
use Rattle.cj_state.specs.Proving.Taking.{TookEntry}
use Rattle.cj_state.specs.CalledLogins.{logins_of, login_to_take, next_user, LogsInToTake}
use Rattle.cj_state.proofs.ChangedCell.{changed_armings, changed_asks, changed_faults, changed_others, has_cell}
use Rattle.cj_state.proofs.CellsKept.{cells_set, position_of}

-- who takes no part in an act takes none with no transaction begun
takes_less : (p : Placement) (b : ℕ) (begun : List ℕ) (tx : ℕ) (a : Act) → takes_part p b begun tx a ≡ false → takes_part p b [] tx a ≡ false
takes_less p b begun tx act.Begin none = refl
takes_less p b begun tx (act.Write w) none = none
takes_less p b begun tx (act.Create c) none = none
takes_less p b begun tx (act.Drop table) none = none
takes_less p b begun tx act.Commit none = refl
takes_less p b begun tx act.Abort none = refl

module _ (tells : Bool) (reg : Register) (l : Layout) (h : List Event) (cells : List CellState) (f s : ℕ) (ss : List OpenSession) (g : ℕ) (ds : List Dump) (numbers : List ℕ) (tally : Tally) (kept : Kept tells (world_of reg l h cells f s ss g ds) numbers tally)
    (b : ℕ) (d : Did) (now : List CellState) (took : TookEntry tells reg.accounts l h cells b d now) where
  -- how it stands then
  abbrev stance : Stance
  stance = record { position = took.cell.position; begun = took.cell.begun }

  takes : TakesEntry tells (core_of l h cells f s ss g ds) b d stance
  takes = took.takes f s ss g ds

  -- its place alone is another
  places : map (λ (x : CellState). x.position) now ≡ set (map (λ (x : CellState). x.position) cells) b took.cell.position
  places = ap (map (λ (x : CellState). x.position)) took.set ∙ map-set (λ (x : CellState). x.position) cells b took.cell

  -- and so are the transactions that it has begun
  begins : map (λ (x : CellState). x.begun) now ≡ set (map (λ (x : CellState). x.begun) cells) b took.cell.begun
  begins = ap (map (λ (x : CellState). x.begun)) took.set ∙ map-set (λ (x : CellState). x.begun) cells b took.cell

  within : b < length (map (λ (x : CellState). x.position) cells)
  within = is_there (map (λ (x : CellState). x.position) cells) b takes.p takes.stands

  -- the state after it, with the masks that come of it
  core_now : (f' s' : ℕ) → core_of l h now f' s' ss g ds ≡ record (with_stance (core_of l h cells f s ss g ds) b stance) { failed = f'; starved = s' }
  core_now f' s' =
      ap (λ (ps : List (Option ℕ)). record (core_of l h cells f s ss g ds) { positions = ps; begun = map (λ (x : CellState). x.begun) now; failed = f'; starved = s' }) places
      ∙ ap (λ (ts : List (List ℕ)). record (core_of l h cells f s ss g ds) { positions = set (map (λ (x : CellState). x.position) cells) b took.cell.position; begun = ts; failed = f'; starved = s' }) begins

  taken_world : (f' s' : ℕ) → CoreInvariant (record (with_stance (core_of l h cells f s ss g ds) b stance) { failed = f'; starved = s' })
      → IsWorld tells (world_of reg l h now f' s' ss g ds)
  taken_world f' s' sound =
      record {
        sound = subst CoreInvariant (sym (core_now f' s')) sound;
        named = kept.world.named;
        registered = kept.world.registered;
        few = kept.world.few;
        positions = refl;
        begun = refl;
        cells =
            subst (λ (xs : List CellState). (k : ℕ) (x : CellState) → k < length xs → IsCell tells (placement_of l) (log h) k (get_or xs k x)) (sym took.set)
            (cells_set tells (placement_of l) (log h) cells b took.cell took.is kept.world.cells);
        between = stand_rest (core_of l h cells f s ss g ds) (map (λ (x : CellState). x.position) now) (map (λ (x : CellState). x.begun) now) f' s' kept.world.between;
      }

  -- another backend stands where it stood
  place_other : (k : ℕ) → k ≢ b → get_or (map (λ (x : CellState). x.position) now) k None ≡ get_or (map (λ (x : CellState). x.position) cells) k None
  place_other k ne = ap (λ ps. get_or ps k None) places ∙ get_or-set_other (map (λ (x : CellState). x.position) cells) b k took.cell.position None ne

  place_same : get_or (map (λ (x : CellState). x.position) now) b None ≡ took.cell.position
  place_same = ap (λ ps. get_or ps b None) places ∙ get_or-set_same (map (λ (x : CellState). x.position) cells) b took.cell.position None within

  -- what it did, where that is known
  does : (d' : Did) → d ≡ d' → DoesWithEntry tells (core_of l h cells f s ss g ds) b takes.p takes.entry d' stance
  does d' is = subst (λ (x : Did). DoesWithEntry tells (core_of l h cells f s ss g ds) b takes.p takes.entry x stance) is takes.does

  module _ (fr : is_free h ≡ false) (on : is_enabled h b ≡ true) where
    -- the entry is the open one
    open_there : takes.p ≡ ended_count h
    open_there =
        let lt : takes.p < length (log h) = slice_get_within (log h) takes.p takes.entry takes.there in
        let low : ended_count h ≤ takes.p = (stands_there (core_of l h cells f s ss g ds) b takes.p kept.world.sound takes.stands).1 on in
        let hi : length (log h) ≤ ended_count h + 1 = kept.world.sound.one_open.1 in
        omega arith

    is_open : (e : Entry) → open_entry_of h ≡ Some e → takes.entry ≡ e
    is_open e running = cc (sym takes.there ∙ (ap (slice_get (log h)) open_there ∙ running))

    -- what it did is a right report of the entry
    reported : (d' : Did) → d ≡ d' → (e : Entry) → open_entry_of h ≡ Some e → IsReportOf tells (placement_of l) (log h) (ended_count h) e b d'
    reported (did.Done r) is e running = let did_so = does (did.Done r) is in (did_so.1, λ t. ap (outcome_of (log h)) (sym open_there) ∙ did_so.2 t)
    reported did.Skipped is e running =
        let begun : List ℕ = begun_at (core_of l h cells f s ss g ds) b in
        takes_less (placement_of l) b begun e.tx e.act (subst (λ (x : Entry). takes_part (placement_of l) b begun x.tx x.act ≡ false) (is_open e running) (does did.Skipped is).0)
    reported did.Failed is e running = tt
    reported did.Starved is e running = tt

    -- a backend that is not out then took it
    taken_here : (d' : Did) → d ≡ d' → took.cell.position ≡ Some (length (log h)) → in_mask (taken_after tally.taken b d') b ≡ true
    taken_here (did.Done r) is there = has-with_same tally.taken b
    taken_here did.Skipped is there = has-with_same tally.taken b
    taken_here did.Failed is there = let gone = ap (λ (x : Stance). x.position) (does did.Failed is).1 in absurd (cc (gone, there))
    taken_here did.Starved is there = let gone = ap (λ (x : Stance). x.position) (does did.Starved is).1 in absurd (cc (gone, there))

    -- who took it before did so
    taken_still : (d' : Did) (k : ℕ) → k ≢ b → in_mask tally.taken k ≡ true → in_mask (taken_after tally.taken b d') k ≡ true
    taken_still (did.Done r) k ne on = has-with_other tally.taken b k ne ∙ on
    taken_still did.Skipped k ne on = has-with_other tally.taken b k ne ∙ on
    taken_still did.Failed k ne on = on
    taken_still did.Starved k ne on = on

    -- an enabled backend took the open entry
    pub kept_applied : Kept tells (world_of reg l h now (failed_after f b d) (starved_after s b d) ss g ds) numbers (with_report tally b d)
    kept_applied =
        record {
          world = taken_world (failed_after f b d) (starved_after s b d) (sound_applied tells (core_of l h cells f s ss g ds) b kept.world.sound fr on d stance takes);
          numbers_are = kept.numbers_are;
          served = kept.served;
          tallied = λ e running. report_tallied tells (placement_of l) (log h) (ended_count h) e tally b d (kept.tallied e running) (reported d refl e running);
          taken =
              λ e k running now_on there.
              ⊎_elim
              (λ (same : k ≡ b).
              subst (λ (n : ℕ). in_mask (taken_after tally.taken b d) n ≡ true) (sym same)
              (taken_here d refl (sym place_same ∙ (ap (λ (x : ℕ). get_or (map (λ (y : CellState). y.position) now) x None) (sym same) ∙ there))))
              (λ (ne : k ≡ b → ⊥). taken_still d k ne (kept.taken e k running now_on (sym (place_other k ne) ∙ there))) (cases_eq k b);
        }

  -- another backend took the log's next
  pub kept_replayed : is_enabled h b ≡ false → Kept tells (world_of reg l h now f s ss g ds) numbers tally
  kept_replayed off =
      record {
        world = taken_world f s (sound_replayed tells (core_of l h cells f s ss g ds) b kept.world.sound off d stance takes);
        numbers_are = kept.numbers_are;
        served = kept.served;
        tallied = kept.tallied;
        taken =
            λ e k running now_on there.
            ⊎_elim
            (λ (same : k ≡ b). absurd (both_ways (is_enabled h b) off (subst (λ (x : ℕ). is_enabled h x ≡ true) same now_on)))
            (λ (ne : k ≡ b → ⊥). kept.taken e k running now_on (sym (place_other k ne) ∙ there)) (cases_eq k b);
      }

  -- what the move gives and leaves
  pub applies : (f' s' : ℕ) → f' ≡ failed_after f b d → s' ≡ starved_after s b d → Applies tells (core_of l h cells f s ss g ds) b (Ok (moved.Applied b d)) (core_of l h now f' s' ss g ds)
  applies f' s' fe se = (
    refl,
    (
      stance,
      takes,
      core_now f' s'
          ∙ (ap (λ q. record (with_stance (core_of l h cells f s ss g ds) b stance) { failed = q; starved = s' }) fe
          ∙ ap (λ q. record (with_stance (core_of l h cells f s ss g ds) b stance) { failed = failed_after f b d; starved = q }) se),
    ),
  )

  pub replays : Replays tells (core_of l h cells f s ss g ds) b (Ok (moved.Replayed (position_or_zero (position_at (core_of l h cells f s ss g ds) b) + 1) d)) (core_of l h now f s ss g ds)
  replays = (refl, (stance, takes, core_now f s))

-- ---- what is counted

module _ {tells : Bool} {w : WorldState} {numbers : List ℕ} {tally : Tally} (kept : Kept tells w numbers tally) {seen_log : LogView} {cache : CacheState} {balance : Balance} {old : WorldState} (seen : with_balance (with_cache (with_log w seen_log) cache) balance ≡ old)
    {b : ℕ} (within : b < old.core.placement.backends) {l : Layout} {d : Did} {now : List CellState} (took : TookEntry tells w.setup.accounts.accounts l w.core.history w.cells b d now) where
  abbrev change : ChangesCell w.cells b (λ x y. Unit) now
  change = record { before = get_or w.cells b took.cell; after = took.cell; value = get_or_default w.cells b took.cell (get_or w.cells b took.cell) (has_cell kept seen within); set = took.set; how = tt }

  pub took_counts : faults_of now ≡ faults_after (faults_of old.cells) (cond (did_fail d) (Some b) None)
  took_counts = changed_faults kept seen within change (did_fail d) took.faults

  -- it arms no backend
  pub took_armings : armings_of now ≡ armings_of old.cells
  took_armings = changed_armings kept seen within change false took.armings

  -- it answers no query
  pub took_asks : asks_of now ≡ asks_of old.cells
  took_asks = changed_asks kept seen within change false took.asks

  pub took_others : (k : ℕ) → k ≢ b → slice_get now k ≡ slice_get old.cells k
  took_others k other = changed_others kept seen within change k other

  -- it is called under the login of the entry's user
  pub took_logins : LogsInToTake b (login_to_take old b) d (logins_of old.cells) (logins_of now)
  took_logins =
      let place : position_at w.core b ≡ (get_or w.cells b took.cell).position = ap (λ (ps : List (Option ℕ)). get_or ps b None) kept.world.positions ∙ position_of w.cells b took.cell (has_cell kept seen within) in
      subst (λ (z : WorldState). LogsInToTake b (login_to_take z b) d (logins_of z.cells) (logins_of now)) seen
      (subst (λ (q : Option ℕ). LogsInToTake b (login_of w.setup.accounts.accounts (next_user (log w.core.history) q) b) d (logins_of w.cells) (logins_of now)) (sym place) took.logins)
