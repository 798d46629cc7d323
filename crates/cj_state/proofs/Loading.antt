-- A cell that was out, and holds what a dump has of its tables.
use Rattle.std.proofs.Common.{◌≡◌, ℕ, ◌<◌, ◌≤◌, Bool, true, false, List, length, map, get_or, set, OnErr, Option, None, Some, Result, Ok, Err, refl, ap, sym, ◌∙◌, subst, ⊎_elim}
use Rattle.std.specs.Prelude.{IsErrAnd}
use Rattle.cj_state.proofs.Common.{Arming, both_ways, CacheState, can_load, cases_eq, CellError, ChangesCell, CoreInvariant, database_after, Dump, failed_contents, find_dump, get_or-set_other, HasBegunDrafts, HoldsPart, is_enabled, is_free, IsCell, IsSoundDump, Kept, length-map, Load, log, LogView, map-set, not_now, part, position_at, Slot, spent, Stance, taken_of, Tally, with_cache, with_log, with_stance, WorldState, Balance, with_balance}
use Rattle.cj_cluster.proofs.Effects.{sound_loaded}
use Rattle.cj_replica.specs.declared.replica.CellError.TheVariants as errors
use Rattle.cj_replica.specs.Cells.{CellState, LoadsDatabase, SpendsArmingAtLoad}
use Rattle.cj_replica.proofs.HeldParts.{drafts_loaded, holds_loaded}
use Rattle.cj_state.proofs.ChangedCell.{cell_there, core_stays, has_cell, kept_cell, stands_there, with_cells, world_with_cell}
use Rattle.cj_state.proofs.Dumped.{taken_all}

-- what holds behind an error
pub on_error : {T E : Type 0} (r : Result T E) (P : Type 0) → P → OnErr r P
on_error (Ok x) P holds = tt
on_error (Err e) P holds = holds

-- one that hands an error on says the same of the backend
failed_alike : (T U : Type 0) (b : ℕ) (e : CellError) → failed_contents {T = T} b (Err e) ≡ failed_contents {T = U} b (Err e)
failed_alike T U b errors.Failed = refl
failed_alike T U b errors.Starved = refl

pub failed_as : {T U : Type 0} (b : ℕ) (r : Result T CellError) (q : Result U CellError) (e : CellError) → IsErrAnd r (λ x. x ≡ e) → q ≡ Err e → failed_contents b r ≡ failed_contents b q
failed_as b (Ok x) q e is was = absurd is
failed_as {T} {U} b (Err d) q e is was =
    ap (λ (z : CellError). failed_contents {T = T} b (Err z)) is ∙ (failed_alike T U b e ∙ ap (λ (z : Result U CellError). failed_contents b z) (sym was))

-- a load arms no backend
pub armings_loaded : {T : Type 0} (before now : Arming) (r : Result T CellError) → SpendsArmingAtLoad before now r → now.times ≡ before.times
armings_loaded before now (Ok x) spends = ap (λ (a : Arming). a.times) spends.1
armings_loaded before now (Err errors.Failed) spends = ap (λ (a : Arming). a.times) spends
armings_loaded before now (Err errors.Starved) spends =
    ⊎_elim (λ (same : now ≡ before). ap (λ (a : Arming). a.times) same) (λ (asked : (before.armed ≡ false) × (now ≡ spent before)). ap (λ (a : Arming). a.times) asked.1) spends

-- what is known of a load of backend b with this database, which is what the first dump of a name has of its tables
pub record CanLoadFrom (tells : Bool) (w : WorldState) (b : ℕ) (db : List Slot) (n : ℕ) : Type 0 where
  pub out : position_at w.core b ≡ None
  pub free : is_free w.core.history ≡ true
  pub off : is_enabled w.core.history b ≡ false
  pub logged : n ≤ length (log w.core.history)
  pub right : tells ≡ true → db ≡ part w.core.placement b (database_after (log w.core.history) n)

module _ {tells : Bool} {w : WorldState} {numbers : List ℕ} {tally : Tally} (kept : Kept tells w numbers tally) {seen_log : LogView} {cache : CacheState} {balance : Balance} {old : WorldState} (seen : with_balance (with_cache (with_log w seen_log) cache) balance ≡ old)
    {b : ℕ} where
  pub loads_from : (name : List ℕ) (d : Dump) → not_now old.core (Load b name) ≡ None → find_dump old.core.dumps name ≡ Some (taken_of d) → (tells ≡ true → d.db ≡ part old.core.placement b (database_after (log old.core.history) d.position))
      → CanLoadFrom tells w b d.db d.position
  loads_from name d now found held =
      let can = can_load w.core b name (subst (λ (z : WorldState). not_now z.core (Load b name) ≡ None) (sym seen) now) in
      let there = subst (λ (z : WorldState). find_dump z.core.dumps name ≡ Some (taken_of d)) (sym seen) found in
      record {
        out = can.out;
        free = can.is_free;
        off = can.off;
        logged = (taken_all (IsSoundDump w.core.placement.backends w.core.history) w.core.dumps name (taken_of d) kept.world.sound.dumps there).position;
        right = subst (λ (z : WorldState). tells ≡ true → d.db ≡ part z.core.placement b (database_after (log z.core.history) d.position)) (sym seen) held;
      }

  module _ (within : b < old.core.placement.backends) {db : List Slot} {n : ℕ} (can : CanLoadFrom tells w b db n) {r : Result Unit CellError} {now : List CellState} (ch : ChangesCell w.cells b (λ x y. LoadsDatabase tells x db n r y) now) where
    -- it was out
    was_out : ch.before.position ≡ None
    was_out = sym (stands_there kept seen within ch.before ch.value) ∙ (ap (λ (z : WorldState). position_at z.core b) (sym seen) ∙ can.out)

    -- and is so where it was not loaded, so that nothing changes of the core
    pub core_refused : ch.after.position ≡ None → ch.after.begun ≡ ch.before.begun → (with_cells w now).core ≡ old.core
    core_refused out begun = core_stays kept seen within ch (out ∙ sym was_out) begun

    pub kept_refused : ch.after.position ≡ None → ch.after.begun ≡ ch.before.begun → Kept tells (with_cells w now) numbers tally
    kept_refused out begun =
        let was = cell_there kept seen within ch.before ch.value in
        kept_cell kept seen within ch (out ∙ sym was_out) begun
        record {
          number = ch.how.b ∙ was.number;
          placement = ch.how.placement ∙ was.placement;
          holds = subst (HoldsPart tells w.core.placement b (log w.core.history) ch.after.told) (sym out) tt;
          drafts = subst (HasBegunDrafts tells w.core.placement b (log w.core.history) ch.after.begun) (sym out) tt;
        }

    -- how it stands where it was
    abbrev stance : Stance
    stance = record { position = Some n; begun = ch.after.begun }

    module _ (place : ch.after.position ≡ Some n) where
      places : map (λ (z : CellState). z.position) now ≡ set w.core.positions b (Some n)
      places =
          ap (map (λ (z : CellState). z.position)) ch.set ∙ (map-set (λ (z : CellState). z.position) w.cells b ch.after ∙ (ap (λ (ps : List (Option ℕ)). set ps b ch.after.position) (sym kept.world.positions) ∙ ap (set w.core.positions b) place))

      begins : map (λ (z : CellState). z.begun) now ≡ set w.core.begun b ch.after.begun
      begins = ap (map (λ (z : CellState). z.begun)) ch.set ∙ (map-set (λ (z : CellState). z.begun) w.cells b ch.after ∙ ap (λ (ts : List (List ℕ)). set ts b ch.after.begun) (sym kept.world.begun))

      loaded_inside : (with_cells w now).core ≡ with_stance w.core b stance
      loaded_inside =
          ap (λ (ps : List (Option ℕ)). record w.core { positions = ps; begun = map (λ (z : CellState). z.begun) now }) places
          ∙ ap (λ (ts : List (List ℕ)). record w.core { positions = set w.core.positions b (Some n); begun = ts }) begins

      pub core_loaded : (with_cells w now).core ≡ with_stance old.core b stance
      core_loaded = loaded_inside ∙ ap (λ (z : WorldState). with_stance z.core b stance) seen

      is_cell : IsCell tells w.core.placement (log w.core.history) b ch.after
      is_cell =
          let was = cell_there kept seen within ch.before ch.value in
          record {
            number = ch.how.b ∙ was.number;
            placement = ch.how.placement ∙ was.placement;
            holds = holds_loaded tells w.core.placement b (log w.core.history) db n can.right ch.before ch.after r ch.how;
            drafts = drafts_loaded tells w.core.placement b (log w.core.history) db n can.right ch.before ch.after r ch.how;
          }

      -- it is not enabled, so that nothing else hangs on where it stands
      pub kept_loaded : Kept tells (with_cells w now) numbers tally
      kept_loaded =
          let lt : b < length w.core.positions = subst (λ (ps : List (Option ℕ)). b < length ps) (sym kept.world.positions) (rw length-map (has_cell kept seen within)) in
          let sound = sound_loaded w.core b n ch.after.begun kept.world.sound lt can.free can.off can.logged in
          record {
            world = world_with_cell kept seen within ch (subst CoreInvariant (sym loaded_inside) sound) is_cell;
            numbers_are = kept.numbers_are;
            served = kept.served;
            tallied = kept.tallied;
            taken =
                λ e k running on end.
                ⊎_elim (λ (same : k ≡ b). absurd (both_ways (is_enabled w.core.history b) can.off (subst (λ (m : ℕ). is_enabled w.core.history m ≡ true) same on)))
                (λ (ne : k ≡ b → ⊥). kept.taken e k running on (sym (ap (λ (ps : List (Option ℕ)). get_or ps k None) places ∙ get_or-set_other w.core.positions b k (Some n) None ne) ∙ end)) (cases_eq k b);
          }
