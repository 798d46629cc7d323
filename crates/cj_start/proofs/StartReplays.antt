-- Backends replay the log in a start: where each stands, and what it has counted.
use Rattle.std.proofs.Common.{◌≡◌, zero, suc, [], ◌∷◌, ◌≢◌, ◌⊎◌, inl, inr, ℕ, ◌+◌, ◌-◌, ◌<◌, ◌≤◌, Bool, true, false, cond, List, length, set, get_or, slice_get, Option, None, Some, Result, Ok, Err, OnOk, refl, ap, ◌∙◌, arith, ⊎_elim}
use Rattle.cj_start.proofs.Common.{can_replay, CanReplay, Core, Did, did_fail, DoesWithEntry, Entry, faults_after, faults_of, get_or-set_other, get_or-set_same, HasFailedOut, HasReplayed, HasTaken, IsSameAt, IsWorld, last_number}
use Rattle.cj_start.proofs.Common.{next, not_now, OnlyReplays, option_map, position_at, position_or_zero, Replay, Replayed, Replays, Stance, StartError, TakesEntry, TookNext, WorldState}
use Rattle.cj_cluster.specs.declared.moves.Did.TheVariants as did
use Rattle.cj_moves.proofs.SameWorlds.{got_or_set}

-- ---- counts

-- what is counted at one place is not seen at another
set_other : (counts : List ℕ) (b k x : ℕ) → k ≢ b → slice_get (set counts b x) k ≡ slice_get counts k
set_other counts b k x ne = ⊎_elim (λ same. same) (λ here. absurd (ne here.0)) (got_or_set counts b k x)

-- so others have counted no more, whether the backend failed or not
counted_other : (was now : List ℕ) (b k : ℕ) (failed : Bool) → k ≢ b → now ≡ faults_after was (cond failed (Some b) None) → slice_get now k ≡ slice_get was k
counted_other was now b k true ne is = ap (λ (counts : List ℕ). slice_get counts k) is ∙ set_other was b k (next (get_or was b 0)) ne
counted_other was now b k false ne is = ap (λ (counts : List ℕ). slice_get counts k) is

-- and the one that failed has counted one more
counted_here : (was : List ℕ) (b : ℕ) → slice_get (faults_after was (Some b)) b ≡ option_map next (slice_get was b)
counted_here [] b = refl
counted_here (n ∷ was) zero = refl
counted_here (n ∷ was) (suc b) = counted_here was b

-- ---- one backend takes an entry

-- it took it, or failed in it
abbrev Moved : Did → ℕ → Option ℕ → Type 0
Moved d p position = ((did_fail d ≡ false) × (position ≡ Some (p + 1))) ⊎ ((did_fail d ≡ true) × (position ≡ None))

moved : (tells : Bool) (c : Core) (b p : ℕ) (e : Entry) (d : Did) (now : Stance) → d ≢ did.Starved → DoesWithEntry tells c b p e d now → Moved d p now.position
moved tells c b p e (did.Done o) now went does = inl (refl, ap (λ (s : Stance). s.position) does.3)
moved tells c b p e did.Skipped now went does = inl (refl, ap (λ (s : Stance). s.position) does.1)
moved tells c b p e did.Failed now went does = inr (refl, ap (λ (s : Stance). s.position) does.1)
moved tells c b p e did.Starved now went does = absurd (went refl)

module _ (tells : Bool) (old new : WorldState) (b : ℕ) (d : Did) (now : Stance) (takes : TakesEntry tells old.core b d now) (positions : new.core.positions ≡ set old.core.positions b now.position)
    (counts : faults_of new.cells ≡ faults_after (faults_of old.cells) (cond (did_fail d) (Some b) None)) where
  -- the others stand as before
  pub others_same : (k : ℕ) → k ≢ b → IsSameAt old new k
  others_same k ne =
      record {
        position = ap (λ (ps : List (Option ℕ)). get_or ps k None) positions ∙ get_or-set_other old.core.positions b k now.position None ne;
        faults = counted_other (faults_of old.cells) (faults_of new.cells) b k (did_fail d) ne counts;
      }

  module _ (world : IsWorld tells old) (within : b < old.core.placement.backends) (went : d ≢ did.Starved) where
    stands : position_at new.core b ≡ now.position
    stands =
        let cells : length old.core.positions ≡ old.core.placement.backends = world.sound.cells in
        let there : b < length old.core.positions = omega arith in
        ap (λ (ps : List (Option ℕ)). get_or ps b None) positions ∙ get_or-set_same old.core.positions b now.position None there

    counted : did_fail d ≡ true → slice_get (faults_of new.cells) b ≡ option_map next (slice_get (faults_of old.cells) b)
    counted failed =
        ap (λ (cs : List ℕ). slice_get cs b) (counts ∙ ap (λ (f : Bool). faults_after (faults_of old.cells) (cond f (Some b) None)) failed) ∙ counted_here (faults_of old.cells) b

    -- and it has taken the entry at its position, or failed in it
    pub took_here : ((did_fail d ≡ false) × HasTaken (faults_of old.cells) new b (takes.p + 1)) ⊎ ((did_fail d ≡ true) × HasFailedOut (faults_of old.cells) new b)
    took_here =
        ⊎_elim
        (λ (went_on : (did_fail d ≡ false) × (now.position ≡ Some (takes.p + 1))).
        inl (
          went_on.0,
          record {
            position = stands ∙ went_on.1;
            counted = ap (λ (counts : List ℕ). slice_get counts b) (counts ∙ ap (λ (f : Bool). faults_after (faults_of old.cells) (cond f (Some b) None)) went_on.0);
          },
        ))
        (λ (failed : (did_fail d ≡ true) × (now.position ≡ None)). inr (failed.0, record { position = stands ∙ failed.1; counted = counted failed.0 }))
        (moved tells old.core b takes.p takes.entry d now went takes.does)

-- a replay that was not starved took the next entry
pub took_next : (tells : Bool) (old new : WorldState) (b : ℕ) (d : Did) (result : Result Unit StartError) → Replays tells old.core b (Ok (Replayed (position_or_zero (position_at old.core b) + 1) d)) new.core
    → faults_of new.cells ≡ faults_after (faults_of old.cells) (cond (did_fail d) (Some b) None) → IsWorld tells old → b < old.core.placement.backends → OnOk result (d ≢ did.Starved) → OnOk result (TookNext old new b)
took_next tells old new b d (Err e) replays counts world within went = tt
took_next tells old new b d (Ok x) replays counts world within went =
    let now : Stance = replays.1.0 in
    let takes : TakesEntry tells old.core b d now = replays.1.1 in
    let positions : new.core.positions ≡ set old.core.positions b now.position = ap (λ (c : Core). c.positions) replays.1.2 in
    record {
      others = others_same tells old new b d now takes positions counts;
      p = takes.p;
      stood = takes.stands;
      here =
          ⊎_elim (λ (taken : (did_fail d ≡ false) × HasTaken (faults_of old.cells) new b (takes.p + 1)). inl taken.1) (λ (out : (did_fail d ≡ true) × HasFailedOut (faults_of old.cells) new b). inr out.1)
          (took_here tells old new b d now takes positions counts world within went);
    }

-- ---- what stays

pub same_then : (old mid new : WorldState) (k : ℕ) → IsSameAt old mid k → IsSameAt mid new k → IsSameAt old new k
same_then old mid new k x y = record { position = y.position ∙ x.position; faults = y.faults ∙ x.faults }

pub taken_still : (faults : List ℕ) (old new : WorldState) (b p : ℕ) → IsSameAt old new b → HasTaken faults old b p → HasTaken faults new b p
taken_still faults old new b p same taken = record { position = same.position ∙ taken.position; counted = same.faults ∙ taken.counted }

pub out_still : (faults : List ℕ) (old new : WorldState) (b : ℕ) → IsSameAt old new b → HasFailedOut faults old b → HasFailedOut faults new b
out_still faults old new b same out = record { position = same.position ∙ out.position; counted = same.faults ∙ out.counted }

-- counted from faults that are the same at the backend
pub taken_from : (was faults : List ℕ) (w : WorldState) (b p : ℕ) → slice_get was b ≡ slice_get faults b → HasTaken was w b p → HasTaken faults w b p
taken_from was faults w b p same taken = record { position = taken.position; counted = taken.counted ∙ same }

pub out_from : (was faults : List ℕ) (w : WorldState) (b : ℕ) → slice_get was b ≡ slice_get faults b → HasFailedOut was w b → HasFailedOut faults w b
out_from was faults w b same out = record { position = out.position; counted = out.counted ∙ ap (option_map next) same }

pub only_history : (old now : WorldState) → OnlyReplays old now → now.core.history ≡ old.core.history
only_history old now only = ap (λ (c : Core). c.history) only.core

pub only_placement : (old now : WorldState) → OnlyReplays old now → now.core.placement ≡ old.core.placement
only_placement old now only = ap (λ (c : Core). c.placement) only.core

-- ---- one backend replays the whole log

-- it stands within the log, or failed
abbrev pub IsOnItsWay : List ℕ → WorldState → ℕ → Type 0
IsOnItsWay faults w b = ((p : ℕ) × HasTaken faults w b p × (p ≤ last_number w.core)) ⊎ HasFailedOut faults w b

-- backend b alone has replayed some entries
pub record ReplaysOn (old now : WorldState) (b : ℕ) : Type 0 where
  pub only : OnlyReplays old now
  pub others : (k : ℕ) → k ≢ b → IsSameAt old now k
  pub stands : IsOnItsWay (faults_of old.cells) now b
  pub uncalled : last_number old.core ≡ 0 → now ≡ old

-- how many entries it has left
abbrev pub left_of : ℕ → Option ℕ → ℕ
left_of last None = 0
left_of last (Some p) = last - p

module _ (old now new : WorldState) (b : ℕ) (before : ReplaysOn old now b) (due : not_now now.core (Replay b) ≡ None) (only : OnlyReplays now new) (took : TookNext now new b) where
  can : CanReplay now.core b
  can = can_replay now.core b due

  stood : took.p ≢ last_number now.core
  stood e = can.more (ap position_or_zero took.stood ∙ e)

-- ---- all of them

-- the backends below i have replayed the whole log
pub record ReplayedTo (old now : WorldState) (i : ℕ) : Type 0 where
  pub only : OnlyReplays old now
  pub before : (b : ℕ) → b < i → HasReplayed (faults_of old.cells) now b
  pub behind : (b : ℕ) → i ≤ b → IsSameAt old now b
  pub uncalled : last_number old.core ≡ 0 → now ≡ old
