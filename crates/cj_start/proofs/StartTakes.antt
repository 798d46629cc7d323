-- Backends take an entry that ends a transaction, in a start.
use Rattle.std.proofs.Common.{◌≡◌, ◌≢◌, inl, inr, ℕ, ◌+◌, ◌<◌, ◌≤◌, Bool, true, false, cond, List, set, None, Some, Result, Ok, Err, OnOk, refl, ap, sym, ◌∙◌, subst, arith, ⊎_elim, below_more}
use Rattle.cj_start.proofs.Common.{Applied, Applies, Apply, both_ways, can_apply, Core, Did, did_fail, failed_after, faults_after, faults_of, has-with_other, has-with_same, HasFailedOut, HasTaken, in_mask, is_enabled, IsDue, IsUntouched, IsWorld}
use Rattle.cj_start.proofs.Common.{last_number, not_now, OnlyTakes, Stance, StandsBefore, StandsBehind, StartError, TakesEntry, TakesPast, WasOut, WorldState}
use Rattle.cj_cluster.specs.declared.moves.Did.TheVariants as did
use Rattle.cj_start.proofs.StartReplays.{others_same, out_from, out_still, same_then, taken_from, taken_still, took_here}

-- ---- one backend

-- the mask of those that failed
mask_other : (mask b k : ℕ) (d : Did) → k ≢ b → in_mask (failed_after mask b d) k ≡ in_mask mask k
mask_other mask b k did.Failed ne = has-with_other mask b k ne
mask_other mask b k _ ne = refl

mask_went : (mask b : ℕ) (d : Did) → did_fail d ≡ false → failed_after mask b d ≡ mask
mask_went mask b did.Failed went = absurd (cc went)
mask_went mask b _ went = refl

mask_failed : (mask b : ℕ) (d : Did) → did_fail d ≡ true → in_mask (failed_after mask b d) b ≡ true
mask_failed mask b did.Failed failed = has-with_same mask b
mask_failed mask b _ failed = absurd (cc failed)

module _ (tells : Bool) (old new : WorldState) (b : ℕ) (d : Did) (applies : Applies tells old.core b (Ok (Applied b d)) new.core) (counts : faults_of new.cells ≡ faults_after (faults_of old.cells) (cond (did_fail d) (Some b) None)) where
  abbrev stance : Stance
  stance = applies.1.0

  abbrev takes : TakesEntry tells old.core b d stance
  takes = applies.1.1

  positions : new.core.positions ≡ set old.core.positions b stance.position
  positions = ap (λ (c : Core). c.positions) applies.1.2

  -- the others stand as before
  pub others_untouched : (k : ℕ) → k ≢ b → IsUntouched old new k
  others_untouched k ne =
      record {
        same = others_same tells old new b d stance takes positions counts k ne;
        mask = ap (λ (c : Core). in_mask c.failed k) applies.1.2 ∙ mask_other old.core.failed b k d ne;
      }

  module _ (world : IsWorld tells old) (within : b < old.core.placement.backends) (due : not_now old.core (Apply b) ≡ None) (went : d ≢ did.Starved) where
    -- where it was due, it has taken the entry, or failed in it
    was_due : (faults : List ℕ) → IsDue faults old b → StandsBehind faults new b
    was_due faults was =
        let on : is_enabled new.core.history b ≡ true = ap (λ (c : Core). is_enabled c.history b) applies.1.2 ∙ was.on in
        let place : takes.p ≡ was.p = cc (takes.stands, was.taken.position) in
        let last : last_number new.core ≡ last_number old.core = ap (λ (c : Core). last_number c) applies.1.2 in
        let next : last_number old.core ≡ was.p + 1 = was.next in
        let end : takes.p + 1 ≡ last_number new.core = omega arith in
        ⊎_elim
        (λ (taken : (did_fail d ≡ false) × HasTaken (faults_of old.cells) new b (takes.p + 1)).
        inl
        (record {
          on = on;
          taken = taken_from (faults_of old.cells) faults new b (last_number new.core) was.taken.counted (subst (HasTaken (faults_of old.cells) new b) end taken.1);
          unmasked = ap (λ (c : Core). in_mask c.failed b) applies.1.2 ∙ (ap (λ (mask : ℕ). in_mask mask b) (mask_went old.core.failed b d taken.0) ∙ was.unmasked);
        }))
        (λ (out : (did_fail d ≡ true) × HasFailedOut (faults_of old.cells) new b).
        inr
        (inl
        (record {
          on = on;
          out = out_from (faults_of old.cells) faults new b was.taken.counted out.1;
          masked = ap (λ (c : Core). in_mask c.failed b) applies.1.2 ∙ mask_failed old.core.failed b d out.0;
        })))
        (took_here tells old new b d stance takes positions counts world within went)

    takes_past : TakesPast old new b
    takes_past faults (inl was) = was_due faults was
    takes_past faults (inr out) = absurd (both_ways (is_enabled old.core.history b) out.off (can_apply old.core b due).on)

-- the backend took the entry and was not starved
pub took_open : (tells : Bool) (old new : WorldState) (b : ℕ) (d : Did) (result : Result Unit StartError) → Applies tells old.core b (Ok (Applied b d)) new.core
    → faults_of new.cells ≡ faults_after (faults_of old.cells) (cond (did_fail d) (Some b) None) → IsWorld tells old → b < old.core.placement.backends → not_now old.core (Apply b) ≡ None → OnOk result (d ≢ did.Starved)
    → OnOk result (TakesPast old new b)
took_open tells old new b d (Err e) applies counts world within due went = tt
took_open tells old new b d (Ok x) applies counts world within due went = takes_past tells old new b d applies counts world within due went

-- ---- what stays

takes_then : (old mid new : WorldState) → OnlyTakes old mid → OnlyTakes mid new → OnlyTakes old new
takes_then old mid new x y =
    record {
      core = y.core ∙ ap (λ (k : Core). record k { positions = new.core.positions; begun = new.core.begun; failed = new.core.failed; starved = new.core.starved }) x.core;
      setup = y.setup ∙ x.setup;
      recovery_log = y.recovery_log ∙ x.recovery_log;
      cache = y.cache ∙ x.cache;
      balance = y.balance ∙ x.balance;
    }

untouched_then : (old mid new : WorldState) (k : ℕ) → IsUntouched old mid k → IsUntouched mid new k → IsUntouched old new k
untouched_then old mid new k x y = record { same = same_then old mid new k x.same y.same; mask = y.mask ∙ x.mask }

module _ (faults : List ℕ) (old new : WorldState) (b : ℕ) (only : OnlyTakes old new) (same : IsUntouched old new b) where
  on_still : is_enabled new.core.history b ≡ is_enabled old.core.history b
  on_still = ap (λ (c : Core). is_enabled c.history b) only.core

  last_still : last_number new.core ≡ last_number old.core
  last_still = ap (λ (c : Core). last_number c) only.core

  was_out_still : WasOut faults old b → WasOut faults new b
  was_out_still was = record { off = on_still ∙ was.off; out = out_still faults old new b same.same was.out; unmasked = same.mask ∙ was.unmasked }

  before_still : StandsBefore faults old b → StandsBefore faults new b
  before_still (inl due) =
      inl (record { on = on_still ∙ due.on; p = due.p; taken = taken_still faults old new b due.p same.same due.taken; next = last_still ∙ due.next; unmasked = same.mask ∙ due.unmasked })
  before_still (inr was) = inr (was_out_still was)

  behind_still : StandsBehind faults old b → StandsBehind faults new b
  behind_still (inl done) =
      inl (record { on = on_still ∙ done.on; taken = subst (HasTaken faults new b) (sym last_still) (taken_still faults old new b (last_number old.core) same.same done.taken); unmasked = same.mask ∙ done.unmasked })
  behind_still (inr (inl failed)) = inr (inl (record { on = on_still ∙ failed.on; out = out_still faults old new b same.same failed.out; masked = same.mask ∙ failed.masked }))
  behind_still (inr (inr was)) = inr (inr (was_out_still was))

-- ---- all of them

-- the backends below i have taken the open entry
pub record TakenOnTo (old now : WorldState) (i : ℕ) : Type 0 where
  pub only : OnlyTakes old now
  pub starved : now.core.starved ≡ old.core.starved
  pub before : (b : ℕ) → b < i → TakesPast old now b
  pub behind : (b : ℕ) → i ≤ b → IsUntouched old now b

pub taken_on_next : (old now new : WorldState) (i : ℕ) → TakenOnTo old now i → OnlyTakes now new → ((k : ℕ) → k ≢ i → IsUntouched now new k) → TakesPast now new i → new.core.starved ≡ now.core.starved → TakenOnTo old new (i + 1)
taken_on_next old now new i to only others here starved =
    record {
      only = takes_then old now new to.only only;
      starved = starved ∙ to.starved;
      before =
          below_more (TakesPast old new) i
          (λ b first. let ne : b ≢ i = λ e. absurd (omega (arith, e)) in λ faults before. behind_still faults now new b only (others b ne) (to.before b first faults before))
          (let le : i ≤ i = omega arith in λ faults before. here faults (before_still faults old now i to.only (to.behind i le) before));
      behind =
          λ b le.
          let later : i ≤ b = omega arith in
          let ne : b ≢ i = λ e. absurd (omega (arith, e)) in
          untouched_then old now new b (to.behind b later) (others b ne);
    }
