-- The open entry is taken by one backend after another.
use Rattle.std.proofs.Common.{◌≡◌, ◌≢◌, ℕ, ◌+◌, ◌<◌, ◌≤◌, ◌==◌, ◌||◌, Bool, true, false, cond, List, [], ◌∷◌, ◌++◌, length, slice_get, All, Option, None, Some, Ok, refl, ap, sym, ◌∙◌, subst, arith, below_more, ⊎_elim}
use Rattle.cj_calls.proofs.Common.{accounts_of, All-append, All-cons, All-nil, all_at_end, Applied, Applies, Apply, AreBackendsOf, AreCalledFor, BackendStands, can_apply, CanApply, CellState, Core, CoreInvariant, Did, did_fail, ended_count, EntryTaken, failed_after, faults_after}
use Rattle.cj_calls.proofs.Common.{faults_counted, faults_of, first_lagging, fold-append, HasTakenEntry, is_enabled, IsWorld, length-map, length-set, log, login_of, login_to_take, logins_of, LogsInToTake, mask_with, next_user, not_now, open_user, position_at, position_or_zero, Setup}
use Rattle.cj_calls.proofs.Common.{asks_of, begun_at, both_ways, cases_lt, DoesWithEntry, Entry, open_entry_of, get_or-set_other, has-with_other, has-with_same, in_mask, is_free, is_masked, IsBeforeEnd, IsLeft, last_number, ne_eqb, option_map_or, or_parts, Placement, Stance, starved_after, takes_part, takes_part_in, TakesOpen}
use Rattle.cj_calls.proofs.Common.{with_backend, WorldState}
use Rattle.cj_cluster.specs.declared.moves.Did.TheVariants as did
use Rattle.cj_calls.proofs.SoloAsks.{got_set, same_login}
use Rattle.cj_calls.proofs.SoloLogins.{called_none, called_then, called_to_take}
use Rattle.cj_moves.proofs.SameWorlds.{cells_count}

-- ---- one backend

-- it failed, or none did
abbrev failed_in : ℕ → Did → List ℕ
failed_in b d = cond (did_fail d) (b ∷ []) []

mask_after : (mask b : ℕ) (d : Did) → failed_after mask b d ≡ mask_with mask (failed_in b d)
mask_after mask b did.Failed = refl
mask_after mask b _ = refl

counts_after : (faults : List ℕ) (b : ℕ) (d : Did) → faults_after faults (cond (did_fail d) (Some b) None) ≡ faults_counted faults (failed_in b d)
counts_after faults b did.Failed = refl
counts_after faults b _ = refl

-- a backend that may take the open entry stands before it
stands_open : (w : WorldState) (b : ℕ) → CoreInvariant w.core → b < w.core.placement.backends → CanApply w.core b → position_or_zero (position_at w.core b) ≡ ended_count w.core.history
stands_open w b sound within can =
    let c : Core = w.core in
    let p : ℕ = position_or_zero (position_at c b) in
    let cells : length c.positions ≡ c.placement.backends = sound.cells in
    let lt : b < length c.positions = omega arith in
    let stands : BackendStands c.history c.failed c.starved b (Some p) = subst (BackendStands c.history c.failed c.starved b) can.at (sound.stands b lt) in
    let most : p ≤ length (log c.history) = stands.0 in
    let past : ended_count c.history ≤ p = stands.1 can.on in
    let more : p ≢ length (log c.history) = can.more in
    let one : length (log c.history) ≤ ended_count c.history + 1 = sound.one_open.1 in
    omega (arith, more)

-- so it is called for the user of that
login_to_take_open : (w : WorldState) (b : ℕ) → CoreInvariant w.core → b < w.core.placement.backends → CanApply w.core b → login_to_take w b ≡ login_of (accounts_of w) (open_user w.core) b
login_to_take_open w b sound within can =
    ap (λ (o : Option ℕ). login_of (accounts_of w) (next_user (log w.core.history) o) b) (can.at ∙ ap (λ (n : ℕ). Some n) (stands_open w b sound within can))

-- the one that failed is a backend
failed_is_backend : (w : WorldState) (b : ℕ) (d : Did) → b < length w.cells → AreBackendsOf w (failed_in b d)
failed_is_backend w b did.Failed within = All-cons (λ (k : ℕ). k < length w.cells) b [] within (All-nil (λ (k : ℕ). k < length w.cells))
failed_is_backend w b _ within = All-nil (λ (k : ℕ). k < length w.cells)

-- what is counted leaves how many counts there are
counts_length : (counts failed : List ℕ) → length (faults_counted counts failed) ≡ length counts
counts_length counts [] = refl
counts_length counts (b ∷ failed) = counts_length (faults_after counts (Some b)) failed ∙ length-set counts b _

-- so there are as many backends later
pub same_backends : (old mid : WorldState) (failed : List ℕ) → faults_of mid.cells ≡ faults_counted (faults_of old.cells) failed → length mid.cells ≡ length old.cells
same_backends old mid failed counted =
    sym (length-map mid.cells (λ (x : CellState). x.faults)) ∙ (ap length counted ∙ (counts_length (faults_of old.cells) failed ∙ length-map old.cells (λ (x : CellState). x.faults)))

backends_since : (old mid : WorldState) (failed more : List ℕ) → faults_of mid.cells ≡ faults_counted (faults_of old.cells) failed → AreBackendsOf mid more → AreBackendsOf old more
backends_since old mid failed more counted each = subst (λ (n : ℕ). All (λ (b : ℕ). b < n) more) (same_backends old mid failed counted) each

-- the masks are as they were at the others
failed_other : (mask b k : ℕ) (d : Did) → k ≢ b → in_mask (failed_after mask b d) k ≡ in_mask mask k
failed_other mask b k did.Failed other = has-with_other mask b k other
failed_other mask b k _ other = refl

starved_other : (mask b k : ℕ) (d : Did) → k ≢ b → in_mask (starved_after mask b d) k ≡ in_mask mask k
starved_other mask b k did.Starved other = has-with_other mask b k other
starved_other mask b k _ other = refl

-- one that took part in an entry and is in neither mask was called under the login that it was given
did_login : (b : ℕ) (d : Did) (old new : WorldState) (login : List ℕ) (tells : Bool) (c : Core) (p : ℕ) (e : Entry) (now : Stance) → b < length (logins_of old.cells) → LogsInToTake b login d (logins_of old.cells) (logins_of new.cells) → DoesWithEntry tells c b p e d now
    → takes_part_in c b e ≡ true → is_masked (failed_after c.failed b d) (starved_after c.starved b d) b ≡ false → slice_get (logins_of new.cells) b ≡ Some (Some login)
did_login b (did.Done o) old new login tells c p e now lt logs does part none = ap (λ xs. slice_get xs b) logs ∙ got_set (logins_of old.cells) b (Some login) lt
did_login b did.Skipped old new login tells c p e now lt logs does part none = absurd (both_ways (takes_part_in c b e) does.0 part)
did_login b did.Failed old new login tells c p e now lt logs does part none =
    absurd (both_ways (in_mask (with_backend c.failed b) b) (or_parts (in_mask (with_backend c.failed b) b) (in_mask c.starved b) none).0 (has-with_same c.failed b))
did_login b did.Starved old new login tells c p e now lt logs does part none =
    absurd (both_ways (in_mask (with_backend c.starved b) b) (or_parts (in_mask c.failed b) (in_mask (with_backend c.starved b) b) none).1 (has-with_same c.starved b))

-- and one that took no part was not called
skipped_login : (b : ℕ) (d : Did) (old new : WorldState) (login : List ℕ) (tells : Bool) (c : Core) (p : ℕ) (e : Entry) (now : Stance) → LogsInToTake b login d (logins_of old.cells) (logins_of new.cells) → DoesWithEntry tells c b p e d now
    → (takes_part_in c b e ≡ true → ⊥) → slice_get (logins_of new.cells) b ≡ slice_get (logins_of old.cells) b
skipped_login b (did.Done o) old new login tells c p e now logs does apart = absurd (apart does.0)
skipped_login b did.Skipped old new login tells c p e now logs does apart = ap (λ xs. slice_get xs b) logs
skipped_login b did.Failed old new login tells c p e now logs does apart = absurd (apart does.0)
skipped_login b did.Starved old new login tells c p e now logs does apart = absurd (apart does.0)

module _ (tells : Bool) (old new : WorldState) (b : ℕ) (d : Did) (applies : Applies tells old.core b (Ok (Applied b d)) new.core) where
  pub took : IsWorld tells old → b < old.core.placement.backends → not_now old.core (Apply b) ≡ None → faults_of new.cells ≡ faults_after (faults_of old.cells) (cond (did_fail d) (Some b) None)
      → LogsInToTake b (login_to_take old b) d (logins_of old.cells) (logins_of new.cells) → new.setup ≡ old.setup → new.recovery_log ≡ old.recovery_log → new.cache ≡ old.cache
      → asks_of new.cells ≡ asks_of old.cells → new.balance ≡ old.balance → EntryTaken (open_user old.core) old new
  took world within now counts logs setup recovery_log cache asks balance =
      let login = login_to_take_open old b world.sound within (can_apply old.core b now) in
      record {
        core = applies.1.2 ∙ sym (ap (λ (k : Core). record old.core { positions = k.positions; begun = k.begun; failed = k.failed; starved = k.starved }) applies.1.2);
        setup = setup;
        recovery_log = recovery_log;
        cache = cache;
        failed = failed_in b d;
        backends = failed_is_backend old b d (rw (cells_count tells old world) within);
        mask = ap (λ (k : Core). k.failed) applies.1.2 ∙ mask_after old.core.failed b d;
        faults = counts ∙ counts_after (faults_of old.cells) b d;
        logins = called_to_take (accounts_of old) (open_user old.core) b d (logins_of old.cells) (logins_of new.cells) (subst (λ (name : List ℕ). LogsInToTake b name d (logins_of old.cells) (logins_of new.cells)) login logs);
        asks = asks;
        balance = balance;
      }

  -- the others are left alone
  pub left_alone : (k : ℕ) → k ≢ b → slice_get new.cells k ≡ slice_get old.cells k → IsLeft old new k
  left_alone k other cell =
      record {
        cell = cell;
        position = ap (λ (c : Core). position_at c k) applies.1.2 ∙ get_or-set_other old.core.positions b k applies.1.0.position None other;
        begun = ap (λ (c : Core). begun_at c k) applies.1.2 ∙ get_or-set_other old.core.begun b k applies.1.0.begun [] other;
        failed = ap (λ (c : Core). in_mask c.failed k) applies.1.2 ∙ failed_other old.core.failed b k d other;
        starved = ap (λ (c : Core). in_mask c.starved k) applies.1.2 ∙ starved_other old.core.starved b k d other;
      }

  -- and this one has taken the open entry
  module _ (world : IsWorld tells old) (within : b < old.core.placement.backends) (now : not_now old.core (Apply b) ≡ None) (logs : LogsInToTake b (login_to_take old b) d (logins_of old.cells) (logins_of new.cells)) where
    on : is_enabled old.core.history b ≡ true
    on = (can_apply old.core b now).on

    -- which is the one that it did something with
    open_there : (e : Entry) → open_entry_of old.core.history ≡ Some e → applies.1.1.entry ≡ e
    open_there e is =
        let can = can_apply old.core b now in
        let here = stands_open old b world.sound within can in
        let p : applies.1.1.p ≡ ended_count old.core.history = (let at = applies.1.1.stands in let q = can.at in let same : Some applies.1.1.p ≡ Some (position_or_zero (position_at old.core b)) = sym at ∙ q in let e : applies.1.1.p ≡ position_or_zero (position_at old.core b) = cc same in e ∙ here) in
        let there = applies.1.1.there in
        let both : Some applies.1.1.entry ≡ Some e = sym there ∙ (ap (λ (n : ℕ). slice_get (log old.core.history) n) p ∙ is) in
        cc both

    called : (e : Entry) → open_entry_of old.core.history ≡ Some e → LogsInToTake b (login_of (accounts_of old) e.user b) d (logins_of old.cells) (logins_of new.cells)
    called e is =
        let user : open_user old.core ≡ e.user = ap (λ (o : Option Entry). option_map_or (λ (x : Entry). x.user) o []) is in
        subst (λ (name : List ℕ). LogsInToTake b name d (logins_of old.cells) (logins_of new.cells))
        (login_to_take_open old b world.sound within (can_apply old.core b now) ∙ ap (λ (u : List ℕ). login_of (accounts_of old) u b) user) logs

    does : (e : Entry) → open_entry_of old.core.history ≡ Some e → DoesWithEntry tells old.core b applies.1.1.p e d applies.1.0
    does e is = subst (λ (x : Entry). DoesWithEntry tells old.core b applies.1.1.p x d applies.1.0) (open_there e is) applies.1.1.does

    has_login : b < length (logins_of old.cells)
    has_login = let e = length-map old.cells (λ (x : CellState). x.login) in let n = cells_count tells old world in omega (arith, e, n, within)

    unmasked : is_masked new.core.failed new.core.starved b ≡ false → is_masked (failed_after old.core.failed b d) (starved_after old.core.starved b d) b ≡ false
    unmasked none = sym (ap (λ (c : Core). is_masked c.failed c.starved b) applies.1.2) ∙ none

    pub takes_open : TakesOpen old new b
    takes_open =
        record {
          did = λ e is due part none. did_login b d old new (login_of (accounts_of old) e.user b) tells old.core applies.1.1.p e applies.1.0 has_login (called e is) (does e is) part.1 (unmasked none);
          skipped = λ e is apart. skipped_login b d old new (login_of (accounts_of old) e.user b) tells old.core applies.1.1.p e applies.1.0 (called e is) (does e is) (λ part. apart (on, part));
          disabled = λ off. absurd (both_ways (is_enabled old.core.history b) off on);
        }

-- where it is enabled and due, it can take the open entry now
due_now : (c : Core) (b : ℕ) → is_free c.history ≡ false → is_enabled c.history b ≡ true → IsBeforeEnd c b → not_now c (Apply b) ≡ None
due_now c b running on due = let ne : (due.p == last_number c) ≡ false = ne_eqb due.p (last_number c) due.more in rw (running, on, due.stands, ne) refl

-- ---- all of them

-- backends took the entry, and then others did
pub taken_then : (old mid new : WorldState) (user : List ℕ) → EntryTaken user old mid → EntryTaken user mid new → EntryTaken user old new
taken_then old mid new user x y =
    record {
      core = y.core ∙ ap (λ (k : Core). record k { positions = new.core.positions; begun = new.core.begun; failed = new.core.failed; starved = new.core.starved }) x.core;
      setup = y.setup ∙ x.setup;
      recovery_log = y.recovery_log ∙ x.recovery_log;
      cache = y.cache ∙ x.cache;
      failed = x.failed ++ y.failed;
      backends = All-append (λ (b : ℕ). b < length old.cells) x.failed y.failed x.backends (backends_since old mid x.failed y.failed x.faults y.backends);
      mask = y.mask ∙ (ap (λ (m : ℕ). mask_with m y.failed) x.mask ∙ sym (fold-append with_backend old.core.failed x.failed y.failed));
      faults =
          y.faults
          ∙ (ap (λ (counts : List ℕ). faults_counted counts y.failed) x.faults ∙ sym (fold-append (λ (counts : List ℕ) (k : ℕ). faults_after counts (Some k)) (faults_of old.cells) x.failed y.failed));
      logins =
          called_then (accounts_of old) user (logins_of old.cells) (logins_of mid.cells) (logins_of new.cells) x.logins
          (subst (λ (setup : Setup). AreCalledFor setup.accounts.accounts user (logins_of mid.cells) (logins_of new.cells)) x.setup y.logins);
      asks = y.asks ∙ x.asks;
      balance = y.balance ∙ x.balance;
    }

-- what is left alone twice is left alone
left_then : (old mid new : WorldState) (b : ℕ) → IsLeft old mid b → IsLeft mid new b → IsLeft old new b
left_then old mid new b x y =
    record { cell = y.cell ∙ x.cell; position = y.position ∙ x.position; begun = y.begun ∙ x.begun; failed = y.failed ∙ x.failed; starved = y.starved ∙ x.starved }

-- who has taken the entry has taken it when it is left alone
takes_then_left : (old mid new : WorldState) (b : ℕ) → TakesOpen old mid b → IsLeft mid new b → TakesOpen old new b
takes_then_left old mid new b x y =
    let login = same_login new.cells mid.cells b y.cell in
    record {
      did = λ e is due part none. login ∙ x.did e is due part (ap (λ (t : Bool). t || in_mask mid.core.starved b) (sym y.failed) ∙ (ap (λ (t : Bool). in_mask new.core.failed b || t) (sym y.starved) ∙ none));
      skipped = λ e is apart. login ∙ x.skipped e is apart;
      disabled = λ off. y.cell ∙ x.disabled off;
    }

-- and who was left alone takes it as it would have then, while the history, the placement and the accounts stay
left_then_takes : (old mid new : WorldState) (b : ℕ) → mid.core ≡ record old.core { positions = mid.core.positions; begun = mid.core.begun; failed = mid.core.failed; starved = mid.core.starved } → mid.setup ≡ old.setup
    → IsLeft old mid b → TakesOpen mid new b → TakesOpen old new b
left_then_takes old mid new b core setup x y =
    let history : mid.core.history ≡ old.core.history = ap (λ (c : Core). c.history) core in
    let placed : mid.core.placement ≡ old.core.placement = ap (λ (c : Core). c.placement) core in
    let part : (e : Entry) → takes_part_in mid.core b e ≡ takes_part_in old.core b e = λ e. ap (λ (p : Placement). takes_part p b (begun_at mid.core b) e.tx e.act) placed ∙ ap (λ (ts : List ℕ). takes_part old.core.placement b ts e.tx e.act) x.begun in
    let on : is_enabled mid.core.history b ≡ is_enabled old.core.history b = ap (λ h. is_enabled h b) history in
    let open_then : (e : Entry) → open_entry_of old.core.history ≡ Some e → open_entry_of mid.core.history ≡ Some e = λ e is. ap open_entry_of history ∙ is in
    record {
      did =
          λ e is due has none.
          y.did e (open_then e is) (record { p = due.p; stands = x.position ∙ due.stands; more = λ same. due.more (same ∙ ap (λ h. length (log h)) history) }) (on ∙ has.0, part e ∙ has.1) none
          ∙ ap (λ (s : Setup). Some (Some (login_of s.accounts.accounts e.user b))) setup;
      skipped = λ e is apart. y.skipped e (open_then e is) (λ has. apart (sym on ∙ has.0, sym (part e) ∙ has.1)) ∙ same_login mid.cells old.cells b x.cell;
      disabled = λ off. y.disabled (on ∙ off) ∙ x.cell;
    }

-- one that can't take the entry is not due, or isn't enabled
pub not_due : (w : WorldState) (b : ℕ) → is_free w.core.history ≡ false → (not_now w.core (Apply b) ≡ None → ⊥) → TakesOpen w w b
not_due w b running never =
    record {
      did = λ e is due part none. absurd (never (due_now w.core b running part.0 due));
      skipped = λ e is apart. refl;
      disabled = λ off. refl;
    }

pub left_same : (w : WorldState) (b : ℕ) → IsLeft w w b
left_same w b = record { cell = refl; position = refl; begun = refl; failed = refl; starved = refl }

-- The backends before i have taken the open entry, and the others were left alone.
pub record TakenTo (old now : WorldState) (i : ℕ) : Type 0 where
  pub taken : EntryTaken (open_user old.core) old now
  pub at_end : (b : ℕ) → b < i → HasTakenEntry now.core b
  pub each : (b : ℕ) → b < i → TakesOpen old now b
  pub rest : (b : ℕ) → i ≤ b → IsLeft old now b

-- and so has backend i
pub taken_to_next : (old now new : WorldState) (i : ℕ) → TakenTo old now i → EntryTaken (open_user now.core) now new → HasTakenEntry new.core i
    → TakesOpen now new i → ((k : ℕ) → k ≢ i → IsLeft now new k) → TakenTo old new (i + 1)
taken_to_next old now new i to takes there here others =
    let history = ap (λ (c : Core). c.history) takes.core in
    let same : open_user now.core ≡ open_user old.core = ap open_user to.taken.core in
    record {
      taken = taken_then old now new (open_user old.core) to.taken (subst (λ (user : List ℕ). EntryTaken user now new) same takes);
      at_end =
          below_more (HasTakenEntry new.core) i
          (λ b before q on at.
          to.at_end b before q (sym (ap (λ h. is_enabled h b) history) ∙ on) (sym (others b (λ e. absurd (omega (arith, e)))).position ∙ at) ∙ sym (ap (λ h. length (log h)) history)) there;
      each =
          below_more (TakesOpen old new) i (λ b before. takes_then_left old now new b (to.each b before) (others b (λ e. absurd (omega (arith, e)))))
          (left_then_takes old now new i to.taken.core to.taken.setup (to.rest i (omega arith)) here);
      rest = λ b from. left_then old now new b (to.rest b (omega arith)) (others b (λ e. absurd (omega (arith, e))));
    }

-- before the first
pub taken_none : (w : WorldState) → TakenTo w w 0
taken_none w =
    record {
      taken =
          record {
            core = refl;
            setup = refl;
            recovery_log = refl;
            cache = refl;
            failed = [];
            backends = All-nil (λ (b : ℕ). b < length w.cells);
            mask = refl;
            faults = refl;
            logins = called_none (accounts_of w) (open_user w.core) (logins_of w.cells) (logins_of w.cells) refl;
            asks = refl;
            balance = refl;
          };
      at_end = λ b none. absurd (omega (arith, none));
      each = λ b none. absurd (omega (arith, none));
      rest = λ b from. left_same w b;
    }

-- who has no cell is not enabled, so the entry is taken by all
pub each_taken : (old now : WorldState) (i : ℕ) → CoreInvariant now.core → now.core.placement.backends ≤ i → TakenTo old now i → (b : ℕ) → TakesOpen old now b
each_taken old now i w all to b =
    ⊎_elim (λ (before : b < i). to.each b before)
    (λ (from : i ≤ b).
    let left = to.rest b from in
    let nobody : is_enabled old.core.history b ≡ true → ⊥ =
    λ on. (let lt : b < length now.core.positions = w.hosts b (ap (λ (c : Core). is_enabled c.history b) to.taken.core ∙ on) in let cells : length now.core.positions ≡ now.core.placement.backends = w.cells in absurd (omega (arith, from, all)))
    in
    record {
      did = λ e is due part none. absurd (nobody part.0);
      skipped = λ e is apart. same_login now.cells old.cells b left.cell;
      disabled = λ off. left.cell;
    })
    (cases_lt b i)

-- where all have, nobody lags behind
pub taken_everywhere : (old now : WorldState) (i : ℕ) → CoreInvariant now.core → now.core.placement.backends ≤ i → TakenTo old now i → first_lagging now.core.history 0 now.core.positions ≡ None
taken_everywhere old now i w all to =
    all_at_end now.core.history 0 now.core.positions
    (λ b q at on.
    let enabled : is_enabled now.core.history b ≡ true = (let e : 0 + b ≡ b = omega arith in subst (λ (k : ℕ). is_enabled now.core.history k ≡ true) e on) in
    let lt : b < length now.core.positions = w.hosts b enabled in
    let cells : length now.core.positions ≡ now.core.placement.backends = w.cells in
    to.at_end b (omega arith) q enabled at)
