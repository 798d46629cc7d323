-- What a cell that takes its next entry makes of the cells.
use Rattle.std.proofs.Common.{◌≡◌, ◌≢◌, ◌⊎◌, inl, inr, ℕ, ◌+◌, ◌<◌, ◌≤◌, not, Bool, true, cond, List, [], ◌∷◌, length, map, get_or, set, slice_get, Option, Some, option_map, IfSome, IfOk, Result, Ok, Err, refl, ap, sym, ◌∙◌, subst, arith, ⊎_elim}
use Rattle.std.specs.Option.{option_map_or}
use Rattle.cj_state.proofs.Common.{Caught, CellError, core_of, database_after, did_fail, Disabled, DoesWithEntry, Dump, Enabled, Ended, Entry, Event, get_or_default, is_there, IsCell, Kept, Layout, legal_fit, length-map, log, LogFailed, login_of, logins_of, LogsInToTake, Marker, MayCallUnder, next, next_user, OpenSession, part, placement_of, position_at, ReadFailed, Register, Sched, Slot, step, takes_part, Tally, world_of}
use Rattle.cj_model.specs.declared.account.Account.{Account}
use Rattle.cj_cluster.specs.Proving.Invariants.{HoldsPart, HasBegunDrafts, CoversDrafts}
use Rattle.cj_cluster.proofs.PartRuns.{part_at_taken}
use Rattle.cj_replica.specs.declared.replica.Caught.TheVariants as caught
use Rattle.cj_replica.specs.declared.replica.CellError.TheVariants as errors
use Rattle.cj_replica.specs.Cells.{CellState, CatchesUp, HasCellCause, LogsInForEntry, SaysEntryOutcome, IsCaught, takes_part_in_entry, begun_after_entry, is_skipped, position_after}
use Rattle.cj_replica.proofs.HeldParts.{drafts_taken, holds_taken}
use Rattle.cj_state.specs.Proving.Taking.{CanTake, TookEntry, did_of}
use Rattle.cj_state.proofs.Counted.{logins_may, logins_same, logins_set, spent_times}
use Rattle.cj_state.proofs.CellsKept.{position_of, begun_of, position_within}

-- ---- taking an entry

module _ (tells : Bool) (accounts : List Account) (l : Layout) (h : List Event) (cells : List CellState) (b : ℕ) (can : CanTake tells l h cells b) (x y : CellState) (there : x ≡ get_or cells b x) (e : Entry) (entry : slice_get (log h) can.p ≡ Some e) where
  cell : IsCell tells (placement_of l) (log h) b x
  cell = subst (IsCell tells (placement_of l) (log h) b) (sym there) (can.is x)

  stands : x.position ≡ Some can.p
  stands = ap (λ (z : CellState). z.position) there ∙ can.stands x

  -- it has begun each transaction of which it holds a draft, where it tells
  covers : tells ≡ true → CoversDrafts x.begun (part (placement_of l) b (database_after (log h) can.p))
  covers = subst (λ (q : Option ℕ). HasBegunDrafts tells (placement_of l) b (log h) x.begun q) stands cell.drafts

  -- whether it takes part in the entry
  part_of : takes_part (placement_of l) b x.begun e.tx e.act ≡ takes_part_in_entry x e
  part_of = rw (cell.number, cell.placement) refl

  -- the transactions that it has begun, as the core has them
  begun_there : get_or (map (λ (z : CellState). z.begun) cells) b [] ≡ x.begun
  begun_there = begun_of cells b x can.within ∙ ap (λ (z : CellState). z.begun) (sym there)

  -- what it tells, where it tells
  told_now : tells ≡ true → x.told ≡ Some (part (placement_of l) b (database_after (log h) can.p))
  told_now = subst (λ (q : Option ℕ). HoldsPart tells (placement_of l) b (log h) x.told q) stands cell.holds

  does_now : (r : Result Caught CellError) → takes_part_in_entry x e ≡ not (is_skipped r) → SaysEntryOutcome x.told e r → IfOk r IsCaught → y.position ≡ position_after (can.p + 1) r → y.begun ≡ begun_after_entry x.begun e r
      → (f s : ℕ) (ss : List OpenSession) (g : ℕ) (ds : List Dump) → DoesWithEntry tells (core_of l h cells f s ss g ds) b can.p e (did_of r) (record { position = y.position; begun = y.begun })
  does_now (Ok caught.Skipped) skipped says possible is begun f s ss g ds = (
    ap (λ (ts : List ℕ). takes_part (placement_of l) b ts e.tx e.act) begun_there ∙ (part_of ∙ skipped),
    rw (is, begun, begun_there) refl,
  )
  does_now (Ok (caught.Did o)) skipped says possible is begun f s ss g ds = (
    ap (λ (ts : List ℕ). takes_part (placement_of l) b ts e.tx e.act) begun_there ∙ (part_of ∙ skipped),
    possible,
    λ on.
        let o_is : o ≡ (step (part (placement_of l) b (database_after (log h) can.p)) e).outcome = subst (λ (t : Option (List Slot)). IfSome t (λ db. o ≡ (step db e).outcome)) (told_now on) says in
        ap (option_map (λ (z : Entry). (step (database_after (log h) can.p) z).outcome)) entry
        ∙ ap (λ z. Some z) (sym (o_is ∙ (part_at_taken (placement_of l) b x.begun (log h) can.fits can.p (covers on) e entry (part_of ∙ skipped)).1)),
    rw (is, begun, begun_there) refl,
  )
  does_now (Err errors.Failed) skipped says possible is begun f s ss g ds = (
    ap (λ (ts : List ℕ). takes_part (placement_of l) b ts e.tx e.act) begun_there ∙ (part_of ∙ skipped),
    rw (is, begun) refl,
  )
  does_now (Err errors.Starved) skipped says possible is begun f s ss g ds = (
    ap (λ (ts : List ℕ). takes_part (placement_of l) b ts e.tx e.act) begun_there ∙ (part_of ∙ skipped),
    rw (is, begun) refl,
  )

  counted : (r : Result Caught CellError) → HasCellCause x.faults y.faults r → y.faults ≡ cond (did_fail (did_of r)) (next x.faults) x.faults
  counted (Ok caught.Skipped) cause = cause.uncounted (λ is. cc is)
  counted (Ok (caught.Did o)) cause = cause.uncounted (λ is. cc is)
  counted (Err errors.Failed) cause = cause.counted refl
  counted (Err errors.Starved) cause = cause.uncounted (λ is. cc is)

  same_cell : get_or cells b y ≡ x
  same_cell = get_or_default cells b y x can.within ∙ sym there

  -- whose login it was given
  user_is : next_user (log h) (get_or cells b y).position ≡ e.user
  user_is = ap (next_user (log h)) (can.stands y) ∙ ap (λ (o : Option Entry). option_map_or (λ (z : Entry). z.user) o []) entry

  same_login : y.login ≡ x.login → y.login ≡ (get_or cells b y).login
  same_login same = same ∙ ap (λ (z : CellState). z.login) (sym same_cell)

  may_log_in : (given : List ℕ) → (y.login ≡ Some given) ⊎ (y.login ≡ x.login) → MayCallUnder b given (logins_of cells) (logins_of (set cells b y))
  may_log_in given called = logins_may cells b y given (⊎_elim (λ is. inl is) (λ same. inr (same_login same)) called)

  logs_in : (r : Result Caught CellError) (given : List ℕ) → LogsInForEntry x.login given r y.login → LogsInToTake b given (did_of r) (logins_of cells) (logins_of (set cells b y))
  logs_in (Ok caught.Skipped) given same = logins_same cells b y (same_login same)
  logs_in (Ok (caught.Did o)) given is = logins_set cells b y given is
  logs_in (Err errors.Failed) given called = may_log_in given called
  logs_in (Err errors.Starved) given called = may_log_in given called

  pub took : (r : Result Caught CellError) (now : List CellState) (given : List ℕ) → now ≡ set cells b y → CatchesUp x (can.p + 1) e given r y → given ≡ login_of accounts e.user b → TookEntry tells accounts l h cells b (did_of r) now
  took r now given is_set how is_given =
      record {
        cell = y;
        set = is_set;
        is =
            record {
              number = how.b ∙ cell.number;
              placement = how.placement ∙ cell.placement;
              holds = holds_taken tells (placement_of l) b (log h) can.fits can.p e entry x y given r how cell.number cell.placement stands cell.holds cell.drafts;
              drafts = drafts_taken tells (placement_of l) b (log h) can.fits can.p e entry x y given r how cell.number cell.placement stands cell.holds cell.drafts;
            };
        takes =
            λ f s ss g ds.
            record {
              p = can.p;
              stands = position_of cells b x can.within ∙ can.stands x;
              entry = e;
              there = entry;
              does = does_now r how.part how.outcome how.possible how.position how.begun f s ss g ds;
            };
        faults = subst (λ (z : CellState). y.faults ≡ cond (did_fail (did_of r)) (next z.faults) z.faults) (sym same_cell) (counted r how.cause);
        armings = spent_times (not (is_skipped r)) x.arming y.arming how.arming.after ∙ ap (λ (z : CellState). z.arming.times) (sym same_cell);
        asks = how.asks ∙ ap (λ (z : CellState). z.asks) (sym same_cell);
        logins =
            subst (λ (k : List ℕ). LogsInToTake b k (did_of r) (logins_of cells) (logins_of now)) (is_given ∙ ap (λ (u : List ℕ). login_of accounts u b) (sym user_is))
            (subst (λ (xs : List CellState). LogsInToTake b given (did_of r) (logins_of cells) (logins_of xs)) (sym is_set) (logs_in r given how.login));
      }

-- ---- who can take one

-- no more entries than events
pub log_length : (h : List Event) → length (log h) ≤ length h
log_length [] = omega arith
log_length (Sched e ∷ h) = let le = log_length h in omega arith
log_length (Ended f s ∷ h) = let le = log_length h in omega arith
log_length (ReadFailed s q b ∷ h) = let le = log_length h in omega arith
log_length (LogFailed s q ∷ h) = let le = log_length h in omega arith
log_length (Disabled b ∷ h) = let le = log_length h in omega arith
log_length (Enabled b ∷ h) = let le = log_length h in omega arith
log_length (Marker name b ∷ h) = let le = log_length h in omega arith

-- a backend that stands below the log's end
pub can_take : (tells : Bool) (reg : Register) (l : Layout) (h : List Event) (cells : List CellState) (f s : ℕ) (ss : List OpenSession) (g : ℕ) (ds : List Dump) (numbers : List ℕ) (tally : Tally)
    → Kept tells (world_of reg l h cells f s ss g ds) numbers tally → (b p : ℕ) → position_at (core_of l h cells f s ss g ds) b ≡ Some p → p ≢ length (log h) → CanTake tells l h cells b
can_take tells reg l h cells f s ss g ds numbers tally kept b p there more =
    let w = kept.world in
    let within : b < length (map (λ (x : CellState). x.position) cells) = is_there (map (λ (x : CellState). x.position) cells) b p there in
    let lt : b < length cells = rw length-map at within in
    let le : p ≤ length (log h) = position_within (core_of l h cells f s ss g ds) w.sound b p there in
    let fewer = log_length h in
    let short = w.sound.legal.short in
    record {
      within = lt;
      is = λ d. w.cells b d lt;
      p = p;
      stands = λ d. sym (position_of cells b d lt) ∙ there;
      more = omega arith;
      short = omega arith;
      fits = legal_fit h w.sound.legal;
    }
