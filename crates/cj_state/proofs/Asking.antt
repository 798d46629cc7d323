-- What a world keeps where a backend is asked, and what it answers.
use Rattle.std.proofs.Common.{◌≡◌, ℕ, ◌<◌, ◌≤◌, Bool, true, false, cond, List, length, get_or, Option, None, Some, IfSome, Result, Ok, Err, refl, ap, sym, ◌∙◌, subst, arith, ⊎_elim}
use Rattle.std.specs.Prelude.{◌↔◌, IsErrOf}
use Rattle.cj_state.proofs.Common.{Asked, BookState, CacheState, cases_lt, CellReadError, ChangesCell, Core, core_of, CoreInvariant, database_after, Dump, Event, events_left, false_from_ne_true, HasNoRoomForOne, HoldsPart, hosts_all, Kept, log, logins_of, AskedUnderLogin, LogView, OpenSession, part, position_at, ReadFailed, Select, session_at, Slot, Tally, with_cache, with_event, with_log, WorldState, Balance, with_balance}
use Rattle.cj_model.specs.Database.Queries.{ask}
use Rattle.cj_model.specs.Database.Outcomes.{IsAsked}
use Rattle.cj_cluster.specs.Moves.Moves.{happened, read_number, IsFarEnough}
use Rattle.cj_model.proofs.PartLaws.{ask_part}
use Rattle.cj_outside.specs.Causes.{CountsFault, next}
use Rattle.cj_replica.specs.declared.replica.CellReadError.TheVariants as errors
use Rattle.cj_backend.specs.Backends.{asks_after, spent}
use Rattle.cj_replica.specs.Cells.{CellState, SaysReadAnswer, HasCellReadCause, SpendsArmingIf, is_asked, LogsInForRead}
use Rattle.cj_state.specs.declared.cells.AskError.{AskError}
use Rattle.cj_state.specs.declared.cells.AskError.TheVariants as ask_errors
use Rattle.cj_state.specs.Effects.{Asks, Notes, asked_core, failed_asked}
use Rattle.cj_state.proofs.CellsKept.{position_within}
use Rattle.cj_state.proofs.ChangedCell.{cell_there, changed_logins, may_change_under, stands_there}

-- what holds in each case of an error that is noted holds
pub notes_cases : (Q : AskError → BookState → Type 0) (old new : BookState) (s q b : ℕ) (d : CellReadError) (e : AskError) → Notes old s q b d e new
    → (d ≡ errors.Out → Q ask_errors.Out old) → ((p : ℕ) → d ≡ errors.Behind p → Q (ask_errors.Behind p) old) → (d ≡ errors.NoMemory → Q ask_errors.NoMemory old)
    → (d ≡ errors.Failed → 0 < events_left old.history → Q ask_errors.Failed (with_event old (ReadFailed s q b))) → (d ≡ errors.Failed → (k : ℕ) → HasNoRoomForOne old k → Q (ask_errors.Unnoted k) old) → Q e new
notes_cases Q old new s q b errors.Out e notes out behind want came full = rw (notes.0, notes.1) (out refl)
notes_cases Q old new s q b (errors.Behind p) e notes out behind want came full = rw (notes.0, notes.1) (behind p refl)
notes_cases Q old new s q b errors.NoMemory e notes out behind want came full = rw (notes.0, notes.1) (want refl)
notes_cases Q old new s q b errors.Failed e notes out behind want came full =
    ⊎_elim
    (λ (one : (e ≡ ask_errors.Failed) × (0 < events_left old.history) × (new ≡ with_event old (ReadFailed s q b))). rw (one.0, one.2) (came refl one.1))
    (λ (none : (k : ℕ) × (e ≡ ask_errors.Unnoted k) × HasNoRoomForOne old k × (new ≡ old)). rw (none.1, none.3) (full refl none.0 none.2))
    notes

module _ {tells : Bool} {w : WorldState} {numbers : List ℕ} {tally : Tally} (kept : Kept tells w numbers tally) {seen_log : LogView} {cache : CacheState} {balance : Balance} {old : WorldState} (seen : with_balance (with_cache (with_log w seen_log) cache) balance ≡ old)
    {b : ℕ} (within : b < old.core.placement.backends) where
  -- what backend b answered a session's query
  module _ {x : CellState} (there : x ≡ get_or w.cells b x) (number : ℕ) {least : ℕ} (is_least : least ≡ (session_at old.core number).least) where
    place : position_at old.core b ≡ x.position
    place = stands_there kept seen within x there

    -- what a cell that isn't out tells
    told : (p : ℕ) → x.position ≡ Some p → tells ≡ true → x.told ≡ Some (part old.core.placement b (database_after (log old.core.history) p))
    told p is =
        subst (λ (z : WorldState). HoldsPart tells z.core.placement b (log z.core.history) x.told (Some p)) seen
        (subst (λ (q : Option ℕ). HoldsPart tells w.core.placement b (log w.core.history) x.told q) is (cell_there kept seen within x there).holds)

    -- a cell that is neither out nor below what the session has seen
    far_enough : (r : Result (Asked × ℕ) CellReadError) → r ≡ Err errors.Failed → (q : Option ℕ) → x.position ≡ q → ((r ≡ Err errors.Out) ↔ (x.position ≡ None))
        → ((p : ℕ) → (r ≡ Err (errors.Behind p)) ↔ ((x.position ≡ Some p) × (p < least))) → IsFarEnough old.core number b
    far_enough r failed None is out behind = let e = out.1 is in absurd (cc (failed, e))
    far_enough r failed (Some p) is out behind =
        record {
          p = p;
          stands = place ∙ is;
          owed =
              ⊎_elim (λ (lt : p < least). let e = (behind p).1 (is, lt) in absurd (cc (failed, e)))
              (λ (le : least ≤ p). subst (λ (m : ℕ). m ≤ p) is_least le) (cases_lt p least);
        }

    -- of which it hosts each table
    pub answers : (tx : ℕ) (select : Select) → hosts_all old.core.placement b select.tables ≡ true → (answer : Asked) (p : ℕ) → SaysReadAnswer x.told tx select answer → IsAsked answer
        → x.position ≡ Some p → least ≤ p → Asks tells old.core number b tx select (Ok (answer, p))
    answers tx select hosts answer p says possible position owed = (
      place ∙ position,
      subst (λ (m : ℕ). m ≤ p) is_least owed,
      position_within old.core (subst (λ (z : WorldState). CoreInvariant z.core) seen kept.world.sound) b p (place ∙ position),
      possible,
      λ on.
          let a : answer ≡ ask (part old.core.placement b (database_after (log old.core.history) p)) tx select = subst (λ (t : Option (List Slot)). IfSome t (λ db. answer ≡ ask db tx select)) (told p position on) says in
          a ∙ ask_part old.core.placement b (database_after (log old.core.history) p) tx select hosts,
    )

    -- or why it did not
    pub errs : (tx : ℕ) (select : Select) (k new : BookState) (q : ℕ) (d : CellReadError) (e : AskError) → k.history ≡ old.core.history → Notes k number q b d e new → (IsErrOf {T = Asked × ℕ} (Err d) errors.Out ↔ (x.position ≡ None))
        → ((p : ℕ) → IsErrOf {T = Asked × ℕ} (Err d) (errors.Behind p) ↔ ((x.position ≡ Some p) × (p < least))) → Asks tells old.core number b tx select (Err e)
    errs tx select k new q d e is notes out behind =
        let far : d ≡ errors.Failed → IsFarEnough old.core number b = λ was. far_enough (Err d) (ap (λ (z : CellReadError). Err z) was) x.position refl out behind in
        notes_cases (λ (y : AskError) (z : BookState). Asks tells old.core number b tx select (Err y)) k new number q b d e notes (λ was. place ∙ out.0 (ap (λ (z : CellReadError). Err z) was))
        (λ p was. (let early = (behind p).0 (ap (λ (z : CellReadError). Err z) was) in (place ∙ early.0, subst (λ (m : ℕ). p < m) is_least early.1)))
        (λ was. tt) (λ was space. (far was, subst (λ (h : List Event). 0 < events_left h) is space))
        (λ was n full.
        let none : events_left k.history < 1 = full.full in
        let no_room : events_left k.history ≡ 0 = omega arith in
        (far was, subst (λ (h : List Event). events_left h ≡ 0) is no_room, subst (λ (h : List Event). n ≡ length h) is full.events))

  -- under which login it was asked
  pub noted_logins : {How : CellState → CellState → Type 0} {now : List CellState} (ch : ChangesCell w.cells b How now) (k new : BookState) (s q : ℕ) (d : CellReadError) (e : AskError) (given : List ℕ) → Notes k s q b d e new
      → LogsInForRead ch.before.login given (Err d) ch.after.login → AskedUnderLogin b given (Err e) (logins_of old.cells) (logins_of now)
  noted_logins {How} {now} ch k new s q d e given notes logs =
      let by : (z : CellReadError) → d ≡ z → LogsInForRead ch.before.login given (Err z) ch.after.login = λ z is. subst (λ (y : CellReadError). LogsInForRead ch.before.login given (Err y) ch.after.login) is logs in
      let same = changed_logins kept seen within ch in
      let may = may_change_under kept seen within ch given in
      notes_cases (λ (y : AskError) (z : BookState). AskedUnderLogin b given (Err y) (logins_of old.cells) (logins_of now)) k new s q b d e notes
      (λ is. same (by errors.Out is)) (λ p is. same (by (errors.Behind p) is)) (λ is. same (by errors.NoMemory is)) (λ is space. may (by errors.Failed is)) (λ is n full. may (by errors.Failed is))

-- what becomes of the core
pub noted_core : (cells : List CellState) (f t : ℕ) (ss : List OpenSession) (ds : List Dump) (k new : BookState) (s q b : ℕ) (d : CellReadError) (e : AskError) (c : Core) → Notes k s q b d e new
    → core_of k.layout k.history cells f t ss k.greatest ds ≡ c → q ≡ read_number (session_at c s) → core_of new.layout new.history cells f t ss new.greatest ds ≡ asked_core c s b (Err e)
noted_core cells f t ss ds k new s q b d e c notes core number =
    notes_cases (λ (y : AskError) (z : BookState). core_of z.layout z.history cells f t ss z.greatest ds ≡ asked_core c s b (Err y)) k new s q b d e notes (λ was. core) (λ p was. core) (λ was. core)
    (λ was space. ap (λ (z : Core). happened z (ReadFailed s q b)) core ∙ ap (λ (m : ℕ). happened c (ReadFailed s m b)) number) (λ was n full. core)

-- whose fault was counted
pub noted_fault : (old new : BookState) (s q b : ℕ) (d : CellReadError) (e : AskError) (before now : ℕ) → Notes old s q b d e new → CountsFault (IsErrOf {T = Asked × ℕ} (Err d) errors.Failed) before now
    → (failed : Bool) × (failed_asked b (Err e) ≡ cond failed (Some b) None) × (now ≡ cond failed (next before) before)
noted_fault old new s q b d e before now notes cause =
    notes_cases (λ (y : AskError) (z : BookState). (failed : Bool) × (failed_asked b (Err y) ≡ cond failed (Some b) None) × (now ≡ cond failed (next before) before)) old new s q b d e notes
    (λ was. (false, refl, cause.uncounted (λ is. cc (was, is)))) (λ p was. (false, refl, cause.uncounted (λ is. cc (was, is)))) (λ was. (false, refl, cause.uncounted (λ is. cc (was, is))))
    (λ was space. (true, refl, cause.counted (ap (λ (z : CellReadError). Err z) was))) (λ was n full. (true, refl, cause.counted (ap (λ (z : CellReadError). Err z) was)))

-- want of memory is the cell's alone
pub noted_want : (old new : BookState) (s q b : ℕ) (d : CellReadError) (e : AskError) → Notes old s q b d e new → e ≡ ask_errors.NoMemory → (d ≡ errors.NoMemory) × (new ≡ old)
noted_want old new s q b d e notes =
    notes_cases (λ (y : AskError) (z : BookState). y ≡ ask_errors.NoMemory → (d ≡ errors.NoMemory) × (z ≡ old)) old new s q b d e notes
    (λ was is. absurd (cc is)) (λ p was is. absurd (cc is)) (λ was is. (was, refl)) (λ was space is. absurd (cc is)) (λ was n full is. absurd (cc is))

-- then the cell is as before
pub wanted : (x y : CellState) (r : Result (Asked × ℕ) CellReadError) → r ≡ Err errors.NoMemory → y ≡ record x { login = y.login; faults = y.faults; asks = y.asks; arming = y.arming } → HasCellReadCause x.faults y.faults r
    → y.asks ≡ asks_after x.asks r → SpendsArmingIf (is_asked r) (r ≡ Err errors.Failed) x.arming y.arming → (given : List ℕ) → LogsInForRead x.login given r y.login → y ≡ x
wanted x y r is same cause asks arming given logs =
    let faults : y.faults ≡ x.faults = cause.uncounted (λ failed. cc (is, failed)) in
    let asked : y.asks ≡ x.asks = asks ∙ ap (asks_after x.asks) is in
    let spent_now : y.arming ≡ spent x.arming = arming.after ∙ ap (λ (q : Result (Asked × ℕ) CellReadError). cond (is_asked q) (spent x.arming) x.arming) is in
    let unarmed : x.arming.armed ≡ false = false_from_ne_true x.arming.armed (λ on. let failed = arming.fails (ap is_asked is) on in cc (is, failed)) in
    let armed : y.arming ≡ x.arming = spent_now ∙ ap (λ (a : Bool). record x.arming { armed = a }) (sym unarmed) in
    let login : y.login ≡ x.login = subst (λ (q : Result (Asked × ℕ) CellReadError). LogsInForRead x.login given q y.login) is logs in
    same ∙ (rw (faults, asked, armed, login) refl)
