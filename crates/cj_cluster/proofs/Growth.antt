-- What every move keeps: the history grows at its end, and a session makes at most one request. Lists of moves.
use Rattle.std.proofs.Common.{◌≡◌, ◌⊎◌, ℕ, ◌+◌, ◌≤◌, ◌==◌, ◌^◌, Bool, true, false, List, [], ◌∷◌, ◌++◌, length, cond, All, Option, None, Some, Ok, Err, unwrap_or, option_map, refl, ap, sym, ◌∙◌, subst, arith, ⊎_elim}
use mathlib.Core.List.{IsPrefix}
use Rattle.std.proofs.lemmas.Bool.{cases_eq}
use Rattle.std.proofs.lemmas.List.{length-set}
use Rattle.cj_cluster.proofs.Common.{Abort, Act, All-head, All-tail, Apply, Arm, Asked, Close, Core, CoreInvariant, Disable, Dump, Enable, End, Event, Load, Mark, Move, NoMemory, NotNow, Open, OpenSession, Placement, Read, Refusal, Replay, Request, Schedule, Select, act_of, find-append, find_session, new_session, option_or, session_at, with_session}
use Rattle.cj_cluster.specs.declared.moves.Moved.TheVariants as moved
use Rattle.cj_cluster.specs.declared.moves.Reason.TheVariants as reason
use Rattle.cj_cluster.specs.Moves.Moves as moves
use Rattle.cj_cluster.specs.Moves.Moves.{MoveResult, MovesTo, DoesMove, not_now, Stance, with_stance, with_one_request, answered_at, was_answered, still_reading, with_read, read_failed, tried_of, tried_with}
use Rattle.cj_cluster.specs.Moves.Runs.{RunsMoves, IsMoveOfCluster, CanCountRequests}
use Rattle.cj_cluster.proofs.Pushed.{prefix_self, prefix_trans}
use Rattle.cj_cluster.proofs.Sessions.{session_at-is, session_of-same, session_of-other, session_of-without_same, session_of-without_other, without}
use Rattle.cj_cluster.proofs.Soundness.{by_reason, read_counts, moves_sound}

-- ---- how often sessions have asked

-- how many requests a session has made, or 0 where it is not open
abbrev pub queries_in : Option OpenSession → ℕ
queries_in None = 0
queries_in (Some x) = x.requests

-- the same, in a state
pub queries_at : (c : Core) (s : ℕ) → (session_at c s).requests ≡ queries_in (find_session c.sessions s)
queries_at c s = ap (λ (x : OpenSession). x.requests) (session_at-is c s (find_session c.sessions s) refl) ∙ one (find_session c.sessions s)
  where
    one : (o : Option OpenSession) → (unwrap_or o (new_session s [])).requests ≡ queries_in o
    one None = refl
    one (Some x) = refl

-- no session of the first list has made more than n requests more than in the second
abbrev pub CountsBy : ℕ → List OpenSession → List OpenSession → Type 0
CountsBy n now before = (s : ℕ) → queries_in (find_session now s) ≤ queries_in (find_session before s) + n

-- no request was made
counts_same : (ss : List OpenSession) → CountsBy 1 ss ss
counts_same ss s = omega arith

-- a session was changed that has made one more at most
counts_with : (ss : List OpenSession) (s : ℕ) (f : OpenSession → OpenSession) → ((x : OpenSession) → (f x).number ≡ x.number) → ((x : OpenSession) → (f x).requests ≤ x.requests + 1) → CountsBy 1 (with_session ss s f) ss
counts_with ss s f keeps one t =
    ⊎_elim (λ (e : t ≡ s). rw (e, session_of-same f keeps ss s) (mapped (find_session ss s))) (λ (ne : t ≡ s → ⊥). rw (session_of-other f keeps ss s t ne) (omega arith)) (cases_eq t s)
  where
    mapped : (o : Option OpenSession) → queries_in (option_map f o) ≤ queries_in o + 1
    mapped None = omega arith
    mapped (Some x) = one x

-- a session was added that has made none
counts_push : (ss : List OpenSession) (n : ℕ) (user : List ℕ) → CountsBy 1 (ss ++ new_session n user ∷ []) ss
counts_push ss n user t = subst (λ (o : Option OpenSession). queries_in o ≤ queries_in (find_session ss t) + 1) (sym (find-append (λ (x : OpenSession). x.number == t) ss (new_session n user ∷ []))) (one (find_session ss t) (n == t))
  where
    one : (o : Option OpenSession) (b : Bool) → queries_in (option_or o (cond b (Some (new_session n user)) None)) ≤ queries_in o + 1
    one (Some x) b = omega arith
    one None true = omega arith
    one None false = omega arith

-- a session was removed
counts_without : (ss : List OpenSession) (s : ℕ) → CountsBy 1 (without s ss) ss
counts_without ss s t = ⊎_elim (λ (e : t ≡ s). rw (e, session_of-without_same ss s) (omega arith)) (λ (ne : t ≡ s → ⊥). rw (session_of-without_other ss s t ne) (omega arith)) (cases_eq t s)

-- ---- what a move keeps

-- with n requests of each session at most
pub record Grows (n : ℕ) (c z : Core) : Type 0 where
  pub longer : IsPrefix c.history z.history
  pub placement : z.placement ≡ c.placement
  pub cells : length z.positions ≡ length c.positions
  pub counts : CountsBy n z.sessions c.sessions
  pub greatest : c.greatest ≤ z.greatest

-- the state stays
pub grows_same : (n : ℕ) (c z : Core) → z ≡ c → Grows n c z
grows_same n c z e =
    subst (Grows n c) (sym e) (record { longer = prefix_self c.history; placement = refl; cells = refl; counts = λ s. (let le : queries_in (find_session c.sessions s) ≤ queries_in (find_session c.sessions s) + n = omega arith in le); greatest = omega arith })

-- one after another
pub grows_trans : (m n : ℕ) (c d z : Core) → Grows m c d → Grows n d z → Grows (m + n) c z
grows_trans m n c d z a b =
    record {
      longer = prefix_trans c.history d.history z.history a.longer b.longer;
      placement = b.placement ∙ a.placement;
      cells = b.cells ∙ a.cells;
      counts = λ s. (let one = a.counts s in let two = b.counts s in let le : queries_in (find_session z.sessions s) ≤ queries_in (find_session c.sessions s) + (m + n) = omega arith in le);
      greatest = let one = a.greatest in let two = b.greatest in omega arith;
    }

-- the requests that each session can still make
pub can_count : (m n : ℕ) (c z : Core) → Grows m c z → CanCountRequests c (m + n) → CanCountRequests z n
can_count m n c z grows can s =
    let now = queries_at z s in
    let before = queries_at c s in
    let one = grows.counts s in
    let two = can s in
    omega arith

module _ (c z : Core) where
  -- the history has more at its end, and the sessions have counted
  grows_to : (es : List Event) (f s : ℕ) (ss : List OpenSession) → CountsBy 1 ss c.sessions → z ≡ record c { history = c.history ++ es; failed = f; starved = s; sessions = ss } → Grows 1 c z
  grows_to es f s ss counts e = subst (Grows 1 c) (sym e) (record { longer = (es, refl); placement = refl; cells = refl; counts = counts; greatest = omega arith })

  -- the sessions alone have changed
  grows_in : (ss : List OpenSession) (g : ℕ) → CountsBy 1 ss c.sessions → c.greatest ≤ g → z ≡ record c { sessions = ss; greatest = g } → Grows 1 c z
  grows_in ss g counts greatest e = subst (Grows 1 c) (sym e) (record { longer = prefix_self c.history; placement = refl; cells = refl; counts = counts; greatest = greatest })

  -- how a backend stands alone has changed, and the masks
  grows_at : (b : ℕ) (now : Stance) (f s : ℕ) → z ≡ record (with_stance c b now) { failed = f; starved = s } → Grows 1 c z
  grows_at b now f s e =
      subst (Grows 1 c) (sym e) (record { longer = prefix_self c.history; placement = refl; cells = length-set c.positions b now.position; counts = counts_same c.sessions; greatest = omega arith })

-- a request counts once
counted_once : (x : OpenSession) → (with_one_request x).requests ≤ x.requests + 1
counted_once x = omega arith

-- a session is opened, or none can be
grow_open : (c : Core) (user : List ℕ) (g : MoveResult) (z : Core) → moves.OpensSession c user g z → Grows 1 c z
grow_open c user (Ok (moved.Session n)) z h =
    grows_in c z (c.sessions ++ new_session (c.greatest + 1) user ∷ []) (c.greatest + 1) (counts_push c.sessions (c.greatest + 1) user) (omega arith) h.2
grow_open c user (Ok (moved.Refused r)) z h = grows_same 1 c z h.2
grow_open c user _ z h = absurd h

-- a session is closed
grow_close : (c : Core) (s : ℕ) (g : MoveResult) (z : Core) → moves.ClosesSession c s g z → Grows 1 c z
grow_close c s (Ok moved.Closed) z h = grows_in c z (without s c.sessions) c.greatest (counts_without c.sessions s) (omega arith) h
grow_close c s _ z h = absurd h

-- an act is scheduled, or refused
grow_act : (c : Core) (s : ℕ) (r : Request) (a : Act) (g : MoveResult) (z : Core) → moves.SchedulesAct c s r a g z → Grows 1 c z
grow_act c s r a (Ok (moved.Entry n)) z h = grows_to c z _ 0 0 (with_session c.sessions s with_one_request) (counts_with c.sessions s with_one_request (λ x. refl) counted_once) h.4
grow_act c s r a (Ok (moved.Refused refusal)) z h =
    ⊎_elim (λ (q : moves.ScheduleIsForbidden c s a refusal z). counted q.after)
    (⊎_elim (λ (q : moves.ScheduleHasNoBackend c s r a refusal z). counted q.after)
    (⊎_elim (λ (q : moves.ScheduleHasNoRoom c s r a refusal z). counted q.after)
    (λ (q : moves.ScheduleMeetsLogFault c s r a refusal z).
    grows_to c z _ c.failed c.starved (with_session c.sessions s with_one_request) (counts_with c.sessions s with_one_request (λ x. refl) counted_once) q.after))) h
  where
    counted : z ≡ moves.with_request_counted c s → Grows 1 c z
    counted = grows_in c z (with_session c.sessions s with_one_request) c.greatest (counts_with c.sessions s with_one_request (λ x. refl) counted_once) (omega arith)
grow_act c s r a (Err NoMemory) z h = grows_same 1 c z h
grow_act c s r a _ z h = absurd h

-- a request is scheduled, or refused
grow_schedule : (c : Core) (s : ℕ) (r : Request) (o : Option Act) (g : MoveResult) (z : Core) → moves.SchedulesAnyAct c s r o g z → Grows 1 c z
grow_schedule c s r None g z h = absurd h
grow_schedule c s r (Some a) g z h = grow_act c s r a g z h

-- the administrator's move is refused
grow_refused : (n : ℕ) (c : Core) (refusal : Refusal) (z : Core) → moves.LacksRoomFor n c refusal z ⊎ moves.MeetsLogFault n c refusal z → Grows 1 c z
grow_refused n c refusal z h =
    ⊎_elim (λ (q : moves.LacksRoomFor n c refusal z). grows_same 1 c z q.after)
    (λ (q : moves.MeetsLogFault n c refusal z). grows_to c z _ c.failed c.starved c.sessions (counts_same c.sessions) q.after) h

-- the end of an orphan is scheduled, or refused
grow_abort : (c : Core) (tx : ℕ) (g : MoveResult) (z : Core) → moves.AbortsOrphan c tx g z → Grows 1 c z
grow_abort c tx (Ok (moved.Entry n)) z h = grows_to c z _ 0 0 c.sessions (counts_same c.sessions) h.2
grow_abort c tx (Ok (moved.Refused refusal)) z h = grow_refused 3 c refusal z h
grow_abort c tx (Err NoMemory) z h = grows_same 1 c z h
grow_abort c tx _ z h = absurd h

-- a backend takes the open entry
grow_apply : (tells : Bool) (c : Core) (b : ℕ) (g : MoveResult) (z : Core) → moves.Applies tells c b g z → Grows 1 c z
grow_apply tells c b (Ok (moved.Applied n d)) z h = grows_at c z b h.1.0 _ _ h.1.2
grow_apply tells c b _ z h = absurd h

-- a backend that is not enabled takes the log's next entry
grow_replay : (tells : Bool) (c : Core) (b : ℕ) (g : MoveResult) (z : Core) → moves.Replays tells c b g z → Grows 1 c z
grow_replay tells c b (Ok (moved.Replayed n d)) z h = grows_at c z b h.1.0 c.failed c.starved h.1.2
grow_replay tells c b _ z h = absurd h

-- the open entry ends, and its session is answered
grow_end : (tells : Bool) (c : Core) (g : MoveResult) (z : Core) → moves.EndsEntry tells c g z → Grows 1 c z
grow_end tells c (Ok (moved.Replied s reply)) z h =
    grows_to c z _ 0 0 (with_session c.sessions s (answered_at (moves.last_number c))) (counts_with c.sessions s (answered_at (moves.last_number c)) (λ x. refl) (λ x. (let le : x.requests ≤ x.requests + 1 = omega arith in le))) h.4
grow_end tells c _ z h = absurd h

-- a read that changes its session alone, or adds one event
module _ (c z : Core) (s b : ℕ) (f : OpenSession → OpenSession) (number : (x : OpenSession) → (f x).number ≡ x.number) (once : (x : OpenSession) → (f x).requests ≤ x.requests + 1) where
  -- the session alone
  grow_with : z ≡ with_read c s f → Grows 1 c z
  grow_with e = grows_in c z (with_session c.sessions s f) c.greatest (counts_with c.sessions s f number once) (omega arith) e

  -- and the backend's failure
  grow_failed : z ≡ read_failed c s b f → Grows 1 c z
  grow_failed e = grows_to c z _ c.failed c.starved (with_session c.sessions s f) (counts_with c.sessions s f number once) e

module _ (tells : Bool) (c : Core) (s b : ℕ) (select : Select) where
  -- the backend answered
  grow_reached : (answer : Asked) (z : Core) → moves.ReadIsAnswered tells c s b select answer z → Grows 1 c z
  grow_reached answer z h = grow_with c z s b (λ x. answered_at h.p (was_answered x)) (λ x. refl) (λ x. (read_counts x).1) h.after

  -- the backend is not far enough
  grow_early : (p : Option ℕ) (z : Core) → moves.ReadCameTooEarly c s b select p z → Grows 1 c z
  grow_early p z h = grow_with c z s b (still_reading select (tried_of (session_at c s).reading)) (λ x. refl) (λ x. (read_counts x).1) h.after

  -- all that a read may give
  grow_read : (g : MoveResult) (z : Core) → moves.AttemptsRead tells c s b select g z → Grows 1 c z
  grow_read (Ok (moved.Rows a)) z h = grow_reached _ z h
  grow_read (Ok (moved.Refused r)) z h =
      ⊎_elim (λ (q : moves.ReadIsAnswered tells c s b select _ z). grow_reached _ z q)
      (λ (q : moves.ReadHasNoBackend c s b select r z ⊎ (moves.ReadHasNoRoom c s b select r z ⊎ moves.ReadFailedEverywhere c s b select r z)).
      ⊎_elim (λ (n : moves.ReadHasNoBackend c s b select r z). grow_with c z s b was_answered (λ x. refl) (λ x. (read_counts x).1) n.after)
      (λ (n : moves.ReadHasNoRoom c s b select r z ⊎ moves.ReadFailedEverywhere c s b select r z).
      ⊎_elim (λ (f : moves.ReadHasNoRoom c s b select r z). grow_with c z s b was_answered (λ x. refl) (λ x. (read_counts x).1) f.after)
      (λ (f : moves.ReadFailedEverywhere c s b select r z). grow_failed c z s b was_answered (λ x. refl) (λ x. (read_counts x).1) f.after) n) q) h
  grow_read (Ok (moved.Behind p)) z h = grow_early (Some p) z h
  grow_read (Ok moved.Out) z h = grow_early None z h
  grow_read (Ok moved.Failed) z h = grow_failed c z s b (still_reading select (tried_with c s b)) (λ x. refl) (λ x. (read_counts x).1) h.after
  grow_read (Err (NotNow q)) z h = grows_same 1 c z h.3
  grow_read (Err NoMemory) z h = grows_same 1 c z h
  grow_read _ z h = absurd h

-- a backend is armed
grow_arm : (c : Core) (g : MoveResult) (z : Core) → moves.Arms c g z → Grows 1 c z
grow_arm c (Ok moved.Armed) z h = grows_same 1 c z h
grow_arm c _ z h = absurd h

-- a backend is disabled, or the history is full
grow_disable : (c : Core) (b : ℕ) (g : MoveResult) (z : Core) → moves.Disables c b g z → Grows 1 c z
grow_disable c b (Ok moved.Disabled) z h = grows_to c z _ c.failed c.starved c.sessions (counts_same c.sessions) h.1
grow_disable c b (Ok (moved.Refused r)) z h = grows_same 1 c z h.2
grow_disable c b _ z h = absurd h

-- a backend is enabled, or the history is full
grow_enable : (c : Core) (b : ℕ) (g : MoveResult) (z : Core) → moves.Enables c b g z → Grows 1 c z
grow_enable c b (Ok moved.Enabled) z h = grows_to c z _ c.failed c.starved c.sessions (counts_same c.sessions) h.1
grow_enable c b (Ok (moved.Refused r)) z h = grows_same 1 c z h.2
grow_enable c b _ z h = absurd h

-- a checkpoint is marked, or refused
grow_mark : (c : Core) (name : List ℕ) (g : MoveResult) (z : Core) → moves.Marks c name g z → Grows 1 c z
grow_mark c name (Ok (moved.Marked n)) z h = grows_to c z _ c.failed c.starved c.sessions (counts_same c.sessions) h.2
grow_mark c name (Ok (moved.Refused r)) z h = grow_refused 1 c r z h
grow_mark c name (Err NoMemory) z h = grows_same 1 c z h
grow_mark c name _ z h = absurd h

-- a dump is taken, or the backend failed
grow_dump : (c : Core) (b : ℕ) (name : List ℕ) (g : MoveResult) (z : Core) → moves.Dumps c b name g z → Grows 1 c z
grow_dump c b name (Ok (moved.Dumped n)) z h =
    subst (Grows 1 c) (sym h.1) (record { longer = prefix_self c.history; placement = refl; cells = refl; counts = counts_same c.sessions; greatest = omega arith })
grow_dump c b name (Ok moved.Failed) z h = grows_same 1 c z h
grow_dump c b name (Err NoMemory) z h = grows_same 1 c z h
grow_dump c b name _ z h = absurd h

-- a dump is loaded, or the backend stays out
grow_load : (tells : Bool) (c : Core) (b : ℕ) (name : List ℕ) (g : MoveResult) (z : Core) → moves.Loads tells c b name g z → Grows 1 c z
grow_load tells c b name (Ok (moved.Loaded n)) z h = grows_at c z b _ c.failed c.starved h.after
grow_load tells c b name (Ok moved.Failed) z h = grows_same 1 c z h
grow_load tells c b name (Ok moved.Starved) z h = grows_same 1 c z h
grow_load tells c b name _ z h = absurd h

-- each move that can be made now
does_grow : (tells : Bool) (c : Core) (m : Move) (g : MoveResult) (z : Core) → DoesMove tells c m g z → Grows 1 c z
does_grow tells c (Open user) g z h = grow_open c user g z h
does_grow tells c (Close s) g z h = grow_close c s g z h
does_grow tells c (Schedule s r) g z h = grow_schedule c s r (act_of r) g z h
does_grow tells c (Abort tx) g z h = grow_abort c tx g z h
does_grow tells c (Apply b) g z h = grow_apply tells c b g z h
does_grow tells c End g z h = grow_end tells c g z h
does_grow tells c (Read s b select) g z h =
    ⊎_elim (λ (q : moves.HasOtherRead (session_at c s) select × (g ≡ Err (NotNow (record { reason = reason.Waiting; value = s }))) × (z ≡ c)). grows_same 1 c z q.2)
    (λ (q : moves.HasNoOtherRead (session_at c s) select × moves.AttemptsRead tells c s b select g z). grow_read tells c s b select g z q.1) h
does_grow tells c (Arm b) g z h = grow_arm c g z h
does_grow tells c (Disable b) g z h = grow_disable c b g z h
does_grow tells c (Replay b) g z h = grow_replay tells c b g z h
does_grow tells c (Enable b) g z h = grow_enable c b g z h
does_grow tells c (Mark name) g z h = grow_mark c name g z h
does_grow tells c (Dump b name) g z h = grow_dump c b name g z h
does_grow tells c (Load b name) g z h = grow_load tells c b name g z h

-- every move, with one request of each session at most
pub moves_grow : (tells : Bool) (c : Core) (m : Move) (g : MoveResult) (z : Core) → MovesTo tells c m g z → Grows 1 c z
moves_grow tells c m g z h =
    by_reason (not_now c m) (DoesMove tells c m g z) (Grows 1 c z) g c z h (λ now does. does_grow tells c m g z does) (λ why not_made same. grows_same 1 c z same)

-- ---- lists of moves

-- a list of moves, and one more
pub runs_push : (tells : Bool) (c : Core) (ms : List Move) (gs : List MoveResult) (mid : Core) (m : Move) (g : MoveResult) (z : Core) → RunsMoves tells c ms gs mid → MovesTo tells mid m g z → RunsMoves tells c (ms ++ m ∷ []) (gs ++ g ∷ []) z
runs_push tells c [] [] mid m g z runs h = (z, subst (λ (x : Core). MovesTo tells x m g z) (sym runs) h, refl)
runs_push tells c (n ∷ ms) (q ∷ gs) mid m g z runs h = (runs.0, runs.1, runs_push tells runs.0 ms gs mid m g z runs.2 h)
runs_push tells c [] (q ∷ gs) mid m g z runs h = absurd runs
runs_push tells c (n ∷ ms) [] mid m g z runs h = absurd runs

-- a list of moves, with as many requests of each session at most
pub runs_grow : (tells : Bool) (c : Core) (ms : List Move) (gs : List MoveResult) (z : Core) → RunsMoves tells c ms gs z → Grows (length ms) c z
runs_grow tells c [] [] z runs = grows_same 0 c z (sym runs)
runs_grow tells c (m ∷ ms) (g ∷ gs) z runs =
    let e : 1 + length ms ≡ length (m ∷ ms) = omega arith in
    subst (λ (n : ℕ). Grows n c z) e (grows_trans 1 (length ms) c runs.0 z (moves_grow tells c m g runs.0 runs.1) (runs_grow tells runs.0 ms gs z runs.2))
runs_grow tells c [] (g ∷ gs) z runs = absurd runs
runs_grow tells c (m ∷ ms) [] z runs = absurd runs

-- a list of moves leads from a sound state to one
pub runs_sound : (tells : Bool) (c : Core) (ms : List Move) (gs : List MoveResult) (z : Core) → All (IsMoveOfCluster c.placement.backends) ms → CanCountRequests c (length ms) → CoreInvariant c → RunsMoves tells c ms gs z → CoreInvariant z
runs_sound tells c [] [] z are count w runs = subst CoreInvariant runs w
runs_sound tells c (m ∷ ms) (g ∷ gs) z are count w runs =
    let d = runs.0 in
    let grows = moves_grow tells c m g d runs.1 in
    let once : CanCountRequests c 1 = λ s. (let can = count s in let le : (session_at c s).requests + 1 ≤ 2 ^ 62 = omega arith in le) in
    let more : CanCountRequests c (1 + length ms) = λ s. (let can = count s in let le : (session_at c s).requests + (1 + length ms) ≤ 2 ^ 62 = omega arith in le) in
    let sound : CoreInvariant d = moves_sound tells c m g d (All-head (IsMoveOfCluster c.placement.backends) m ms are) once w runs.1 in
    let rest : All (IsMoveOfCluster d.placement.backends) ms =
    subst (λ (p : Placement). All (IsMoveOfCluster p.backends) ms) (sym grows.placement) (All-tail (IsMoveOfCluster c.placement.backends) m ms are)
    in
    runs_sound tells d ms gs z rest (can_count 1 (length ms) c d grows more) sound runs.2
runs_sound tells c [] (g ∷ gs) z are count w runs = absurd runs
runs_sound tells c (m ∷ ms) [] z are count w runs = absurd runs
