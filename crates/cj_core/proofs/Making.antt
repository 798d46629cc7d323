-- How a list of moves comes from move to move.
use Rattle.std.proofs.Common.{◌≡◌, ℕ, ◌+◌, ◌<◌, ◌≤◌, ◌^◌, Bool, List, [], ◌∷◌, ◌++◌, length, map, take, get_or, All, refl, ap, sym, ◌∙◌, subst, arith}
use Rattle.cj_core.proofs.Common.{All-get_or, All-take, blamed, CanCountRequests, Core, faults_after, faults_of, faults_over, given_of, HasRun, HasRunInPart, HaveCauses, IsLegal, IsMoveOfCluster, IsPrefix, IsSameWorldButLog, IsWorld}
use Rattle.cj_core.proofs.Common.{length-take-le, log_faults_after, log_faults_over, Made, map_push, Move, MoveResult, MovesWorld, Placement, Read, RunsMoves, RunsWorld, Schedule, session_at, take_more, tells_log_fault, WorldState}
use Rattle.cj_cluster.proofs.Growth.{Grows, can_count, runs_push, runs_grow, runs_sound}
use Rattle.cj_cluster.proofs.Chains.{run_chained}
use Rattle.cj_moves.specs.Steps.{CanAsk, IsMet}

-- the first n moves were made, with what each came to
pub record Making (tells armable : Bool) (old : WorldState) (moves : List Move) (n : ℕ) (came : List Made) (now : WorldState) : Type 0 where
  pub steps : RunsWorld tells armable old (take n moves) (map given_of came) now
  pub runs : RunsMoves tells old.core (take n moves) (map given_of came) now.core
  pub causes : HaveCauses old now (take n moves) (map given_of came)
  pub log_causes : now.recovery_log.faults ≡ log_faults_over old.recovery_log.faults (take n moves) (map given_of came)

-- ---- causes

-- one move more is counted last
over_push : (tells : Bool) (faults : List ℕ) (c z : Core) (ms : List Move) (gs : List MoveResult) (m : Move) (g : MoveResult) → RunsMoves tells c ms gs z
    → faults_over faults (ms ++ m ∷ []) (gs ++ g ∷ []) ≡ faults_after (faults_over faults ms gs) (blamed m g)
over_push tells faults c z [] [] m g runs = refl
over_push tells faults c z (n ∷ ms) (q ∷ gs) m g runs = over_push tells (faults_after faults (blamed n q)) runs.0 z ms gs m g runs.2
over_push tells faults c z _ _ m g runs = absurd runs

log_over_push : (tells : Bool) (faults : ℕ) (c z : Core) (ms : List Move) (gs : List MoveResult) (m : Move) (g : MoveResult) → RunsMoves tells c ms gs z
    → log_faults_over faults (ms ++ m ∷ []) (gs ++ g ∷ []) ≡ log_faults_after (log_faults_over faults ms gs) (tells_log_fault m g)
log_over_push tells faults c z [] [] m g runs = refl
log_over_push tells faults c z (n ∷ ms) (q ∷ gs) m g runs = log_over_push tells (log_faults_after faults (tells_log_fault n q)) runs.0 z ms gs m g runs.2
log_over_push tells faults c z _ _ m g runs = absurd runs

-- ---- from move to move

-- one move more is made last
steps_push : (tells armable : Bool) (old : WorldState) (ms : List Move) (gs : List MoveResult) (mid : WorldState) (m : Move) (g : MoveResult) (new : WorldState) → RunsWorld tells armable old ms gs mid → MovesWorld tells armable mid m g new
    → RunsWorld tells armable old (ms ++ m ∷ []) (gs ++ g ∷ []) new
steps_push tells armable old [] [] mid m g new same next = (new, subst (λ (w : WorldState). MovesWorld tells armable w m g new) same next, refl)
steps_push tells armable old (n ∷ ms) (q ∷ gs) mid m g new (first, one, more) next = (first, one, steps_push tells armable first ms gs mid m g new more next)
steps_push tells armable old _ _ mid m g new none next = absurd none

-- at first none was made
pub making_none : (tells armable : Bool) (old : WorldState) (moves : List Move) → Making tells armable old moves 0 [] old
making_none tells armable old moves = record { steps = refl; runs = refl; causes = refl; log_causes = refl }

-- one more was made
pub making_more : (tells armable : Bool) (old : WorldState) (moves : List Move) (n : ℕ) (m : Move) (came : List Made) (mid : WorldState) (made : Made) (new : WorldState) → n < length moves → m ≡ get_or moves n m
    → Making tells armable old moves n came mid → MovesWorld tells armable mid m (given_of made) new → Making tells armable old moves (n + 1) (came ++ made ∷ []) new
making_more tells armable old moves n m came mid made new lt is making next =
    let more : take (n + 1) moves ≡ take n moves ++ m ∷ [] = take_more moves n m lt ∙ ap (λ (x : Move). take n moves ++ x ∷ []) (sym is) in
    let pushed = map_push given_of came made in
    let over = over_push tells (faults_of old.cells) old.core mid.core (take n moves) (map given_of came) m (given_of made) making.runs in
    let log_over = log_over_push tells old.recovery_log.faults old.core mid.core (take n moves) (map given_of came) m (given_of made) making.runs in
    record {
      steps = rw (more, pushed) (steps_push tells armable old (take n moves) (map given_of came) mid m (given_of made) new making.steps next);
      runs = rw (more, pushed) (runs_push tells old.core (take n moves) (map given_of came) mid.core m (given_of made) new.core making.runs next.moves);
      causes = rw (more, pushed) (next.causes ∙ (ap (λ (xs : List ℕ). faults_after xs (blamed m (given_of made))) making.causes ∙ sym over));
      log_causes = rw (more, pushed) (next.log_causes ∙ (ap (λ (x : ℕ). log_faults_after x (tells_log_fault m (given_of made))) making.log_causes ∙ sym log_over));
    }

-- ---- what holds on the way

-- a session that can make one request more can make the move
can_ask : (c : Core) → CanCountRequests c 1 → (m : Move) → CanAsk c m
can_ask c can (Schedule s r) = let le = can s in omega arith
can_ask c can (Read s b select) = let le = can s in omega arith
can_ask c can _ = tt

module _ (tells armable : Bool) (old : WorldState) (moves : List Move) (n : ℕ) (came : List Made) (now : WorldState)
    (world : IsWorld tells old) (are : All (IsMoveOfCluster old.core.placement.backends) moves) (count : CanCountRequests old.core (length moves)) (within : n ≤ length moves) (making : Making tells armable old moves n came now) where
  front_are : All (IsMoveOfCluster old.core.placement.backends) (take n moves)
  front_are = All-take (IsMoveOfCluster old.core.placement.backends) n moves are

  front_length : length (take n moves) ≡ n
  front_length = length-take-le n moves within

  front_count : CanCountRequests old.core (length (take n moves))
  front_count s = let can = count s in let e = front_length in omega arith

  grown : Grows (length (take n moves)) old.core now.core
  grown = runs_grow tells old.core (take n moves) (map given_of came) now.core making.runs

  -- the history has grown
  pub making_longer : IsPrefix old.core.history now.core.history
  making_longer = grown.longer

  -- and is legal
  pub making_legal : IsLegal now.core.history
  making_legal = (runs_sound tells old.core (take n moves) (map given_of came) now.core front_are front_count world.sound making.runs).legal

  -- the moves were made, and the replies to each session are a chain of turns
  pub making_run : HasRun tells armable old (take n moves) (map given_of came) now
  making_run =
      record {
        steps = making.steps;
        runs = making.runs;
        chains = run_chained tells old.core (take n moves) (map given_of came) now.core world.sound front_are front_count making.runs;
        causes = making.causes;
        log_causes = making.log_causes;
      }

  -- the next move can be asked for
  pub making_met : (m : Move) → n < length moves → m ≡ get_or moves n m → IsMet now.core m
  making_met m lt is =
      let room : CanCountRequests old.core (length (take n moves) + 1) = λ s. (let can = count s in let e = front_length in let le : (session_at old.core s).requests + (length (take n moves) + 1) ≤ 2 ^ 62 = omega arith in le) in
      let here : IsMoveOfCluster old.core.placement.backends m = subst (IsMoveOfCluster old.core.placement.backends) (sym is) (All-get_or (IsMoveOfCluster old.core.placement.backends) moves n m lt are) in
      (subst (λ (p : Placement). IsMoveOfCluster p.backends m) (sym grown.placement) here, can_ask now.core (can_count (length (take n moves)) 1 old.core now.core grown room) m)

  -- no more of them are, where the next one left at most bytes behind the items of the log
  pub making_part : (new : WorldState) → IsSameWorldButLog now new → new.recovery_log.faults ≡ now.recovery_log.faults → HasRunInPart tells armable old moves new
  making_part new same log_faults = record { count = n; within = within; given = map given_of came; stopped = now; run = making_run; same = same; log_faults = log_faults }
