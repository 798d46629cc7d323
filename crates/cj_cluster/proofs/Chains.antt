-- The replies to a session in a list of moves are a chain of turns.
use Rattle.std.proofs.Common.{◌≡◌, ℕ, ◌+◌, ◌<◌, ◌≤◌, ◌^◌, Bool, List, [], ◌∷◌, ◌++◌, length, Option, None, Some, All, refl, ap, sym, subst, arith}
use Rattle.cj_cluster.proofs.Common.{All-head, All-tail, Core, CoreInvariant, Move, Placement, Reply, session_at}
use Rattle.cj_cluster.specs.History.Turns.{SessionView, Chain}
use Rattle.cj_cluster.specs.Moves.Moves.{MoveResult, MovesTo}
use Rattle.cj_cluster.specs.Moves.Runs.{RunsMoves, IsMoveOfCluster, CanCountRequests, IsBetweenReplies, AreBetween, IsChained, last_seen, reply_given, call_at, calls_at, seen_at, seen_after}
use Rattle.cj_cluster.proofs.Soundness.{moves_sound}
use Rattle.cj_cluster.proofs.Growth.{can_count, moves_grow}
use Rattle.cj_cluster.proofs.Answered.{After, moves_after}

-- a move and then a chain are a chain
chain_on : (tells : Bool) (s : ℕ) (c mid z : Core) (m : Move) (g : MoveResult) (ms : List Move) (gs : List MoveResult) (a : SessionView) → MovesTo tells c m g mid → mid.placement ≡ c.placement
    → ((b : SessionView) → IsBetweenReplies b mid s → IsChained tells s mid ms gs z b) → (o : Option Reply) → reply_given c s m g ≡ o → After tells a c s m mid o → IsChained tells s c (m ∷ ms) (g ∷ gs) z a
chain_on tells s c mid z m g ms gs a moves same next None is after =
    let q = next a after in
    record {
      calls = q.calls;
      seen = q.seen;
      runs = (mid, q.calls, q.seen, moves, sym (ap (λ o. calls_at c s m o ++ q.calls) is), sym (ap (λ o. seen_after mid s o ++ q.seen) is), q.runs);
      chain = subst (λ (p : Placement). Chain tells p s a q.calls q.seen) same q.chain;
      between = q.between;
    }
chain_on tells s c mid z m g ms gs a moves same next (Some reply) is after =
    let q = next (seen_at mid s) after.1 in
    record {
      calls = call_at c s m reply ∷ q.calls;
      seen = seen_at mid s ∷ q.seen;
      runs = (mid, q.calls, q.seen, moves, sym (ap (λ o. calls_at c s m o ++ q.calls) is), sym (ap (λ o. seen_after mid s o ++ q.seen) is), q.runs);
      chain = (after.0, subst (λ (p : Placement). Chain tells p s (seen_at mid s) q.calls q.seen) same q.chain);
      between = q.between;
    }

-- Each session is answered by a chain of turns in every list of moves, from what it has seen and wherever the list begins and ends within its calls.
pub run_chained : (tells : Bool) (c : Core) (ms : List Move) (gs : List MoveResult) (z : Core) → CoreInvariant c → All (IsMoveOfCluster c.placement.backends) ms → CanCountRequests c (length ms) → RunsMoves tells c ms gs z
    → (s : ℕ) (a : SessionView) → 0 < s → IsBetweenReplies a c s → IsChained tells s c ms gs z a
run_chained tells c [] [] z w are count runs s a some j =
    record { calls = []; seen = []; runs = (runs, refl, refl); chain = tt; between = subst (λ (x : Core). IsBetweenReplies a x s) runs j }
run_chained tells c (m ∷ ms) (g ∷ gs) z w are count runs s a some j =
    let mid : Core = runs.0 in
    let grows = moves_grow tells c m g mid runs.1 in
    let once : CanCountRequests c 1 = λ k. (let can = count k in let le : (session_at c k).requests + 1 ≤ 2 ^ 62 = omega arith in le) in
    let more : CanCountRequests c (1 + length ms) = λ k. (let can = count k in let le : (session_at c k).requests + (1 + length ms) ≤ 2 ^ 62 = omega arith in le) in
    let v : CoreInvariant mid = moves_sound tells c m g mid (All-head (IsMoveOfCluster c.placement.backends) m ms are) once w runs.1 in
    let rest : All (IsMoveOfCluster mid.placement.backends) ms =
    subst (λ (p : Placement). All (IsMoveOfCluster p.backends) ms) (sym grows.placement) (All-tail (IsMoveOfCluster c.placement.backends) m ms are)
    in
    chain_on tells s c mid z m g ms gs a runs.1 grows.placement (λ b i. run_chained tells mid ms gs z v rest (can_count 1 (length ms) c mid grows more) runs.2 s b some i) (reply_given c s m g) refl
    (moves_after tells a c mid s some w v j m g runs.1)
run_chained tells c [] (g ∷ gs) z w are count runs s a some j = absurd runs
run_chained tells c (m ∷ ms) [] z w are count runs s a some j = absurd runs

-- So each session stands between two replies after every list of moves, where it did before.
pub runs_between : (tells : Bool) (c : Core) (ms : List Move) (gs : List MoveResult) (z : Core) → CoreInvariant c → All (IsMoveOfCluster c.placement.backends) ms → CanCountRequests c (length ms) → RunsMoves tells c ms gs z → AreBetween c → AreBetween z
runs_between tells c ms gs z w are count runs between s some =
    let q = between s some in
    let chained = run_chained tells c ms gs z w are count runs s q.0 some q.1 in
    (last_seen q.0 chained.seen, chained.between)
