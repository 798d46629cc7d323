-- One round more, and how a workload begins.
use Rattle.std.proofs.Common.{◌≡◌, ◌∙◌, refl, sym, ap, subst, ℕ, suc, ◌+◌, ◌<◌, add-one, Bool, true, false, cond, List, [], ◌∷◌, Option, Some, nat_lt}
use Rattle.cj_core.proofs.Common.{All-nil, opened_for, session_at-is, session_of-push_same}
use Rattle.cj_workload.proofs.Common.{All, and_parts, find, hosts, Lcg, ltb-true, Placement, range_with_len, SoloState}
use Rattle.cj_model.specs.declared.request.Request.{Request}
use Rattle.cj_cluster.specs.declared.moves.OpenSession.{OpenSession}
use Rattle.cj_cluster.specs.Moves.Cores.{Core, find_session, new_session, session_at}
use Rattle.cj_workload.specs.Statements.{generator_after_step, generator_behind, next_statement, statement_of, table_name}
use Rattle.cj_workload.specs.Workloads.{PlaysRound, PlaysRounds, first_host}

-- ---- rounds

-- the draws of a statement more
pub draws_more : (seed n : ℕ) (g h : Lcg) → g ≡ generator_behind seed n → h ≡ generator_after_step g (n + 1) → h ≡ generator_behind seed (n + 1)
draws_more seed n g h is later =
    let e : n + 1 ≡ suc n = add-one n in
    let to : h ≡ generator_after_step (generator_behind seed n) (suc n) = later ∙ (ap (λ (k : ℕ). generator_after_step g k) e ∙ ap (λ (x : Lcg). generator_after_step x (suc n)) is) in
    subst (λ (k : ℕ). h ≡ generator_behind seed k) (sym e) to

-- a round more
pub rounds_more : (tells armable : Bool) (seed n : ℕ) (a m z : SoloState) (g : Lcg) (r : Request) → g ≡ generator_behind seed n → r ≡ statement_of g (n + 1)
    → PlaysRounds tells armable seed n a m → PlaysRound tells armable (n + 1) r m z → PlaysRounds tells armable seed (n + 1) a z
rounds_more tells armable seed n a m z g r is drawn plays round =
    let e : n + 1 ≡ suc n = add-one n in
    let same : r ≡ next_statement seed n = drawn ∙ (ap (λ (k : ℕ). statement_of g k) e ∙ ap (λ (x : Lcg). statement_of x (suc n)) is) in
    let next : PlaysRound tells armable (suc n) (next_statement seed n) m z =
    subst (λ (k : ℕ). PlaysRound tells armable k (next_statement seed n) m z) e (subst (λ (q : Request). PlaysRound tells armable (n + 1) q m z) same round) in
    subst (λ (k : ℕ). PlaysRounds tells armable seed k a z) (sym e) (m, plays, next)

-- ---- the beginning

found_by : (p : ℕ → Bool) (x b : ℕ) (rest : Option ℕ) (t : Bool) → t ≡ p x → (rest ≡ Some b → p b ≡ true) → cond t (Some x) rest ≡ Some b → p b ≡ true
found_by p x b rest true e later h = let same : x ≡ b = cc h in ap p (sym same) ∙ sym e
found_by p x b rest false e later h = later h

-- what is found passes
pub found_passes : (p : ℕ → Bool) (xs : List ℕ) (b : ℕ) → find p xs ≡ Some b → p b ≡ true
found_passes p [] b h = cc h
found_passes p (x ∷ xs) b h = found_by p x b (find p xs) (p x) refl (found_passes p xs b) h

pub host_within : (p : Placement) (b : ℕ) → first_host p ≡ Some b → b < p.backends
host_within p b h = ltb-true b p.backends (and_parts (nat_lt b p.backends) _ (found_passes (λ (k : ℕ). hosts p k table_name) (range_with_len 0 p.backends) b h)).0

-- a session that has just begun has made no request
pub none_asked : (c : Core) → c.sessions ≡ [] → (session_at (opened_for c []) (c.greatest + 1)).requests ≡ 0
none_asked c none =
    let y : OpenSession = new_session (c.greatest + 1) [] in
    let below : All (λ (x : OpenSession). x.number < y.number) c.sessions = subst (λ (l : List OpenSession). All (λ (x : OpenSession). x.number < y.number) l) (sym none) (All-nil (λ (x : OpenSession). x.number < y.number)) in
    let found : find_session (opened_for c []).sessions (c.greatest + 1) ≡ Some y = session_of-push_same c.sessions y below in
    ap (λ (x : OpenSession). x.requests) (session_at-is (opened_for c []) (c.greatest + 1) (Some y) found)
