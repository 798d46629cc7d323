-- What holds where a move can be made now.
use Rattle.std.proofs.Common.{◌≡◌, ◌≢◌, ℕ, zero, suc, ◌+◌, ◌-◌, ◌<◌, ◌≤◌, ◌==◌, ◌&&◌, cond, Bool, true, false, nat_lt, List, [], ◌∷◌, length, get_or, slice_get, Option, None, Some, is_some, is_none, refl, ap, sym, ◌∙◌, subst, arith, ⊎_elim}
use Rattle.std.proofs.lemmas.Bool.{eqb-true, eqb-false, cases_Bool, cond-true, cond-false, cond_both, not-true, not-false, and_parts, or_parts, ltb-true, ltb-false, and_cases, both_ways}
use Rattle.cj_cluster.proofs.Common.{Abort, Apply, Close, Disable, Enable, End, Entry, Event, Load, Mark, OpenRead, Read, Replay, Request, Schedule, Select, TakenDump, Why, has_marker, is_enabled, is_free, log, tx_of}
use Rattle.cj_cluster.specs.declared.moves.Reason.{Reason}
use Rattle.cj_cluster.specs.Moves.Cores.{Core, position_at, find_dump, hosts_beyond, session_at}
use Rattle.cj_cluster.specs.Moves.Moves.{reason_if, reason_of_dump, position_or_zero, first_lagging, reason_if_lagging, entry_numbered, is_orphan_of, is_orphan, not_now, is_open, is_waiting}

-- a reason that is none: the test is false, and no later reason is one
pub because_none : (t : Bool) (r : Reason) (v : ℕ) (otherwise : Option Why) → reason_if t r v otherwise ≡ None → (t ≡ false) × (otherwise ≡ None)
because_none true r v otherwise e = absurd (cc e)
because_none false r v otherwise e = (refl, e)

-- a backend that is not out stands at its place
stands_at : (p : Option ℕ) → is_none p ≡ false → p ≡ Some (position_or_zero p)
stands_at None e = absurd (cc e)
stands_at (Some p) e = refl

-- a session that reads nothing has no open read
no_read : (r : Option OpenRead) → is_some r ≡ false → r ≡ None
no_read None e = refl
no_read (Some r) e = absurd (cc e)

-- the session is open, and waits for no reply
pub record CanClose (c : Core) (s : ℕ) : Type 0 where
  pub here : is_open c s ≡ true
  pub idle : is_waiting c s ≡ false
  pub no_read : (session_at c s).reading ≡ None

-- what a Close that can be made now says
pub can_close : (c : Core) (s : ℕ) → not_now c (Close s) ≡ None → CanClose c s
can_close c s e =
    let p = because_none _ _ _ _ e in
    let q = because_none _ _ _ _ p.1 in
    let o = or_parts _ _ q.0 in
    record { here = not-false _ p.0; idle = o.0; no_read = no_read _ o.1 }

-- the session is open and waits for no reply, and no entry is open
pub record CanSchedule (c : Core) (s : ℕ) : Type 0 where
  pub here : is_open c s ≡ true
  pub idle : is_waiting c s ≡ false
  pub no_read : (session_at c s).reading ≡ None
  pub is_free : is_free c.history ≡ true

-- what a Schedule that can be made now says
pub can_schedule : (c : Core) (s : ℕ) (r : Request) → not_now c (Schedule s r) ≡ None → CanSchedule c s
can_schedule c s r e =
    let p = because_none _ _ _ _ e in
    let q = because_none _ _ _ _ p.1 in
    let f = because_none _ _ _ _ q.1 in
    let o = or_parts _ _ q.0 in
    record { here = not-false _ p.0; idle = o.0; no_read = no_read _ o.1; is_free = not-false _ f.0 }

-- an entry that has a number stands at the place before it
pub numbered_at : (entries : List Entry) (n : ℕ) (e : Entry) → entry_numbered entries n ≡ Some e → (n ≢ 0) × (slice_get entries (n - 1) ≡ Some e)
numbered_at entries n e is =
    ⊎_elim (λ (z : (n == 0) ≡ true). absurd (cc (sym (cond-true (n == 0) None (slice_get entries (n - 1)) z) ∙ is)))
    (λ (some : (n == 0) ≡ false). (eqb-false n 0 some, sym (cond-false (n == 0) None (slice_get entries (n - 1)) some) ∙ is)) (cases_Bool (n == 0))

-- an orphan's first entry
pub record Orphan (c : Core) (tx : ℕ) (o : Option Entry) : Type 0 where
  pub begin : Entry
  pub is : o ≡ Some begin
  pub of_session : tx_of (log c.history) begin.session ≡ tx
  pub gone : is_open c begin.session ≡ false

pub orphan_of : (c : Core) (tx : ℕ) (o : Option Entry) → is_orphan_of c tx o ≡ true → Orphan c tx o
orphan_of c tx None t = absurd (cc t)
orphan_of c tx (Some begin) t = let both = and_parts _ _ t in record { begin = begin; is = refl; of_session = eqb-true _ _ both.0; gone = not-true _ both.1 }

-- the transaction that an entry began is open, its session isn't, and no entry is open
pub record CanAbort (c : Core) (tx : ℕ) : Type 0 where
  pub orphan : is_orphan c tx ≡ true
  pub begin : Entry
  pub numbered : entry_numbered (log c.history) tx ≡ Some begin
  pub some : tx ≢ 0
  pub began : slice_get (log c.history) (tx - 1) ≡ Some begin
  pub of_session : tx_of (log c.history) begin.session ≡ tx
  pub gone : is_open c begin.session ≡ false
  pub is_free : is_free c.history ≡ true

-- what an Abort that can be made now says
pub can_abort : (c : Core) (tx : ℕ) → not_now c (Abort tx) ≡ None → CanAbort c tx
can_abort c tx e =
    let p = because_none _ _ _ _ e in
    let q = because_none _ _ _ _ p.1 in
    let o = orphan_of c tx (entry_numbered (log c.history) tx) (not-false _ p.0) in
    let at = numbered_at (log c.history) tx o.begin o.is in
    record { orphan = not-false _ p.0; begin = o.begin; numbered = o.is; some = at.0; began = at.1; of_session = o.of_session; gone = o.gone; is_free = not-false _ q.0 }

-- an entry is open, and the backend is enabled, not out and not yet at the log's end
pub record CanApply (c : Core) (b : ℕ) : Type 0 where
  pub is_running : is_free c.history ≡ false
  pub on : is_enabled c.history b ≡ true
  pub at : position_at c b ≡ Some (position_or_zero (position_at c b))
  pub more : position_or_zero (position_at c b) ≢ length (log c.history)

-- what an Apply that can be made now says
pub can_apply : (c : Core) (b : ℕ) → not_now c (Apply b) ≡ None → CanApply c b
can_apply c b e =
    let p = because_none _ _ _ _ e in
    let q = because_none _ _ _ _ p.1 in
    let r = because_none _ _ _ _ q.1 in
    let s = because_none _ _ _ _ r.1 in
    record { is_running = p.0; on = not-false _ q.0; at = stands_at _ r.0; more = eqb-false _ _ s.0 }

-- an entry is open, and no enabled backend is behind
pub record CanEnd (c : Core) : Type 0 where
  pub is_running : is_free c.history ≡ false
  pub none_behind : first_lagging c.history 0 c.positions ≡ None

-- no reason where no backend is behind
because_behind_none : (o : Option ℕ) → reason_if_lagging o ≡ None → o ≡ None
because_behind_none None e = refl
because_behind_none (Some p) e = absurd (cc e)

-- what an End that can be made now says
pub can_end : (c : Core) → not_now c End ≡ None → CanEnd c
can_end c e =
    let p = because_none _ _ _ _ e in
    record { is_running = p.0; none_behind = because_behind_none _ p.1 }

-- the session is open, and its own entry is not
pub record CanRead (c : Core) (s : ℕ) : Type 0 where
  pub here : is_open c s ≡ true
  pub idle : is_waiting c s ≡ false

-- what a Read that can be made now says
pub can_read : (c : Core) (s b : ℕ) (select : Select) → not_now c (Read s b select) ≡ None → CanRead c s
can_read c s b select e =
    let p = because_none _ _ _ _ e in
    let q = because_none _ _ _ _ p.1 in
    record { here = not-false _ p.0; idle = q.0 }

-- no entry is open, and the backend is enabled
pub record CanDisable (c : Core) (b : ℕ) : Type 0 where
  pub is_free : is_free c.history ≡ true
  pub on : is_enabled c.history b ≡ true

-- what a Disable that can be made now says
pub can_disable : (c : Core) (b : ℕ) → not_now c (Disable b) ≡ None → CanDisable c b
can_disable c b e =
    let p = because_none _ _ _ _ e in
    let q = because_none _ _ _ _ p.1 in
    record { is_free = not-false _ p.0; on = not-false _ q.0 }

-- the backend is not enabled, not out and not yet at the log's end
pub record CanReplay (c : Core) (b : ℕ) : Type 0 where
  pub off : is_enabled c.history b ≡ false
  pub at : position_at c b ≡ Some (position_or_zero (position_at c b))
  pub more : position_or_zero (position_at c b) ≢ length (log c.history)

-- what a Replay that can be made now says
pub can_replay : (c : Core) (b : ℕ) → not_now c (Replay b) ≡ None → CanReplay c b
can_replay c b e =
    let p = because_none _ _ _ _ e in
    let q = because_none _ _ _ _ p.1 in
    let r = because_none _ _ _ _ q.1 in
    record { off = p.0; at = stands_at _ q.0; more = eqb-false _ _ r.0 }

-- no entry is open, and the backend is not enabled, and at the log's end
pub record CanEnable (c : Core) (b : ℕ) : Type 0 where
  pub is_free : is_free c.history ≡ true
  pub off : is_enabled c.history b ≡ false
  pub at : position_at c b ≡ Some (length (log c.history))

-- what an Enable that can be made now says
pub can_enable : (c : Core) (b : ℕ) → not_now c (Enable b) ≡ None → CanEnable c b
can_enable c b e =
    let p = because_none _ _ _ _ e in
    let q = because_none _ _ _ _ p.1 in
    let r = because_none _ _ _ _ q.1 in
    let s = because_none _ _ _ _ r.1 in
    record { is_free = not-false _ p.0; off = q.0; at = stands_at _ r.0 ∙ ap (λ x. Some x) (eqb-true _ _ (not-false _ s.0)) }

-- no entry is open, and no marker has the name
pub record CanMark (c : Core) (name : List ℕ) : Type 0 where
  pub is_free : is_free c.history ≡ true
  pub fresh : has_marker c.history name ≡ false

-- what a Mark that can be made now says
pub can_mark : (c : Core) (name : List ℕ) → not_now c (Mark name) ≡ None → CanMark c name
can_mark c name e =
    let p = because_none _ _ _ _ e in
    let q = because_none _ _ _ _ p.1 in
    record { is_free = not-false _ p.0; fresh = (or_parts _ _ q.0).0 }

-- no entry is open, the backend is out and not enabled, and a dump of the name covers its tables
pub record CanLoad (c : Core) (b : ℕ) (name : List ℕ) : Type 0 where
  pub is_free : is_free c.history ≡ true
  pub off : is_enabled c.history b ≡ false
  pub taken : TakenDump
  pub found : find_dump c.dumps name ≡ Some taken
  pub out : position_at c b ≡ None
  pub covered : hosts_beyond c.placement b taken.source ≡ false

-- a dump has the name, and nothing keeps it from being loaded
dump_there : (o : Option TakenDump) (otherwise : TakenDump → Option Why) → reason_of_dump o otherwise ≡ None → (d : TakenDump) × (o ≡ Some d) × (otherwise d ≡ None)
dump_there None otherwise e = absurd (cc e)
dump_there (Some d) otherwise e = (d, refl, e)

-- a backend that is out stands nowhere
stands_nowhere : (o : Option ℕ) → is_some o ≡ false → o ≡ None
stands_nowhere None e = refl
stands_nowhere (Some n) e = absurd (cc e)

-- what a Load that can be made now says
pub can_load : (c : Core) (b : ℕ) (name : List ℕ) → not_now c (Load b name) ≡ None → CanLoad c b name
can_load c b name e =
    let p = because_none _ _ _ _ e in
    let q = because_none _ _ _ _ p.1 in
    let d = dump_there (find_dump c.dumps name) _ q.1 in
    let r = because_none _ _ _ _ d.2 in
    let s = because_none _ _ _ _ r.1 in
    record { is_free = not-false _ p.0; off = q.0; taken = d.0; found = d.1; out = stands_nowhere _ r.0; covered = s.0 }

-- ---- nobody is behind

-- a choice that gives nothing: the test is false, and the other branch gives nothing
cond_none : (t : Bool) (x : ℕ) (otherwise : Option ℕ) → cond t (Some x) otherwise ≡ None → (t ≡ false) × (otherwise ≡ None)
cond_none true x otherwise e = absurd (cc e)
cond_none false x otherwise e = (refl, e)

-- Where none of the positions, which are those of the backends from n on, is behind, each enabled backend that is not out is at the log's end.
pub behind_from : (h : List Event) (n : ℕ) (ps : List (Option ℕ)) → first_lagging h n ps ≡ None
    → (i q : ℕ) → get_or ps i None ≡ Some q → is_enabled h (n + i) ≡ true → length (log h) ≤ q
behind_from h n [] none i q is on = absurd (cc is)
behind_from h n (None ∷ ps) none zero q is on = absurd (cc is)
behind_from h n (None ∷ ps) none (suc i) q is on = behind_from h (n + 1) ps none i q is (let e : n + 1 + i ≡ n + suc i = omega arith in rw e on)
behind_from h n (Some p ∷ ps) none zero q is on =
    let same : p ≡ q = cc is in
    let t = (cond_none (is_enabled h n && nat_lt p (length (log h))) p (first_lagging h (n + 1) ps) none).0 in
    let e : n + 0 ≡ n = omega arith in
    let now : is_enabled h n ≡ true = subst (λ (x : ℕ). is_enabled h x ≡ true) e on in
    ⊎_elim (λ (off : is_enabled h n ≡ false). absurd (both_ways (is_enabled h n) off now))
    (λ (ge : nat_lt p (length (log h)) ≡ false). let le : length (log h) ≤ p = ltb-false _ _ ge in omega arith)
    (and_cases _ _ t)
behind_from h n (Some p ∷ ps) none (suc i) q is on =
    behind_from h (n + 1) ps (cond_none (is_enabled h n && nat_lt p (length (log h))) p (first_lagging h (n + 1) ps) none).1 i q is (let e : n + 1 + i ≡ n + suc i = omega arith in rw e on)

-- the same of all positions
pub behind_none : (h : List Event) (ps : List (Option ℕ)) → first_lagging h 0 ps ≡ None
    → (b q : ℕ) → get_or ps b None ≡ Some q → is_enabled h b ≡ true → length (log h) ≤ q
behind_none h ps none b q is on = behind_from h 0 ps none b q is (let e : 0 + b ≡ b = omega arith in rw e on)

-- And where each enabled backend that is not out, of those from n on, is at the log's end, none of these positions is behind.
pub all_at_end : (h : List Event) (n : ℕ) (ps : List (Option ℕ)) → ((i q : ℕ) → get_or ps i None ≡ Some q → is_enabled h (n + i) ≡ true → q ≡ length (log h)) → first_lagging h n ps ≡ None
all_at_end h n [] at_end = refl
all_at_end h n (None ∷ ps) at_end = all_at_end h (n + 1) ps (λ i q is on. at_end (suc i) q is (let e : n + suc i ≡ n + 1 + i = omega arith in rw e on))
all_at_end h n (Some p ∷ ps) at_end =
    let rest : first_lagging h (n + 1) ps ≡ None = all_at_end h (n + 1) ps (λ i q is on. at_end (suc i) q is (let e : n + suc i ≡ n + 1 + i = omega arith in rw e on)) in
    cond_both (is_enabled h n && nat_lt p (length (log h))) (Some p) (first_lagging h (n + 1) ps) (λ o. o ≡ None)
    (λ t.
    let both = and_parts (is_enabled h n) (nat_lt p (length (log h))) t in
    let e : n + 0 ≡ n = omega arith in
    let same : p ≡ length (log h) = at_end 0 p refl (rw e both.0) in
    let lt : p < length (log h) = ltb-true p (length (log h)) both.1 in
    absurd (omega arith))
    (λ f. rest)
