-- The next entry of a session, and what a schedule gives.
use Rattle.std.proofs.Common.{◌≡◌, ◌≢◌, ℕ, ◌+◌, ◌-◌, ◌<◌, true, List, slice_get, None, Some, ap, sym, ◌∙◌, arith}
use Rattle.cj_state.proofs.Common.{Act, Core, CoreInvariant, Entry, find_session, IsFitEntry, log, OpenSession, request_of, session_at}
use Rattle.cj_model.specs.declared.request.Act.TheVariants as act
use Rattle.cj_model.specs.declared.limits.TheConstants.{REQUEST_LIMIT}
use Rattle.cj_model.specs.Sql.WrittenRequests.{IsWritten}
use Rattle.cj_cluster.specs.Moves.Moves.{is_open, is_orphan, entry_numbered, user_of, forbidden_by, tx_of_act, open_tx, next_entry, abort_entry}
use Rattle.cj_cluster.proofs.Now.{numbered_at, orphan_of}
use Rattle.cj_cluster.proofs.Sessions.{session_at-is}
use Rattle.cj_cluster.proofs.Soundness.{allowed_tx, entry_fits}

-- ---- the next entry

pub next_is : (c : Core) (s : ℕ) (a : Act) (x : OpenSession) (tx : ℕ) (user : List ℕ) → find_session c.sessions s ≡ Some x → tx ≡ tx_of_act (open_tx c s) a → user ≡ x.user
    → record { session = s; seq = x.requests + 1; tx = tx; user = user; act = a } ≡ next_entry c s a
next_is c s a x tx user is tx_is user_is =
    let same : x ≡ session_at c s = sym (session_at-is c s (Some x) is) in
    ap (λ (t : ℕ). record { session = s; seq = x.requests + 1; tx = t; user = user; act = a }) tx_is
    ∙ (ap (λ (u : List ℕ). record { session = s; seq = x.requests + 1; tx = tx_of_act (open_tx c s) a; user = u; act = a }) user_is
    ∙ ap (λ (y : OpenSession). record { session = s; seq = y.requests + 1; tx = tx_of_act (open_tx c s) a; user = y.user; act = a }) same)

-- it may be scheduled
pub next_fits : (c : Core) (s : ℕ) (a : Act) → CoreInvariant c → IsWritten (request_of a) → is_open c s ≡ true → (session_at c s).requests < REQUEST_LIMIT → forbidden_by (open_tx c s) a ≡ None
    → IsFitEntry (log c.history) (next_entry c s a)
next_fits c s a w written here count allowed = entry_fits c s a written (allowed_tx (open_tx c s) a allowed) count w here

-- the end of an orphan
pub abort_is : (c : Core) (tx : ℕ) (begin : Entry) (user : List ℕ) → is_orphan c tx ≡ true → (0 < tx → Some begin ≡ slice_get (log c.history) (tx - 1)) → user ≡ begin.user
    → record { session = 0; seq = 0; tx = tx; user = user; act = act.Abort } ≡ abort_entry c tx
abort_is c tx begin user orphan there is =
    let o = orphan_of c tx (entry_numbered (log c.history) tx) orphan in
    let at = numbered_at (log c.history) tx o.begin o.is in
    let some : tx ≢ 0 = at.0 in
    let same : begin ≡ o.begin = cc (there (omega arith), at.1) in
    ap (λ (u : List ℕ). record { session = 0; seq = 0; tx = tx; user = u; act = act.Abort }) (is ∙ (ap (λ (e : Entry). e.user) same ∙ sym (ap user_of o.is)))
