-- What is known of sessions, with one more entry of the log.
use Rattle.std.proofs.Common.{◌≡◌, ◌≢◌, ℕ, ◌+◌, ◌-◌, ◌<◌, ◌≤◌, ◌==◌, true, false, List, [], ◌∷◌, ◌++◌, length, slice_get, unwrap_or, None, Some, All, refl, ap, sym, ◌∙◌, subst, arith, length-append, ⊎_elim}
use Rattle.std.specs.Option.{option_map}
use Rattle.std.specs.Ordering.{nat_cmp}
use Rattle.std.specs.BTreeMap.{BTreeMap, get, is_at}
use Rattle.std.proofs.lemmas.Bool.{cases_eq, eq-eqb, ne_eqb, cond-true, cond-false}
use Rattle.std.proofs.lemmas.Bool.Decides.{nat_tests}
use Rattle.std.proofs.lemmas.List.{get_or_push, get_or_append_left}
use Rattle.std.proofs.lemmas.List.Elements.{All-push, All-weaker}
use Rattle.cj_recovery.proofs.Common.{Act, Entry, FitsTx, IsAdministratorEntry, IsFitEntry, IsSessionEntry, SessionSoFar}
use Rattle.cj_model.specs.declared.request.Act.TheVariants as act
use Rattle.cj_model.specs.declared.limits.TheConstants.{REQUEST_LIMIT, SESSION_NUMBER_LIMIT}
use Rattle.cj_cluster.specs.History.Histories.{tx_of}
use Rattle.cj_cluster.specs.History.Transactions.{is_begin, is_end}
use Rattle.cj_cluster.specs.Moves.Moves.{entry_numbered}
use Rattle.cj_cluster.proofs.TransactionLaws.{one_session, tx_of_begin, tx_of_begin_other, tx_of_end, tx_of_end_other, tx_of_else}
use Rattle.cj_recovery.specs.Proving.Keeping.{IsNextSeq, session_in, tx_behind, KeepsRequests, owner_of, session_behind}

-- ---- the entry of a number

pub numbered_entry : (entries : List Entry) (i : ℕ) → entry_numbered entries (i + 1) ≡ slice_get entries i
numbered_entry entries i =
    let ne : i + 1 ≢ 0 = omega arith in
    let e : i + 1 - 1 ≡ i = omega arith in
    cond-false (i + 1 == 0) None (slice_get entries (i + 1 - 1)) (ne_eqb (i + 1) 0 ne) ∙ ap (λ n. slice_get entries n) e

-- ---- the administrator's end

-- and only there
pub administrators_begin : (entries : List Entry) (e : Entry) (a : IsAdministratorEntry entries e) → entry_numbered entries e.tx ≡ Some a.begin
administrators_begin entries e a = ap (entry_numbered entries) a.tx ∙ (numbered_entry entries a.at ∙ a.began)

-- ---- the next request of a session

-- the entry is newer than those before it exactly where its number is not below the next
pub newer_from : (entries : List Entry) (e : Entry) (n : ℕ) → IsNextSeq entries e.session n → n ≤ e.seq → All (λ (d : Entry). d.session ≡ e.session → d.seq < e.seq) entries
newer_from entries e n next le =
    All-weaker (λ (d : Entry). d.session ≡ e.session → d.seq < n) (λ (d : Entry). d.session ≡ e.session → d.seq < e.seq) (λ d lt same. (let below = lt same in let goal : d.seq < e.seq = omega arith in goal)) entries next.above

module _ (entries : List Entry) (e : Entry) (s : ℕ) where
  abbrev more : List Entry
  more = entries ++ e ∷ []

  -- what holds of all entries holds of those before the last, and of the last
  all_before : (P : Entry → Type 0) → All P more → All P entries
  all_before P all k d lt =
      let n : length more ≡ length entries + 1 = length-append entries (e ∷ []) in
      subst P (get_or_append_left entries (e ∷ []) d k lt) (all k d (omega arith))

  all_last : (P : Entry → Type 0) → All P more → P e
  all_last P all = let n : length more ≡ length entries + 1 = length-append entries (e ∷ []) in subst P (get_or_push entries e e (length entries) refl) (all (length entries) e (omega arith))

  -- an entry of another session leaves it
  next_other : (n : ℕ) → e.session ≢ s → IsNextSeq entries s n → IsNextSeq more s n
  next_other n ne next = record {
    above = All-push (λ (d : Entry). d.session ≡ s → d.seq < n) entries e next.above (λ same. absurd (ne same));
    least = λ m all. next.least m (all_before (λ (d : Entry). d.session ≡ s → d.seq < m) all);
  }

  -- one of its own is the greatest
  next_own : e.session ≡ s → All (λ (d : Entry). d.session ≡ s → d.seq < e.seq) entries → IsNextSeq more s (e.seq + 1)
  next_own same newer = record {
    above = All-push (λ (d : Entry). d.session ≡ s → d.seq < e.seq + 1) entries e
        (All-weaker (λ (d : Entry). d.session ≡ s → d.seq < e.seq) (λ (d : Entry). d.session ≡ s → d.seq < e.seq + 1) (λ d lt own. (let below = lt own in let goal : d.seq < e.seq + 1 = omega arith in goal)) entries newer)
        (λ own. omega arith);
    least = λ m all. (let lt : e.seq < m = all_last (λ (d : Entry). d.session ≡ s → d.seq < m) all same in let goal : e.seq + 1 ≤ m = omega arith in goal);
  }

-- ---- the owner of a transaction

-- what an entry does to the transaction of its owner, and that it leaves all others
pub record Owns (entries : List Entry) (e : Entry) (owner : ℕ) : Type 0 where
  pub own : tx_of (entries ++ e ∷ []) owner ≡ tx_behind (length entries + 1) (tx_of entries owner) e.act
  pub others : (s : ℕ) → s ≢ owner → tx_of (entries ++ e ∷ []) s ≡ tx_of entries s

module _ (entries : List Entry) (e : Entry) (owner : ℕ) where
  -- BEGIN of the owner
  owns_begin : e.act ≡ act.Begin → e.session ≡ owner → Owns entries e owner
  owns_begin is same = record {
    own = ap (tx_of (entries ++ e ∷ [])) (sym same) ∙ (tx_of_begin entries e is ∙ sym (ap (tx_behind (length entries + 1) (tx_of entries owner)) is));
    others = λ s ne. tx_of_begin_other entries e s is (λ q. ne (sym q ∙ same));
  }

  -- an end of its transaction
  owns_end : is_end e.act ≡ true → e.tx ≢ 0 → e.tx ≡ tx_of entries owner → Owns entries e owner
  owns_end is some tx = record {
    own = tx_of_end entries e owner is tx ∙ sym (ended e.act is);
    others = λ s ne. tx_of_end_other entries e s is (λ q. ne (sym (one_session entries owner s (sym tx ∙ q) (λ z. some (tx ∙ z)))));
  }
    where
      ended : (a : Act) → is_end a ≡ true → tx_behind (length entries + 1) (tx_of entries owner) a ≡ 0
      ended act.Begin is = absurd (cc is)
      ended (act.Write w) is = absurd (cc is)
      ended (act.Create c) is = absurd (cc is)
      ended (act.Drop table) is = absurd (cc is)
      ended act.Commit is = refl
      ended act.Abort is = refl

  -- another act
  owns_else : is_begin e.act ≡ false → is_end e.act ≡ false → tx_behind (length entries + 1) (tx_of entries owner) e.act ≡ tx_of entries owner → Owns entries e owner
  owns_else is on same = record { own = tx_of_else entries e owner is on ∙ sym same; others = λ s ne. tx_of_else entries e s is on }

-- the entry of a session
owns_session : (entries : List Entry) (e : Entry) → IsSessionEntry entries e → Owns entries e e.session
owns_session entries e s = one e.act refl s.tx
  where
    one : (a : Act) → e.act ≡ a → FitsTx (tx_of entries e.session) e.tx a → Owns entries e e.session
    one act.Begin is fits = owns_begin entries e e.session is refl
    one (act.Write w) is fits = owns_else entries e e.session (ap is_begin is) (ap is_end is) (ap (tx_behind (length entries + 1) (tx_of entries e.session)) is)
    one (act.Create c) is fits = owns_else entries e e.session (ap is_begin is) (ap is_end is) (ap (tx_behind (length entries + 1) (tx_of entries e.session)) is)
    one (act.Drop table) is fits = owns_else entries e e.session (ap is_begin is) (ap is_end is) (ap (tx_behind (length entries + 1) (tx_of entries e.session)) is)
    one act.Commit is fits = owns_end entries e e.session (ap is_end is) fits.0 fits.1
    one act.Abort is fits = owns_end entries e e.session (ap is_end is) fits.0 fits.1

-- the administrator's end
owns_administrator : (entries : List Entry) (e : Entry) (a : IsAdministratorEntry entries e) → Owns entries e a.begin.session
owns_administrator entries e a = owns_end entries e a.begin.session (ap is_end a.aborts) (let n = a.tx in omega arith) (sym a.is_open)

owner_session : (entries : List Entry) (e : Entry) → 0 < e.session → owner_of entries e ≡ e.session
owner_session entries e some =
    cond-false (e.session == 0) (unwrap_or (option_map (λ (d : Entry). d.session) (entry_numbered entries e.tx)) 0) e.session (ne_eqb e.session 0 (λ z. omega (arith, some, z)))

owner_administrator : (entries : List Entry) (e : Entry) (a : IsAdministratorEntry entries e) → owner_of entries e ≡ a.begin.session
owner_administrator entries e a =
    cond-true (e.session == 0) (unwrap_or (option_map (λ (d : Entry). d.session) (entry_numbered entries e.tx)) 0) e.session (eq-eqb e.session 0 a.session)
    ∙ ap (λ o. unwrap_or (option_map (λ (d : Entry). d.session) o) 0) (administrators_begin entries e a)

-- ---- all sessions

module _ (entries : List Entry) (e : Entry) (sessions new : BTreeMap ℕ SessionSoFar) (owner : ℕ) (k : KeepsRequests entries sessions)
    (here : session_in new owner ≡ session_behind entries sessions owner e) (there : (s : ℕ) → s ≢ owner → session_in new s ≡ session_in sessions s) where
  keeps_tx : Owns entries e owner → (s : ℕ) → (session_in new s).tx ≡ tx_of (entries ++ e ∷ []) s
  keeps_tx owns s =
      ⊎_elim
      (λ (is : s ≡ owner).
      ap (λ (n : ℕ). (session_in new n).tx) is ∙ (ap (λ (x : SessionSoFar). x.tx) here ∙ (ap (λ (t : ℕ). tx_behind (length entries + 1) t e.act) (k.tx owner) ∙ (sym owns.own ∙ ap (tx_of (entries ++ e ∷ [])) (sym is)))))
      (λ (ne : s ≡ owner → ⊥). ap (λ (x : SessionSoFar). x.tx) (there s ne) ∙ (k.tx s ∙ sym (owns.others s ne)))
      (cases_eq s owner)

  -- a session's own entry
  keeps_own : owner ≡ e.session → IsSessionEntry entries e → KeepsRequests (entries ++ e ∷ []) new
  keeps_own is own = record {
    next = λ s some.
        ⊎_elim
        (λ (mine : s ≡ owner).
        let same : e.session ≡ s = sym is ∙ sym mine in
        let next : (session_in new s).next ≡ e.seq + 1 =
        ap (λ (n : ℕ). (session_in new n).next) mine ∙ (ap (λ (x : SessionSoFar). x.next) here
        ∙ cond-false (e.session == 0) (session_in sessions owner).next (e.seq + 1) (ne_eqb e.session 0 (λ z. omega (arith, own.session.0, z)))) in
        subst (IsNextSeq (entries ++ e ∷ []) s) (sym next) (next_own entries e s same (subst (λ (n : ℕ). All (λ (d : Entry). d.session ≡ n → d.seq < e.seq) entries) same own.newer)))
        (λ (ne : s ≡ owner → ⊥).
        subst (IsNextSeq (entries ++ e ∷ []) s) (sym (ap (λ (x : SessionSoFar). x.next) (there s ne))) (next_other entries e s (session_in sessions s).next (λ same. ne (sym same ∙ sym is)) (k.next s some)))
        (cases_eq s owner);
    tx = keeps_tx (subst (Owns entries e) (sym is) (owns_session entries e own));
  }

  -- the administrator's
  keeps_ended : (a : IsAdministratorEntry entries e) → owner ≡ a.begin.session → KeepsRequests (entries ++ e ∷ []) new
  keeps_ended a is = record {
    next = λ s some.
        let other : e.session ≢ s = λ same. (let z = a.session in omega (arith, some, z, same)) in
        ⊎_elim
        (λ (mine : s ≡ owner).
        let next : (session_in new s).next ≡ (session_in sessions s).next =
        ap (λ (n : ℕ). (session_in new n).next) mine ∙ (ap (λ (x : SessionSoFar). x.next) here
        ∙ (cond-true (e.session == 0) (session_in sessions owner).next (e.seq + 1) (eq-eqb e.session 0 a.session) ∙ ap (λ (n : ℕ). (session_in sessions n).next) (sym mine))) in
        subst (IsNextSeq (entries ++ e ∷ []) s) (sym next) (next_other entries e s (session_in sessions s).next other (k.next s some)))
        (λ (ne : s ≡ owner → ⊥). subst (IsNextSeq (entries ++ e ∷ []) s) (sym (ap (λ (x : SessionSoFar). x.next) (there s ne))) (next_other entries e s (session_in sessions s).next other (k.next s some)))
        (cases_eq s owner);
    tx = keeps_tx (subst (Owns entries e) (sym is) (owns_administrator entries e a));
  }

  -- any fit entry
  pub keeps_fit : owner ≡ owner_of entries e → IsFitEntry entries e → KeepsRequests (entries ++ e ∷ []) new
  keeps_fit is fit =
      ⊎_elim (λ (s : IsSessionEntry entries e). keeps_own (is ∙ owner_session entries e s.session.0) s)
      (λ (a : IsAdministratorEntry entries e). keeps_ended a (is ∙ owner_administrator entries e a)) fit.by

-- ---- a session's next entry

module _ (entries : List Entry) (e : Entry) (sessions : BTreeMap ℕ SessionSoFar) (k : KeepsRequests entries sessions) where
  -- what an entry of a session must be, by what is known of the session
  pub record IsAsKnown : Type 0 where
    pub session : (0 < e.session) × (e.session ≤ SESSION_NUMBER_LIMIT)
    pub limit : e.seq ≤ REQUEST_LIMIT
    pub newer : (session_in sessions e.session).next ≤ e.seq
    pub tx : FitsTx (session_in sessions e.session).tx e.tx e.act

  pub as_known : IsSessionEntry entries e → IsAsKnown
  as_known s = record {
    session = s.session;
    limit = s.limit;
    newer = (k.next e.session s.session.0).least e.seq s.newer;
    tx = subst (λ (t : ℕ). FitsTx t e.tx e.act) (sym (k.tx e.session)) s.tx;
  }

  pub from_known : IsAsKnown → IsSessionEntry entries e
  from_known s = record {
    session = s.session;
    limit = s.limit;
    newer = newer_from entries e (session_in sessions e.session).next (k.next e.session s.session.0) s.newer;
    tx = subst (λ (t : ℕ). FitsTx t e.tx e.act) (k.tx e.session) s.tx;
  }

-- ---- a session that is put

pub put_here : (new : BTreeMap ℕ SessionSoFar) (owner : ℕ) (x : SessionSoFar) → get nat_cmp new owner ≡ Some x → session_in new owner ≡ x
put_here new owner x is = ap (λ o. unwrap_or o (record { next = 0; tx = 0 })) is

pub put_there : (old new : BTreeMap ℕ SessionSoFar) (owner : ℕ) → ((q : ℕ) → is_at (nat_cmp owner) q ≡ false → get nat_cmp new q ≡ get nat_cmp old q) → (s : ℕ) → s ≢ owner → session_in new s ≡ session_in old s
put_there old new owner others s ne = ap (λ o. unwrap_or o (record { next = 0; tx = 0 })) (others s (grind (arith, nat_tests)))
