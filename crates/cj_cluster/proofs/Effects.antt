-- Each change that a move makes keeps the state sound.
use Rattle.std.proofs.Common.{◌≡◌, ◌≢◌, ◌⊎◌, inl, inr, ℕ, ◌+◌, ◌-◌, ◌*◌, ◌^◌, ◌<◌, ◌≤◌, ◌==◌, not, Bool, true, false, List, [], ◌∷◌, ◌++◌, length, get_or, set, All, Option, None, Some, is_some, refl, ap, sym, ◌∙◌, subst, arith, length-append, ⊎_elim}
use Rattle.std.proofs.lemmas.Bool.{cases_eq, cases_lt, eqb-true, eqb-false, and_parts, or_cases, both_ways, not-true, or_parts}
use Rattle.std.proofs.lemmas.List.{get_or-set_same, get_or-set_other, get_or_past, length-set}
use Rattle.std.proofs.lemmas.List.Elements.{All-push, All-filter, All-weaker}
use Rattle.cj_cluster.proofs.Common.{BackendStands, CoreInvariant, Disabled, Enabled, Ended, Entry, Event, IsAllowedEvent, IsFitEntry, IsSoundDump, IsSoundSession, LogFailed, Marker, OpenSession, ReadFailed, Rises, Sched, TakenDump, by_session_number, ended_count, open_entry_of, events_left, has_marker, in_mask, is_enabled, is_end_event, is_free, is_log_fault, log, log_faults_of, scheduled_entry, slice_get_within, with_backend}
use Rattle.cj_model.specs.declared.answer.Outcome.{Outcome}
use Rattle.cj_cluster.specs.History.Transactions.{begun_after}
use Rattle.cj_cluster.specs.Moves.Cores.{Core, position_at, begun_at, find_session, new_session, with_session, is_entry_of}
use Rattle.cj_cluster.specs.declared.moves.Did.{Did}
use Rattle.cj_cluster.specs.declared.moves.Did.TheVariants as did
use Rattle.cj_model.specs.declared.limits.TheConstants.{SESSION_LIMIT, USER_LIMIT}
use Rattle.cj_cluster.specs.Moves.Moves.{with_one_request, with_entry, Stance, out, TakesEntry, with_stance, failed_after, starved_after, dumped_as}
use Rattle.cj_cluster.proofs.Pushed.{log_faults-same, log_faults-stay, no_fault_of_other, enabled-push, log-sched, log-same, done-same, done-ended, opened-sched, opened-same, legal_push}
use Rattle.cj_model.proofs.Masks.{has-zero, has-with_same, has-with_other}
use Rattle.cj_cluster.proofs.Sessions.{found_itself, is_open-with, is_open-push, all_with, length_with, rises_with, rises_push, without, session_of-without_other, rises_without, length_without}

-- ---- sessions

-- what is sound of the sessions that are open at a history
pub record SessionsAre (h : List Event) (greatest : ℕ) (ss : List OpenSession) : Type 0 where
  pub sessions : All (IsSoundSession h greatest) ss
  pub rises : Rises by_session_number ss
  pub few : length ss ≤ SESSION_LIMIT
  pub numbers : greatest ≤ 2 ^ 62
  pub known : All (λ (e : Entry). e.session ≤ greatest) (log h)
  pub log_faults : (s q : ℕ) → greatest < s → log_faults_of s q h ≡ 0
  pub waits : (e : Entry) → open_entry_of h ≡ Some e → (e.session ≡ 0) ⊎ (is_some (find_session ss e.session) ≡ true)

-- the sessions of a sound state
pub sessions_are : (c : Core) → CoreInvariant c → SessionsAre c.history c.greatest c.sessions
sessions_are c s = record { sessions = s.sessions; rises = s.rises; few = s.few; numbers = s.numbers; known = s.known; log_faults = s.log_faults; waits = s.waits }

-- what a change of a session keeps, where its reads may need position n at most
pub record KeepsSession (n : ℕ) (f : OpenSession → OpenSession) : Type 0 where
  pub number : (x : OpenSession) → (f x).number ≡ x.number
  pub user : (x : OpenSession) → (f x).user ≡ x.user
  pub requests : (x : OpenSession) → x.requests ≤ (f x).requests
  pub least : (x : OpenSession) → x.least ≤ n → (f x).least ≤ n

-- a session is added
pub are_opened : (h : List Event) (g : ℕ) (ss : List OpenSession) (user : List ℕ) → SessionsAre h g ss → length ss < SESSION_LIMIT → g < 2 ^ 62 → length user ≤ USER_LIMIT
    → SessionsAre h (g + 1) (ss ++ new_session (g + 1) user ∷ [])
are_opened h g ss user a few lt fits =
    let below : All (λ (x : OpenSession). x.number < g + 1) ss =
    All-weaker (IsSoundSession h g) (λ (x : OpenSession). x.number < g + 1) (λ x i. let le : x.number ≤ g = i.number.1 in omega arith) ss a.sessions
    in
    let more : (x : OpenSession) → IsSoundSession h g x → IsSoundSession h (g + 1) x =
    λ x i. record { number = (i.number.0, let le : x.number ≤ g = i.number.1 in omega arith); user = i.user; owes = i.owes; entries = i.entries }
    in
    let unknown : All (λ (e : Entry). e.session ≡ g + 1 → e.seq ≤ 0) (log h) =
    All-weaker (λ (e : Entry). e.session ≤ g) (λ (e : Entry). e.session ≡ g + 1 → e.seq ≤ 0) (λ e le is. absurd (omega arith)) (log h) a.known
    in
    let n = length-append ss (new_session (g + 1) user ∷ []) in
    record {
      sessions =
          All-push (IsSoundSession h (g + 1)) ss (new_session (g + 1) user) (All-weaker (IsSoundSession h g) (IsSoundSession h (g + 1)) more ss a.sessions)
          (record { number = (omega arith, omega arith); user = fits; owes = omega arith; entries = unknown });
      rises = rises_push ss (new_session (g + 1) user) below a.rises;
      few = omega arith;
      numbers = omega arith;
      known = All-weaker (λ (e : Entry). e.session ≤ g) (λ (e : Entry). e.session ≤ g + 1) (λ e le. omega arith) (log h) a.known;
      log_faults = λ t q lt. a.log_faults t q (omega arith);
      waits =
          λ e is.
          ⊎_elim (λ (z : e.session ≡ 0). inl z) (λ (here : is_some (find_session ss e.session) ≡ true). inr (is_open-push ss (new_session (g + 1) user) e.session here)) (a.waits e is);
    }

-- a session whose own entry is not open is removed
pub are_closed : (h : List Event) (g : ℕ) (ss : List OpenSession) (s : ℕ) → SessionsAre h g ss → is_entry_of s (open_entry_of h) ≡ false → SessionsAre h g (without s ss)
are_closed h g ss s a idle =
    let n = length_without ss s in
    let le = a.few in
    record {
      sessions = All-filter (λ (x : OpenSession). not (x.number == s)) (IsSoundSession h g) ss a.sessions;
      rises = rises_without ss s a.rises;
      few = omega arith;
      numbers = a.numbers;
      known = a.known;
      log_faults = a.log_faults;
      waits =
          λ e is.
          let ne : e.session ≢ s = eqb-false _ _ (subst (λ (o : Option Entry). is_entry_of s o ≡ false) is idle) in
          ⊎_elim (λ (z : e.session ≡ 0). inl z) (λ (here : is_some (find_session ss e.session) ≡ true). inr (rw (session_of-without_other ss s e.session ne) here)) (a.waits e is);
    }

-- a session is changed, at a history with the same log, and the same faults of its store for sessions that have no number yet
pub are_with : (h h' : List Event) (g : ℕ) (ss : List OpenSession) (s : ℕ) (f : OpenSession → OpenSession) → SessionsAre h g ss → KeepsSession (length (log h)) f → log h' ≡ log h → ((t q : ℕ) → g < t → log_faults_of t q h' ≡ log_faults_of t q h)
    → ((e : Entry) → open_entry_of h' ≡ Some e → open_entry_of h ≡ Some e) → SessionsAre h' g (with_session ss s f)
are_with h h' g ss s f a k same faults was =
    record {
      sessions = all_with (IsSoundSession h g) (IsSoundSession h' g) f ss s here there a.sessions;
      rises = rises_with f k.number ss s a.rises;
      few = let n = length_with f ss s in let le = a.few in omega arith;
      numbers = a.numbers;
      known = subst (All (λ (e : Entry). e.session ≤ g)) (sym same) a.known;
      log_faults = λ t q lt. faults t q lt ∙ a.log_faults t q lt;
      waits =
          λ e is.
          ⊎_elim (λ (z : e.session ≡ 0). inl z) (λ (here : is_some (find_session ss e.session) ≡ true). inr (is_open-with f k.number ss s e.session ∙ here)) (a.waits e (was e is));
    }
  where
    there : (x : OpenSession) → x.number ≢ s → IsSoundSession h g x → IsSoundSession h' g x
    there x ne i =
        record {
          number = i.number;
          user = i.user;
          owes = subst (λ (l : List Entry). x.least ≤ length l) (sym same) i.owes;
          entries = subst (All (λ (e : Entry). e.session ≡ x.number → e.seq ≤ x.requests)) (sym same) i.entries;
        }

    here : (x : OpenSession) → x.number ≡ s → IsSoundSession h g x → IsSoundSession h' g (f x)
    here x is i =
        record {
          number = rw (k.number x) i.number;
          user = rw (k.user x) i.user;
          owes = subst (λ (l : List Entry). (f x).least ≤ length l) (sym same) (k.least x i.owes);
          entries =
              subst (All (λ (e : Entry). e.session ≡ (f x).number → e.seq ≤ (f x).requests)) (sym same)
              (All-weaker (λ (e : Entry). e.session ≡ x.number → e.seq ≤ x.requests) (λ (e : Entry). e.session ≡ (f x).number → e.seq ≤ (f x).requests)
              (λ e old now. let le = old (now ∙ k.number x) in let more = k.requests x in omega arith) (log h) i.entries);
        }

-- no session is changed, at such a history
pub are_kept : (h h' : List Event) (g : ℕ) (ss : List OpenSession) → SessionsAre h g ss → log h' ≡ log h → ((t q : ℕ) → g < t → log_faults_of t q h' ≡ log_faults_of t q h) → ((e : Entry) → open_entry_of h' ≡ Some e → open_entry_of h ≡ Some e) → SessionsAre h' g ss
are_kept h h' g ss a same faults was =
    let again : (x : OpenSession) → IsSoundSession h g x → IsSoundSession h' g x =
    λ x i.
    record {
      number = i.number;
      user = i.user;
      owes = subst (λ (l : List Entry). x.least ≤ length l) (sym same) i.owes;
      entries = subst (All (λ (e : Entry). e.session ≡ x.number → e.seq ≤ x.requests)) (sym same) i.entries;
    }
    in
    record {
      sessions = All-weaker (IsSoundSession h g) (IsSoundSession h' g) again ss a.sessions;
      rises = a.rises;
      few = a.few;
      numbers = a.numbers;
      known = subst (All (λ (e : Entry). e.session ≤ g)) (sym same) a.known;
      log_faults = λ t q lt. faults t q lt ∙ a.log_faults t q lt;
      waits = λ e is. a.waits e (was e is);
    }

-- a session's next entry is scheduled
pub are_sched : (h : List Event) (g : ℕ) (ss : List OpenSession) (s : ℕ) (e : Entry) (x : OpenSession) → SessionsAre h g ss → find_session ss s ≡ Some x → is_free h ≡ true
    → e.session ≡ s → e.seq ≡ x.requests + 1 → s ≤ g → SessionsAre (h ++ Sched e ∷ []) g (with_session ss s with_one_request)
are_sched h g ss s e x a found fr by seq le =
    record {
      sessions = all_with Before (IsSoundSession (h ++ Sched e ∷ []) g) with_one_request ss s here there (λ k d lt. (a.sessions k d lt, found_itself ss a.rises k d lt));
      rises = rises_with with_one_request (λ y. refl) ss s a.rises;
      few = let n = length_with with_one_request ss s in let few = a.few in omega arith;
      numbers = a.numbers;
      known = subst (All (λ (d : Entry). d.session ≤ g)) (sym (log-sched h e)) (All-push (λ (d : Entry). d.session ≤ g) (log h) e a.known (omega arith));
      log_faults = λ t q lt. log_faults-same h (Sched e) (λ i j. refl) t q ∙ a.log_faults t q lt;
      waits =
          λ d is.
          let same : e ≡ d = cc (sym (opened-sched h e fr) ∙ is) in
          inr (is_open-with with_one_request (λ y. refl) ss s d.session ∙ (rw (← same, by, found) refl));
    }
  where
    Before : OpenSession → Type 0
    Before y = IsSoundSession h g y × (find_session ss y.number ≡ Some y)

    longer : length (log (h ++ Sched e ∷ [])) ≡ length (log h) + 1
    longer = ap length (log-sched h e) ∙ length-append (log h) (e ∷ [])

    there : (y : OpenSession) → y.number ≢ s → Before y → IsSoundSession (h ++ Sched e ∷ []) g y
    there y ne b =
        record {
          number = b.0.number;
          user = b.0.user;
          owes = let le = b.0.owes in omega (arith, longer);
          entries =
              subst (All (λ (d : Entry). d.session ≡ y.number → d.seq ≤ y.requests)) (sym (log-sched h e))
              (All-push (λ (d : Entry). d.session ≡ y.number → d.seq ≤ y.requests) (log h) e b.0.entries (λ is. absurd (ne (sym is ∙ by))));
        }

    here : (y : OpenSession) → y.number ≡ s → Before y → IsSoundSession (h ++ Sched e ∷ []) g (with_one_request y)
    here y is b =
        let same : x ≡ y = cc (sym found ∙ subst (λ (n : ℕ). find_session ss n ≡ Some y) is b.1) in
        let last : e.seq ≤ y.requests + 1 = subst (λ (w : OpenSession). e.seq ≤ w.requests + 1) same (omega arith) in
        record {
          number = b.0.number;
          user = b.0.user;
          owes = let le = b.0.owes in omega (arith, longer);
          entries =
              subst (All (λ (d : Entry). d.session ≡ y.number → d.seq ≤ y.requests + 1)) (sym (log-sched h e))
              (All-push (λ (d : Entry). d.session ≡ y.number → d.seq ≤ y.requests + 1) (log h) e
              (All-weaker (λ (d : Entry). d.session ≡ y.number → d.seq ≤ y.requests) (λ (d : Entry). d.session ≡ y.number → d.seq ≤ y.requests + 1) (λ d old now. let le = old now in omega arith) (log h) b.0.entries)
              (λ is. last));
        }

-- the administrator's next entry is scheduled
pub are_sched_without : (h : List Event) (g : ℕ) (ss : List OpenSession) (e : Entry) → SessionsAre h g ss → is_free h ≡ true → e.session ≡ 0 → SessionsAre (h ++ Sched e ∷ []) g ss
are_sched_without h g ss e a fr by =
    record {
      sessions = All-weaker (IsSoundSession h g) (IsSoundSession (h ++ Sched e ∷ []) g) again ss a.sessions;
      rises = a.rises;
      few = a.few;
      numbers = a.numbers;
      known = subst (All (λ (d : Entry). d.session ≤ g)) (sym (log-sched h e)) (All-push (λ (d : Entry). d.session ≤ g) (log h) e a.known (omega arith));
      log_faults = λ t q lt. log_faults-same h (Sched e) (λ i j. refl) t q ∙ a.log_faults t q lt;
      waits = λ d is. let same : e ≡ d = cc (sym (opened-sched h e fr) ∙ is) in inl (subst (λ (x : Entry). x.session ≡ 0) same by);
    }
  where
    longer : length (log (h ++ Sched e ∷ [])) ≡ length (log h) + 1
    longer = ap length (log-sched h e) ∙ length-append (log h) (e ∷ [])

    again : (x : OpenSession) → IsSoundSession h g x → IsSoundSession (h ++ Sched e ∷ []) g x
    again x i =
        record {
          number = i.number;
          user = i.user;
          owes = let le = i.owes in omega (arith, longer);
          entries =
              subst (All (λ (d : Entry). d.session ≡ x.number → d.seq ≤ x.requests)) (sym (log-sched h e))
              (All-push (λ (d : Entry). d.session ≡ x.number → d.seq ≤ x.requests) (log h) e i.entries (λ is. let some : 0 < x.number = i.number.0 in absurd (omega arith)));
        }

-- ---- dumps

-- a dump was taken within a log that is no shorter
pub sound_dumps : (backends : ℕ) (h k : List Event) (dumps : List TakenDump) → length (log h) ≤ length (log k) → All (IsSoundDump backends h) dumps → All (IsSoundDump backends k) dumps
sound_dumps backends h k dumps longer =
    All-weaker (IsSoundDump backends h) (IsSoundDump backends k) (λ d is. record { source = is.source; position = let le : d.position ≤ length (log h) = is.position in omega arith }) dumps

-- ---- states

-- a backend that stands somewhere is there
pub is_there : (ps : List (Option ℕ)) (b p : ℕ) → get_or ps b None ≡ Some p → b < length ps
is_there ps b p is =
    ⊎_elim (λ (lt : b < length ps). lt) (λ (ge : length ps ≤ b). let e : get_or ps b None ≡ None = get_or_past ps b None ge in absurd (cc (e, is))) (cases_lt b (length ps))

-- where a backend stands that is not out
pub stands_there : (c : Core) (b p : ℕ) → CoreInvariant c → position_at c b ≡ Some p → BackendStands c.history c.failed c.starved b (Some p)
stands_there c b p s is = subst (λ (x : Option ℕ). BackendStands c.history c.failed c.starved b x) is (s.stands b (is_there c.positions b p is))

-- the sessions alone are changed
pub sound_sessions : (c : Core) (ss : List OpenSession) (g : ℕ) → CoreInvariant c → SessionsAre c.history g ss → CoreInvariant (record c { sessions = ss; greatest = g })
sound_sessions c ss g s a =
    record {
      legal = s.legal;
      short = s.short;
      one_open = s.one_open;
      cells = s.cells;
      hosts = s.hosts;
      stands = s.stands;
      in_masks = s.in_masks;
      clear = s.clear;
      begun_cells = s.begun_cells;
      dumps = s.dumps;
      sessions = a.sessions;
      rises = a.rises;
      few = a.few;
      numbers = a.numbers;
      known = a.known;
      log_faults = a.log_faults;
      waits = a.waits;
    }

-- a backend stands after a schedule where it stood
sched_stands : (h : List Event) (e : Entry) (f s b : ℕ) (p : Option ℕ) → f ≡ 0 → s ≡ 0 → BackendStands h f s b p → BackendStands (h ++ Sched e ∷ []) 0 0 b p
sched_stands h e f s b (Some p) f0 s0 st =
    let l : length (log (h ++ Sched e ∷ [])) ≡ length (log h) + 1 = ap length (log-sched h e) ∙ length-append (log h) (e ∷ []) in
    let d : ended_count (h ++ Sched e ∷ []) ≡ ended_count h = done-same h (Sched e) refl in
    (omega arith, λ on. let g : ended_count h ≤ p = st.1 (sym (enabled-push h (Sched e) b) ∙ on) in omega arith, has-zero b, has-zero b)
sched_stands h e f s b None f0 s0 st =
    λ on.
    let q : (in_mask f b ≡ true) ⊎ (in_mask s b ≡ true) = st (sym (enabled-push h (Sched e) b) ∙ on) in
    absurd
    (⊎_elim (λ (t : in_mask f b ≡ true). both_ways (in_mask f b) (ap (λ m. in_mask m b) f0 ∙ has-zero b) t) (λ (t : in_mask s b ≡ true). both_ways (in_mask s b) (ap (λ m. in_mask m b) s0 ∙ has-zero b) t) q)

-- an entry is scheduled
pub sound_sched : (c : Core) (e : Entry) (ss : List OpenSession) → CoreInvariant c → is_free c.history ≡ true → IsFitEntry (log c.history) e → 3 ≤ events_left c.history
    → SessionsAre (c.history ++ Sched e ∷ []) c.greatest ss
    → CoreInvariant (record (with_entry c e) { sessions = ss })
sound_sched c e ss s fr fit space a =
    let l : length (log (c.history ++ Sched e ∷ [])) ≡ length (log c.history) + 1 = ap length (log-sched c.history e) ∙ length-append (log c.history) (e ∷ []) in
    let d : ended_count (c.history ++ Sched e ∷ []) ≡ ended_count c.history = done-same c.history (Sched e) refl in
    let n : length (c.history ++ Sched e ∷ []) ≡ length c.history + 1 = length-append c.history (Sched e ∷ []) in
    let z : ended_count c.history ≡ length (log c.history) = eqb-true _ _ fr in
    record {
      legal = legal_push c.history (Sched e) s.legal (omega arith) (fr, fit);
      short = omega arith;
      one_open = (omega arith, omega arith);
      cells = s.cells;
      hosts = λ b on. s.hosts b (sym (enabled-push c.history (Sched e) b) ∙ on);
      stands = λ b lt. sched_stands c.history e c.failed c.starved b (position_at c b) (s.clear fr).0 (s.clear fr).1 (s.stands b lt);
      in_masks = λ b. (λ t. absurd (both_ways (in_mask 0 b) (has-zero b) t), λ t. absurd (both_ways (in_mask 0 b) (has-zero b) t));
      clear = λ _. (refl, refl);
      begun_cells = s.begun_cells;
      dumps = sound_dumps c.placement.backends c.history (c.history ++ Sched e ∷ []) c.dumps (omega arith) s.dumps;
      sessions = a.sessions;
      rises = a.rises;
      few = a.few;
      numbers = a.numbers;
      known = a.known;
      log_faults = a.log_faults;
      waits = a.waits;
    }

-- a backend stands after an end where it stood, or is no longer enabled
ended_stands : (h : List Event) (f s b : ℕ) (p : Option ℕ) → is_free h ≡ false → ended_count h ≤ length (log h) → length (log h) ≤ ended_count h + 1
    → ((q : ℕ) → p ≡ Some q → is_enabled h b ≡ true → length (log h) ≤ q)
    → BackendStands h f s b p → BackendStands (h ++ Ended f s ∷ []) 0 0 b p
ended_stands h f s b (Some p) fr lo hi all st =
    let l : length (log (h ++ Ended f s ∷ [])) ≡ length (log h) = ap length (log-same h (Ended f s) refl) in
    let d : ended_count (h ++ Ended f s ∷ []) ≡ ended_count h + 1 = done-ended h f s in
    let z : ended_count h ≢ length (log h) = eqb-false _ _ fr in (
      omega arith,
      λ on.
          let was : is_enabled h b ≡ true = (and_parts _ _ (sym (enabled-push h (Ended f s) b) ∙ on)).0 in
          let g : length (log h) ≤ p = all p refl was in
          omega arith,
      has-zero b,
      has-zero b,
    )
ended_stands h f s b None fr lo hi all st =
    λ on.
    let both = and_parts _ _ (sym (enabled-push h (Ended f s) b) ∙ on) in
    let out = or_parts _ _ (not-true _ both.1) in
    absurd (⊎_elim (λ (t : in_mask f b ≡ true). both_ways (in_mask f b) out.0 t) (λ (t : in_mask s b ≡ true). both_ways (in_mask s b) out.1 t) (st both.0))

-- the open entry ends
pub sound_ended : (c : Core) (ss : List OpenSession) → CoreInvariant c → is_free c.history ≡ false
    → ((b q : ℕ) → position_at c b ≡ Some q → is_enabled c.history b ≡ true → length (log c.history) ≤ q)
    → SessionsAre (c.history ++ Ended c.failed c.starved ∷ []) c.greatest ss
    → CoreInvariant (record c { history = c.history ++ Ended c.failed c.starved ∷ []; failed = 0; starved = 0; sessions = ss })
sound_ended c ss s fr all a =
    let same : log (c.history ++ Ended c.failed c.starved ∷ []) ≡ log c.history = log-same c.history (Ended c.failed c.starved) refl in
    let l : length (log (c.history ++ Ended c.failed c.starved ∷ [])) ≡ length (log c.history) = ap length same in
    let d : ended_count (c.history ++ Ended c.failed c.starved ∷ []) ≡ ended_count c.history + 1 = done-ended c.history c.failed c.starved in
    let n : length (c.history ++ Ended c.failed c.starved ∷ []) ≡ length c.history + 1 = length-append c.history (Ended c.failed c.starved ∷ []) in
    let z : ended_count c.history ≢ length (log c.history) = eqb-false _ _ fr in
    let lo : ended_count c.history ≤ length (log c.history) = s.one_open.0 in
    let hi : length (log c.history) ≤ ended_count c.history + 1 = s.one_open.1 in
    let short : length c.history + 2 * (length (log c.history) - ended_count c.history) ≤ 2 ^ 62 = s.short in
    record {
      legal = legal_push c.history (Ended c.failed c.starved) s.legal (omega arith) (fr, s.in_masks);
      short = omega arith;
      one_open = (omega arith, omega arith);
      cells = s.cells;
      hosts = λ b on. s.hosts b (and_parts _ _ (sym (enabled-push c.history (Ended c.failed c.starved) b) ∙ on)).0;
      stands = λ b lt. ended_stands c.history c.failed c.starved b (position_at c b) fr lo hi (λ q is on. all b q is on) (s.stands b lt);
      in_masks = λ b. (λ t. absurd (both_ways (in_mask 0 b) (has-zero b) t), λ t. absurd (both_ways (in_mask 0 b) (has-zero b) t));
      clear = λ _. (refl, refl);
      begun_cells = s.begun_cells;
      dumps = sound_dumps c.placement.backends c.history (c.history ++ Ended c.failed c.starved ∷ []) c.dumps (omega arith) s.dumps;
      sessions = a.sessions;
      rises = a.rises;
      few = a.few;
      numbers = a.numbers;
      known = a.known;
      log_faults = a.log_faults;
      waits = a.waits;
    }

-- where a backend comes to be enabled: it is within the positions, and not behind an end
abbrev pub CanBeOn : List Event → List (Option ℕ) → ℕ → Type 0
CanBeOn h positions b = (b < length positions) × ((q : ℕ) × (get_or positions b None ≡ Some q) × (ended_count h ≤ q))

-- a backend stands after another event where it stood
same_stands : (h : List Event) (e : Event) (f s b : ℕ) (p : Option ℕ) → length (log (h ++ e ∷ [])) ≡ length (log h) → ended_count (h ++ e ∷ []) ≡ ended_count h
    → (is_enabled (h ++ e ∷ []) b ≡ true → (is_enabled h b ≡ true) ⊎ ((q : ℕ) × (p ≡ Some q) × (ended_count h ≤ q)))
    → BackendStands h f s b p → BackendStands (h ++ e ∷ []) f s b p
same_stands h e f s b (Some p) l d on st = (
  omega arith,
  λ t.
      ⊎_elim (λ (w : is_enabled h b ≡ true). let g : ended_count h ≤ p = st.1 w in omega arith)
      (λ (w : (q : ℕ) × (Some p ≡ Some q) × (ended_count h ≤ q)). let g : p ≡ w.0 = cc (w.1) in let k : ended_count h ≤ w.0 = w.2 in omega arith) (on t),
  st.2,
  st.3,
)
same_stands h e f s b None l d on st = λ t. ⊎_elim (λ (w : is_enabled h b ≡ true). st w) (λ (w : (q : ℕ) × (None ≡ Some q) × (ended_count h ≤ q)). absurd (cc (w.1))) (on t)

-- an event that leaves the log and the ends as they are
pub sound_same : (c : Core) (e : Event) (ss : List OpenSession) → CoreInvariant c → IsAllowedEvent c.history e → scheduled_entry e ≡ None → is_end_event e ≡ false → 0 < events_left c.history
    → ((b : ℕ) → is_enabled (c.history ++ e ∷ []) b ≡ true → (is_enabled c.history b ≡ true) ⊎ CanBeOn c.history c.positions b)
    → ((b : ℕ) → (in_mask c.failed b ≡ true) ⊎ (in_mask c.starved b ≡ true) → is_enabled (c.history ++ e ∷ []) b ≡ true)
    → SessionsAre (c.history ++ e ∷ []) c.greatest ss
    → CoreInvariant (record c { history = c.history ++ e ∷ []; sessions = ss })
sound_same c e ss s allowed is stays space on keeps a =
    let same : log (c.history ++ e ∷ []) ≡ log c.history = log-same c.history e is in
    let d : ended_count (c.history ++ e ∷ []) ≡ ended_count c.history = done-same c.history e stays in
    let n : length (c.history ++ e ∷ []) ≡ length c.history + 1 = length-append c.history (e ∷ []) in
    let l : length (log (c.history ++ e ∷ [])) ≡ length (log c.history) = ap length same in
    let short : length c.history + 2 * (length (log c.history) - ended_count c.history) ≤ 2 ^ 62 = s.short in
    let lo : ended_count c.history ≤ length (log c.history) = s.one_open.0 in
    let hi : length (log c.history) ≤ ended_count c.history + 1 = s.one_open.1 in
    record {
      legal = legal_push c.history e s.legal (omega arith) allowed;
      short = omega arith;
      one_open = (omega arith, omega arith);
      cells = s.cells;
      hosts = λ b t. ⊎_elim (λ (w : is_enabled c.history b ≡ true). s.hosts b w) (λ (w : CanBeOn c.history c.positions b). w.0) (on b t);
      stands =
          λ b lt.
          same_stands c.history e c.failed c.starved b (position_at c b) l d
          (λ t. ⊎_elim (λ (w : is_enabled c.history b ≡ true). inl w) (λ (w : CanBeOn c.history c.positions b). inr w.1) (on b t)) (s.stands b lt);
      in_masks = λ b. (λ t. (keeps b (inl t), ((s.in_masks b).0 t).1), λ t. keeps b (inr t));
      clear =
          λ fr. s.clear (subst (λ (x : ℕ). (x == length (log c.history)) ≡ true) d (subst (λ (x : List Entry). (ended_count (c.history ++ e ∷ []) == length x) ≡ true) same fr));
      begun_cells = s.begun_cells;
      dumps = sound_dumps c.placement.backends c.history (c.history ++ e ∷ []) c.dumps (omega arith) s.dumps;
      sessions = a.sessions;
      rises = a.rises;
      few = a.few;
      numbers = a.numbers;
      known = a.known;
      log_faults = a.log_faults;
      waits = a.waits;
    }

-- a backend failed in a read
pub sound_read_failed : (c : Core) (t q b : ℕ) (ss : List OpenSession) → CoreInvariant c → 0 < events_left c.history → SessionsAre (c.history ++ ReadFailed t q b ∷ []) c.greatest ss
    → CoreInvariant (record c { history = c.history ++ ReadFailed t q b ∷ []; sessions = ss })
sound_read_failed c t q b ss s space a =
    sound_same c (ReadFailed t q b) ss s tt refl refl space (λ k on. inl (sym (enabled-push c.history (ReadFailed t q b) k) ∙ on))
    (λ k w. enabled-push c.history (ReadFailed t q b) k ∙ ⊎_elim (λ (m : in_mask c.failed k ≡ true). ((s.in_masks k).0 m).0) (λ (m : in_mask c.starved k ≡ true). (s.in_masks k).1 m) w)
    a

-- no backend is in a mask where no entry is open
pub no_masks : (c : Core) → CoreInvariant c → is_free c.history ≡ true → (b : ℕ) → (in_mask c.failed b ≡ true) ⊎ (in_mask c.starved b ≡ true) → ⊥
no_masks c s fr b w =
    ⊎_elim (λ (t : in_mask c.failed b ≡ true). both_ways (in_mask c.failed b) (ap (λ m. in_mask m b) (s.clear fr).0 ∙ has-zero b) t)
    (λ (t : in_mask c.starved b ≡ true). both_ways (in_mask c.starved b) (ap (λ m. in_mask m b) (s.clear fr).1 ∙ has-zero b) t) w

-- the sessions at a history with one event more that leaves the log and the ends
kept_by : (c : Core) (e : Event) → CoreInvariant c → scheduled_entry e ≡ None → is_end_event e ≡ false → ((s q : ℕ) → c.greatest < s → is_log_fault s q e ≡ false) → SessionsAre (c.history ++ e ∷ []) c.greatest c.sessions
kept_by c e s is stays none = are_kept c.history (c.history ++ e ∷ []) c.greatest c.sessions (sessions_are c s) (log-same c.history e is) (λ t q lt. log_faults-stay c.history e t q (none t q lt)) (λ d on. sym (opened-same c.history e is stays) ∙ on)

-- a backend is disabled
pub sound_disabled : (c : Core) (b : ℕ) → CoreInvariant c → is_free c.history ≡ true → is_enabled c.history b ≡ true → 0 < events_left c.history → CoreInvariant (record c { history = c.history ++ Disabled b ∷ [] })
sound_disabled c b s fr on space =
    sound_same c (Disabled b) c.sessions s (fr, on) refl refl space (λ k now. inl (and_parts _ _ (sym (enabled-push c.history (Disabled b) k) ∙ now)).0)
    (λ k w. absurd (no_masks c s fr k w)) (kept_by c (Disabled b) s refl refl (λ t q lt. refl))

-- a backend at the log's end is enabled
pub sound_enabled : (c : Core) (b : ℕ) → CoreInvariant c → is_free c.history ≡ true → is_enabled c.history b ≡ false → b < length c.positions → position_at c b ≡ Some (length (log c.history)) → 0 < events_left c.history
    → CoreInvariant (record c { history = c.history ++ Enabled b ∷ [] })
sound_enabled c b s fr off lt at_end space =
    let can : CanBeOn c.history c.positions b = (lt, (length (log c.history), at_end, s.one_open.0)) in
    sound_same c (Enabled b) c.sessions s (fr, off) refl refl space
    (λ k on.
    ⊎_elim (λ (w : is_enabled c.history k ≡ true). inl w) (λ (w : (k == b) ≡ true). inr (subst (λ (x : ℕ). CanBeOn c.history c.positions x) (sym (eqb-true k b w)) can))
    (or_cases _ _ (sym (enabled-push c.history (Enabled b) k) ∙ on)))
    (λ k w. absurd (no_masks c s fr k w)) (kept_by c (Enabled b) s refl refl (λ t q lt. refl))

-- an event while no entry is open that enables and disables nothing
sound_noted : (c : Core) (e : Event) (ss : List OpenSession) → CoreInvariant c → IsAllowedEvent c.history e → is_free c.history ≡ true → scheduled_entry e ≡ None → is_end_event e ≡ false
    → ((b : ℕ) → is_enabled (c.history ++ e ∷ []) b ≡ is_enabled c.history b) → 0 < events_left c.history → SessionsAre (c.history ++ e ∷ []) c.greatest ss → CoreInvariant (record c { history = c.history ++ e ∷ []; sessions = ss })
sound_noted c e ss s allowed fr is stays same space a = sound_same c e ss s allowed is stays space (λ k on. inl (sym (same k) ∙ on)) (λ k w. absurd (no_masks c s fr k w)) a

-- a marker of a name that none has
pub sound_marked : (c : Core) (name : List ℕ) (b : Option ℕ) → CoreInvariant c → is_free c.history ≡ true → has_marker c.history name ≡ false → 0 < events_left c.history → CoreInvariant (record c { history = c.history ++ Marker name b ∷ [] })
sound_marked c name b s fr fresh space =
    sound_noted c (Marker name b) c.sessions s (fr, fresh) fr refl refl (λ k. enabled-push c.history (Marker name b) k) space (kept_by c (Marker name b) s refl refl (λ t q lt. refl))

-- the log's store failed in a request of session s, which has a number
pub sound_log_failed : (c : Core) (s n : ℕ) → CoreInvariant c → is_free c.history ≡ true → s ≤ c.greatest → 0 < events_left c.history → CoreInvariant (record c { history = c.history ++ LogFailed s n ∷ [] })
sound_log_failed c s n w fr le space =
    sound_noted c (LogFailed s n) c.sessions w fr fr refl refl (λ k. enabled-push c.history (LogFailed s n) k) space
    (kept_by c (LogFailed s n) w refl refl (λ t q lt. no_fault_of_other s n t q (λ same. omega arith)))

-- ---- a backend takes an entry

-- what stands at k does not change where a mask gains another backend
other_stands : (h : List Event) (f s f' s' k : ℕ) (p : Option ℕ) → in_mask f' k ≡ in_mask f k → in_mask s' k ≡ in_mask s k → BackendStands h f s k p → BackendStands h f' s' k p
other_stands h f s f' s' k (Some p) fe se st = (st.0, st.1, fe ∙ st.2, se ∙ st.3)
other_stands h f s f' s' k None fe se st = λ on. ⊎_elim (λ (t : in_mask f k ≡ true). inl (fe ∙ t)) (λ (t : in_mask s k ≡ true). inr (se ∙ t)) (st on)

-- backend k in the masks: an enabled one, in one of them
abbrev pub FitsMasks : List Event → ℕ → ℕ → ℕ → Type 0
FitsMasks h f s k = (in_mask f k ≡ true → (is_enabled h k ≡ true) × (in_mask s k ≡ false)) × (in_mask s k ≡ true → is_enabled h k ≡ true)

-- backend b comes to stand elsewhere, and maybe into a mask
pub sound_moved : (c : Core) (b f s : ℕ) (now : Stance) → CoreInvariant c → b < length c.positions → BackendStands c.history f s b now.position → FitsMasks c.history f s b
    → ((k : ℕ) → k ≢ b → (in_mask f k ≡ in_mask c.failed k) × (in_mask s k ≡ in_mask c.starved k)) → (is_free c.history ≡ true → (f ≡ 0) × (s ≡ 0))
    → CoreInvariant (record (with_stance c b now) { failed = f; starved = s })
sound_moved c b f s now w lt stands masks others clear =
    record {
      legal = w.legal;
      short = w.short;
      one_open = w.one_open;
      sessions = w.sessions;
      rises = w.rises;
      few = w.few;
      numbers = w.numbers;
      known = w.known;
      log_faults = w.log_faults;
      waits = w.waits;
      cells = length-set c.positions b now.position ∙ w.cells;
      hosts = λ k on. subst (λ (n : ℕ). k < n) (sym (length-set c.positions b now.position)) (w.hosts k on);
      stands =
          λ k klt.
          ⊎_elim (λ (e : k ≡ b). subst (λ (x : ℕ). BackendStands c.history f s x (get_or (set c.positions b now.position) x None)) (sym e) (rw get_or-set_same stands))
          (λ (e : k ≡ b → ⊥).
          let ne : k ≢ b = e in
          rw get_or-set_other (other_stands c.history c.failed c.starved f s k (position_at c k) (others k ne).0 (others k ne).1 (w.stands k (subst (λ (n : ℕ). k < n) (length-set c.positions b now.position) klt))))
          (cases_eq k b);
      in_masks =
          λ k.
          ⊎_elim (λ (e : k ≡ b). subst (FitsMasks c.history f s) (sym e) masks)
          (λ (e : k ≡ b → ⊥).
          let ne : k ≢ b = e in (
            λ t. (((w.in_masks k).0 (sym (others k ne).0 ∙ t)).0, (others k ne).1 ∙ ((w.in_masks k).0 (sym (others k ne).0 ∙ t)).1),
            λ t. (w.in_masks k).1 (sym (others k ne).1 ∙ t),
          ))
          (cases_eq k b);
      clear = clear;
      begun_cells = length-set c.begun b now.begun ∙ w.begun_cells;
      dumps = w.dumps;
    }

module _ (c : Core) (b p : ℕ) (w : CoreInvariant c) (is : position_at c b ≡ Some p) where
  -- it is within the positions
  lt : b < length c.positions
  lt = is_there c.positions b p is

  -- where it stood
  was : BackendStands c.history c.failed c.starved b (Some p)
  was = stands_there c b p w is

  -- it has taken the entry, and has begun these transactions
  pub sound_next : (begun : List ℕ) → p < length (log c.history) → CoreInvariant (with_stance c b (record { position = Some (p + 1); begun = begun }))
  sound_next begun more =
      let now : BackendStands c.history c.failed c.starved b (Some (p + 1)) = (omega arith, λ on. let g : ended_count c.history ≤ p = was.1 on in omega arith, was.2, was.3) in
      sound_moved c b c.failed c.starved (record { position = Some (p + 1); begun = begun }) w lt now (w.in_masks b) (λ k ne. (refl, refl)) w.clear

  -- it failed in the open entry
  pub sound_failed : is_free c.history ≡ false → is_enabled c.history b ≡ true → CoreInvariant (record (with_stance c b out) { failed = with_backend c.failed b })
  sound_failed fr on =
      sound_moved c b (with_backend c.failed b) c.starved out w lt (λ _. inl (has-with_same c.failed b)) (λ _. (on, was.3), λ _. on)
      (λ k ne. (has-with_other c.failed b k ne, refl)) (λ t. absurd (both_ways (is_free c.history) fr t))

  -- it wanted memory in the open entry
  pub sound_starved : is_free c.history ≡ false → is_enabled c.history b ≡ true → CoreInvariant (record (with_stance c b out) { starved = with_backend c.starved b })
  sound_starved fr on =
      sound_moved c b c.failed (with_backend c.starved b) out w lt (λ _. inr (has-with_same c.starved b))
      (λ t. absurd (both_ways (in_mask c.failed b) was.2 t), λ _. on) (λ k ne. (refl, has-with_other c.starved b k ne)) (λ t. absurd (both_ways (is_free c.history) fr t))

  -- it is out, and was not enabled
  pub sound_dropped : is_enabled c.history b ≡ false → CoreInvariant (with_stance c b out)
  sound_dropped off =
      sound_moved c b c.failed c.starved out w lt (λ on. absurd (both_ways (is_enabled c.history b) off on)) (w.in_masks b) (λ k ne. (refl, refl)) w.clear

-- what a backend does with an entry
module _ (tells : Bool) (c : Core) (b : ℕ) (w : CoreInvariant c) where
  -- the state after it, with the masks that come of it
  abbrev pub taken : ℕ → ℕ → Stance → Core
  taken f s now = record (with_stance c b now) { failed = f; starved = s }

  -- it took part in the entry
  done : (o : Outcome) (now : Stance) (t : TakesEntry tells c b (did.Done o) now) → CoreInvariant (taken c.failed c.starved now)
  done o now t =
      subst (λ (x : Stance). CoreInvariant (taken c.failed c.starved x)) (sym t.does.3)
      (sound_next c b t.p w t.stands (begun_after (begun_at c b) t.entry.tx t.entry.act) (slice_get_within (log c.history) t.p t.entry t.there))

  -- it passed the entry over
  skipped : (now : Stance) (t : TakesEntry tells c b did.Skipped now) → CoreInvariant (taken c.failed c.starved now)
  skipped now t =
      subst (λ (x : Stance). CoreInvariant (taken c.failed c.starved x)) (sym t.does.1)
      (sound_next c b t.p w t.stands (begun_at c b) (slice_get_within (log c.history) t.p t.entry t.there))

  -- an enabled backend takes the open entry
  pub sound_applied : is_free c.history ≡ false → is_enabled c.history b ≡ true → (d : Did) (now : Stance) → TakesEntry tells c b d now → CoreInvariant (taken (failed_after c.failed b d) (starved_after c.starved b d) now)
  sound_applied fr on (did.Done o) now t = done o now t
  sound_applied fr on did.Skipped now t = skipped now t
  sound_applied fr on did.Failed now t = subst (λ (x : Stance). CoreInvariant (taken (with_backend c.failed b) c.starved x)) (sym t.does.1) (sound_failed c b t.p w t.stands fr on)
  sound_applied fr on did.Starved now t = subst (λ (x : Stance). CoreInvariant (taken c.failed (with_backend c.starved b) x)) (sym t.does.1) (sound_starved c b t.p w t.stands fr on)

  -- one that is not enabled takes the log's next
  pub sound_replayed : is_enabled c.history b ≡ false → (d : Did) (now : Stance) → TakesEntry tells c b d now → CoreInvariant (with_stance c b now)
  sound_replayed off (did.Done o) now t = done o now t
  sound_replayed off did.Skipped now t = skipped now t
  sound_replayed off did.Failed now t = subst (λ (x : Stance). CoreInvariant (with_stance c b x)) (sym t.does.1) (sound_dropped c b t.p w t.stands off)
  sound_replayed off did.Starved now t = subst (λ (x : Stance). CoreInvariant (with_stance c b x)) (sym t.does.1) (sound_dropped c b t.p w t.stands off)

-- ---- dumps are taken and loaded

-- a dump of a backend that is there
pub sound_dumped : (c : Core) (b : ℕ) (name : List ℕ) (n : ℕ) → CoreInvariant c → position_at c b ≡ Some n → CoreInvariant (dumped_as c b name n)
sound_dumped c b name n w is =
    let d : TakenDump = record { name = name; source = b; position = n } in
    let sound : IsSoundDump c.placement.backends c.history d = record { source = subst (λ (m : ℕ). b < m) w.cells (is_there c.positions b n is); position = (stands_there c b n w is).0 } in
    record {
      legal = w.legal;
      short = w.short;
      one_open = w.one_open;
      cells = w.cells;
      hosts = w.hosts;
      stands = w.stands;
      in_masks = w.in_masks;
      clear = w.clear;
      begun_cells = w.begun_cells;
      dumps = All-push (IsSoundDump c.placement.backends c.history) c.dumps d w.dumps sound;
      sessions = w.sessions;
      rises = w.rises;
      few = w.few;
      numbers = w.numbers;
      known = w.known;
      log_faults = w.log_faults;
      waits = w.waits;
    }

-- a backend that is not enabled comes to stand at a position within the log
pub sound_loaded : (c : Core) (b n : ℕ) (begun : List ℕ) → CoreInvariant c → b < length c.positions → is_free c.history ≡ true → is_enabled c.history b ≡ false → n ≤ length (log c.history)
    → CoreInvariant (with_stance c b (record { position = Some n; begun = begun }))
sound_loaded c b n begun w lt fr off le =
    let clear = w.clear fr in
    let now : BackendStands c.history c.failed c.starved b (Some n) = (
      le,
      λ on. absurd (both_ways (is_enabled c.history b) off on),
      ap (λ m. in_mask m b) clear.0 ∙ has-zero b,
      ap (λ m. in_mask m b) clear.1 ∙ has-zero b,
    ) in
    sound_moved c b c.failed c.starved (record { position = Some n; begun = begun }) w lt now (w.in_masks b) (λ k ne. (refl, refl)) w.clear
