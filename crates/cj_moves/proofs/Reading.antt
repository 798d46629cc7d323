-- What a read gives.
use Rattle.std.proofs.Common.{◌≡◌, ◌≢◌, ◌⊎◌, inl, inr, ℕ, ◌<◌, ◌≤◌, ◌^◌, Bool, true, false, List, length, Option, None, Some, is_some, Ok, Err, refl, ap, sym, ◌∙◌, subst, arith}
use Rattle.cj_state.proofs.Common.{AreBetween, CallsUnder, Core, CoreInvariant, MayCallUnder, both_ways, find_session, in_mask, log, position_at, session_at}
use Rattle.cj_model.specs.declared.select.Select.{Select}
use Rattle.cj_model.specs.declared.request.Request.TheVariants as request
use Rattle.cj_model.specs.declared.answer.Asked.{Asked}
use Rattle.cj_model.specs.declared.answer.Asked.TheVariants as asked
use Rattle.cj_model.specs.declared.codes.TheConstants.{READ_FAULT, HISTORY_FULL}
use Rattle.cj_cluster.specs.declared.moves.Moved.{Moved}
use Rattle.cj_cluster.specs.declared.moves.Moved.TheVariants as moved
use Rattle.cj_cluster.specs.declared.moves.Reason.TheVariants as reason
use Rattle.cj_cluster.specs.declared.moves.MoveError.TheVariants.{NotNow}
use Rattle.cj_cluster.specs.declared.moves.OpenSession.{OpenSession}
use Rattle.cj_cluster.specs.History.Answering.{CanServe}
use Rattle.cj_cluster.proofs.Pushed.{prefix_self}
use Rattle.cj_cluster.proofs.Sessions.{session_at-is}
use Rattle.cj_cluster.proofs.Standing.{open_above, still_tried}
use Rattle.cj_cluster.specs.Moves.Moves.{MoveResult, is_open, open_tx, position_or_zero, IsServingMask, ReadIsAnswered, ReadCameTooEarly, HasNoOtherRead, AttemptsRead, AttemptsReadOrWaits, with_read, answered_at, was_answered, still_reading, tried_of, tried_with}
use Rattle.cj_model.proofs.Masks.{has-zero, some_bit}
use Rattle.cj_model.specs.Database.Outcomes.{IsAsked}
use Rattle.cj_state.specs.declared.cells.AskError.{AskError}
use Rattle.cj_state.specs.declared.cells.AskError.TheVariants as errors
use Rattle.cj_moves.specs.Counting.{tells_fault}
use Rattle.cj_state.specs.Effects.{Asks, asked_core, HaveFailed}
use Rattle.cj_moves.specs.Proving.ReadParts.{RefusesOrStays, answer_given}
use Rattle.cj_moves.specs.Logins.{LogsInByMove}

-- ---- what was tried

-- the backends that were tried in the session's read have failed in it, and in that of no session none was tried
pub tried_failed : (c : Core) (s : ℕ) → CoreInvariant c → AreBetween c → HaveFailed c s (tried_of (session_at c s).reading)
tried_failed c s w between = one (find_session c.sessions s) refl
  where
    one : (o : Option OpenSession) → find_session c.sessions s ≡ o → HaveFailed c s (tried_of (session_at c s).reading)
    one None is =
        let shut : is_open c s ≡ false = ap (λ (x : Option OpenSession). is_some x) is in
        let none : tried_of (session_at c s).reading ≡ 0 = ap (λ (x : OpenSession). tried_of x.reading) (session_at-is c s None is) in (
          record { front = c.history; least = 0 },
          record {
            longer = prefix_self c.history;
            owes = (let le : 0 ≤ length (log c.history) = omega arith in le);
            here = λ t. absurd (both_ways (is_open c s) shut t);
            later = λ lt. refl;
          },
          λ b there. absurd (both_ways (in_mask (tried_of (session_at c s).reading) b) (ap (λ m. in_mask m b) none ∙ has-zero b) there),
        )
    one (Some x) is = still_tried c s (open_above c s w (ap (λ (o : Option OpenSession). is_some o) is)) between

-- ---- an attempt

module _ (tells : Bool) (c : Core) (s b : ℕ) (select : Select) (same : HasNoOtherRead (session_at c s) select) where
  reads : (g : MoveResult) (z : Core) → AttemptsRead tells c s b select g z → AttemptsReadOrWaits tells c s b select g z
  reads g z h = inr (same, h)

  -- some backend serves the query, but not this one
  pub not_serving : (mask : ℕ) → mask < 2 ^ 32 → mask ≢ 0 → IsServingMask c select mask → (CanServe c.placement c.history (request.Select select) b → ⊥)
      → AttemptsReadOrWaits tells c s b select (Err (NotNow (record { reason = reason.NotServing; value = b }))) c
  not_serving mask fits some serving none =
      let bit = some_bit mask some fits in
      reads (Err (NotNow (record { reason = reason.NotServing; value = b }))) c (refl, λ _. (bit.0, (serving bit.0).1 bit.2), none, refl)

  module _ (serves : CanServe c.placement c.history (request.Select select) b) where
    of_answer : (a : Asked) (z : Core) → ReadIsAnswered tells c s b select a z → AttemptsRead tells c s b select (Ok (answer_given a)) z
    of_answer (asked.Rows a) z h = h
    of_answer (asked.Refused r) z h = inl h

    -- it answered
    pub answered : (a : Asked) (p : ℕ) (mid z : Core) (m : Moved) → Asks tells c s b (open_tx c s) select (Ok (a, p)) → mid ≡ c → z ≡ with_read mid s (λ x. answered_at p (was_answered x)) → m ≡ answer_given a
        → AttemptsReadOrWaits tells c s b select (Ok m) z
    answered a p mid z m asks same_core after is =
        subst (λ (x : Moved). AttemptsReadOrWaits tells c s b select (Ok x) z) (sym is)
        (reads (Ok (answer_given a)) z
        (of_answer a z
        (record {
          serves = serves;
          p = p;
          stands = asks.0;
          owed = asks.1;
          possible = asks.3;
          says = asks.4;
          after = after ∙ ap (λ (x : Core). with_read x s (λ y. answered_at p (was_answered y))) same_core;
        })))

    -- it is out, or below what the session has seen
    early : (q : Option ℕ) (mid z : Core) → position_at c b ≡ q → (q ≡ None) ⊎ (position_or_zero q < (session_at c s).least) → mid ≡ c
        → z ≡ with_read mid s (still_reading select (tried_of (session_at mid s).reading)) → ReadCameTooEarly c s b select q z
    early q mid z stands why same_core after =
        record {
          serves = serves;
          stands = stands;
          early = why;
          after = after ∙ ap (λ (x : Core). with_read x s (still_reading select (tried_of (session_at x s).reading))) same_core;
        }

    pub is_out : (mid z : Core) → Asks tells c s b (open_tx c s) select (Err errors.Out) → mid ≡ c → z ≡ with_read mid s (still_reading select (tried_of (session_at mid s).reading))
        → AttemptsReadOrWaits tells c s b select (Ok moved.Out) z
    is_out mid z asks same_core after = reads (Ok moved.Out) z (early None mid z asks (inl refl) same_core after)

    pub is_behind : (p : ℕ) (mid z : Core) → Asks tells c s b (open_tx c s) select (Err (errors.Behind p)) → mid ≡ c → z ≡ with_read mid s (still_reading select (tried_of (session_at mid s).reading))
        → AttemptsReadOrWaits tells c s b select (Ok (moved.Behind p)) z
    is_behind p mid z asks same_core after = reads (Ok (moved.Behind p)) z (early (Some p) mid z asks.0 (inr asks.1) same_core after)

    -- it failed, which the history says
    pub failed : (mid z : Core) (m : Moved) (serving : ℕ) → IsServingMask c select serving → Asks tells c s b (open_tx c s) select (Err errors.Failed) → mid ≡ asked_core c s b (Err errors.Failed)
        → RefusesOrStays mid s select (tried_with c s b) serving m z → AttemptsReadOrWaits tells c s b select (Ok m) z
    failed mid z m serving is asks noted (inl h) =
        subst (λ (x : Moved). AttemptsReadOrWaits tells c s b select (Ok x) z) (sym h.1)
        (reads (Ok (moved.Refused (record { code = READ_FAULT; a = serving; b = 0 }))) z
        (inr (inr (inr (record {
          serves = serves;
          there = asks.0;
          space = asks.1;
          all = λ k there. h.0 k ((is k).0 there);
          mask = serving;
          serving = is;
          refused = refl;
          after = h.2 ∙ ap (λ (x : Core). with_read x s was_answered) noted;
        })))))
    failed mid z m serving is asks noted (inr h) =
        subst (λ (x : Moved). AttemptsReadOrWaits tells c s b select (Ok x) z) (sym h.1)
        (reads (Ok moved.Failed) z
        (record {
          serves = serves;
          there = asks.0;
          space = asks.1;
          more = λ all. h.0 (λ k on. all k ((is k).1 on));
          after = h.2 ∙ ap (λ (x : Core). with_read x s (still_reading select (tried_with c s b))) noted;
        }))

    -- it failed, and the history has no room to say so
    pub unnoted : (n : ℕ) (mid z : Core) (m : Moved) → Asks tells c s b (open_tx c s) select (Err (errors.Unnoted n)) → mid ≡ c → m ≡ moved.Refused (record { code = HISTORY_FULL; a = n; b = 0 }) → z ≡ with_read mid s was_answered
        → AttemptsReadOrWaits tells c s b select (Ok m) z
    unnoted n mid z m asks same_core is after =
        subst (λ (x : Moved). AttemptsReadOrWaits tells c s b select (Ok x) z) (sym is)
        (reads (Ok (moved.Refused (record { code = HISTORY_FULL; a = n; b = 0 }))) z
        (inr (inr (inl (record {
          serves = serves;
          there = asks.0;
          full = asks.1;
          refused = ap (λ (k : ℕ). record { code = HISTORY_FULL; a = k; b = 0 }) asks.2;
          after = after ∙ ap (λ (x : Core). with_read x s was_answered) same_core;
        })))))

-- what was asked of this transaction, and why there was no answer
pub asks_same : (tells : Bool) (c : Core) (s b : ℕ) (select : Select) (t u : ℕ) (e d : AskError) → t ≡ u → e ≡ d → Asks tells c s b t select (Err e) → Asks tells c s b u select (Err d)
asks_same tells c s b select t u e d same is asks = subst (λ (k : ℕ). Asks tells c s b k select (Err d)) same (subst (λ (k : AskError). Asks tells c s b t select (Err k)) is asks)

-- ---- whom it blames

-- an answer blames no backend
pub answers_blame_none : (a : Asked) → IsAsked a → tells_fault (Ok (answer_given a)) ≡ false
answers_blame_none (asked.Rows a) is = refl
answers_blame_none (asked.Refused r) (inl q) = rw q refl
answers_blame_none (asked.Refused r) (inr (inl q)) = rw q refl
answers_blame_none (asked.Refused r) (inr (inr (inl q))) = rw q refl
answers_blame_none (asked.Refused r) (inr (inr (inr (inl q)))) = rw q refl
answers_blame_none (asked.Refused r) (inr (inr (inr (inr q)))) = rw q refl

-- a failure blames one
pub failures_blame : (c : Core) (s : ℕ) (select : Select) (tried serving : ℕ) (m : Moved) (z : Core) → RefusesOrStays c s select tried serving m z → tells_fault (Ok m) ≡ true
failures_blame c s select tried serving m z (inl h) = rw h.1 refl
failures_blame c s select tried serving m z (inr h) = rw h.1 refl

-- ---- under which login it called one

-- a backend that answers was called
pub answers_log_in : (b : ℕ) (login : List ℕ) (a : Asked) (old new : List (Option (List ℕ))) → CallsUnder b login old new → LogsInByMove b login (Ok (answer_given a)) old new
answers_log_in b login (asked.Rows a) old new called = called
answers_log_in b login (asked.Refused r) old new called = inr called

-- one that failed may have been
pub failures_log_in : (b : ℕ) (login : List ℕ) (c : Core) (s : ℕ) (select : Select) (tried serving : ℕ) (m : Moved) (z : Core) (old new : List (Option (List ℕ))) → RefusesOrStays c s select tried serving m z
    → MayCallUnder b login old new → LogsInByMove b login (Ok m) old new
failures_log_in b login c s select tried serving m z old new (inl h) called = subst (λ (k : Moved). LogsInByMove b login (Ok k) old new) (sym h.1) called
failures_log_in b login c s select tried serving m z old new (inr h) called = subst (λ (k : Moved). LogsInByMove b login (Ok k) old new) (sym h.1) called
