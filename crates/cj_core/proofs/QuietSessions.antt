-- Each reply of a session over which no backend, or not the log's store, counted a fault doesn't say that it failed.
use Rattle.std.proofs.Common.{◌≡◌, ◌⊎◌, inl, inr, ℕ, zero, suc, ℤ, ◌-◌, ◌^◌, ◌<◌, ◌≤◌, ◌==◌, Bool, true, false, if◌then◌else◌, List, [], ◌∷◌, length, get_or, All, Option, None, Some, refl, ap, sym, ◌∙◌, subst, arith, ⊎_elim}
use Rattle.cj_core.proofs.Common.{Act, act_of, All-cons, All-nil, All-weaker, ALREADY_LOGGED_IN, Answer, BAD_LOGIN, BlamesNobody, BlamesNoStore, cache_counted, Call, CanCountMore, cases_lt, Core, desk_of, desk_tx, DeskCall, Done, faults_of, forbidden_by, get_or_default, get_or_past, IN_TRANSACTION, log_failed_in, LOG_FAULT, log_faults_after, NO_MEMORY}
use Rattle.cj_core.proofs.Common.{NO_TRANSACTION, NOT_LOGGED_IN, query_skipped, READ_FAULT, Refusal, refusal_of_code, Refused, Reply, Rows, SCHEMA_IN_TRANSACTION, SoloState, SoloSteps, Stats, sum, sum_by-cons, SYNTAX, turn_taken, UNFINISHED, with_core, with_request_counted, WorldState, WorldTurn}
use Rattle.cj_model.specs.declared.message.Message.{Message}
use Rattle.cj_model.specs.declared.message.Message.TheVariants as message
use Rattle.cj_model.specs.declared.request.Act.TheVariants as act
use Rattle.cj_cluster.specs.declared.session.SessionEnd.{SessionEnd}
use Rattle.cj_desk.specs.SessionTranscripts.{SessionSetting, setting, ClientState, AnswersStats, AnswersQuery, AnswersMessage, LeavesDesk, MessageExchange, MessageExchanges, SendsReply, SendsRows, SessionTranscript, login_reply, refusal_by_transaction, too_large_reply}
use Rattle.cj_core.proofs.QuietCalls.{more_faults, quiet_store, quiet_turn}

-- ---- lists of counts, which are 0 past their end

-- where no count is greater, the sum isn't
sums_below : (xs ys : List ℕ) → ((k : ℕ) → get_or xs k 0 ≤ get_or ys k 0) → sum xs ≤ sum ys
sums_below [] ys below = omega arith
sums_below (x ∷ xs) [] below = omega (arith, below 0, sums_below xs [] (λ k. below (suc k)), sum_by-cons (λ (n : ℕ). n) x xs)
sums_below (x ∷ xs) (y ∷ ys) below =
    omega (arith, below 0, sums_below xs ys (λ k. below (suc k)), sum_by-cons (λ (n : ℕ). n) x xs, sum_by-cons (λ (n : ℕ). n) y ys)

-- where no count fell and the sum did not rise, no count rose
none_rose : (xs ys : List ℕ) → ((k : ℕ) → get_or xs k 0 ≤ get_or ys k 0) → sum ys ≤ sum xs → (k : ℕ) → get_or ys k 0 ≤ get_or xs k 0
none_rose xs [] below sums k = omega arith
none_rose [] (y ∷ ys) below sums zero = let adds = sum_by-cons (λ (n : ℕ). n) y ys in omega (arith, adds, sums)
none_rose [] (y ∷ ys) below sums (suc k) = let adds = sum_by-cons (λ (n : ℕ). n) y ys in none_rose [] ys (λ i. omega arith) (omega (arith, adds, sums)) k
none_rose (x ∷ xs) (y ∷ ys) below sums zero =
    omega (arith, sums_below xs ys (λ i. below (suc i)), sum_by-cons (λ (n : ℕ). n) x xs, sum_by-cons (λ (n : ℕ). n) y ys, sums)
none_rose (x ∷ xs) (y ∷ ys) below sums (suc k) =
    none_rose xs ys (λ i. below (suc i)) (omega (arith, below 0, sum_by-cons (λ (n : ℕ). n) x xs, sum_by-cons (λ (n : ℕ). n) y ys, sums)) k

-- ---- counts that each call leaves or raises

-- These counts of a world hang on no core and rise by turns alone, and a turn over which none rose is not answered by a code that blames somebody.
module _ (counts : WorldState → List ℕ) (same_core : (w : WorldState) (c : Core) → counts (with_core w c) ≡ counts w)
    (turn_grows : (tells : Bool) (s : ℕ) (old new : WorldState) (c : Call) → WorldTurn tells s old c new → (low k : ℕ) → low < 2 ^ 64 - 1 → low < get_or (counts old) k 0 → low < get_or (counts new) k 0)
    (Blamed : ℕ → Type 0) (high : (n : ℕ) → Blamed n → (UNFINISHED ≤ n) × (n ≤ LOG_FAULT))
    (quiet_call : (tells : Bool) (s : ℕ) (old new : WorldState) (c : Call) → WorldTurn tells s old c new → ((k : ℕ) → get_or (counts new) k 0 ≤ get_or (counts old) k 0) → CanCountMore (counts old) → (r : Refusal) → c.reply ≡ Refused r → Blamed r.code → ⊥) where
  -- the count at place k
  abbrev count_at : SoloState → ℕ → ℕ
  count_at a k = get_or (counts a.world) k 0

  -- a count that stands above a number below the type's end stays above it
  abbrev Grows : SoloState → SoloState → Type 0
  Grows a z = (low k : ℕ) → low < 2 ^ 64 - 1 → low < count_at a k → low < count_at z k

  grows_same : (a z : SoloState) → counts z.world ≡ counts a.world → Grows a z
  grows_same a z same = λ low k small above. subst (λ (counts : List ℕ). low < get_or counts k 0) (sym same) above

  grows_then : (a m z : SoloState) → Grows a m → Grows m z → Grows a z
  grows_then a m z first last = λ low k small above. last low k small (first low k small above)

  -- no count rose over the call, and each could
  abbrev IsQuiet : SoloState → SoloState → Type 0
  IsQuiet a z = ((k : ℕ) → count_at z k ≤ count_at a k) × CanCountMore (counts a.world)

  -- each count stands below the type's end
  all_low : (a : SoloState) → CanCountMore (counts a.world) → (k : ℕ) → count_at a k < 2 ^ 64 - 1
  all_low a small k =
      ⊎_elim (λ (within : k < length (counts a.world)). small k 0 within)
      (λ (past : length (counts a.world) ≤ k). let none : count_at a k ≡ 0 = get_or_past (counts a.world) k 0 past in omega (arith, none)) (cases_lt k (length (counts a.world)))

  -- so none falls
  none_falls : (a z : SoloState) → CanCountMore (counts a.world) → Grows a z → (k : ℕ) → count_at a k ≤ count_at z k
  none_falls a z small grows k =
      ⊎_elim
      (λ (fell : count_at z k < count_at a k).
      let top = all_low a small k in
      let again : count_at z k < count_at z k = grows (count_at z k) k (omega (arith, fell, top)) fell in
      absurd (omega (arith, again)))
      (λ (le : count_at a k ≤ count_at z k). le) (cases_lt (count_at z k) (count_at a k))

  -- where no count is greater at the end than at the beginning, no call between them raised one
  module _ (begin a z end : SoloState) (first : Grows begin a) (call : Grows a z) (last : Grows z end) (kept : (k : ℕ) → count_at end k ≤ count_at begin k) (small : CanCountMore (counts begin.world)) where
    not_above : (k : ℕ) → count_at a k ≤ count_at begin k
    not_above k =
        ⊎_elim
        (λ (above : count_at begin k < count_at a k).
        let at_end : count_at begin k < count_at end k = last (count_at begin k) k (all_low begin small k) (call (count_at begin k) k (all_low begin small k) above) in
        let is = kept k in
        absurd (omega (arith, at_end, is)))
        (λ (le : count_at a k ≤ count_at begin k). le) (cases_lt (count_at begin k) (count_at a k))

    not_raised : (k : ℕ) → count_at z k ≤ count_at a k
    not_raised k =
        ⊎_elim
        (λ (raised : count_at a k < count_at z k).
        let low = not_above k in
        let top = all_low begin small k in
        let below : count_at a k < 2 ^ 64 - 1 = omega (arith, low, top) in
        let at_end : count_at a k < count_at end k = last (count_at a k) k below raised in
        let is = kept k in
        let at_begin : count_at a k < count_at begin k = omega (arith, at_end, is) in
        let again : count_at a k < count_at a k = first (count_at a k) k below at_begin in
        absurd (omega (arith, again)))
        (λ (le : count_at z k ≤ count_at a k). le) (cases_lt (count_at a k) (count_at z k))

    quiet_between : IsQuiet a z
    quiet_between = (
      not_raised,
      λ k d within.
          let low = not_above k in
          let top = all_low begin small k in
          let same_at : get_or (counts a.world) k d ≡ count_at a k = get_or_default (counts a.world) k d 0 within in
          omega (arith, low, top, same_at),
    )

  -- ---- replies

  -- the reply is no refusal by such a code
  abbrev Quiet : Reply → Type 0
  Quiet reply = (r : Refusal) → reply ≡ Refused r → Blamed r.code → ⊥

  other : (reply : Reply) (r : Refusal) → reply ≡ Refused r → (r.code < UNFINISHED) ⊎ (LOG_FAULT < r.code) → Quiet reply
  other reply r is far q same blamed =
      let code : q.code ≡ r.code = (let e : q ≡ r = cc (is, same) in ap (λ (x : Refusal). x.code) e) in
      let between = high q.code blamed in
      let low = between.0 in
      let most = between.1 in
      ⊎_elim (λ (lt : r.code < UNFINISHED). omega (arith, lt, code, low)) (λ (lt : LOG_FAULT < r.code). omega (arith, lt, code, most)) far

  login_blames_nobody : (user : Option (List ℕ)) (admitted : Bool) → Quiet (login_reply user admitted)
  login_blames_nobody (Some user) admitted = other (login_reply (Some user) admitted) (refusal_of_code ALREADY_LOGGED_IN) refl (inl (omega arith))
  login_blames_nobody None true = λ r same. absurd (cc same)
  login_blames_nobody None false = other (login_reply None false) (refusal_of_code BAD_LOGIN) refl (inl (omega arith))

  -- what a transaction forbids
  forbidden_if : (t : Bool) (q r : Refusal) → (if t then None else Some q) ≡ Some r → Quiet (Refused q) → Quiet (Refused r)
  forbidden_if true q r is quiet = absurd (cc is)
  forbidden_if false q r is quiet = subst (λ (x : Refusal). Quiet (Refused x)) (cc is) quiet

  forbidden_unless : (t : Bool) (q r : Refusal) → (if t then Some q else None) ≡ Some r → Quiet (Refused q) → Quiet (Refused r)
  forbidden_unless true q r is quiet = subst (λ (x : Refusal). Quiet (Refused x)) (cc is) quiet
  forbidden_unless false q r is quiet = absurd (cc is)

  quiet_code : (n a b : ℕ) → (n < UNFINISHED) ⊎ (LOG_FAULT < n) → Quiet (Refused (record { code = n; a = a; b = b }))
  quiet_code n a b = other (Refused (record { code = n; a = a; b = b })) (record { code = n; a = a; b = b }) refl

  forbidden_blames_nobody : (tx : ℕ) (a : Act) (r : Refusal) → forbidden_by tx a ≡ Some r → Quiet (Refused r)
  forbidden_blames_nobody tx act.Begin r is = forbidden_if (tx == 0) (record { code = IN_TRANSACTION; a = tx; b = 0 }) r is (quiet_code IN_TRANSACTION tx 0 (inl (omega arith)))
  forbidden_blames_nobody tx (act.Write w) r is = absurd (cc is)
  forbidden_blames_nobody tx (act.Create create) r is = forbidden_if (tx == 0) (record { code = SCHEMA_IN_TRANSACTION; a = tx; b = 0 }) r is (quiet_code SCHEMA_IN_TRANSACTION tx 0 (inl (omega arith)))
  forbidden_blames_nobody tx (act.Drop table) r is = forbidden_if (tx == 0) (record { code = SCHEMA_IN_TRANSACTION; a = tx; b = 0 }) r is (quiet_code SCHEMA_IN_TRANSACTION tx 0 (inl (omega arith)))
  forbidden_blames_nobody tx act.Commit r is = forbidden_unless (tx == 0) (refusal_of_code NO_TRANSACTION) r is (quiet_code NO_TRANSACTION 0 0 (inl (omega arith)))
  forbidden_blames_nobody tx act.Abort r is = forbidden_unless (tx == 0) (refusal_of_code NO_TRANSACTION) r is (quiet_code NO_TRANSACTION 0 0 (inl (omega arith)))

  refused_blames_nobody : (tx : ℕ) (o : Option Act) (r : Refusal) → refusal_by_transaction tx o ≡ Some r → Quiet (Refused r)
  refused_blames_nobody tx None r is = absurd (cc is)
  refused_blames_nobody tx (Some a) r is = forbidden_blames_nobody tx a r is

  -- what is sent of a reply
  rows_sent : (rows : Answer) (sent : Reply) → SendsRows rows sent → Quiet sent
  rows_sent rows sent (inl whole) = λ r same. absurd (cc (whole.1, same))
  rows_sent rows sent (inr (inl large)) =
      subst Quiet (sym large.1) (other (too_large_reply rows) _ refl (inl (omega arith)))
  rows_sent rows sent (inr (inr want)) = other sent (refusal_of_code NO_MEMORY) want (inr (omega arith))

  sent_blames_nobody : (answer sent : Reply) → SendsReply answer sent → Quiet answer → Quiet sent
  sent_blames_nobody (Done n) sent is quiet = λ r same. absurd (cc (is, same))
  sent_blames_nobody (Rows rows) sent is quiet = rows_sent rows sent is
  sent_blames_nobody (Stats hits misses) sent is quiet = λ r same. absurd (cc (is, same))
  sent_blames_nobody (Refused r) sent is quiet = subst Quiet (sym is) quiet

  -- ---- a session

  module _ {D : Type 0} (tells : Bool) (drawn : D → ℕ → ℕ) (later : D → ℕ → D) (moment : Option ℤ) where
    abbrev w : SessionSetting SoloState D
    w = setting desk_of (SoloSteps tells) drawn later moment

    -- no count falls

    step_grows : (a z : SoloState) (x : DeskCall) → SoloSteps tells a x z → Grows a z
    step_grows a z (turn_taken c) h = λ low k small above. turn_grows tells a.session a.world z.world c h.1.1 low k small above
    step_grows a z query_skipped h = grows_same a z (ap (λ (y : SoloState). counts y.world) h.1 ∙ same_core a.world (with_request_counted a.world.core a.session))
    step_grows a z (cache_counted hits misses) h = grows_same a z (ap (λ (y : SoloState). counts y.world) h.1.0)

    stats_grow : (user : Option (List ℕ)) (a z : SoloState) (r : Reply) → AnswersStats (SoloSteps tells) user a r z → Grows a z
    stats_grow None a z r h = grows_same a z (ap (λ (y : SoloState). counts y.world) h.1)
    stats_grow (Some user) a z r h = step_grows a z (cache_counted h.hits h.misses) h.asked

    query_grows : (user : Option (List ℕ)) (a z : ClientState SoloState D) (text : List ℕ) (r : Reply) → AnswersQuery w user a text r z → Grows a.desk z.desk
    query_grows None a z text r h = step_grows a.desk z.desk query_skipped h.1.counted
    query_grows (Some user) a z text r (inl h) = step_grows a.desk z.desk query_skipped h.1.counted
    query_grows (Some user) a z text r (inr t) = step_grows a.desk z.desk (turn_taken _) t.turn.made

    exchange_grows : (m : Message) (a z : ClientState SoloState D) (r : Reply) → MessageExchange w a m r z → Grows a.desk z.desk
    exchange_grows (message.Login user password) a z r x = grows_same a.desk z.desk (ap (λ (y : SoloState). counts y.world) x.answers.desk)
    exchange_grows (message.Query text) a z r x = query_grows a.user a z text x.answer x.answers
    exchange_grows message.Stats a z r x = stats_grow a.user a.desk z.desk x.answer x.answers.0
    exchange_grows message.Quit a z r x = absurd x.answers

    exchanges_grow : (ms : List Message) (rs : List Reply) (a z : ClientState SoloState D) → MessageExchanges w a ms rs z → Grows a.desk z.desk
    exchanges_grow [] [] a z same = grows_same a.desk z.desk (ap (λ (y : ClientState SoloState D). counts y.desk.world) same)
    exchanges_grow (m ∷ ms) (r ∷ rs) a z h = grows_then a.desk h.0.desk z.desk (exchange_grows m a h.0 r h.1) (exchanges_grow ms rs h.0 z h.2)
    exchanges_grow _ _ a z never = absurd never

    leaves_grow : (user : Option (List ℕ)) (a z : SoloState) → LeavesDesk desk_of (SoloSteps tells) user a z → Grows a z
    leaves_grow user a z (inl same) = grows_same a z (ap (λ (y : SoloState). counts y.world) same.1)
    leaves_grow user a z (inr back) = step_grows a z (turn_taken _) back.made

    -- over a quiet call the reply blames nobody

    turn_quiet : (a z : SoloState) (c : Call) → SoloSteps tells a (turn_taken c) z → IsQuiet a z → Quiet c.reply
    turn_quiet a z c h quiet = quiet_call tells a.session a.world z.world c h.1.1 quiet.0 quiet.1

    stats_quiet : (user : Option (List ℕ)) (a z : SoloState) (r : Reply) → AnswersStats (SoloSteps tells) user a r z → Quiet r
    stats_quiet None a z r h = other r (refusal_of_code NOT_LOGGED_IN) h.0 (inl (omega arith))
    stats_quiet (Some user) a z r h = λ q same. absurd (cc (h.replied, same))

    query_quiet : (user : Option (List ℕ)) (a z : ClientState SoloState D) (text : List ℕ) (r : Reply) → AnswersQuery w user a text r z → IsQuiet a.desk z.desk → Quiet r
    query_quiet None a z text r h quiet = other r (refusal_of_code NOT_LOGGED_IN) h.0 (inl (omega arith))
    query_quiet (Some user) a z text r (inl (inl x, skips)) quiet = other r (refusal_of_code SYNTAX) x.replied (inl (omega arith))
    query_quiet (Some user) a z text r (inl (inr (inl x), skips)) quiet = subst Quiet (sym x.replied) (refused_blames_nobody (desk_tx (desk_of a.desk)) (act_of x.request) x.refusal x.forbids)
    query_quiet (Some user) a z text r (inl (inr (inr want), skips)) quiet = other r (refusal_of_code NO_MEMORY) want (inr (omega arith))
    query_quiet (Some user) a z text r (inr t) quiet = turn_quiet a.desk z.desk _ t.turn.made quiet

    answer_quiet : (m : Message) (a z : ClientState SoloState D) (r : Reply) → AnswersMessage w a m r z → IsQuiet a.desk z.desk → Quiet r
    answer_quiet (message.Login user password) a z r x quiet = subst Quiet (sym x.replied) (login_blames_nobody a.user _)
    answer_quiet (message.Query text) a z r x quiet = query_quiet a.user a z text r x quiet
    answer_quiet message.Stats a z r x quiet = stats_quiet a.user a.desk z.desk r x.0
    answer_quiet message.Quit a z r x quiet = absurd x

    module _ (begin end : SoloState) (kept : (k : ℕ) → count_at end k ≤ count_at begin k) (small : CanCountMore (counts begin.world)) where
      exchanges_quiet : (ms : List Message) (rs : List Reply) (a z : ClientState SoloState D) → MessageExchanges w a ms rs z → Grows begin a.desk → Grows z.desk end → All Quiet rs
      exchanges_quiet [] [] a z h first last = All-nil Quiet
      exchanges_quiet (m ∷ ms) (r ∷ rs) a z h first last =
          let call : Grows a.desk h.0.desk = exchange_grows m a h.0 r h.1 in
          let rest : Grows h.0.desk end = grows_then h.0.desk z.desk end (exchanges_grow ms rs h.0 z h.2) last in
          let quiet : IsQuiet a.desk h.0.desk = quiet_between begin a.desk h.0.desk end first call rest kept small in
          All-cons Quiet r rs (sent_blames_nobody h.1.answer r h.1.sends (answer_quiet m a h.0 h.1.answer h.1.answers quiet))
          (exchanges_quiet ms rs h.0 z h.2 (grows_then begin a.desk h.0.desk first call) last)
      exchanges_quiet _ _ a z never first last = absurd never

    -- no count falls over a whole session, where none stands at its type's end
    pub counts_grow : (a : ClientState SoloState D) (taken written : List ℕ) (ending : SessionEnd) (desk : SoloState) (draws : D) (t : SessionTranscript w a taken written ending desk draws)
        → CanCountMore (counts a.desk.world) → (k : ℕ) → count_at a.desk k ≤ count_at desk k
    counts_grow a taken written ending desk draws t small =
        none_falls a.desk desk small (grows_then a.desk t.last.desk desk (exchanges_grow t.so_far.messages t.replies a t.last t.so_far.exchanges) (leaves_grow t.last.user t.last.desk desk t.leaves))

    pub quiet_counts : (a : ClientState SoloState D) (taken written : List ℕ) (ending : SessionEnd) (desk : SoloState) (draws : D) (t : SessionTranscript w a taken written ending desk draws)
        → sum (counts desk.world) ≡ sum (counts a.desk.world) → CanCountMore (counts a.desk.world) → All Quiet t.replies
    quiet_counts a taken written ending desk draws t same small =
        let leaves : Grows t.last.desk desk = leaves_grow t.last.user t.last.desk desk t.leaves in
        let whole : Grows a.desk desk = grows_then a.desk t.last.desk desk (exchanges_grow t.so_far.messages t.replies a t.last t.so_far.exchanges) leaves in
        let kept : (k : ℕ) → count_at desk k ≤ count_at a.desk k =
        none_rose (counts a.desk.world) (counts desk.world) (none_falls a.desk desk small whole) (omega (arith, same))
        in
        exchanges_quiet a.desk desk kept small t.so_far.messages t.replies a t.last t.so_far.exchanges (grows_same a.desk a.desk refl) leaves

-- ---- the counts of the backends

-- the codes that say that backends failed
abbrev BlamesBackends : ℕ → Type 0
BlamesBackends n = (n ≡ READ_FAULT) ⊎ (n ≡ UNFINISHED)

backends_counted : (tells : Bool) (s : ℕ) (old new : WorldState) (c : Call) → WorldTurn tells s old c new → (low k : ℕ) → low < 2 ^ 64 - 1 → low < get_or (faults_of old.cells) k 0 → low < get_or (faults_of new.cells) k 0
backends_counted tells s old new c turn low k small above = subst (λ (counts : List ℕ). low < get_or counts k 0) (sym turn.faults) (more_faults low k (faults_of old.cells) turn.failed small above)

high_backends : (n : ℕ) → BlamesBackends n → (UNFINISHED ≤ n) × (n ≤ LOG_FAULT)
high_backends n (inl is) = (omega (arith, is), omega (arith, is))
high_backends n (inr is) = (omega (arith, is), omega (arith, is))

quiet_backends : (tells : Bool) (s : ℕ) (old new : WorldState) (c : Call) → WorldTurn tells s old c new → ((k : ℕ) → get_or (faults_of new.cells) k 0 ≤ get_or (faults_of old.cells) k 0) → CanCountMore (faults_of old.cells) → (r : Refusal) → c.reply ≡ Refused r → BlamesBackends r.code → ⊥
quiet_backends tells s old new c turn no_more small r is blamed =
    let nobody = quiet_turn tells s old new c turn no_more small r is in
    ⊎_elim (λ (e : r.code ≡ READ_FAULT). nobody.0 e) (λ (e : r.code ≡ UNFINISHED). nobody.1 e) blamed

-- ---- the count of the log's store

abbrev log_counts : WorldState → List ℕ
log_counts w = w.recovery_log.faults ∷ []

after_fault : (n : ℕ) (t : Bool) (low : ℕ) → low < 2 ^ 64 - 1 → low < n → low < log_faults_after n t
after_fault n true low small above = omega (arith, small, above)
after_fault n false low small above = above

log_counted : (tells : Bool) (s : ℕ) (old new : WorldState) (c : Call) → WorldTurn tells s old c new → (low k : ℕ) → low < 2 ^ 64 - 1 → low < get_or (log_counts old) k 0 → low < get_or (log_counts new) k 0
log_counted tells s old new c turn low zero small above = subst (λ (n : ℕ). low < n) (sym turn.log_faults) (after_fault old.recovery_log.faults (log_failed_in c) low small above)
log_counted tells s old new c turn low (suc k) small above = above

high_log : (n : ℕ) → n ≡ LOG_FAULT → (UNFINISHED ≤ n) × (n ≤ LOG_FAULT)
high_log n is = (omega (arith, is), omega (arith, is))

quiet_log : (tells : Bool) (s : ℕ) (old new : WorldState) (c : Call) → WorldTurn tells s old c new → ((k : ℕ) → get_or (log_counts new) k 0 ≤ get_or (log_counts old) k 0) → CanCountMore (log_counts old) → (r : Refusal) → c.reply ≡ Refused r → r.code ≡ LOG_FAULT → ⊥
quiet_log tells s old new c turn no_more small r is blamed = quiet_store tells s old new c turn (no_more 0) (small 0 0 (omega arith)) r is blamed

one_can_count : (n : ℕ) → n < 2 ^ 64 - 1 → CanCountMore (n ∷ [])
one_can_count n small = All-cons (λ (k : ℕ). k < 2 ^ 64 - 1) n [] small (All-nil (λ (k : ℕ). k < 2 ^ 64 - 1))

-- ---- a session over both

module _ {D : Type 0} (tells : Bool) (drawn : D → ℕ → ℕ) (later : D → ℕ → D) (moment : Option ℤ) (a : ClientState SoloState D) (taken written : List ℕ) (ending : SessionEnd) (desk : SoloState) (draws : D) (t : SessionTranscript (setting desk_of (SoloSteps tells) drawn later moment) a taken written ending desk draws) where
  -- no count of a backend falls over a whole session, where none stands at its type's end
  pub session_grows : CanCountMore (faults_of a.desk.world.cells) → (k : ℕ) → get_or (faults_of a.desk.world.cells) k 0 ≤ get_or (faults_of desk.world.cells) k 0
  session_grows small = counts_grow (λ (w : WorldState). faults_of w.cells) (λ w c. refl) backends_counted BlamesBackends high_backends quiet_backends tells drawn later moment a taken written ending desk draws t small

  pub quiet_session : sum (faults_of desk.world.cells) ≡ sum (faults_of a.desk.world.cells) → CanCountMore (faults_of a.desk.world.cells) → All BlamesNobody t.replies
  quiet_session same small =
      All-weaker (λ (reply : Reply). (r : Refusal) → reply ≡ Refused r → BlamesBackends r.code → ⊥) BlamesNobody (λ reply quiet r is. (λ e. quiet r is (inl e), λ e. quiet r is (inr e))) t.replies
      (quiet_counts (λ (w : WorldState). faults_of w.cells) (λ w c. refl) backends_counted BlamesBackends high_backends quiet_backends tells drawn later moment a taken written ending desk draws t same small)

  pub quiet_log_session : desk.world.recovery_log.faults ≡ a.desk.world.recovery_log.faults → a.desk.world.recovery_log.faults < 2 ^ 64 - 1 → All BlamesNoStore t.replies
  quiet_log_session same small =
      quiet_counts log_counts (λ w c. refl) log_counted (λ (n : ℕ). n ≡ LOG_FAULT) high_log quiet_log tells drawn later moment a taken written ending desk draws t
      (ap (λ (n : ℕ). sum (n ∷ [])) same) (one_can_count a.desk.world.recovery_log.faults small)
