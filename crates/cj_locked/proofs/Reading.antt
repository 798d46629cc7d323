-- The turn of a read that was answered.
use Rattle.std.proofs.Common.{◌≡◌, ◌⊎◌, ℕ, ◌+◌, ◌<◌, ◌≤◌, Bool, true, List, [], ◌∷◌, ◌++◌, length, take, slice_get, Some, refl, ap, sym, ◌∙◌, subst, arith, length-append}
use mathlib.Core.List.{IsPrefix}
use Rattle.cj_model.specs.declared.request.Request.TheVariants as request
use Rattle.cj_model.specs.declared.select.Select.{Select}
use Rattle.cj_model.specs.declared.answer.Asked.{Asked}
use Rattle.cj_model.specs.declared.answer.Asked.TheVariants as asked
use Rattle.cj_model.specs.declared.answer.Refusal.{Refusal}
use Rattle.cj_model.specs.declared.answer.Reply.{Reply}
use Rattle.cj_model.specs.declared.answer.Reply.TheVariants.{Refused}
use Rattle.cj_model.specs.Cluster.Masks.{in_mask}
use Rattle.cj_model.specs.Cluster.Placements.{Placement}
use Rattle.cj_model.specs.Database.Outcomes.{IsAsked}
use Rattle.cj_model.specs.Database.Queries.{ask}
use Rattle.cj_model.specs.Wire.Replies.{asked_reply}
use Rattle.cj_cluster.specs.declared.event.Event.{Event}
use Rattle.cj_cluster.specs.declared.event.Event.TheVariants.{ReadFailed}
use Rattle.cj_cluster.specs.History.Answering.{CanServe, HasNoServer, HasServer}
use Rattle.cj_cluster.specs.History.Histories.{database_after, ended_count, events_left, log, tx_of}
use Rattle.cj_cluster.specs.History.Legality.{IsLegal}
use Rattle.cj_cluster.specs.History.Turns.{entries_in, entry_count_of, full, log_faults_in, no_backend, read, read_fault, starved, tx_after_turn, IsMomentBetween, Turn, TurnCase}
use Rattle.cj_cluster.specs.Moves.Runs.{HasFailedSince}
use Rattle.cj_cluster.proofs.Pushed.{at-prefix, get_seam, log-prefix, prefix_get, prefix_length, prefix_trans, take_whole}
use Rattle.cj_board.specs.declared.view.SeatView.{SeatView}
use Rattle.cj_board.specs.Counting.{event_count_of}
use Rattle.cj_board.proofs.OwnStays.{newer_stays, own_stays, OwnStays}
use Rattle.cj_locked.specs.declared.failure.ReadFailure.TheVariants as failure
use Rattle.cj_locked.specs.Failures.{FailsSince}
use Rattle.cj_locked.specs.Reading as reading
use Rattle.cj_locked_cell.specs.Answering.{GivesAnswerAt}
use Rattle.cj_locked.specs.Reading.{call_of_query, EndsRead, IsAnsweredSince, IsInVain, IsKeptSince, RefusesQuery}
use Rattle.cj_locked.specs.Writing.{AreUpTo}

-- A read is a turn that backend b could serve at history m, and that it answered since, with nothing of the session
-- between. The position is one that the session owes, and that no entry is past that had ended at m.
pub turn_answered : (tells : Bool) (p : Placement) (s : ℕ) (F m : List Event) (v : SeatView) (least owed q tx : ℕ) (user : List ℕ) (select : Select) (b n : ℕ) (answer : Asked)
    → 0 < s → IsLegal v.front → IsPrefix F m → IsPrefix m v.front → event_count_of s v.front ≤ event_count_of s F → least ≤ length (log F) → (tx ≡ 0) ⊎ (tx ≡ tx_of (log F) s) → CanServe p m (request.Select select) b
    → least ≤ owed → ended_count m ≤ owed → GivesAnswerAt tells p b tx select owed v answer n
    → Turn tells p s (record { front = F; least = least }) (call_of_query q tx user select (asked_reply answer)) (record { front = v.front; least = n })
turn_answered tells p s F m v least owed q tx user select b n answer some legal before after quiet owes in_tx serves least_owed ended_owed at =
    let cut : take (length m) v.front ≡ m = take_whole m v.front after in
    let lo = prefix_length F m before in
    let hi = prefix_length m v.front after in
    let longer : IsPrefix F v.front = prefix_trans F m v.front before after in
    let stays : OwnStays s F v.front = own_stays s some F v.front longer legal quiet in
    let owed_there : owed ≤ n = at.owed in
    record {
      legal = legal;
      longer = longer;
      owes = owes;
      tx = in_tx;
      case =
          read
          record {
            m = length m;
            moment = record { low = lo; high = hi };
            select = select;
            is = refl;
            served = subst (λ (x : List Event). HasServer p x (request.Select select)) (sym cut) (λ needed. (b, serves));
            owed = omega (arith, least_owed, owed_there);
            past = subst (λ (x : List Event). ended_count x ≤ n) (sym cut) (omega (arith, ended_owed, owed_there));
            within = at.within;
            answer = answer;
            possible = at.possible;
            says = λ on. at.says on serves.1;
            replied = refl;
          };
      entries = (let k = stays.entries in omega (arith, k));
      tx_after = stays.tx;
      log_faults = (let k = stays.log_faults q in omega (arith, k));
    }

-- ---- the turn of a read

-- Nothing came of session s from F to G, so a case that schedules nothing and in which the log's store is unharmed is a
-- turn.
module _ (tells : Bool) (p : Placement) (s : ℕ) (F G : List Event) (least q tx : ℕ) (user : List ℕ) (select : Select) (reply : Reply) (n : ℕ)
    (some : 0 < s) (legal : IsLegal G) (longer : IsPrefix F G) (quiet : event_count_of s G ≤ event_count_of s F) (owed : least ≤ length (log F)) (in_tx : (tx ≡ 0) ⊎ (tx ≡ tx_of (log F) s)) where
  turn_by : (case : TurnCase tells p s (record { front = F; least = least }) (call_of_query q tx user select reply) (record { front = G; least = n }))
      → entries_in case ≡ 0 → tx_after_turn (tx_of (log F) s) case ≡ tx_of (log F) s → log_faults_in case ≡ 0
      → Turn tells p s (record { front = F; least = least }) (call_of_query q tx user select reply) (record { front = G; least = n })
  turn_by case none same safe =
      let stays : OwnStays s F G = own_stays s some F G longer legal quiet in
      record {
        legal = legal;
        longer = longer;
        owes = owed;
        tx = in_tx;
        case = case;
        entries = (let k = stays.entries in omega (arith, k, none));
        tx_after = stays.tx ∙ sym same;
        log_faults = (let k = stays.log_faults q in omega (arith, k, safe));
      }

  -- a history from F to G, by its length
  moment_at : (m : List Event) → IsPrefix F m → IsPrefix m G → IsMomentBetween F G (length m)
  moment_at m before after = record { low = prefix_length F m before; high = prefix_length m G after }

  -- what holds of it
  there : (P : List Event → Type 0) (m : List Event) → IsPrefix m G → P m → P (take (length m) G)
  there P m after = subst P (sym (take_whole m G after))

  -- an answer that was right at a history from F to G
  turn_read_at : (m : List Event) → IsPrefix F m → IsPrefix m G → HasServer p m (request.Select select) → least ≤ n → ended_count m ≤ n → n ≤ length (log G)
      → (answer : Asked) → IsAsked answer → (tells ≡ true → answer ≡ ask (database_after (log G) n) tx select) → reply ≡ asked_reply answer
      → Turn tells p s (record { front = F; least = least }) (call_of_query q tx user select reply) (record { front = G; least = n })
  turn_read_at m before after served enough past within answer possible says replied =
      turn_by
      (read
      record {
        m = length m;
        moment = moment_at m before after;
        select = select;
        is = refl;
        served = there (λ (x : List Event). HasServer p x (request.Select select)) m after served;
        owed = enough;
        past = there (λ (x : List Event). ended_count x ≤ n) m after past;
        within = within;
        answer = answer;
        possible = possible;
        says = says;
        replied = replied;
      })
      refl refl refl

  turn_by_answer : IsAnsweredSince tells p F tx select least G reply n → Turn tells p s (record { front = F; least = least }) (call_of_query q tx user select reply) (record { front = G; least = n })
  turn_by_answer x =
      let grows : IsPrefix (log x.v.front) (log G) = log-prefix x.v.front G x.after in
      let more = prefix_length (log x.v.front) (log G) grows in
      let asked_for : x.asked_for ≤ n = x.gives.owed in
      let enough : least ≤ x.asked_for = x.owes.owed in
      let past : ended_count x.m ≤ x.asked_for = x.owes.past in
      let within : n ≤ length (log x.v.front) = x.gives.within in
      turn_read_at x.m x.before (prefix_trans x.m x.v.front G x.since x.after) (λ needed. (x.b, x.serves)) (omega (arith, enough, asked_for)) (omega (arith, past, asked_for)) (omega (arith, within, more)) x.answer x.gives.possible
      (λ on. x.gives.says on x.serves.1 ∙ ap (λ db. ask db tx select) (sym (at-prefix (log x.v.front) (log G) n grows within))) x.replied

  turn_by_kept : IsKeptSince tells p F tx select least G reply n → Turn tells p s (record { front = F; least = least }) (call_of_query q tx user select reply) (record { front = G; least = n })
  turn_by_kept x =
      let grows : IsPrefix (log x.m) (log G) = log-prefix x.m G x.after in
      let more = prefix_length (log x.m) (log G) grows in
      let within : n ≤ length (log x.m) = x.owes.within in
      turn_read_at x.m x.before x.after x.right.served x.owes.owed x.owes.past (omega (arith, within, more)) (asked.Rows x.answer) x.right.possible
      (λ on. x.right.right on ∙ (ap (λ db. ask db 0 select) (sym (at-prefix (log x.m) (log G) n grows within)) ∙ ap (λ t. ask (database_after (log G) n) t select) (sym x.right.outside))) x.replied

  turn_by_failures : IsInVain p F s q select G reply → n ≡ least → Turn tells p s (record { front = F; least = least }) (call_of_query q tx user select reply) (record { front = G; least = n })
  turn_by_failures x same =
      turn_by
      (read_fault
      record {
        m = length x.m;
        moment = moment_at x.m x.before x.after;
        select = select;
        is = refl;
        mask = x.mask;
        some = x.all.some;
        all = λ k. there (λ (h : List Event). (CanServe p h (request.Select select) k → in_mask x.mask k ≡ true) × (in_mask x.mask k ≡ true → CanServe p h (request.Select select) k)) x.m x.after (x.all.serving k);
        failed = λ k t. (let f = x.failed k (x.all.each k t) in (f.k, f.low, f.high, prefix_get x.m G f.k (ReadFailed s q k) x.after f.is));
        replied = x.replied;
        least = same;
      })
      refl refl refl

  turn_by_refusal : (m : List Event) → IsPrefix F m → IsPrefix m G → n ≡ least → (r : Refusal) → RefusesQuery p m select r → reply ≡ Refused r → Turn tells p s (record { front = F; least = least }) (call_of_query q tx user select reply) (record { front = G; least = n })
  turn_by_refusal m before after same r (reading.starved is) replied = turn_by (starved record { replied = replied ∙ ap Refused is; least = same }) refl refl refl
  turn_by_refusal m before after same r (reading.unserved is none) replied =
      turn_by
      (no_backend
      record {
        m = length m;
        moment = moment_at m before after;
        none = there (λ (x : List Event). HasNoServer p x (request.Select select)) m after none;
        replied = replied ∙ ap Refused is;
        least = same;
      })
      refl refl refl
  turn_by_refusal m before after same r (reading.full is small served) replied =
      turn_by
      (full
      record {
        m = length m;
        moment = moment_at m before after;
        served = there (λ (x : List Event). HasServer p x (request.Select select)) m after served;
        full = there (λ (x : List Event). events_left x < 1) m after small;
        replied = replied ∙ ap Refused is;
        least = same;
      })
      refl refl refl

  turn_of : EndsRead tells p F s q tx select least G reply n → Turn tells p s (record { front = F; least = least }) (call_of_query q tx user select reply) (record { front = G; least = n })
  turn_of (reading.answered x) = turn_by_answer x
  turn_of (reading.kept x) = turn_by_kept x
  turn_of (reading.in_vain x same) = turn_by_failures x same
  turn_of (reading.refused x same) = turn_by_refusal x.m x.before x.after same x.refusal x.why x.replied

-- What became of a query is a turn of its session, of which nothing else came since its last reply.
pub turn_of_read : (tells : Bool) (p : Placement) (s : ℕ) (F G : List Event) (least q tx : ℕ) (user : List ℕ) (select : Select) (reply : Reply) (n : ℕ)
    → 0 < s → IsLegal G → IsPrefix F G → event_count_of s G ≤ event_count_of s F → least ≤ length (log F) → (tx ≡ 0) ⊎ (tx ≡ tx_of (log F) s) → EndsRead tells p F s q tx select least G reply n
    → Turn tells p s (record { front = F; least = least }) (call_of_query q tx user select reply) (record { front = G; least = n })
turn_of_read tells p s F G least q tx user select reply n some legal longer quiet owed in_tx came = turn_of tells p s F G least q tx user select reply n some legal longer quiet owed in_tx came

-- It leaves the session's transaction and entries, and its later requests are still newer than its entries.
pub read_leaves : (s : ℕ) (F G : List Event) → 0 < s → IsLegal G → IsPrefix F G → event_count_of s G ≤ event_count_of s F
    → (tx_of (log G) s ≡ tx_of (log F) s) × (entry_count_of s G ≡ entry_count_of s F) × ((q : ℕ) → AreUpTo s q (log F) → AreUpTo s q (log G))
read_leaves s F G some legal longer quiet = let stays : OwnStays s F G = own_stays s some F G longer legal quiet in (stays.tx, stays.entries, λ q up. newer_stays s q F G stays up)

-- ---- what a session's query keeps while it goes on

-- a failure stays one as more is seen
pub failed_still : (F h G : List Event) (s q b : ℕ) → IsPrefix h G → HasFailedSince F h s q b → HasFailedSince F G s q b
failed_still F h G s q b longer x =
    let more = prefix_length h G longer in
    let high : x.k < length h = x.high in
    record { k = x.k; low = x.low; high = omega (arith, high, more); is = prefix_get h G x.k (ReadFailed s q b) longer x.is }

-- one that was noted now is one
pub failed_now : (p : Placement) (F h G : List Event) (s q b : ℕ) (select : Select) → IsPrefix F h → FailsSince p h G s q b select failure.Noted → HasFailedSince F G s q b
failed_now p F h G s q b select longer x =
    let ev : Event = ReadFailed s q b in
    let low = prefix_length F x.m (prefix_trans F h x.m longer x.longer) in
    let many : length (x.m ++ ev ∷ []) ≡ length x.m + 1 = length-append x.m (ev ∷ []) in
    let all : length G ≡ length x.m + 1 = ap length x.at.1 ∙ many in
    record { k = length x.m; low = low; high = omega (arith, all); is = subst (λ (g : List Event). slice_get g (length x.m) ≡ Some ev) (sym x.at.1) (get_seam x.m [] ev) }
