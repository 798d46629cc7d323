-- What a session's calls come to, as those of a desk.
use Rattle.std.proofs.Common.{◌≡◌, ℕ, zero, suc, ◌+◌, ◌-◌, ◌<◌, ◌≤◌, Bool, List, [], length, slice_get, Some, refl, ap, sym, ◌∙◌, subst, arith}
use mathlib.Core.List.{IsPrefix}
use Rattle.std.proofs.lemmas.List.Elements.{All-nil, All-weaker}
use Rattle.cj_auth.specs.Admission.{Register}
use Rattle.cj_model.specs.declared.answer.Reply.{Reply}
use Rattle.cj_model.specs.declared.answer.Reply.TheVariants.{Refused}
use Rattle.cj_model.specs.declared.codes.TheConstants.{NO_MEMORY}
use Rattle.cj_model.specs.declared.limits.TheConstants.{REQUEST_LIMIT, SESSION_NUMBER_LIMIT}
use Rattle.cj_model.specs.declared.request.Act.{Act}
use Rattle.cj_model.specs.declared.request.Entry.{Entry}
use Rattle.cj_model.specs.Cluster.Placements.{Placement}
use Rattle.cj_model.specs.Database.Inserts.{refusal_of_code}
use Rattle.cj_model.specs.Sql.PlainRequests.{request_of}
use Rattle.cj_cluster.specs.declared.event.Event.{Event}
use Rattle.cj_cluster.specs.History.Histories.{log, tx_of}
use Rattle.cj_cluster.specs.History.Legality.{FitsTx, IsLegal, IsSessionEntry}
use Rattle.cj_cluster.specs.History.Turns.{tx_after_entry}
use Rattle.cj_cluster.proofs.Pushed.{log-prefix, prefix_length}
use Rattle.cj_board.specs.declared.view.SeatView.{SeatView}
use Rattle.cj_board.specs.Counting.{event_count_of}
use Rattle.cj_board.proofs.Counts.{counts_of_prefix}
use Rattle.cj_book.specs.declared.error.BookError.TheVariants as errors
use Rattle.cj_desk.specs.DeskStates.{desk_tx, next_call, turn_taken, tx_after_write, DeskState, DeskSteps, IsEntryNumber}
use Rattle.cj_pass.specs.Passes.{HasSeenMore}
use Rattle.cj_locked.specs.Writing.{AreUpTo, WritesTurn}
use Rattle.cj_locked.proofs.Reading.{read_leaves}
use Rattle.cj_locked.proofs.Writing.{turn_refused}
use Rattle.cj_place.specs.Layouts.{placement_of, Layout}
use Rattle.cj_control.specs.Callers.{desk_at}
use Rattle.cj_write_path.specs.Writing.{least_after}

-- the position after a write is the entry's, if it has one
pub least_none : (number least : ℕ) → number ≡ 0 → least ≡ least_after number least
least_none number least is = sym (ap (λ k. least_after k least) is)

pub least_some : (number least : ℕ) → 0 < number → number ≡ least_after number least
least_some zero least some = absurd (omega arith)
least_some (suc n) least some = refl

-- no entry is newer than a later request
pub up_to_next : (s q : ℕ) (entries : List Entry) → AreUpTo s q entries → AreUpTo s (q + 1) entries
up_to_next s q entries all = All-weaker (λ (d : Entry). d.session ≡ s → d.seq ≤ q) (λ (d : Entry). d.session ≡ s → d.seq ≤ q + 1) (λ d old same. (let k : d.seq ≤ q = old same in omega (arith, k))) entries all

-- ---- a new session

-- a pass that has counted nothing, and has seen more since, and whose count was looked at
pub counts_none : (v w u : SeatView) (s : ℕ) → HasSeenMore v w → HasSeenMore w u → v.own_session ≡ s → v.count ≡ 0 → event_count_of u.own_session u.front ≤ u.count → (event_count_of s u.front ≡ 0) × (u.own_session ≡ s) × (event_count_of s u.front ≡ u.count)
counts_none v w u s p q own none few =
    let its : u.own_session ≡ s = q.own ∙ (p.own ∙ own) in
    let count : u.count ≡ 0 = q.count ∙ (p.count ∙ none) in
    let less : event_count_of s u.front ≤ u.count = subst (λ k. event_count_of k u.front ≤ u.count) its few in
    let zero_events : event_count_of s u.front ≡ 0 = omega (arith, less, count) in
    (zero_events, its, zero_events ∙ sym count)

-- a session of which nothing came has no entry
pub none_newer : (s : ℕ) (h : List Event) → 0 < s → IsLegal h → event_count_of s h ≡ 0 → AreUpTo s 0 (log h)
none_newer s h some legal none =
    let few : event_count_of s h ≤ event_count_of s [] = omega (arith, none) in
    (read_leaves s [] h some legal (h, refl) few).2 0 (All-nil (λ (d : Entry). d.session ≡ s → d.seq ≤ 0))

-- and no open transaction
pub no_transaction : (s : ℕ) (h : List Event) → 0 < s → IsLegal h → event_count_of s h ≡ 0 → tx_of (log h) s ≡ 0
no_transaction s h some legal none =
    let few : event_count_of s h ≤ event_count_of s [] = omega (arith, none) in
    (read_leaves s [] h some legal (h, refl) few).0

-- ---- the session's next entry

module _ (F : List Event) (s queries tx : ℕ) (user : List ℕ) (act : Act) (own : (0 < s) × (s ≤ SESSION_NUMBER_LIMIT)) (newer : AreUpTo s queries (log F)) (room : queries < REQUEST_LIMIT) (fits : FitsTx (tx_of (log F) s) tx act) where
  abbrev entry : Entry
  entry = record { session = s; seq = queries + 1; tx = tx; user = user; act = act }

  pub is_next : IsSessionEntry (log F) entry
  is_next =
      record {
        session = own;
        limit = omega (arith, room);
        newer = All-weaker (λ (d : Entry). d.session ≡ s → d.seq ≤ queries) (λ (d : Entry). d.session ≡ s → d.seq < queries + 1) (λ d old same. (let k : d.seq ≤ queries = old same in omega (arith, k))) (log F) newer;
        tx = fits;
      }

-- ---- a write

module _ (tells : Bool) (layout : Layout) (register : Register) (s : ℕ) (F G : List Event) (least queries tx : ℕ) (user : List ℕ) (act : Act) (number : ℕ) (reply : Reply)
    (came : WritesTurn tells (placement_of layout) s (record { front = F; least = least }) (record { session = s; seq = queries + 1; tx = tx; user = user; act = act }) number reply (record { front = G; least = least_after number least })) where
  abbrev before : DeskState
  before = desk_at layout register s F least queries

  abbrev after : DeskState
  after = desk_at layout register s G (least_after number least) (queries + 1)

  pub write_made : DeskSteps tells before (turn_taken (next_call before tx user (request_of act) reply)) after
  write_made = record { placement = refl; admits = refl; session = refl; requests = refl; number = refl; turn = came.turn }

  pub write_tx : desk_tx after ≡ tx_after_write number act (desk_tx before)
  write_tx = by number refl
    where
      by : (n : ℕ) → number ≡ n → tx_of (log G) s ≡ tx_after_write n act (tx_of (log F) s)
      by zero is = (came.none is).1
      by (suc n) is = (came.one (let k : number ≡ suc n = is in omega (arith, k))).2 ∙ ap (λ k. tx_after_entry k (tx_of (log F) s) act) is

  pub write_number : IsEntryNumber number act before (next_call before tx user (request_of act) reply) after
  write_number = by number refl
    where
      by : (n : ℕ) → number ≡ n → IsEntryNumber n act before (next_call before tx user (request_of act) reply) after
      by zero is = (came.none is).0
      by (suc n) is =
          let there = came.one (let k : number ≡ suc n = is in omega (arith, k)) in
          let at : number - 1 ≡ n = (let k : number ≡ suc n = is in omega (arith, k)) in
          (subst (λ k. slice_get (log G) k ≡ Some (record { session = s; seq = queries + 1; tx = tx; user = user; act = act })) at there.0, there.1)

-- the session's reads need a position that its pass has seen
pub owes_after : (number least : ℕ) (F G : List Event) → IsPrefix F G → least ≤ length (log F) → number ≤ length (log G) → least_after number least ≤ length (log G)
owes_after zero least F G longer owes within = let more = prefix_length (log F) (log G) (log-prefix F G longer) in omega (arith, owes, more)
owes_after (suc n) least F G longer owes within = within

-- memory ran out before the entry was begun
pub write_starved : (tells : Bool) (p : Placement) (least : ℕ) (e : Entry) (v w : SeatView) → IsSessionEntry (log v.front) e → least ≤ length (log v.front) → HasSeenMore v w → v.own_session ≡ e.session → event_count_of e.session v.front ≡ v.count
    → event_count_of w.own_session w.front ≤ w.count → IsLegal w.front → WritesTurn tells p e.session (record { front = v.front; least = least }) e 0 (Refused (refusal_of_code NO_MEMORY)) (record { front = w.front; least = least })
write_starved tells p least e v w fit owes more own counted few legal =
    let its : w.own_session ≡ e.session = more.own ∙ own in
    let less : event_count_of e.session w.front ≤ w.count = subst (λ k. event_count_of k w.front ≤ w.count) its few in
    let up = counts_of_prefix e.session v.front w.front more.front in
    let count : w.count ≡ v.count = more.count in
    let same : event_count_of e.session w.front ≡ event_count_of e.session v.front = omega (arith, less, up, count, counted) in
    turn_refused tells p v.front least e fit owes w.front errors.NoMemory (record { m = w.front; longer = more.front; quiet = same; why = refl }) legal

-- so it is a write that scheduled nothing
pub starved_turn : (tells : Bool) (p : Placement) (s least queries tx : ℕ) (user : List ℕ) (act : Act) (v w : SeatView) (reply : Reply) → (0 < s) × (s ≤ SESSION_NUMBER_LIMIT) → AreUpTo s queries (log v.front) → queries < REQUEST_LIMIT → FitsTx (tx_of (log v.front) s) tx act
    → least ≤ length (log v.front) → v.own_session ≡ s → event_count_of s v.front ≡ v.count → reply ≡ Refused (refusal_of_code NO_MEMORY) → HasSeenMore v w → event_count_of w.own_session w.front ≤ w.count → IsLegal w.front
    → WritesTurn tells p s (record { front = v.front; least = least }) (record { session = s; seq = queries + 1; tx = tx; user = user; act = act }) 0 reply (record { front = w.front; least = least })
starved_turn tells p s least queries tx user act v w reply own newer room fits owes mine counted is more few legal =
    let e : Entry = record { session = s; seq = queries + 1; tx = tx; user = user; act = act } in
    subst (λ (r : Reply). WritesTurn tells p s (record { front = v.front; least = least }) e 0 r (record { front = w.front; least = least })) (sym is)
    (write_starved tells p least e v w (is_next v.front s queries tx user act own newer room fits) owes more mine counted few legal)

-- and its pass has counted each event still
pub starved_counted : (s : ℕ) (v w : SeatView) → HasSeenMore v w → v.own_session ≡ s → event_count_of s v.front ≡ v.count → event_count_of w.own_session w.front ≤ w.count → (w.own_session ≡ s) × (event_count_of s w.front ≡ w.count)
starved_counted s v w more own counted few =
    let its : w.own_session ≡ s = more.own ∙ own in
    let less : event_count_of s w.front ≤ w.count = subst (λ k. event_count_of k w.front ≤ w.count) its few in
    let up = counts_of_prefix s v.front w.front more.front in
    let count : w.count ≡ v.count = more.count in
    (its, omega (arith, less, up, count, counted))
