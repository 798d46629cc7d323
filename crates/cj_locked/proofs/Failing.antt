-- A failure of a backend in a query, at a book.
use Rattle.std.proofs.Common.{◌≡◌, ◌≢◌, ℕ, ◌+◌, ◌*◌, ◌^◌, ◌<◌, Bool, true, List, [], ◌∷◌, ◌++◌, Option, None, Some, Result, Err, IfErr, IfSome, OnErr, refl, ap, sym, ◌∙◌, subst, arith}
use mathlib.Core.List.{IsPrefix}
use Rattle.std.proofs.lemmas.Bool.{and_parts}
use Rattle.cj_model.specs.declared.request.Request.TheVariants as request
use Rattle.cj_model.specs.declared.select.Select.{Select}
use Rattle.cj_model.specs.Cluster.Balancing.{one_less}
use Rattle.cj_model.specs.Cluster.Masks.{in_mask}
use Rattle.cj_model.specs.Cluster.Placements.{Placement, hosts_all}
use Rattle.cj_model.proofs.Masks.{some_bit}
use Rattle.cj_cluster.specs.declared.event.Event.{Event}
use Rattle.cj_cluster.specs.declared.event.Event.TheVariants.{ReadFailed}
use Rattle.cj_cluster.specs.History.Answering.{HasServer}
use Rattle.cj_cluster.specs.History.Histories.{events_left, is_enabled, is_free}
use Rattle.cj_cluster.proofs.Pushed.{free-same, prefix_self}
use Rattle.cj_board.specs.declared.view.SeatView.{SeatView}
use Rattle.cj_board.specs.Points.{fault_tokens_of}
use Rattle.cj_board.specs.Steps.{after_learning, after_split}
use Rattle.cj_board.specs.Views.{next_session, pass_of}
use Rattle.cj_board.proofs.FaultPoint.{tokens-append}
use Rattle.cj_book.specs.BookLogs.{BookLogState, LogFollows}
use Rattle.cj_book.specs.Books.{is_candidate, placement_at, BookState, IsFull}
use Rattle.cj_book.specs.Events.{AppendsEvent}
use Rattle.cj_book.specs.Seated.{GivesOwnPassesOnly, SeatedBook}
use Rattle.cj_book.specs.declared.error.BookError.{BookError}
use Rattle.cj_book.specs.declared.error.BookError.TheVariants.{InProgress, NoBackend, HistoryFull, LogFault, NoMemory}
use Rattle.cj_book.specs.declared.pending.Pending.{Pending}
use Rattle.cj_book.proofs.LogFollowing.{log_more}
use Rattle.cj_locked.specs.declared.failure.ReadFailure.{ReadFailure}
use Rattle.cj_locked.specs.declared.failure.ReadFailure.TheVariants.{Noted, Full, Unserved}
use Rattle.cj_locked.specs.Failures.{FailsAt, FailsSince}
use Rattle.cj_locked.specs.Locked.{IsVacant}
use Rattle.cj_pass.specs.Passes.{HasSeenMore}
use Rattle.cj_locked.specs.Turns.{pending_weight, turn_amount, turn_events_of}
use Rattle.cj_locked.proofs.Turns.{turn_events_push}

-- ---- where there is no room

-- the mask of those who serve the query isn't empty
pub serves_some : (b : BookState) (select : Select) (mask : ℕ) → ((k : ℕ) → in_mask mask k ≡ is_candidate b select.tables k) → mask ≢ 0 → mask < 2 ^ 16 → HasServer (placement_at b) b.history (request.Select select)
serves_some b select mask are some below = λ needed.
    let fits : mask < 4294967296 = omega arith in
    let bit = some_bit mask some fits in
    (bit.0, and_parts (is_enabled b.history bit.0) (hosts_all (placement_at b) bit.0 select.tables) (sym (are bit.0) ∙ bit.2))

-- the event did not come
pub no_room : {T : Type 0} (old new : BookState) (x : Event) (r : Result T BookError) (error : BookError) → AppendsEvent old x r new → r ≡ Err error → (events_left old.history < 1) × (new ≡ old)
no_room {T} old new x r error appends is = (by error is (subst (λ (q : Result T BookError). IfErr q IsFull) is appends.want), subst (λ (q : Result T BookError). OnErr q (new ≡ old)) is appends.err)
  where
    by : (y : BookError) → r ≡ Err y → IsFull y → events_left old.history < 1
    by (InProgress n) same full = absurd full
    by NoBackend same full = absurd full
    by (HistoryFull n) same full = ((appends.full n).0 same).full
    by LogFault same full = absurd full
    by NoMemory same full = absurd full

-- ---- what is left of the book

-- all but the history is as before
pub only_history : (old new : BookState) (h : List Event) → new ≡ record old { history = h } → new ≡ record old { history = new.history }
only_history old new h is = is ∙ ap (λ (x : List Event). record old { history = x }) (sym (ap (λ (b : BookState). b.history) is))

-- one read less is pending at backend b
abbrev pub read_ended : BookState → ℕ → BookState
read_ended x b = record x { balance = record x.balance { standing = record x.balance.standing { pending = one_less x.balance.standing.pending b } } }

pub failed_state : (x y z : BookState) (b : ℕ) (G : List Event) → y ≡ record x { history = y.history } → z ≡ read_ended y b → G ≡ z.history → z ≡ record (read_ended x b) { history = G }
failed_state x y z b G one two same =
    let there : y.history ≡ G = sym (ap (λ (s : BookState). s.history) two) ∙ sym same in
    two ∙ (ap (λ (s : BookState). read_ended s b) one ∙ ap (λ (h : List Event). record (read_ended x b) { history = h }) there)

-- the book gives own passes alone, as before
pub gives_on : (x y : SeatedBook) → y.state.greatest ≡ x.state.greatest → y.view ≡ x.view → GivesOwnPassesOnly x → GivesOwnPassesOnly y
gives_on x y greatest view is = ap (λ n. n + 1) greatest ∙ (is ∙ ap next_session (sym view))

-- the fault tokens of a pass are the book's once it has learned from it
pub learned_tokens : (v u w : SeatView) (b : ℕ) → w ≡ after_learning v (pass_of u) → 0 < fault_tokens_of b u.fault_tokens → 0 < fault_tokens_of b w.fault_tokens
learned_tokens v u w b is some =
    let all : fault_tokens_of b w.fault_tokens ≡ fault_tokens_of b v.fault_tokens + fault_tokens_of b u.fault_tokens = ap (λ (z : SeatView). fault_tokens_of b z.fault_tokens) is ∙ tokens-append b v.fault_tokens u.fault_tokens in
    omega (arith, all, some)

pub seen_split : (v w : SeatView) → w ≡ after_split v → HasSeenMore v w
seen_split v w is = subst (HasSeenMore v) (sym is) (record { front = prefix_self v.front; own = refl; count = refl })

module _ (p : Placement) (h H : List Event) (s q b : ℕ) (select : Select) (r : ReadFailure) (at : FailsAt p h s q b select r H) where
  -- the event came, or none
  either_way : (P : List Event → Type 0) → P h → P (h ++ ReadFailed s q b ∷ []) → P H
  either_way P same more = by r at
    where
      by : (x : ReadFailure) → FailsAt p h s q b select x H → P H
      by Noted is = subst P (sym is.1) more
      by (Full n) is = subst P (sym is.2) same
      by Unserved is = subst P (sym is.1) same

  -- it counts nothing
  pub failed_amount : (item item' : Option Pending) (G : List Event) → G ≡ H → item' ≡ item → turn_amount h item ≡ turn_amount G item'
  failed_amount item item' G now same =
      let push : turn_events_of (h ++ ReadFailed s q b ∷ []) ≡ turn_events_of h + 0 = turn_events_push h (ReadFailed s q b) in
      let all : turn_events_of H ≡ turn_events_of h = either_way (λ (x : List Event). turn_events_of x ≡ turn_events_of h) refl (omega (arith, push)) in
      ap (λ (x : ℕ × Option Pending). 3 * x.0 + pending_weight x.1) (λ i. ((sym all ∙ ap turn_events_of (sym now)) i, sym same i))

  -- nobody has the turn still
  pub failed_vacant : {S : Type 0} (tells : Bool) (count : S → ℕ) (old new : SeatedBook) → old.state.history ≡ h → new.state.history ≡ H → new.pending ≡ old.pending
      → (l : Option (BookLogState S)) → IfSome l (IsVacant tells count old) → IfSome l (IsVacant tells count new)
  failed_vacant tells count old new was now pending None vacant = tt
  failed_vacant tells count old new was now pending (Some l) vacant =
      let idle : is_free h ≡ true = subst (λ (x : List Event). is_free x ≡ true) was vacant.idle in
      let follows : LogFollows tells count l h = subst (LogFollows tells count l) was vacant.follows in
      record {
        idle = subst (λ (x : List Event). is_free x ≡ true) (sym now) (either_way (λ (x : List Event). is_free x ≡ true) idle (free-same h (ReadFailed s q b) refl refl ∙ idle));
        unpending = pending ∙ vacant.unpending;
        follows = subst (LogFollows tells count l) (sym now) (either_way (LogFollows tells count l) follows (log_more follows (ReadFailed s q b) (λ k. refl) (λ f. refl) refl));
      }

  pub failed_since : (F G : List Event) (place : Placement) → IsPrefix F h → p ≡ place → G ≡ H → FailsSince place F G s q b select r
  failed_since F G place longer same now = record {
    m = h;
    longer = longer;
    at = subst (λ (x : Placement × List Event). FailsAt x.0 h s q b select r x.1) (λ i. (same i, sym now i)) at;
  }
