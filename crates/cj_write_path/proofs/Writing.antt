-- How a write goes from call to call.
use Rattle.std.proofs.Common.{◌≡◌, ℕ, ◌+◌, ◌<◌, ◌≤◌, Bool, suc, zero, List, length, refl, ap, sym, ◌∙◌, subst, arith}
use mathlib.Core.List.{IsPrefix}
use Rattle.cj_model.specs.declared.answer.Refusal.{Refusal}
use Rattle.cj_model.specs.declared.answer.Reply.{Reply}
use Rattle.cj_model.specs.declared.answer.Reply.TheVariants.{Refused}
use Rattle.cj_model.specs.declared.request.Entry.{Entry}
use Rattle.cj_model.specs.Cluster.Placements.{Placement}
use Rattle.cj_cluster.specs.declared.event.Event.{Event}
use Rattle.cj_cluster.specs.declared.event.Event.TheVariants.{Ended}
use Rattle.cj_cluster.specs.History.Histories.{log}
use Rattle.cj_cluster.specs.History.Legality.{IsLegal, IsSessionEntry}
use Rattle.cj_cluster.proofs.Pushed.{log-same}
use Rattle.cj_board.specs.declared.view.SeatView.{SeatView}
use Rattle.cj_board.specs.Counting.{event_count_of}
use Rattle.cj_book.specs.BookLogs.{BookLogState}
use Rattle.cj_book.specs.declared.error.BookError.{BookError}
use Rattle.cj_book.specs.declared.pending.Prepared.{Prepared}
use Rattle.cj_log.specs.declared.item.LogItem.{LogItem}
use Rattle.cj_pass.specs.Passes.{HasSeenMore}
use Rattle.cj_locked.specs.Writing.{refusal_for, BeginsSince, EndsSince, RefusesSince, SchedulesSince, WritesTurn}
use Rattle.cj_locked.proofs.Writing.{still_counted, turn_refused, turn_written, view}
use Rattle.cj_write_path.specs.Writing.{least_after}

-- ---- begun

module _ {S : Type 0} (tells : Bool) (count : S → ℕ) (p : Placement) (F G : List Event) (e : Entry) (prepared : Prepared) (amount : ℕ) (l : BookLogState S) (item : LogItem) (begins : BeginsSince tells count p F G e prepared amount l item) where
  pub begun_longer : IsPrefix F G
  begun_longer = subst (IsPrefix F) (sym begins.is) begins.longer

  pub begun_quiet : event_count_of e.session G ≡ event_count_of e.session F
  begun_quiet = ap (event_count_of e.session) begins.is ∙ begins.quiet

-- ---- ended

least_is : (n least : ℕ) → 0 < n → n ≡ least_after n least
least_is zero least some = absurd (omega (arith, some))
least_is (suc n) least some = refl

module _ (tells : Bool) (p : Placement) (F : List Event) (v w u : SeatView) (e copy : Entry) (n : ℕ) (reply : Reply) (same : copy ≡ e) (since : SchedulesSince p F v.front n e) (ends : EndsSince tells p v.front n copy reply w.front) (legal : IsLegal w.front)
    (more : HasSeenMore v w) (looked : u ≡ w) (own : v.own_session ≡ e.session) (some : 0 < e.session) (counted : event_count_of e.session v.front ≡ v.count) (few : 0 < w.own_session → event_count_of w.own_session w.front ≤ w.count) where
  still : (event_count_of e.session u.front ≡ event_count_of e.session v.front) × (event_count_of e.session u.front ≡ u.count) × IsPrefix v.front u.front
  still = still_counted e.session v w u more looked own some counted few

  pub write_counted : event_count_of e.session u.front ≡ u.count
  write_counted = still.1

  pub write_own : u.own_session ≡ e.session
  write_own = ap (λ (x : SeatView). x.own_session) looked ∙ (more.own ∙ own)

  ended : EndsSince tells p v.front n e reply u.front
  ended = subst (λ (x : SeatView). EndsSince tells p v.front n e reply x.front) (sym looked) (subst (λ (x : Entry). EndsSince tells p v.front n x reply w.front) same ends)

  pub write_within : n ≤ length (log u.front)
  write_within =
      let all : log u.front ≡ log ended.h = ap log ended.is ∙ log-same ended.h (Ended ended.failed ended.starved) refl in
      let long : length (log u.front) ≡ length (log ended.h) = ap (λ (l : List Entry). length l) all in
      let last : length (log ended.h) ≡ n = ended.last.0 in omega (arith, long, last)

  pub write_turn : IsSessionEntry (log F) e → (least : ℕ) → least ≤ length (log F) → WritesTurn tells p e.session (record { front = F; least = least }) e n reply (record { front = u.front; least = least_after n least })
  write_turn fit least owes =
      let k : n ≡ length (log since.at.m) + 1 = since.at.number in
      let up = still.0 in
      subst (λ z. WritesTurn tells p e.session (view F least) e n reply (view u.front z)) (least_is n least (omega (arith, k)))
      (turn_written tells p F least e fit owes v.front u.front n reply since ended (subst (λ (x : SeatView). IsLegal x.front) (sym looked) legal) (omega (arith, up)))

-- refused
pub write_refused : (tells : Bool) (p : Placement) (F G : List Event) (e : Entry) (error : BookError) (refusal : Refusal) → refusal ≡ refusal_for error → RefusesSince p F G e error → IsLegal G → IsSessionEntry (log F) e → (least : ℕ) → least ≤ length (log F)
    → WritesTurn tells p e.session (record { front = F; least = least }) e 0 (Refused refusal) (record { front = G; least = least_after 0 least })
write_refused tells p F G e error refusal is since legal fit least owes =
    subst (λ r. WritesTurn tells p e.session (view F least) e 0 (Refused r) (view G least)) (sym is) (turn_refused tells p F least e fit owes G error since legal)
