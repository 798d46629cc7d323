-- How a query of a session ends.
use Rattle.std.specs.Prelude.{◌≡◌, ℕ, ◌<◌, Bool, true, List, length}
use mathlib.Core.List.{IsPrefix}
use Rattle.cj_model.specs.declared.request.Request.TheVariants as request
use Rattle.cj_model.specs.declared.select.Select.{Select}
use Rattle.cj_model.specs.declared.answer.Answer.{Answer}
use Rattle.cj_model.specs.declared.answer.Asked.{Asked}
use Rattle.cj_model.specs.declared.answer.Refusal.{Refusal}
use Rattle.cj_model.specs.declared.answer.Reply.{Reply}
use Rattle.cj_model.specs.declared.answer.Reply.TheVariants.{Refused, Rows}
use Rattle.cj_model.specs.declared.codes.TheConstants.{HISTORY_FULL, NO_BACKEND, NO_MEMORY, READ_FAULT}
use Rattle.cj_model.specs.Cluster.Masks.{in_mask}
use Rattle.cj_model.specs.Cluster.Placements.{Placement}
use Rattle.cj_model.specs.Database.Inserts.{refusal_of_code}
use Rattle.cj_model.specs.Wire.Replies.{asked_reply}
use Rattle.cj_cluster.specs.declared.event.Event.{Event}
use Rattle.cj_cluster.specs.History.Answering.{CanServe, HasNoServer, HasServer}
use Rattle.cj_cluster.specs.History.Histories.{events_left}
use Rattle.cj_cluster.specs.History.Turns.{Call}
use Rattle.cj_cluster.specs.Moves.Runs.{HasFailedSince}
use Rattle.cj_board.specs.declared.view.SeatView.{SeatView}
use Rattle.cj_book.specs.News.{IsOwedAt, IsRightAt}
use Rattle.cj_locked_cell.specs.Answering.{GivesAnswerAt}
use Rattle.cj_locked.specs.Looking.{AreAllTried}

-- the query as a session's call
abbrev pub call_of_query : ℕ → ℕ → List ℕ → Select → Reply → Call
call_of_query q tx user select reply = record { number = q; tx = tx; user = user; request = request.Select select; reply = reply }

-- ---- how a session's query ends: F is what the session had seen at its last reply, G what it sees at this one, and
-- `least` the position that it is owed

-- At a look, history m, backend b served the query. It answered since at position n, not below the one that was asked
-- for. A pass v heard of that.
pub record IsAnsweredSince (tells : Bool) (p : Placement) (F : List Event) (tx : ℕ) (select : Select) (least : ℕ) (G : List Event) (reply : Reply) (n : ℕ) : Type 0 where
  pub m : List Event
  pub before : IsPrefix F m
  pub b : ℕ
  pub serves : CanServe p m (request.Select select) b
  pub asked_for : ℕ
  pub owes : IsOwedAt m least asked_for
  pub v : SeatView
  pub since : IsPrefix m v.front
  pub after : IsPrefix v.front G
  pub answer : Asked
  pub gives : GivesAnswerAt tells p b tx select asked_for v answer n
  pub replied : reply ≡ asked_reply answer

-- at a look, history m, the cache kept an answer that is right at position n
pub record IsKeptSince (tells : Bool) (p : Placement) (F : List Event) (tx : ℕ) (select : Select) (least : ℕ) (G : List Event) (reply : Reply) (n : ℕ) : Type 0 where
  pub m : List Event
  pub before : IsPrefix F m
  pub after : IsPrefix m G
  pub answer : Answer
  pub right : IsRightAt tells p m tx select answer n
  pub owes : IsOwedAt m least n
  pub replied : reply ≡ Rows answer

-- at a look, history m, each backend that serves the query was tried, and each that was tried had failed in it
pub record IsInVain (p : Placement) (F : List Event) (s q : ℕ) (select : Select) (G : List Event) (reply : Reply) : Type 0 where
  pub m : List Event
  pub before : IsPrefix F m
  pub after : IsPrefix m G
  pub tried : ℕ
  pub mask : ℕ
  pub all : AreAllTried p m select tried mask
  pub failed : (b : ℕ) → in_mask tried b ≡ true → HasFailedSince F m s q b
  pub replied : reply ≡ Refused (record { code = READ_FAULT; a = mask; b = 0 })

-- why a query is refused at history m: memory is wanting, nobody serves it, or a failure in it has no room
pub data RefusesQuery (p : Placement) (m : List Event) (select : Select) (r : Refusal) : Type 0 where
  starved : r ≡ refusal_of_code NO_MEMORY → RefusesQuery p m select r
  unserved : r ≡ refusal_of_code NO_BACKEND → HasNoServer p m (request.Select select) → RefusesQuery p m select r
  full : r ≡ record { code = HISTORY_FULL; a = length m; b = 0 } → events_left m < 1 → HasServer p m (request.Select select) → RefusesQuery p m select r

-- it was refused at a history m
pub record IsRefusedSince (p : Placement) (F : List Event) (select : Select) (G : List Event) (reply : Reply) : Type 0 where
  pub m : List Event
  pub before : IsPrefix F m
  pub after : IsPrefix m G
  pub refusal : Refusal
  pub why : RefusesQuery p m select refusal
  pub replied : reply ≡ Refused refusal

-- What became of query q of session s in transaction tx, 0 for none. The session is owed position n then.
pub data EndsRead (tells : Bool) (p : Placement) (F : List Event) (s q tx : ℕ) (select : Select) (least : ℕ) (G : List Event) (reply : Reply) (n : ℕ) : Type 0 where
  answered : IsAnsweredSince tells p F tx select least G reply n → EndsRead tells p F s q tx select least G reply n
  kept : IsKeptSince tells p F tx select least G reply n → EndsRead tells p F s q tx select least G reply n
  in_vain : IsInVain p F s q select G reply → n ≡ least → EndsRead tells p F s q tx select least G reply n
  refused : IsRefusedSince p F select G reply → n ≡ least → EndsRead tells p F s q tx select least G reply n
