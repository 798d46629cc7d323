-- When a session leaves no choice of what is written.
use Rattle.std.specs.Prelude.{◌≡◌, ◌≢◌, List}
use Rattle.std.specs.List.{AllByRecursion}
use Rattle.cj_model.specs.declared.answer.Reply.{Reply}
use Rattle.cj_model.specs.declared.codes.TheConstants.{NO_MEMORY}
use Rattle.cj_cluster.specs.History.Turns.{Call}
use Rattle.cj_cluster.specs.Wire.Sessions.{refused_reply}
use Rattle.cj_desk.specs.DeskStates.{DeskCall, turn_taken, query_skipped, cache_counted}

-- two calls differ in their replies alone
pub record AsksSameRequest (c d : Call) : Type 0 where
  pub number : c.number ≡ d.number
  pub tx : c.tx ≡ d.tx
  pub user : c.user ≡ d.user
  pub request : c.request ≡ d.request

-- a desk is asked the same, whatever it answers
abbrev pub AsksTheSame : DeskCall → DeskCall → Type 0
AsksTheSame (turn_taken c) (turn_taken d) = AsksSameRequest c d
AsksTheSame (turn_taken c) query_skipped = ⊥
AsksTheSame (turn_taken c) (cache_counted hits misses) = ⊥
AsksTheSame query_skipped (turn_taken d) = ⊥
AsksTheSame query_skipped query_skipped = Unit {0}
AsksTheSame query_skipped (cache_counted hits misses) = ⊥
AsksTheSame (cache_counted hits misses) (turn_taken d) = ⊥
AsksTheSame (cache_counted hits misses) query_skipped = ⊥
AsksTheSame (cache_counted hits misses) (cache_counted others more) = Unit {0}

-- a desk and what it is asked fix the answer and the desk after it
abbrev pub IsDeterministic : {S : Type 0} → (S → DeskCall → S → Type 0) → Type 0
IsDeterministic {S} leads_to = (a z u : S) (x y : DeskCall) → AsksTheSame x y → leads_to a x z → leads_to a y u → (x ≡ y) × (z ≡ u)

-- none of the replies says that memory ran out
abbrev pub NoneWantsMemory : List Reply → Type 0
NoneWantsMemory replies = AllByRecursion (λ (reply : Reply). reply ≢ refused_reply NO_MEMORY) replies
