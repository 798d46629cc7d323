-- What is pending: an event that comes once its item stands in the recovery log, and what the book keeps for it.
use Rattle.std.specs.Prelude.{◌≡◌, ℕ, ◌<◌, ◌≤◌, true, List}
use Rattle.std.specs.declared.option.Option.{Option}
use Rattle.std.specs.declared.option.Option.TheVariants.{None, Some}
use Rattle.cj_cluster.specs.declared.event.Event.{Event}
use Rattle.cj_cluster.specs.History.Histories.{events_left, is_free}
use Rattle.cj_book.specs.declared.pending.Pending.{Pending}
use Rattle.cj_book.specs.declared.pending.Pending.TheVariants as pending

-- an entry may come next, with places for it and for the transaction that it may begin
pub record AwaitsEntry (h : List Event) (places tx_places : ℕ) : Type 0 where
  pub idle : is_free h ≡ true
  pub space : 3 ≤ events_left h
  pub place : 0 < places
  pub tx_place : 0 < tx_places

-- a marker may come next, with a place for it
pub record AwaitsMarker (h : List Event) (places : ℕ) : Type 0 where
  pub idle : is_free h ≡ true
  pub space : 0 < events_left h
  pub place : 0 < places

-- what is pending may come next; there are so many places for entries, markers and open transactions
abbrev pub KeepsPending : List Event → ℕ → ℕ → ℕ → Option Pending → Type 0
KeepsPending h places marker_places tx_places None = Unit {0}
KeepsPending h places marker_places tx_places (Some pending.Entry) = AwaitsEntry h places tx_places
KeepsPending h places marker_places tx_places (Some pending.Marker) = AwaitsMarker h marker_places
