-- What is kept for what is pending.
use Rattle.std.proofs.Common.{◌≡◌, ◌≢◌, ℕ, true, List, Option, None, Some, refl, sym, subst}
use Rattle.cj_book.proofs.Common.{Event, is_free}
use Rattle.cj_book.specs.Pendings.{AwaitsEntry, AwaitsMarker, KeepsPending}
use Rattle.cj_book.specs.declared.pending.Pending.{Pending}
use Rattle.cj_book.specs.declared.pending.Pending.TheVariants as pending

module _ (h : List Event) (places marker_places tx_places : ℕ) where
  -- where nothing is, nothing is kept for it
  pub kept_for_none : (o : Option Pending) → o ≡ None → KeepsPending h places marker_places tx_places o
  kept_for_none o is = subst (λ (x : Option Pending). KeepsPending h places marker_places tx_places x) (sym is) tt

  -- no entry is open
  pub pending_idle : (o : Option Pending) → KeepsPending h places marker_places tx_places o → o ≢ None → is_free h ≡ true
  pending_idle None k some = absurd (some refl)
  pending_idle (Some pending.Entry) k some = k.idle
  pending_idle (Some pending.Marker) k some = k.idle

  pub entry_ready : (o : Option Pending) → KeepsPending h places marker_places tx_places o → o ≡ Some pending.Entry → AwaitsEntry h places tx_places
  entry_ready o k is = subst (λ (x : Option Pending). KeepsPending h places marker_places tx_places x) is k

  pub marker_ready : (o : Option Pending) → KeepsPending h places marker_places tx_places o → o ≡ Some pending.Marker → AwaitsMarker h marker_places
  marker_ready o k is = subst (λ (x : Option Pending). KeepsPending h places marker_places tx_places x) is k
