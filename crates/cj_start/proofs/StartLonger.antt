-- A start only adds to the history, and so to the log.
use Rattle.std.proofs.Common.{◌≡◌, ℕ, Bool, false, List, [], ◌∷◌, ◌++◌, map, refl, ◌∙◌}
use Rattle.cj_start.proofs.Common.{AbortsEach, Enabled, Ended, Event, fold, HasStarted, IsLonger, IsOpening, LogItem}
use Rattle.cj_start.proofs.Common.{Marker, OpensTo, Placement, prefix_trans, Sched, with_abort, WorldState}
use Rattle.cj_book.proofs.Common.{log_failed_after, fold-append, last_write_failed}

-- ---- from part to part

pub longer_then : (old mid now : WorldState) → IsLonger old mid → IsLonger mid now → IsLonger old now
longer_then old mid now p q = prefix_trans old.core.history mid.core.history now.core.history p q

-- ---- behind a start no write has failed

opening_well : (h : List Event) → IsOpening h → last_write_failed h ≡ false
opening_well [] o = refl
opening_well (Sched e ∷ Ended f s ∷ h) o = opening_well h o.2
opening_well (Marker name m ∷ h) o = opening_well h o
opening_well _ o = absurd o

enabled_well : (bs : List ℕ) (failed : Bool) → fold log_failed_after failed (map Enabled bs) ≡ failed
enabled_well [] failed = refl
enabled_well (b ∷ bs) failed = enabled_well bs failed

aborts_well : (h : List Event) (txs : List ℕ) (z : List Event) → last_write_failed h ≡ false → AbortsEach h txs z → last_write_failed z ≡ false
aborts_well h [] z well is = rw is well
aborts_well h (tx ∷ txs) z well (failed, rest) = aborts_well (with_abort h tx failed) txs z (fold-append log_failed_after false h (Sched _ ∷ Ended failed 0 ∷ [])) rest

pub started_well : (items : List LogItem) (p : Placement) (opening : List Event) (faults : List ℕ) (w : WorldState) → OpensTo items opening → HasStarted p opening faults w → last_write_failed w.core.history ≡ false
started_well items p opening faults w opens s =
    aborts_well (opening ++ map Enabled s.enabled) _ w.core.history
    (fold-append log_failed_after false opening (map Enabled s.enabled) ∙ (enabled_well s.enabled (last_write_failed opening) ∙ opening_well opening opens.opening)) s.history
