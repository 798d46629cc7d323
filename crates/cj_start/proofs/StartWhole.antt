-- A start from its parts.
use Rattle.std.proofs.Common.{◌≡◌, inl, inr, ℕ, ◌<◌, ◌==◌, Bool, false, List, [], ◌∷◌, ◌++◌, length, map, slice_get, Option, Some, is_some, All, refl, ap, sym, ◌∙◌, subst, ⊎_elim}
use Rattle.cj_start.proofs.Common.{AbortsEach, AllStand, AreStanding, Core, Enabled, EnabledTo, Ended, EndedTo, Entry, entry_numbered, Event, faults_of, filter, HasFailedOut, HasReplayed, HasStarted, HasTaken, is_enabled}
use Rattle.cj_start.proofs.Common.{filter_agree, is_orphan, is_orphan_of, IsOpening, IsWorld, last_number, log, Marker, OnlyReplays, opened_core, orphans_of, Placement, position_at, range_with_len, Sched, tx_of, WorldState}
use Rattle.cj_start.proofs.StartEnables.{enabled_last, enabled_position}
use Rattle.cj_start.proofs.StartEnds.{orphan_of_same}
use Rattle.cj_start.proofs.StartReplays.{only_history, only_placement}
use Rattle.cj_moves.proofs.SameWorlds.{cells_count}

-- ---- what a log opens with

-- no backend is enabled in it
pub none_on : (h : List Event) → IsOpening h → (b : ℕ) → is_enabled h b ≡ false
none_on [] o b = refl
none_on (Sched e ∷ Ended f s ∷ h) o b = none_on h o.2 b
none_on (Marker name m ∷ h) o b = none_on h o b
none_on _ o b = absurd o

-- ---- which transactions are open, over the same log

module _ (c d : Core) (entries : log c.history ≡ log d.history) (sessions : c.sessions ≡ d.sessions) where
  same_orphan : (tx : ℕ) → is_orphan c tx ≡ is_orphan d tx
  same_orphan tx = ap (λ (es : List Entry). is_orphan_of c tx (entry_numbered es tx)) entries ∙ orphan_of_same c d tx (entry_numbered (log d.history) tx) sessions (λ s. ap (λ (es : List Entry). tx_of es s == tx) entries)

  orphans_same : orphans_of c ≡ orphans_of d
  orphans_same = ap (λ (es : List Entry). filter (is_orphan c) (range_with_len 1 (length es))) entries ∙ filter_agree (is_orphan c) (is_orphan d) same_orphan (range_with_len 1 (length (log d.history)))

-- ---- from part to part

module _ (old rep : WorldState) (only : OnlyReplays old rep) (all : (b : ℕ) → b < old.core.placement.backends → HasReplayed (faults_of old.cells) rep b) where
  module _ (en : WorldState) (to : EnabledTo rep en rep.core.placement.backends) where
    position_en : (b : ℕ) → position_at en.core b ≡ position_at rep.core b
    position_en b = enabled_position rep en rep.core.placement.backends to b

    last_en : last_number en.core ≡ last_number rep.core
    last_en = enabled_last rep en rep.core.placement.backends to

    counted_en : (b : ℕ) → slice_get (faults_of en.cells) b ≡ slice_get (faults_of rep.cells) b
    counted_en b = ap (λ (w : WorldState). slice_get (faults_of w.cells) b) to.after

    placement_en : en.core.placement ≡ old.core.placement
    placement_en = ap (λ (w : WorldState). w.core.placement) to.after ∙ only_placement old rep only

    sessions_en : en.core.sessions ≡ old.core.sessions
    sessions_en = ap (λ (w : WorldState). w.core.sessions) to.after ∙ ap (λ (c : Core). c.sessions) only.core

    -- enabled, each of them stands as after a start
    all_stand : AllStand (faults_of old.cells) en
    all_stand b lt =
        let on : is_enabled en.core.history b ≡ is_some (position_at rep.core b) = to.on b (subst (λ (p : Placement). b < p.backends) (ap (λ (w : WorldState). w.core.placement) to.after) lt) in
        ⊎_elim
        (λ (taken : HasTaken (faults_of old.cells) rep b (last_number rep.core)).
        inl (on ∙ ap (λ (o : Option ℕ). is_some o) taken.position, position_en b ∙ (taken.position ∙ ap (λ (n : ℕ). Some n) (sym last_en)), counted_en b ∙ taken.counted))
        (λ (out : HasFailedOut (faults_of old.cells) rep b). inr (on ∙ ap (λ (o : Option ℕ). is_some o) out.position, position_en b ∙ out.position, counted_en b ∙ out.counted))
        (all b (subst (λ (p : Placement). b < p.backends) placement_en lt))

    pub enabled_standing : AreStanding en
    enabled_standing = (faults_of old.cells, all_stand)

    module _ (opened : old.core ≡ opened_core old.core.placement old.core.history) where
      pub enabled_alone : en.core.sessions ≡ []
      enabled_alone = sessions_en ∙ ap (λ (c : Core). c.sessions) opened

      entries_en : log en.core.history ≡ log old.core.history
      entries_en = to.entries ∙ ap (λ (h : List Event). log h) (only_history old rep only)

      module _ (new : WorldState) (ends : EndedTo en new (last_number en.core)) (tells : Bool) (world : IsWorld tells new) where
        orphans_en : filter (is_orphan en.core) (range_with_len 1 (last_number en.core)) ≡ orphans_of (opened_core old.core.placement old.core.history)
        orphans_en = orphans_same en.core (opened_core old.core.placement old.core.history) entries_en enabled_alone

        history_en : en.core.history ≡ old.core.history ++ map Enabled to.enabled
        history_en = ap (λ (w : WorldState). w.core.history) to.after ∙ ap (λ (h : List Event). h ++ map Enabled to.enabled) (only_history old rep only)

        dumps_en : en.core.dumps ≡ old.core.dumps
        dumps_en = ap (λ (w : WorldState). w.core.dumps) to.after ∙ ap (λ (c : Core). c.dumps) only.core

        greatest_en : en.core.greatest ≡ old.core.greatest
        greatest_en = ap (λ (w : WorldState). w.core.greatest) to.after ∙ ap (λ (c : Core). c.greatest) only.core

        placement_new : new.core.placement ≡ old.core.placement
        placement_new = ends.same.placement ∙ placement_en

        pub has_started : HasStarted old.core.placement old.core.history (faults_of old.cells) new
        has_started =
            record {
              placement = placement_new;
              cells = cells_count tells new world ∙ ap (λ (p : Placement). p.backends) placement_new;
              enabled = to.enabled;
              rises = to.rises;
              within = subst (λ (q : Placement). All (λ (b : ℕ). b < q.backends) to.enabled) (only_placement old rep only) to.below;
              history =
                  subst (λ (h : List Event). AbortsEach h (orphans_of (opened_core old.core.placement old.core.history)) new.core.history) history_en
                  (subst (λ (txs : List ℕ). AbortsEach en.core.history txs new.core.history) orphans_en ends.history);
              idle = ends.idle;
              sessions = ends.same.sessions ∙ enabled_alone;
              dumps = ends.same.dumps ∙ (dumps_en ∙ ap (λ (c : Core). c.dumps) opened);
              greatest = ends.same.greatest ∙ (greatest_en ∙ ap (λ (c : Core). c.greatest) opened);
              backends = λ b lt. ends.stands (faults_of old.cells) all_stand b (subst (λ (p : Placement). b < p.backends) (sym placement_new) lt);
            }
