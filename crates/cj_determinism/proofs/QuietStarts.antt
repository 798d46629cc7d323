-- Quiet starts over the same log lead to the same history.
use Rattle.std.proofs.Common.{◌≡◌, ◌+◌, ◌-◌, ◌^◌, ◌<◌, ◌≤◌, ◌||◌, ◌&&◌, ◌≢◌, not, ℕ, true, false, Bool, List, [], ◌∷◌, ◌++◌, length, take, map, get_or, append_assoc, length-append, slice_get, Some, refl, sym, ap, subst, ◌∙◌, arith, ⊎_elim}
use Rattle.std.proofs.lemmas.Bool.{and_parts, both_ways, cases_eq, cases_lt, false_from_ne_true}
use Rattle.std.proofs.lemmas.List.Sums.{fold-append}
use Rattle.std.specs.List.{fold}
use Rattle.std.specs.Option.{option_map}
use Rattle.cj_cluster.specs.declared.moves.OpenSession.{OpenSession}
use Rattle.cj_cluster.specs.History.Histories.{enabled_after_event}
use Rattle.cj_cluster.specs.Moves.Moves.{opened_for}
use Rattle.cj_cluster.specs.Moves.Cores.{Core, session_at}
use Rattle.cj_cluster.specs.Moves.Runs.{seen_at}
use Rattle.cj_cluster.specs.declared.event.Event.{Event}
use Rattle.cj_cluster.specs.declared.event.Event.TheVariants.{Enabled, Ended, Sched}
use Rattle.cj_cluster.specs.History.Histories.{is_enabled, log}
use Rattle.cj_model.specs.Cluster.Caching.{CacheState}
use Rattle.cj_model.specs.Cluster.Placements.{Placement}
use Rattle.cj_auth.specs.Admission.{admits}
use Rattle.cj_log.specs.declared.item.LogItem.{LogItem}
use Rattle.cj_book.specs.Starts.{greatest_session}
use Rattle.cj_recovery.proofs.OneOpening.{items_fix}
use Rattle.cj_state.specs.Faults.{faults_of}
use Rattle.cj_state.specs.Worlds.{IsWorld, Setup, WorldState}
use Rattle.cj_core.proofs.Common.{length-map, next, slice_get-get_or}
use Rattle.cj_start.proofs.StartWhole.{none_on}
use Rattle.cj_start.specs.Started.{AbortsEach, orphans_of, with_abort}
use Rattle.cj_state.specs.Beginnings.{opened_core}
use Rattle.cj_model.specs.Cluster.Masks.{in_mask}
use Rattle.cj_cluster.specs.History.Legality.{IsAllowedEvent, IsLegal}
use Rattle.cj_core.proofs.QuietCalls.{some_backend}
use Rattle.cj_core.proofs.Common.{IsPrefix}
use Rattle.cj_calls.proofs.Common.{enabled-push, prefix_self, take_whole}
use Rattle.cj_start.proofs.Common.{prefix_trans}
use Rattle.std.proofs.Math.Seq.{get_or-append_seam}
use Rattle.cj_determinism.specs.AlikeDesks.{ShowsTheSame}
use Rattle.cj_determinism.specs.QuietSolos.{SoloView, view_of}
use Rattle.cj_determinism.specs.QuietStarts.{StartsQuietly, first_session}
use Rattle.cj_determinism.proofs.RisingLists.{all_has, has, rising_one}

-- ---- which backends are enabled

or_both : (a b c : Bool) → ((a || b) || c) ≡ (a || (b || c))
or_both true b c = refl
or_both false b c = refl

or_none : (a : Bool) → a ≡ (a || false)
or_none true = refl
or_none false = refl

-- after these were enabled, these are, and those that were
enabled_in : (b : ℕ) (es : List ℕ) (on : Bool) → fold (enabled_after_event b) on (map Enabled es) ≡ (on || has b es)
enabled_in b [] on = or_none on
enabled_in b (c ∷ es) on = enabled_in b es _ ∙ or_both on _ (has b es)

-- ---- the ends of open transactions, in which no backend failed

-- a mask without backends is 0
no_bits : (mask : ℕ) → ((b : ℕ) → in_mask mask b ≡ false) → mask ≡ 0
no_bits mask none =
    ⊎_elim (λ (e : mask ≡ 0). e) (λ (ne : mask ≢ 0). let there = some_backend mask mask (omega arith) ne in absurd (both_ways (in_mask mask there.0) (none there.0) there.1)) (cases_eq mask 0)

-- the history after the administrator ended these transactions, and nothing failed
abbrev aborted : List Event → List ℕ → List Event
aborted h [] = h
aborted h (tx ∷ txs) = aborted (with_abort h tx 0) txs

abort_on : (h : List Event) (tx failed b : ℕ) → is_enabled (with_abort h tx failed) b ≡ (is_enabled h b && not (in_mask failed b || in_mask 0 b))
abort_on h tx failed b = fold-append (enabled_after_event b) false h _

-- whoever is enabled behind them was before
aborts_off : (txs : List ℕ) (h z : List Event) (b : ℕ) → AbortsEach h txs z → is_enabled z b ≡ true → is_enabled h b ≡ true
aborts_off [] h z b same on = ap (λ (l : List Event). is_enabled l b) (sym same) ∙ on
aborts_off (tx ∷ txs) h z b (failed, rest) on = (and_parts (is_enabled h b) (not (in_mask failed b || in_mask 0 b)) (sym (abort_on h tx failed b) ∙ aborts_off txs (with_abort h tx failed) z b rest on)).0

aborts_prefix : (txs : List ℕ) (h z : List Event) → AbortsEach h txs z → IsPrefix h z
aborts_prefix [] h z same = subst (IsPrefix h) (sym same) (prefix_self h)
aborts_prefix (tx ∷ txs) h z (failed, rest) = prefix_trans h (with_abort h tx failed) z (_, refl) (aborts_prefix txs (with_abort h tx failed) z rest)

-- each event of a legal history was allowed
legal_there : (z xs : List Event) (e : Event) (rest : List Event) → IsLegal z → xs ++ e ∷ rest ≡ z → IsAllowedEvent xs e
legal_there z xs e rest legal is =
    let long : length z ≡ length xs + length (e ∷ rest) = sym (ap length is) ∙ length-append xs (e ∷ rest) in
    let more : length (e ∷ rest) ≡ length rest + 1 = omega arith in
    let there : get_or z (length xs) e ≡ e = ap (λ (l : List Event). get_or l (length xs) e) (sym is) ∙ get_or-append_seam xs e rest e in
    subst (λ (h : List Event). IsAllowedEvent h e) (take_whole xs z (e ∷ rest, is)) (subst (λ (x : Event). IsAllowedEvent (take (length xs) z) x) there (legal.each (length xs) e (omega (arith, long, more))))

-- in an end after which those are enabled that were, none failed
none_failed : (h z : List Event) (tx failed : ℕ) → IsLegal z → IsPrefix (with_abort h tx failed) z → ((b : ℕ) → is_enabled h b ≡ true → is_enabled (with_abort h tx failed) b ≡ true) → failed ≡ 0
none_failed h z tx failed legal (rest, is) on =
    no_bits failed
    (λ b. false_from_ne_true (in_mask failed b)
    (λ (there : in_mask failed b ≡ true).
    let allowed = legal_there z (h ++ Sched _ ∷ []) (Ended failed 0) rest legal (append_assoc h (Sched _ ∷ []) (Ended failed 0 ∷ rest) ∙ (sym (append_assoc h (Sched _ ∷ Ended failed 0 ∷ []) rest) ∙ is)) in
    let before : is_enabled h b ≡ true = sym (enabled-push h (Sched _) b) ∙ ((allowed.1 b).0 there).0 in
    let kept = (and_parts (is_enabled h b) (not (in_mask failed b || in_mask 0 b)) (sym (abort_on h tx failed b) ∙ on b before)).1 in
    both_ways (not (in_mask failed b || in_mask 0 b)) (ap (λ (t : Bool). not (t || in_mask 0 b)) there) kept))

aborts_one : (txs : List ℕ) (h z : List Event) → IsLegal z → ((b : ℕ) → is_enabled h b ≡ true → is_enabled z b ≡ true) → AbortsEach h txs z → z ≡ aborted h txs
aborts_one [] h z legal on same = same
aborts_one (tx ∷ txs) h z legal on (failed, rest) =
    let none : failed ≡ 0 = none_failed h z tx failed legal (aborts_prefix txs (with_abort h tx failed) z rest) (λ b there. aborts_off txs (with_abort h tx failed) z b rest (on b there)) in
    aborts_one txs (with_abort h tx 0) z legal (λ b there. on b (and_parts (is_enabled h b) (not (in_mask 0 b || in_mask 0 b)) (sym (abort_on h tx 0 b) ∙ there)).0)
    (subst (λ (m : ℕ). AbortsEach (with_abort h tx m) txs z) none rest)

-- ---- a start

module _ (tells : Bool) (p : Placement) (items : List LogItem) (w : WorldState) (world : IsWorld tells w) (q : StartsQuietly p items w) where
  -- when the backends were enabled
  abbrev front : List Event
  front = q.opening ++ map Enabled q.started.enabled

  enabled_if : (b : ℕ) → is_enabled front b ≡ has b q.started.enabled
  enabled_if b =
      fold-append (enabled_after_event b) false q.opening (map Enabled q.started.enabled)
      ∙ (ap (λ (t : Bool). fold (enabled_after_event b) t (map Enabled q.started.enabled)) (none_on q.opening q.opens.opening b) ∙ enabled_in b q.started.enabled false)

  -- none of the backends failed
  all_on : (b : ℕ) → b < p.backends → is_enabled w.core.history b ≡ true
  all_on b lt =
      ⊎_elim (λ up. up.0)
      (λ out.
      let cells : length (faults_of w.cells) ≡ length w.cells = length-map w.cells _ in
      let counts : length (faults_of w.cells) ≡ length q.faults = ap length q.none_counted in
      let within : b < length q.faults = (let all = q.started.cells in omega (arith, lt, cells, counts, all)) in
      let there : slice_get q.faults b ≡ Some (get_or q.faults b 0) = slice_get-get_or q.faults b 0 within in
      let same : Some (get_or q.faults b 0) ≡ Some (next (get_or q.faults b 0)) = sym there ∙ (sym (ap (λ (ns : List ℕ). slice_get ns b) q.none_counted) ∙ (out.2 ∙ ap (option_map next) there)) in
      let is : get_or q.faults b 0 ≡ next (get_or q.faults b 0) = cc same in
      let low : get_or q.faults b 0 < 2 ^ 64 - 1 = q.can_count b 0 within in
      absurd (omega (arith, is, low)))
      (q.started.backends b lt)

  started_history : w.core.history ≡ aborted front (orphans_of (opened_core p q.opening))
  started_history =
      aborts_one (orphans_of (opened_core p q.opening)) front w.core.history world.sound.legal
      (λ b on. all_on b (all_has (λ (k : ℕ). k < p.backends) b q.started.enabled q.started.within (sym (enabled_if b) ∙ on))) q.started.history

  -- each backend was enabled, and no other
  all_enabled : (b : ℕ) → b < p.backends → has b q.started.enabled ≡ true
  all_enabled b lt = sym (enabled_if b) ∙ aborts_off (orphans_of (opened_core p q.opening)) front w.core.history b q.started.history (all_on b lt)

  no_other : (b : ℕ) → p.backends ≤ b → has b q.started.enabled ≡ false
  no_other b past =
      false_from_ne_true (has b q.started.enabled) (λ there. let within = all_has (λ (k : ℕ). k < p.backends) b q.started.enabled q.started.within there in absurd (omega (arith, within, past)))

-- ---- what is seen of the first session

-- of a world with these parts
abbrev view_with : Placement → List Event → List OpenSession → ℕ → Setup → CacheState → SoloView
view_with p h sessions greatest setup cache =
    let c : Core = opened_for (record { placement = p; history = h; positions = []; begun = []; failed = 0; starved = 0; sessions = sessions; greatest = greatest; dumps = [] }) [] in
    record {
      desk = record { placement = p; admits = admits setup.accounts.accounts; session = greatest + 1; seen = seen_at c (greatest + 1); requests = (session_at c (greatest + 1)).requests };
      cache = cache;
    }

view_seen : (w : WorldState) → view_of (first_session w) ≡ view_with w.core.placement w.core.history w.core.sessions w.core.greatest w.setup w.cache
view_seen w = refl

pub starts_alike : (tells : Bool) (p : Placement) (items : List LogItem) (v w : WorldState) → IsWorld tells v → IsWorld tells w → StartsQuietly p items v → StartsQuietly p items w → v.setup ≡ w.setup → v.cache ≡ w.cache → ShowsTheSame view_of (first_session v) (first_session w)
starts_alike tells p items v w x y a b setup cache =
    let openings : a.opening ≡ b.opening = items_fix items a.opening b.opening a.opens b.opens in
    let alike : (k : ℕ) → has k a.started.enabled ≡ has k b.started.enabled = λ k.
    ⊎_elim (λ (within : k < p.backends). all_enabled tells p items v x a k within ∙ sym (all_enabled tells p items w y b k within)) (λ (past : p.backends ≤ k). no_other tells p items v x a k past ∙ sym (no_other tells p items w y b k past)) (cases_lt k p.backends) in
    let enabled : a.started.enabled ≡ b.started.enabled = rising_one a.started.enabled b.started.enabled a.started.rises b.started.rises alike in
    let history : v.core.history ≡ w.core.history =
    started_history tells p items v x a
    ∙ (ap (λ (h : List Event). aborted (h ++ map Enabled a.started.enabled) (orphans_of (opened_core p h))) openings
    ∙ (ap (λ (es : List ℕ). aborted (b.opening ++ map Enabled es) (orphans_of (opened_core p b.opening))) enabled ∙ sym (started_history tells p items w y b))) in
    let placement : v.core.placement ≡ w.core.placement = a.started.placement ∙ sym b.started.placement in
    let sessions : v.core.sessions ≡ w.core.sessions = a.started.sessions ∙ sym b.started.sessions in
    let greatest : v.core.greatest ≡ w.core.greatest = a.started.greatest ∙ (ap (λ (h : List Event). greatest_session (log h)) openings ∙ sym b.started.greatest) in
    view_seen v
    ∙ (ap (λ (k : Placement). view_with k v.core.history v.core.sessions v.core.greatest v.setup v.cache) placement
    ∙ (ap (λ (k : List Event). view_with w.core.placement k v.core.sessions v.core.greatest v.setup v.cache) history
    ∙ (ap (λ (k : List OpenSession). view_with w.core.placement w.core.history k v.core.greatest v.setup v.cache) sessions
    ∙ (ap (λ (k : ℕ). view_with w.core.placement w.core.history w.core.sessions k v.setup v.cache) greatest
    ∙ (ap (λ (k : Setup). view_with w.core.placement w.core.history w.core.sessions w.core.greatest k v.cache) setup
    ∙ (ap (λ (k : CacheState). view_with w.core.placement w.core.history w.core.sessions w.core.greatest w.setup k) cache ∙ sym (view_seen w)))))))
