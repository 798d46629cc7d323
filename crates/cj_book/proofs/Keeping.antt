-- A book with one more event.
use Rattle.std.proofs.Common.{◌≡◌, ◌≢◌, Bool, ℕ, ◌+◌, ◌-◌, ◌*◌, ◌^◌, ◌%◌, ◌<◌, ◌≤◌, ◌==◌, ◌&&◌, ◌||◌, not, true, false, List, [], ◌∷◌, ◌++◌, length, map, All, Option, None, bit_and, bit_or, refl, ap, sym, ◌∙◌, subst, arith, length-append, ⊎_elim}
use Rattle.std.proofs.lemmas.Bool.{eqb-true, eqb-false, and_parts, or_cases}
use Rattle.cj_book.proofs.Common.{AreFitMasks, BookSession, bytes_eq, Disabled, Enabled, enabled_after_event, Ended, ended_count, Entry, Event, events_left, in_mask, is_enabled, is_end_event, is_free, items_behind, Layout, list_any, log, LogFailed, LogMarker, Marker, markers, OpenTransaction, ReadFailed, Sched, scheduled_entry, session_number}
use Rattle.cj_cluster.proofs.Pushed.{enabled-push, log-sched, log-same, done-same, done-ended}
use Rattle.cj_book.proofs.Marked.{marked_more, marked_same, marked_sched}
use Rattle.cj_book.specs.Books.{IsOpenSession}
use Rattle.cj_book.specs.Kept.{Follows, IsKeptBook, KeepsEntries}
use Rattle.cj_book.proofs.Following.{follows_disabled, follows_ended, follows_enabled, follows_log_failed, follows_marker, follows_read_failed}
use Rattle.cj_model.proofs.MaskBits.{has_without, has_cleared, has_set}

-- ---- the entries and the enabled backends

module _ {n : ℕ} {h : List Event} {kept : List Entry} {ended on : ℕ} (k : KeepsEntries n h kept ended on) where
  -- an entry that is scheduled
  keeps_sched : (e : Entry) → is_free h ≡ true → 3 ≤ events_left h → KeepsEntries n (h ++ Sched e ∷ []) (kept ++ e ∷ []) ended on
  keeps_sched e idle space =
      let at_end : ended_count h ≡ length (log h) = eqb-true _ _ idle in
      let entries : log (h ++ Sched e ∷ []) ≡ log h ++ e ∷ [] = log-sched h e in
      let more : length (log (h ++ Sched e ∷ [])) ≡ length (log h) + 1 = ap length entries ∙ length-append (log h) (e ∷ []) in
      let ends : ended_count (h ++ Sched e ∷ []) ≡ ended_count h = done-same h (Sched e) refl in
      let events = length-append h (Sched e ∷ []) in
      let both : kept ++ e ∷ [] ≡ log (h ++ Sched e ∷ []) = ap (λ (l : List Entry). l ++ e ∷ []) k.entries ∙ sym entries in
      record {
        backend_count = k.backend_count;
        entries = both;
        entry_count = ap length both;
        ends = k.ends ∙ sym ends;
        one_open = (omega arith, omega arith);
        mask = λ b. k.mask b ∙ sym (enabled-push h (Sched e) b);
        below = λ b is. k.below b (sym (enabled-push h (Sched e) b) ∙ is);
        short = omega arith;
      }

  -- an event that schedules and ends nothing
  keeps_same : (new : Event) (on' : ℕ) → scheduled_entry new ≡ None → is_end_event new ≡ false → 0 < events_left h → ((b : ℕ) → in_mask on' b ≡ is_enabled (h ++ new ∷ []) b)
      → ((b : ℕ) → is_enabled (h ++ new ∷ []) b ≡ true → b < n) → KeepsEntries n (h ++ new ∷ []) kept ended on'
  keeps_same new on' no_entry no_end space mask below =
      let entries : log (h ++ new ∷ []) ≡ log h = log-same h new no_entry in
      let as_many : length (log (h ++ new ∷ [])) ≡ length (log h) = ap length entries in
      let ends : ended_count (h ++ new ∷ []) ≡ ended_count h = done-same h new no_end in
      let events = length-append h (new ∷ []) in
      let lo : ended_count h ≤ length (log h) = k.one_open.0 in
      let hi : length (log h) ≤ ended_count h + 1 = k.one_open.1 in
      record {
        backend_count = k.backend_count;
        entries = k.entries ∙ sym entries;
        entry_count = k.entry_count ∙ sym as_many;
        ends = k.ends ∙ sym ends;
        one_open = (omega arith, omega arith);
        mask = mask;
        below = below;
        short = omega arith;
      }

  -- and leaves the enabled backends
  keeps_quiet : (new : Event) → scheduled_entry new ≡ None → is_end_event new ≡ false → ((b : ℕ) (t : Bool) → enabled_after_event b t new ≡ t) → 0 < events_left h → KeepsEntries n (h ++ new ∷ []) kept ended on
  keeps_quiet new no_entry no_end quiet space =
      let same : (b : ℕ) → is_enabled (h ++ new ∷ []) b ≡ is_enabled h b = λ b. enabled-push h new b ∙ quiet b (is_enabled h b) in
      keeps_same new on no_entry no_end space (λ b. k.mask b ∙ sym (same b)) (λ b is. k.below b (sym (same b) ∙ is))

  -- the end of the open entry
  keeps_ended : (f s : ℕ) → on < 2 ^ 32 → f < 2 ^ 32 → s < 2 ^ 32 → is_free h ≡ false → KeepsEntries n (h ++ Ended f s ∷ []) kept (ended + 1) (bit_and on (4294967295 - bit_or f s))
  keeps_ended f s fits p q is_open =
      let entries : log (h ++ Ended f s ∷ []) ≡ log h = log-same h (Ended f s) refl in
      let as_many : length (log (h ++ Ended f s ∷ [])) ≡ length (log h) = ap length entries in
      let ends : ended_count (h ++ Ended f s ∷ []) ≡ ended_count h + 1 = done-ended h f s in
      let events = length-append h (Ended f s ∷ []) in
      let lo : ended_count h ≤ length (log h) = k.one_open.0 in
      let hi : length (log h) ≤ ended_count h + 1 = k.one_open.1 in
      let unequal : ended_count h ≢ length (log h) = eqb-false _ _ is_open in
      let events_left : length h + 2 * (length (log h) - ended_count h) ≤ 2 ^ 62 = k.short in
      let counted : ended ≡ ended_count h = k.ends in
      record {
        backend_count = k.backend_count;
        entries = k.entries ∙ sym entries;
        entry_count = k.entry_count ∙ sym as_many;
        ends = omega arith;
        one_open = (omega arith, omega arith);
        mask = λ b. has_without on f s b fits p q ∙ (ap (λ x. x && not (in_mask f b || in_mask s b)) (k.mask b) ∙ sym (enabled-push h (Ended f s) b));
        below = λ b is. k.below b (and_parts (is_enabled h b) (not (in_mask f b || in_mask s b)) (sym (enabled-push h (Ended f s) b) ∙ is)).0;
        short = omega arith;
      }

  -- a backend is disabled
  keeps_disabled : (b : ℕ) → on < 2 ^ 32 → b < n → 0 < events_left h → KeepsEntries n (h ++ Disabled b ∷ []) kept ended (bit_and on (4294967295 - 1 * 2 ^ b % 4294967296))
  keeps_disabled b fits lt space =
      let few : n ≤ 16 = k.backend_count.1 in
      keeps_same (Disabled b) (bit_and on (4294967295 - 1 * 2 ^ b % 4294967296)) refl refl space
      (λ x. has_cleared on b x fits (omega arith) ∙ (ap (λ y. y && not (x == b)) (k.mask x) ∙ sym (enabled-push h (Disabled b) x)))
      (λ x is. k.below x (and_parts (is_enabled h x) (not (x == b)) (sym (enabled-push h (Disabled b) x) ∙ is)).0)

  -- a backend is enabled
  keeps_enabled : (b : ℕ) → b < n → 0 < events_left h → KeepsEntries n (h ++ Enabled b ∷ []) kept ended (bit_or on (1 * 2 ^ b % 4294967296))
  keeps_enabled b lt space =
      let few : n ≤ 16 = k.backend_count.1 in
      keeps_same (Enabled b) (bit_or on (1 * 2 ^ b % 4294967296)) refl refl space
      (λ x. has_set on b x (omega arith) ∙ (ap (λ y. y || x == b) (k.mask x) ∙ sym (enabled-push h (Enabled b) x)))
      (λ x is.
      ⊎_elim
      (λ (was : is_enabled h x ≡ true). k.below x was)
      (λ (now : (x == b) ≡ true). let e : x ≡ b = eqb-true x b now in omega arith)
      (or_cases (is_enabled h x) (x == b) (sym (enabled-push h (Enabled b) x) ∙ is)))

-- ---- all that is kept

abbrev pub marker_behind : List Event → List ℕ → Option ℕ → LogMarker
marker_behind h name b = record { after = length (log h); name = name; b = b }

module _ {layout : Layout} {h : List Event} {kept : List Entry} {ended on greatest targets : ℕ} {ss : List BookSession} {ts : List OpenTransaction} {marks : List LogMarker} {given : List ℕ} (k : IsKeptBook layout h kept ended on greatest targets ss ts marks given) where
  -- an event that is no item of the log
  kept_more : (e : Event) {ended' on' targets' : ℕ} → ((n : ℕ) → items_behind n (e ∷ []) ≡ []) → KeepsEntries (length layout.names) (h ++ e ∷ []) kept ended' on' → Follows layout (h ++ e ∷ []) greatest targets' ss ts
      → IsKeptBook layout (h ++ e ∷ []) kept ended' on' greatest targets' ss ts marks given
  kept_more e none history follows = record {
    history = history;
    follows = follows;
    marked = k.marked ∙ sym (marked_same h e none);
    within = k.within;
    owned = k.owned;
  }

  pub kept_disabled : (b : ℕ) → on < 2 ^ 32 → b < length layout.names → 0 < events_left h → is_free h ≡ true → is_enabled h b ≡ true → IsKeptBook layout (h ++ Disabled b ∷ []) kept ended (bit_and on (4294967295 - 1 * 2 ^ b % 4294967296)) greatest targets ss ts marks given
  kept_disabled b fits named space idle was = kept_more (Disabled b) (λ n. refl) (keeps_disabled k.history b fits named space) (follows_disabled _ _ _ _ _ _ k.follows b space idle was)

  pub kept_enabled : (b : ℕ) → b < length layout.names → 0 < events_left h → is_free h ≡ true → is_enabled h b ≡ false → IsKeptBook layout (h ++ Enabled b ∷ []) kept ended (bit_or on (1 * 2 ^ b % 4294967296)) greatest targets ss ts marks given
  kept_enabled b named space idle was = kept_more (Enabled b) (λ n. refl) (keeps_enabled k.history b named space) (follows_enabled _ _ _ _ _ _ k.follows b space idle was)

  pub kept_read_failed : (s q b : ℕ) → 0 < events_left h → IsKeptBook layout (h ++ ReadFailed s q b ∷ []) kept ended on greatest targets ss ts marks given
  kept_read_failed s q b space = kept_more (ReadFailed s q b) (λ n. refl) (keeps_quiet k.history (ReadFailed s q b) refl refl (λ x t. refl) space) (follows_read_failed _ _ _ _ _ _ k.follows s q b space)

  pub kept_ended : (f s : ℕ) → on < 2 ^ 32 → f < 2 ^ 32 → s < 2 ^ 32 → is_free h ≡ false → AreFitMasks h f s → IsKeptBook layout (h ++ Ended f s ∷ []) kept (ended + 1) (bit_and on (4294967295 - bit_or f s)) greatest 0 ss ts marks given
  kept_ended f s fits p q is_open masks = kept_more (Ended f s) (λ n. refl) (keeps_ended k.history f s fits p q is_open) (follows_ended _ _ _ _ _ _ k.follows f s k.history.short is_open k.history.one_open masks)

  -- ---- calls whose item was given to the log

  -- its store failed
  pub kept_log_failed : (s q : ℕ) → 0 < events_left h → is_free h ≡ true → IsKeptBook layout (h ++ LogFailed s q ∷ []) kept ended on greatest targets ss ts marks given
  kept_log_failed s q space idle = kept_more (LogFailed s q) (λ n. refl) (keeps_quiet k.history (LogFailed s q) refl refl (λ x t. refl) space) (follows_log_failed _ _ _ _ _ _ k.follows s q space idle)

  -- a marker stands in it
  pub kept_marker : (name : List ℕ) (b : Option ℕ) → 0 < events_left h → is_free h ≡ true → list_any (bytes_eq name) (markers h) ≡ false → IsKeptBook layout (h ++ Marker name b ∷ []) kept ended on greatest targets ss ts (marks ++ marker_behind h name b ∷ []) given
  kept_marker name b space idle fresh = record {
    history = keeps_quiet k.history (Marker name b) refl refl (λ x t. refl) space;
    follows = follows_marker _ _ _ _ _ _ k.follows name b space idle fresh;
    marked = ap (λ (l : List LogMarker). l ++ marker_behind h name b ∷ []) k.marked ∙ sym (marked_more h name b);
    within = k.within;
    owned = k.owned;
  }

  -- an entry stands in it
  pub kept_sched : (e : Entry) {targets' : ℕ} {ss' : List BookSession} {ts' : List OpenTransaction} → is_free h ≡ true → 3 ≤ events_left h → Follows layout (h ++ Sched e ∷ []) greatest targets' ss' ts' → map session_number ss' ≡ map session_number ss
      → IsKeptBook layout (h ++ Sched e ∷ []) (kept ++ e ∷ []) ended on greatest targets' ss' ts' marks given
  kept_sched e idle space follows numbers = record {
    history = keeps_sched k.history e idle space;
    follows = follows;
    marked = k.marked ∙ sym (marked_sched h e);
    within = k.within;
    owned = subst (λ (ns : List ℕ). All (IsOpenSession ns) given) (sym numbers) k.owned;
  }
