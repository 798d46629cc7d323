-- Backends are enabled in a start, one after another.
use Rattle.std.proofs.Common.{◌≡◌, ◌≢◌, ℕ, ◌+◌, ◌<◌, ◌≤◌, ◌==◌, ◌||◌, Bool, true, false, List, [], ◌∷◌, ◌++◌, All, length, map, get_or, Option, None, Some, is_some, refl, ap, sym, ◌∙◌, subst, arith, append_assoc, append-nil, below_more}
use Rattle.cj_start.proofs.Common.{All-nil, All-push, Enabled, enabled-push, enabled_where, EnabledTo, Entry, eq-eqb, Event, free-same, happened, is_enabled, is_free, last_number, log, log-same, map_push, ne_eqb, position_at, with_core, WorldState}
use Rattle.std.proofs.Math.Bool.{or-false}
use Rattle.std.proofs.lemmas.List.Quantifiers.{all_pairs_push}

-- at first none is
pub enabled_none : (w : WorldState) → is_free w.core.history ≡ true → ((b : ℕ) → is_enabled w.core.history b ≡ false) → EnabledTo w w 0
enabled_none w idle off =
    record {
      enabled = [];
      rises = λ i j d lt within. absurd (omega arith);
      below = All-nil (λ (b : ℕ). b < 0);
      after = ap (λ (h : List Event). with_core w (record w.core { history = h })) (sym (append-nil w.core.history));
      idle = idle;
      entries = refl;
      on = λ b lt. absurd (omega arith);
      off = λ b le. off b;
    }

module _ (old now : WorldState) (i : ℕ) (to : EnabledTo old now i) where
  -- no position is changed by it
  pub enabled_position : (b : ℕ) → position_at now.core b ≡ position_at old.core b
  enabled_position b = ap (λ (w : WorldState). position_at w.core b) to.after

  pub enabled_last : last_number now.core ≡ last_number old.core
  enabled_last = ap (λ (entries : List Entry). length entries) to.entries

  lower : All (λ (b : ℕ). b < i + 1) to.enabled
  lower = λ k d lt. let less : get_or to.enabled k d < i = to.below k d lt in omega arith

  -- backend i is out
  skipped : position_at old.core i ≡ None → EnabledTo old now (i + 1)
  skipped none =
      record {
        enabled = to.enabled;
        rises = to.rises;
        below = lower;
        after = to.after;
        idle = to.idle;
        entries = to.entries;
        on =
            below_more (λ (b : ℕ). is_enabled now.core.history b ≡ is_some (position_at old.core b)) i to.on
            (let le : i ≤ i = omega arith in to.off i le ∙ sym (ap (λ (o : Option ℕ). is_some o) none));
        off = λ b le. let later : i ≤ b = omega arith in to.off b later;
      }

  module _ (new : WorldState) (after : new ≡ with_core now (happened now.core (Enabled i))) where
    history : new.core.history ≡ now.core.history ++ Enabled i ∷ []
    history = ap (λ (w : WorldState). w.core.history) after

    pushed : (b : ℕ) → is_enabled new.core.history b ≡ (is_enabled now.core.history b || b == i)
    pushed b = ap (λ (h : List Event). is_enabled h b) history ∙ enabled-push now.core.history (Enabled i) b

    other : (b : ℕ) → b ≢ i → is_enabled new.core.history b ≡ is_enabled now.core.history b
    other b ne = pushed b ∙ (ap (λ (same : Bool). is_enabled now.core.history b || same) (ne_eqb b i ne) ∙ or-false (is_enabled now.core.history b))

    itself : is_enabled new.core.history i ≡ true
    itself =
        let le : i ≤ i = omega arith in
        pushed i ∙ (ap (λ (same : Bool). is_enabled now.core.history i || same) (eq-eqb i i refl) ∙ ap (λ (on : Bool). on || true) (to.off i le))

    -- backend i is enabled behind the others
    switched : (p : ℕ) → position_at old.core i ≡ Some p → EnabledTo old new (i + 1)
    switched p there =
        record {
          enabled = to.enabled ++ i ∷ [];
          rises = all_pairs_push (λ (a b : ℕ). a < b) to.enabled i to.rises to.below;
          below = (let last : i < i + 1 = omega arith in All-push (λ (b : ℕ). b < i + 1) to.enabled i lower last);
          after =
              after
              ∙ (ap (λ (w : WorldState). with_core w (happened w.core (Enabled i))) to.after
              ∙ ap (λ (h : List Event). with_core old (record old.core { history = h }))
              (append_assoc old.core.history (map Enabled to.enabled) (Enabled i ∷ []) ∙ ap (λ (events : List Event). old.core.history ++ events) (sym (map_push Enabled to.enabled i))));
          idle = ap (λ (h : List Event). is_free h) history ∙ (free-same now.core.history (Enabled i) refl refl ∙ to.idle);
          entries = ap (λ (h : List Event). log h) history ∙ (log-same now.core.history (Enabled i) refl ∙ to.entries);
          on =
              below_more (λ (b : ℕ). is_enabled new.core.history b ≡ is_some (position_at old.core b)) i
              (λ b before. let ne : b ≢ i = λ e. absurd (omega (arith, e)) in other b ne ∙ to.on b before) (itself ∙ sym (ap (λ (o : Option ℕ). is_some o) there));
          off =
              λ b le.
              let later : i ≤ b = omega arith in
              let ne : b ≢ i = λ e. absurd (omega (arith, e)) in
              other b ne ∙ to.off b later;
        }

  enabled_then : (new : WorldState) (o : Option ℕ) → position_at old.core i ≡ o → new ≡ with_core now (enabled_where o i now.core) → EnabledTo old new (i + 1)
  enabled_then new None is after = subst (λ (w : WorldState). EnabledTo old w (i + 1)) (sym after) (skipped is)
  enabled_then new (Some p) is after = switched new after p is

  -- backend i is enabled, unless it is out
  pub enabled_next : (new : WorldState) → new ≡ with_core now (enabled_where (position_at now.core i) i now.core) → EnabledTo old new (i + 1)
  enabled_next new after = enabled_then new (position_at old.core i) refl (after ∙ ap (λ (o : Option ℕ). with_core now (enabled_where o i now.core)) (enabled_position i))
