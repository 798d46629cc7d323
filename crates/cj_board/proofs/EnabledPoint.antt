-- Where no entry is open, each enabled backend stands at the end of the log, at each step.
use Rattle.std.proofs.Common.{◌≡◌, ◌≢◌, ℕ, ◌+◌, ◌*◌, Bool, true, false, not, ◌&&◌, ◌||◌, ◌==◌, List, [], ◌∷◌, ◌++◌, length, set, None, refl, sym, ap, ◌∙◌, subst, All, Contains, ne_eqb}
use Rattle.cj_board.proofs.Common.{Disabled, Enabled, Ended, Event, HasPositionNotes, IsLegal, LogFailed, Marker, ReadFailed, Sched}
use mathlib.Core.Logic.{dite}
use native.Mathlib.Decide.{ℕ_discrete}
use Rattle.cj_cluster.specs.History.Histories.{scheduled_entry, log, is_end_event, is_enabled, enabled_after_event}
use Rattle.cj_cluster.proofs.Pushed.{enabled-push, log-same, free-sched, free-same}
use Rattle.cj_board.specs.Points.{position_word, IsPositionNote, EnabledAreAtEnd}
use Rattle.cj_board.proofs.Histories.{last_allowed}
use Rattle.cj_board.proofs.Words.{position_first, position_else, position_aside}

-- a backend that was noted at the end of the log is there
noted_there : (h : List Event) (ws : List ℕ) (notes : List (ℕ × ℕ)) (b : ℕ) → All (IsPositionNote h ws) notes → Contains notes (b, length (log h)) → position_word ws b ≡ length (log h)
noted_there h ws notes b a c = let n : ℕ = length (log h) in (subst (λ (z : ℕ × ℕ). IsPositionNote h ws z) c.2 (a c.0 (b, n) c.1)).1 refl

and_left : (x y : Bool) → (x && y) ≡ true → x ≡ true
and_left true y e = refl
and_left false y e = absurd cc

or_off : (x y : Bool) → y ≡ false → (x || y) ≡ true → x ≡ true
or_off true y off e = refl
or_off false y off e = let z : true ≡ false = sym e ∙ off in absurd cc

-- an event that ends and enables nothing
quiet : (h : List Event) (ws : List ℕ) (x : ℕ) (e : Event) → scheduled_entry e ≡ None → is_end_event e ≡ false → ((b : ℕ) → enabled_after_event b (is_enabled h b) e ≡ true → (is_enabled h b ≡ true)) → EnabledAreAtEnd h ws → EnabledAreAtEnd (h ++ e ∷ []) (set ws 0 x)
quiet h ws x e none goes_on was all idle b on =
    position_first ws x b ∙ (all (sym (free-same h e none goes_on) ∙ idle) b (was b (sym (enabled-push h e b) ∙ on)) ∙ sym (ap length (log-same h e none)))

pub enabled_append : (h : List Event) (ws : List ℕ) (x : ℕ) (e : Event) (notes : List (ℕ × ℕ)) → EnabledAreAtEnd h ws → All (IsPositionNote h ws) notes → IsLegal (h ++ e ∷ []) → HasPositionNotes h notes e → EnabledAreAtEnd (h ++ e ∷ []) (set ws 0 x)
enabled_append h ws x (Sched e) notes all hold legal has idle b on = let z : true ≡ false = sym idle ∙ free-sched h e (last_allowed h (Sched e) legal).0 in absurd cc
enabled_append h ws x (Ended failed starved) notes all hold legal has idle b on =
    position_first ws x b ∙ (noted_there h ws notes b hold (has b on) ∙ sym (ap length (log-same h (Ended failed starved) refl)))
enabled_append h ws x (ReadFailed s q c) notes all hold legal has idle b on = quiet h ws x (ReadFailed s q c) refl refl (λ z is. is) all idle b on
enabled_append h ws x (LogFailed s q) notes all hold legal has idle b on = quiet h ws x (LogFailed s q) refl refl (λ z is. is) all idle b on
enabled_append h ws x (Disabled c) notes all hold legal has idle b on = quiet h ws x (Disabled c) refl refl (λ z is. and_left (is_enabled h z) (not (z == c)) is) all idle b on
enabled_append h ws x (Enabled c) notes all hold legal has idle b on =
    let there : position_word ws b ≡ length (log h) = dite (ℕ_discrete b c)
    (λ e. ap (position_word ws) e ∙ noted_there h ws notes c hold has)
    (λ ne. all (sym (free-same h (Enabled c) refl refl) ∙ idle) b (or_off (is_enabled h b) (b == c) (ne_eqb b c ne) (sym (enabled-push h (Enabled c) b) ∙ on))) in
    position_first ws x b ∙ (there ∙ sym (ap length (log-same h (Enabled c) refl)))
enabled_append h ws x (Marker name c) notes all hold legal has idle b on = quiet h ws x (Marker name c) refl refl (λ z is. is) all idle b on

-- a backend that was not at the end of the log moves
pub enabled_move : (h : List Event) (ws : List ℕ) (b q : ℕ) → EnabledAreAtEnd h ws → position_word ws b ≢ length (log h) → EnabledAreAtEnd h (set ws (2 * b + 1) q)
enabled_move h ws b q all off idle c on = dite (ℕ_discrete c b) (λ e. absurd (off (sym (ap (λ z. position_word ws z) e) ∙ all idle c on))) (λ ne. position_else ws q b c ne ∙ all idle c on)

-- a number of faults is set
pub enabled_fault : (h : List Event) (ws : List ℕ) (b f : ℕ) → EnabledAreAtEnd h ws → EnabledAreAtEnd h (set ws (2 * b + 2) f)
enabled_fault h ws b f all idle c on = position_aside ws f b c ∙ all idle c on
