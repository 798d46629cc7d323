-- At most one entry is open in a legal history, and while it is, the same backends are enabled.
use Rattle.std.proofs.Common.{◌≡◌, ◌≢◌, ℕ, ◌+◌, ◌≤◌, false, cond, List, [], ◌∷◌, ◌++◌, length, refl, ap, sym, ◌∙◌, subst, arith, append_assoc, length-append, eq-eqb, eqb-true}
use mathlib.Core.List.{IsPrefix}
use Rattle.std.proofs.lemmas.Bool.{both_ways}
use Rattle.std.proofs.lemmas.List.{append-nil}
use Rattle.std.proofs.lemmas.List.Sums.{sum_by-append}
use Rattle.cj_board.proofs.Common.{Disabled, Enabled, Ended, Event, IsLegal, LogFailed, Marker, ReadFailed, Sched, log}
use Rattle.cj_cluster.specs.History.Histories.{ended_count, is_enabled, is_end_event, is_free}
use Rattle.cj_cluster.proofs.Pushed.{done-push, done-same, enabled-push, free-same, legal_prefix, log-same, log-sched}
use Rattle.cj_cluster.proofs.TransactionLaws.{by_items}
use Rattle.cj_board.proofs.Histories.{last_allowed}

-- at most one entry is open
abbrev OneOpen : List Event → Type 0
OneOpen h = (ended_count h ≤ length (log h)) × (length (log h) ≤ ended_count h + 1)

one_open_push : (h : List Event) (x : Event) → IsLegal (h ++ x ∷ []) → OneOpen h → OneOpen (h ++ x ∷ [])
one_open_push h (Sched e) legal one =
    let allowed = (last_allowed h (Sched e) legal).0 in
    let idle : ended_count h ≡ length (log h) = eqb-true (ended_count h) (length (log h)) allowed in
    let l : length (log (h ++ Sched e ∷ [])) ≡ length (log h) + 1 = ap length (log-sched h e) ∙ length-append (log h) (e ∷ []) in
    let d : ended_count (h ++ Sched e ∷ []) ≡ ended_count h = done-same h (Sched e) refl in
    (omega arith, omega arith)
one_open_push h (Ended f s) legal one =
    let busy = (last_allowed h (Ended f s) legal).0 in
    let l : length (log (h ++ Ended f s ∷ [])) ≡ length (log h) = ap length (log-same h (Ended f s) refl) in
    let d : ended_count (h ++ Ended f s ∷ []) ≡ ended_count h + 1 = done-push h (Ended f s) in
    let ne : ended_count h ≢ length (log h) = λ same. both_ways (is_free h) busy (eq-eqb (ended_count h) (length (log h)) same) in
    let lo = one.0 in
    let hi = one.1 in
    (omega arith, omega arith)
one_open_push h (ReadFailed s q b) legal one = rw (log-same h (ReadFailed s q b) refl, done-same h (ReadFailed s q b) refl) one
one_open_push h (LogFailed s q) legal one = rw (log-same h (LogFailed s q) refl, done-same h (LogFailed s q) refl) one
one_open_push h (Disabled b) legal one = rw (log-same h (Disabled b) refl, done-same h (Disabled b) refl) one
one_open_push h (Enabled b) legal one = rw (log-same h (Enabled b) refl, done-same h (Enabled b) refl) one
one_open_push h (Marker name b) legal one = rw (log-same h (Marker name b) refl, done-same h (Marker name b) refl) one

pub one_open : (h : List Event) → IsLegal h → OneOpen h
one_open = by_items (λ h. IsLegal h → OneOpen h) (λ legal. (omega arith, omega arith)) (λ h x one legal. one_open_push h x legal (one (legal_prefix h (h ++ x ∷ []) (x ∷ [], refl) legal)))

-- one event more while an entry is open, which is not its end
enabled_push : (h : List Event) (x : Event) → IsLegal (h ++ x ∷ []) → is_free h ≡ false → ended_count (h ++ x ∷ []) ≡ ended_count h
    → ((b : ℕ) → is_enabled (h ++ x ∷ []) b ≡ is_enabled h b) × (is_free (h ++ x ∷ []) ≡ false)
enabled_push h (Sched e) legal busy same = absurd (both_ways (is_free h) busy (last_allowed h (Sched e) legal).0)
enabled_push h (Ended f s) legal busy same = let d : ended_count (h ++ Ended f s ∷ []) ≡ ended_count h + 1 = done-push h (Ended f s) in absurd (omega arith)
enabled_push h (ReadFailed s q b) legal busy same = (λ k. enabled-push h (ReadFailed s q b) k, free-same h (ReadFailed s q b) refl refl ∙ busy)
enabled_push h (LogFailed s q) legal busy same = (λ k. enabled-push h (LogFailed s q) k, free-same h (LogFailed s q) refl refl ∙ busy)
enabled_push h (Disabled b) legal busy same = absurd (both_ways (is_free h) busy (last_allowed h (Disabled b) legal).0)
enabled_push h (Enabled b) legal busy same = absurd (both_ways (is_free h) busy (last_allowed h (Enabled b) legal).0)
enabled_push h (Marker name b) legal busy same = (λ k. enabled-push h (Marker name b) k, free-same h (Marker name b) refl refl ∙ busy)

ended_of_prefix : (g h : List Event) → IsPrefix g h → ended_count g ≤ ended_count h
ended_of_prefix g h p = let all : ended_count h ≡ ended_count g + ended_count p.0 = ap ended_count (sym p.1) ∙ sum_by-append (λ x. cond (is_end_event x) 1 0) g p.0 in omega arith

enabled_from : (g rest : List Event) → IsLegal (g ++ rest) → is_free g ≡ false → ended_count (g ++ rest) ≡ ended_count g → (b : ℕ) → is_enabled (g ++ rest) b ≡ is_enabled g b
enabled_from g [] legal busy same b = ap (λ h. is_enabled h b) (append-nil g)
enabled_from g (x ∷ rest) legal busy same b =
    let split : (g ++ x ∷ []) ++ rest ≡ g ++ x ∷ rest = append_assoc g (x ∷ []) rest in
    let whole : IsLegal ((g ++ x ∷ []) ++ rest) = subst IsLegal (sym split) legal in
    let lo : ended_count g ≤ ended_count (g ++ x ∷ []) = ended_of_prefix g (g ++ x ∷ []) (x ∷ [], refl) in
    let hi : ended_count (g ++ x ∷ []) ≤ ended_count ((g ++ x ∷ []) ++ rest) = ended_of_prefix (g ++ x ∷ []) ((g ++ x ∷ []) ++ rest) (rest, refl) in
    let all : ended_count ((g ++ x ∷ []) ++ rest) ≡ ended_count (g ++ x ∷ rest) = ap ended_count split in
    let here : ended_count (g ++ x ∷ []) ≡ ended_count g = omega arith in
    let one = enabled_push g x (legal_prefix (g ++ x ∷ []) ((g ++ x ∷ []) ++ rest) (rest, refl) whole) busy here in
    ap (λ h. is_enabled h b) (sym split) ∙ (enabled_from (g ++ x ∷ []) rest whole one.1 (omega arith) b ∙ one.0 b)

-- while an entry is open the same backends are enabled
pub still_enabled : (g h : List Event) → IsPrefix g h → IsLegal h → is_free g ≡ false → ended_count h ≡ ended_count g → (b : ℕ) → is_enabled h b ≡ is_enabled g b
still_enabled g h p legal busy same b =
    ap (λ x. is_enabled x b) (sym p.1) ∙ enabled_from g p.0 (subst IsLegal (sym p.1) legal) busy (ap ended_count p.1 ∙ same) b
