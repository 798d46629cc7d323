-- Lengths of logs, and the last event of a legal history.
use Rattle.std.proofs.Common.{◌≡◌, ◌≤◌, leb, cond, Bool, true, false, List, [], ◌∷◌, ◌++◌, length, ◌⊎◌, inl, inr, ⊎_elim, refl, sym, ap, subst, arith, length-append, leb-true, leb-false}
use mathlib.Core.List.{IsPrefix}
use Rattle.std.proofs.lemmas.List.{get_or_push}
use Rattle.std.proofs.Math.Seq.{take-append_seam}
use Rattle.cj_board.proofs.Common.{Disabled, Enabled, Ended, Event, LogFailed, Marker, ReadFailed, Sched, log}
use Rattle.cj_cluster.specs.History.Legality.{IsAllowedEvent, IsLegal}
use Rattle.cj_cluster.proofs.Pushed.{log-prefix, prefix_length, prefix_self}
use Rattle.cj_board.specs.Steps.{longer_of}

-- of two beginnings of one list the shorter begins the longer
prefix_shorter : {A : Type 0} (xs ys zs : List A) → IsPrefix xs zs → IsPrefix ys zs → length xs ≤ length ys → IsPrefix xs ys
prefix_shorter [] ys zs p q le = (ys, refl)
prefix_shorter (x ∷ xs) [] zs p q le = absurd (omega arith)
prefix_shorter (x ∷ xs) (y ∷ ys) [] p q le = absurd (cc (p.1))
prefix_shorter (x ∷ xs) (y ∷ ys) (z ∷ zs) p q le =
    let heads : x ≡ y = cc (p.1, q.1) in
    let rest = prefix_shorter xs ys zs (p.0, cc (p.1)) (q.0, cc (q.1)) (omega arith) in
    (rest.0, cc (heads, rest.1))

longer_is : (g h : List Event) → (longer_of g h ≡ g) × (length h ≤ length g) ⊎ (longer_of g h ≡ h) × (length g ≤ length h)
longer_is g h = by_test (leb (length g) (length h)) refl
  where
    by_test : (b : Bool) → leb (length g) (length h) ≡ b → (longer_of g h ≡ g) × (length h ≤ length g) ⊎ (longer_of g h ≡ h) × (length g ≤ length h)
    by_test true e = inr (ap (λ b. cond b h g) e, leb-true (length g) (length h) e)
    by_test false e = let lt = leb-false (length g) (length h) e in inl (ap (λ b. cond b h g) e, omega arith)

-- of two beginnings of one list the longer begins it, and each of them begins the longer
pub longer_begins : (g h all : List Event) → IsPrefix g all → IsPrefix h all → IsPrefix (longer_of g h) all × IsPrefix g (longer_of g h) × IsPrefix h (longer_of g h)
longer_begins g h all p q = ⊎_elim
    (λ (t : (longer_of g h ≡ g) × (length h ≤ length g)). subst (λ (l : List Event). IsPrefix l all × IsPrefix g l × IsPrefix h l) (sym t.0) (p, prefix_self g, prefix_shorter h g all q p t.1))
    (λ (t : (longer_of g h ≡ h) × (length g ≤ length h)). subst (λ (l : List Event). IsPrefix l all × IsPrefix g l × IsPrefix h l) (sym t.0) (q, prefix_shorter g h all p q t.1, prefix_self h))
    (longer_is g h)

-- a log is no shorter than that of a beginning
pub log_of_prefix : (g h : List Event) → IsPrefix g h → length (log g) ≤ length (log h)
log_of_prefix g h p = prefix_length (log g) (log h) (log-prefix g h p)

pub log_grows : (h : List Event) (e : Event) → length (log h) ≤ length (log (h ++ e ∷ []))
log_grows h e = log_of_prefix h (h ++ e ∷ []) (e ∷ [], refl)

log_le_length : (h : List Event) → length (log h) ≤ length h
log_le_length [] = omega arith
log_le_length (Sched e ∷ es) = let i = log_le_length es in omega arith
log_le_length (Ended failed starved ∷ es) = let i = log_le_length es in omega arith
log_le_length (ReadFailed s q b ∷ es) = let i = log_le_length es in omega arith
log_le_length (LogFailed s q ∷ es) = let i = log_le_length es in omega arith
log_le_length (Disabled b ∷ es) = let i = log_le_length es in omega arith
log_le_length (Enabled b ∷ es) = let i = log_le_length es in omega arith
log_le_length (Marker name b ∷ es) = let i = log_le_length es in omega arith

pub log_bound : (h : List Event) → IsLegal h → length (log h) ≤ 4611686018427387904
log_bound h l = let a = log_le_length h in let b : length h ≤ 4611686018427387904 = l.short in omega arith

-- a legal history's last event was allowed
pub last_allowed : (h : List Event) (e : Event) → IsLegal (h ++ e ∷ []) → IsAllowedEvent h e
last_allowed h e l =
    let n = length-append h (e ∷ []) in
    subst (λ (t : List Event × Event). IsAllowedEvent t.0 t.1) (λ k. (take-append_seam h (e ∷ []) k, get_or_push h e e (length h) refl k)) (l.each (length h) e (omega arith))
