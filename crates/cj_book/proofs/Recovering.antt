-- What a book keeps of the history that its log opens with.
use Rattle.std.proofs.Common.{◌≡◌, ℕ, ◌+◌, ◌^◌, ◌<◌, ◌≤◌, true, false, List, [], ◌∷◌, ◌++◌, length, get_or, max, All, Option, None, refl, ap, sym, ◌∙◌, subst, arith, length-append, ⊎_elim}
use Rattle.std.specs.Prelude.{fold}
use Rattle.std.specs.List.{AllByRecursion}
use Rattle.std.proofs.lemmas.Bool.{eqb-true, both_ways}
use Rattle.std.proofs.lemmas.List.Elements.{All-nil, All-from_recursion}
use Rattle.std.proofs.Math.Nat.{le-max_left, le-max_right}
use Rattle.std.proofs.Math.Seq.{take-length}
use Rattle.cj_book.proofs.Common.{concerns, Disabled, Enabled, Ended, ended_count, Entry, Event, fold-append, Follows, get_or_from_slice_get, get_seam, greatest_session, has-zero, in_mask, is_enabled, is_free, is_target_at, IsAdministratorEntry, IsAllowedEvent, IsFitEntry, IsKeptSession, IsSessionEntry, items_behind, IsLegal, IsOpening, IsRecovered, KeepsEntries, KeepsTransactions, Layout, legal_fit, legal_prefix, log, log-same, log-sched, LogFailed, LogItem, Marker, markers_of, opened-free, OpensTo, Placement, placement_of, ReadFailed, Recovered, Sched, scheduled_entry, take_whole, transactions_after}
use Rattle.cj_recovery.proofs.Longer.{idle_opening}
use Rattle.cj_book.proofs.Marked.{marked_sched}
use Rattle.cj_cluster.specs.History.Transactions.{AreFitBehind}
use Rattle.cj_model.specs.declared.limits.TheConstants.{SESSION_NUMBER_LIMIT}
use Rattle.cj_book.proofs.Announcing.{opening_off}
use Rattle.cj_transactions.proofs.TransactionSteps.{transactions_push}

-- ---- the greatest session number

abbrev larger : ℕ → Entry → ℕ
larger n e = max n e.session

grown : (n : ℕ) (es : List Entry) → n ≤ fold larger n es
grown n [] = omega arith
grown n (e ∷ es) =
    let first : n ≤ max n e.session = le-max_left n e.session in
    let rest : max n e.session ≤ fold larger (max n e.session) es = grown (max n e.session) es in
    omega arith

none_above : (n : ℕ) (es : List Entry) → AllByRecursion (λ (e : Entry). e.session ≤ fold larger n es) es
none_above n [] = tt
none_above n (e ∷ es) =
    let first : e.session ≤ max n e.session = le-max_right n e.session in
    let rest : max n e.session ≤ fold larger (max n e.session) es = grown (max n e.session) es in
    (omega arith, none_above (max n e.session) es)

-- no session has a greater number
pub known_all : (es : List Entry) → All (λ (e : Entry). e.session ≤ greatest_session es) es
known_all es = All-from_recursion (λ (e : Entry). e.session ≤ greatest_session es) es (none_above 0 es)

-- each number is within the limit
numbers_within : (before rest : List Entry) → AreFitBehind before rest → (n : ℕ) → n ≤ SESSION_NUMBER_LIMIT → fold larger n rest ≤ SESSION_NUMBER_LIMIT
numbers_within before [] fits n le = le
numbers_within before (e ∷ rest) fits n le =
    let low : e.session ≤ SESSION_NUMBER_LIMIT = ⊎_elim (λ (s : IsSessionEntry before e). s.session.1) (λ (a : IsAdministratorEntry before e). let none : e.session ≡ 0 = a.session in omega arith) fits.0.by in
    numbers_within (before ++ e ∷ []) rest fits.1 (max n e.session) (omega arith)

pub greatest_within : (h : List Event) → IsLegal h → greatest_session (log h) ≤ SESSION_NUMBER_LIMIT
greatest_within h legal = numbers_within [] (log h) (legal_fit h legal) 0 (omega arith)

-- one more entry
pub greatest_push : (es : List Entry) (e : Entry) → greatest_session (es ++ e ∷ []) ≡ max (greatest_session es) e.session
greatest_push es e = fold-append larger 0 es (e ∷ [])

-- ---- event by event

-- the last event of a history that can be was allowed
allowed_last : (h : List Event) (e : Event) → IsLegal (h ++ e ∷ []) → IsAllowedEvent h e
allowed_last h e legal =
    let l = length-append h (e ∷ []) in
    subst (λ (x : Event). IsAllowedEvent h x) (get_or_from_slice_get (h ++ e ∷ []) (length h) e e (get_seam h [] e))
    (subst (λ (w : List Event). IsAllowedEvent w (get_or (h ++ e ∷ []) (length h) e)) (take_whole h (h ++ e ∷ []) (e ∷ [], refl)) (legal.each (length h) e (omega arith)))

module _ (p : Placement) (h : List Event) (found new : Recovered) (k : IsRecovered p h found) where
  -- an entry
  pub recovers_sched : (e : Entry) (hosts : ℕ) → IsLegal (h ++ Sched e ∷ []) → (IsFitEntry (log h) e → (b : ℕ) → in_mask hosts b ≡ concerns p b (log h) e.tx e.act) → new.entries.items ≡ found.entries.items ++ e ∷ []
      → new.transactions.list ≡ transactions_after found.transactions.list (length (log h) + 1) hosts e e.act → new.markers.items ≡ found.markers.items → new.greatest ≡ max found.greatest e.session → IsRecovered p (h ++ Sched e ∷ []) new
  recovers_sched e hosts legal concerned pushed followed named most =
      let entries : log (h ++ Sched e ∷ []) ≡ log h ++ e ∷ [] = log-sched h e in
      let before : IsLegal h = legal_prefix h (h ++ Sched e ∷ []) (Sched e ∷ [], refl) legal in
      let fit : IsFitEntry (log h) e = (allowed_last h (Sched e) legal).1 in
      record {
        entries = pushed ∙ (ap (λ (l : List Entry). l ++ e ∷ []) k.entries ∙ sym entries);
        transactions =
            rw followed (subst (λ (l : List Entry). KeepsTransactions p l (transactions_after found.transactions.list (length (log h) + 1) hosts e e.act)) (sym entries)
            (transactions_push (log h) e p found.transactions.list k.transactions (legal_fit h before) fit hosts (concerned fit)));
        marked = named ∙ (k.marked ∙ sym (marked_sched h e));
        greatest = most ∙ (ap (λ n. max n e.session) k.greatest ∙ (sym (greatest_push (log h) e) ∙ ap greatest_session (sym entries)));
      }

  -- an event that schedules nothing
  pub recovers_same : (e : Event) → scheduled_entry e ≡ None → new.markers.items ≡ markers_of (h ++ e ∷ []) → new.entries.items ≡ found.entries.items → new.transactions.list ≡ found.transactions.list → new.greatest ≡ found.greatest → IsRecovered p (h ++ e ∷ []) new
  recovers_same e no_entry marked entries transactions most =
      let same : log (h ++ e ∷ []) ≡ log h = log-same h e no_entry in
      record {
        entries = entries ∙ (k.entries ∙ sym same);
        transactions = rw transactions (subst (λ (l : List Entry). KeepsTransactions p l found.transactions.list) (sym same) k.transactions);
        marked = marked;
        greatest = most ∙ (k.greatest ∙ ap greatest_session (sym same));
      }

-- ---- the whole history

-- no backend is enabled
off : (h : List Event) (b : ℕ) → IsOpening h → is_enabled h b ≡ false
off h b o = subst (λ (w : List Event). is_enabled w b ≡ false) (take-length h) (opening_off h (length h) b o)

module _ (layout : Layout) (items : List LogItem) (h : List Event) (o : OpensTo items h) where
  idle : is_free h ≡ true
  idle = idle_opening h o.opening

  ended : ended_count h ≡ length (log h)
  ended = eqb-true _ _ idle

  pub keeps_opened : (n : ℕ) (kept : List Entry) → (0 < n) × (n ≤ 16) → kept ≡ log h → KeepsEntries n h kept (length kept) 0
  keeps_opened n kept backends entries =
      let legal : length h ≤ 2 ^ 62 = o.legal.short in
      let even : ended_count h ≡ length (log h) = ended in
      record {
        backend_count = backends;
        entries = entries;
        entry_count = ap length entries;
        ends = ap length entries ∙ sym ended;
        one_open = (omega arith, omega arith);
        mask = λ b. has-zero b ∙ sym (off h b o.opening);
        below = λ b is. absurd (both_ways (is_enabled h b) (off h b o.opening) is);
        short = omega arith;
      }

  pub follows_opening : (found : Recovered) → IsRecovered (placement_of layout) h found → Follows layout h found.greatest 0 [] found.transactions.list
  follows_opening found k = record {
    legal = o.legal;
    sessions = record { each = All-nil (IsKeptSession (log h) found.greatest); known = subst (λ n. All (λ (e : Entry). e.session ≤ n) (log h)) (sym k.greatest) (known_all (log h)) };
    transactions = k.transactions;
    targets = λ b. has-zero b ∙ sym (ap (λ q. is_target_at (placement_of layout) h q b) (opened-free h idle));
  }

-- ---- an event of a history that can be

-- an event that is neither an entry nor a marker
pub none_scheduled : (d : Event) → ((e : Entry) → d ≡ Sched e → ⊥) → scheduled_entry d ≡ None
none_scheduled (Sched e) never = absurd (never e refl)
none_scheduled (Ended f s) never = refl
none_scheduled (ReadFailed s q b) never = refl
none_scheduled (LogFailed s q) never = refl
none_scheduled (Disabled b) never = refl
none_scheduled (Enabled b) never = refl
none_scheduled (Marker name b) never = refl

pub none_logged : (d : Event) → ((e : Entry) → d ≡ Sched e → ⊥) → ((name : List ℕ) (b : Option ℕ) → d ≡ Marker name b → ⊥) → (n : ℕ) → items_behind n (d ∷ []) ≡ []
none_logged (Sched e) never no_marker n = absurd (never e refl)
none_logged (Ended f s) never no_marker n = refl
none_logged (ReadFailed s q b) never no_marker n = refl
none_logged (LogFailed s q) never no_marker n = refl
none_logged (Disabled b) never no_marker n = refl
none_logged (Enabled b) never no_marker n = refl
none_logged (Marker name b) never no_marker n = absurd (no_marker name b refl)
