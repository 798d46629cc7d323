-- Items open to one history at most, and have a bad entry or open.
use Rattle.std.proofs.Common.{◌≡◌, ◌⊎◌, inl, inr, ℕ, ◌+◌, List, [], ◌∷◌, ◌++◌, length, Option, Some, refl, ap, sym, ◌∙◌, subst, append_assoc, ⊎_elim}
use Rattle.std.specs.List.{AllByRecursion}
use Rattle.cj_recovery.proofs.Common.{Act, Ended, Entry, Event, IsAdministratorEntry, IsFitEntry, IsSessionEntry, IsWritten, LogEntry, LogItem, Marker, Request, Sched, act_of, canonical, canonical_reads_back, log, request_of, text_one}
use Rattle.cj_model.specs.declared.request.Act.TheVariants as act
use Rattle.cj_model.specs.Sql.Grammar.{TextReadsAs}
use Rattle.cj_cluster.specs.History.Transactions.{AreFitBehind}
use Rattle.cj_cluster.proofs.TransactionLaws.{legal_fit}
use Rattle.cj_log.specs.declared.item.LogItem.TheVariants as items
use Rattle.cj_recovery.specs.Openings.{entry_item, marker_item, items_behind, IsOpening, OpensTo, HasBadEntry, ItemsFixTheOpening, OpeningsAreGood, OneBadEntry}
use Rattle.cj_recovery.specs.Proving.Steps.{IsTextOf, IsNextEntry}
use Rattle.cj_recovery.proofs.Fronts.{entry_part, marker_part, no_items, opens_front}

-- ---- one entry

pub act_back : (a : Act) → act_of (request_of a) ≡ Some a
act_back act.Begin = refl
act_back (act.Write w) = refl
act_back (act.Create c) = refl
act_back (act.Drop table) = refl
act_back act.Commit = refl
act_back act.Abort = refl

-- acts that come from one request are one
pub one_act : (a b : Act) → request_of a ≡ request_of b → a ≡ b
one_act a b same = let both : Some a ≡ Some b = sym (act_back a) ∙ (ap act_of same ∙ act_back b) in cc both

-- a request that can be written is that of its canonical text alone
pub one_request : (r q : Request) → IsWritten r → IsWritten q → canonical r ≡ canonical q → r ≡ q
one_request r q w v same =
    text_one (canonical q) r q (subst (λ (text : List ℕ). TextReadsAs text r) same (canonical_reads_back w.text r w.reads)) (canonical_reads_back v.text q v.reads)

-- an item is that of one entry
pub one_entry : (n : ℕ) (d e : Entry) → IsWritten (request_of d.act) → IsWritten (request_of e.act) → entry_item n d ≡ entry_item n e → d ≡ e
one_entry n d e w v same =
    let session : d.session ≡ e.session = ap (λ (i : LogItem). (entry_part i).session) same in
    let seq : d.seq ≡ e.seq = ap (λ (i : LogItem). (entry_part i).seq) same in
    let tx : d.tx ≡ e.tx = ap (λ (i : LogItem). (entry_part i).tx) same in
    let user : d.user ≡ e.user = ap (λ (i : LogItem). (entry_part i).user) same in
    let text : canonical (request_of d.act) ≡ canonical (request_of e.act) = ap (λ (i : LogItem). (entry_part i).text) same in
    let acts : d.act ≡ e.act = one_act d.act e.act (one_request (request_of d.act) (request_of e.act) w v text) in
    λ i. record { session = session i; seq = seq i; tx = tx i; user = user i; act = acts i }

-- where the entry with an item's fields and act fits nowhere, the item is no next entry
pub no_next_entry : (h : List Event) (x : LogEntry) (d : Entry) → d.session ≡ x.session → d.seq ≡ x.seq → d.tx ≡ x.tx → d.user ≡ x.user → IsTextOf x.text d.act
    → (IsSessionEntry (log h) d → ⊥) → (IsAdministratorEntry (log h) d → ⊥) → (e : Entry) → IsNextEntry h x e → ⊥
no_next_entry h x d session seq tx user text no_session no_administrator e next =
    let number : length (log h) + 1 ≡ x.number = ap (λ (i : LogItem). (entry_part i).number) (sym next.is) in
    let same : entry_item (length (log h) + 1) d ≡ items.Entry x =
    λ i. items.Entry (record { number = number i; session = session i; seq = seq i; tx = tx i; user = user i; text = sym text.canonical i })
    in
    let one : d ≡ e = one_entry (length (log h) + 1) d e text.written next.fit.written (same ∙ next.is) in
    ⊎_elim no_session no_administrator (subst (IsFitEntry (log h)) (sym one) next.fit).by

-- ---- one history

-- each entry can be written
abbrev AreWritten : List Entry → Type 0
AreWritten = AllByRecursion (λ (e : Entry). IsWritten (request_of e.act))

written : (before rest : List Entry) → AreFitBehind before rest → AreWritten rest
written before [] fits = tt
written before (e ∷ rest) fits = (fits.0.written, written (before ++ e ∷ []) rest fits.1)

-- what the rest of a history is to be, where its items behind n entries are those of this one
abbrev IsOnlyOne : ℕ → List Event → Type 0
IsOnlyOne n a = (b : List Event) → IsOpening b → AreWritten (log b) → items_behind n a ≡ items_behind n b → a ≡ b

entry_first : (n : ℕ) (d : Entry) (f s : ℕ) (a : List Event) → f ≡ 0 → s ≡ 0 → IsWritten (request_of d.act) → IsOnlyOne (n + 1) a → IsOnlyOne n (Sched d ∷ Ended f s ∷ a)
entry_first n d f s a failed starved w rest [] p v same = absurd cc
entry_first n d f s a failed starved w rest (Marker name m ∷ b) p v same = absurd cc
entry_first n d f s a failed starved w rest (Sched e ∷ Ended g t ∷ b) p v same =
    let first : entry_item (n + 1) d ≡ entry_item (n + 1) e = cc in
    let others : items_behind (n + 1) a ≡ items_behind (n + 1) b = cc in
    let entry : d ≡ e = one_entry (n + 1) d e w v.0 first in
    let masks : f ≡ g = failed ∙ sym p.0 in
    let others_starved : s ≡ t = starved ∙ sym p.1 in
    let tails : a ≡ b = rest b p.2 v.1 others in
    λ i. Sched (entry i) ∷ Ended (masks i) (others_starved i) ∷ tails i
entry_first n d f s a failed starved w rest _ p v same = absurd p

marker_first : (n : ℕ) (name : List ℕ) (m : Option ℕ) (a : List Event) → IsOnlyOne n a → IsOnlyOne n (Marker name m ∷ a)
marker_first n name m a rest [] p v same = absurd cc
marker_first n name m a rest (Sched e ∷ Ended g t ∷ b) p v same = absurd cc
marker_first n name m a rest (Marker word k ∷ b) p v same =
    let first : marker_item n name m ≡ marker_item n word k = cc in
    let others : items_behind n a ≡ items_behind n b = cc in
    let names : name ≡ word = ap (λ (i : LogItem). (marker_part i).name) first in
    let backend : m ≡ k = ap (λ (i : LogItem). (marker_part i).b) first in
    let tails : a ≡ b = rest b p v others in
    λ i. Marker (names i) (backend i) ∷ tails i
marker_first n name m a rest _ p v same = absurd p

one_history : (n : ℕ) (a : List Event) → IsOpening a → AreWritten (log a) → IsOnlyOne n a
one_history n [] o w = λ b p v same. sym (no_items n b p (sym same))
one_history n (Sched d ∷ Ended f s ∷ a) o w = entry_first n d f s a o.0 o.1 w.0 (one_history (n + 1) a o.2 w.1)
one_history n (Marker name m ∷ a) o w = marker_first n name m a (one_history n a o w)
one_history n _ o w = absurd o

pub items_fix : ItemsFixTheOpening
items_fix items a b o p =
    one_history 0 a o.opening (written [] (log a) (legal_fit a o.legal)) b p.opening (written [] (log b) (legal_fit b p.legal)) (o.same ∙ sym p.same)

-- ---- bad entries

pub good : OpeningsAreGood
good items h n o bad =
    let parts : items ≡ (bad.before ++ bad.item ∷ []) ++ bad.later = bad.parts ∙ sym (append_assoc bad.before (bad.item ∷ []) bad.later) in
    let front = opens_front (bad.before ++ bad.item ∷ []) bad.later h (subst (λ (l : List LogItem). OpensTo l h) parts o) in
    bad.none front.0 front.1

-- of two places in a list one stands before the other, or they are one
aligned : {A : Type 0} (xs ys : List A) (x y : A) (us vs : List A) → xs ++ x ∷ us ≡ ys ++ y ∷ vs
    → (xs ≡ ys) ⊎ (((zs : List A) × (ys ≡ xs ++ x ∷ zs)) ⊎ ((zs : List A) × (xs ≡ ys ++ y ∷ zs)))
aligned [] [] x y us vs e = inl refl
aligned [] (k ∷ ys) x y us vs e = let first : x ≡ k = cc in inr (inl (ys, ap (λ z. z ∷ ys) (sym first)))
aligned (k ∷ xs) [] x y us vs e = let first : k ≡ y = cc in inr (inr (xs, ap (λ z. z ∷ xs) first))
aligned (k ∷ xs) (l ∷ ys) x y us vs e =
    let first : k ≡ l = cc in
    let others : xs ++ x ∷ us ≡ ys ++ y ∷ vs = cc in
    ⊎_elim (λ (same : xs ≡ ys). inl (ap (λ z. z ∷ xs) first ∙ ap (λ (zs : List _). l ∷ zs) same))
    (λ (q : ((zs : List _) × (ys ≡ xs ++ x ∷ zs)) ⊎ ((zs : List _) × (xs ≡ ys ++ y ∷ zs))).
    ⊎_elim (λ (p : (zs : List _) × (ys ≡ xs ++ x ∷ zs)). inr (inl (p.0, ap (λ z. z ∷ ys) (sym first) ∙ ap (λ (zs : List _). k ∷ zs) p.1)))
    (λ (p : (zs : List _) × (xs ≡ ys ++ y ∷ zs)). inr (inr (p.0, ap (λ z. z ∷ xs) first ∙ ap (λ (zs : List _). l ∷ zs) p.1))) q)
    (aligned xs ys x y us vs others)

-- a bad entry that stands among the items before another is none
early : (items : List LogItem) (n : ℕ) (a : HasBadEntry items n) (before : List LogItem) (h : List Event) → OpensTo before h → (zs : List LogItem) × (before ≡ a.before ++ a.item ∷ zs) → ⊥
early items n a before h opens p =
    let parts : before ≡ (a.before ++ a.item ∷ []) ++ p.0 = p.1 ∙ sym (append_assoc a.before (a.item ∷ []) p.0) in
    let front = opens_front (a.before ++ a.item ∷ []) p.0 h (subst (λ (l : List LogItem). OpensTo l h) parts opens) in
    a.none front.0 front.1

pub one_bad : OneBadEntry
one_bad items m n a b =
    ⊎_elim
    (λ (same : a.before ≡ b.before).
    let h : a.h ≡ b.h = items_fix b.before a.h b.h (subst (λ (l : List LogItem). OpensTo l a.h) same a.opens) b.opens in
    a.number ∙ (ap (λ (g : List Event). length (log g) + 1) h ∙ sym b.number))
    (λ (q : ((zs : List LogItem) × (b.before ≡ a.before ++ a.item ∷ zs)) ⊎ ((zs : List LogItem) × (a.before ≡ b.before ++ b.item ∷ zs))).
    absurd (⊎_elim (λ p. early items m a b.before b.h b.opens p) (λ p. early items n b a.before a.h a.opens p) q))
    (aligned a.before b.before a.item b.item a.later b.later (sym a.parts ∙ b.parts))
